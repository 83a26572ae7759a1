-- What writing a line answers, as a struct of numbers, and the line.
use Rattle.std.specs.Prelude.{ℕ, List, Result, Ok, Err}
use Rattle.refusals.specs.declared.Refusal.{Refusal}
use Rattle.refusals.specs.Refusals.{number}
use Rattle.text.specs.Written.{Lined}
use Rattle.written_line.specs.Writing.{observation_line, record_line}
use Rattle.witness.specs.declared.PlainObservation.{PlainObservation}
use Rattle.witness.specs.declared.PlainWrote.{PlainWrote}
use Rattle.witness.specs.Written.{bad_record}
use Rattle.witness.specs.Taken.{observation_of}

unfoldable pub plain_wrote : Result ℕ Refusal → PlainWrote
plain_wrote (Ok n) = record { length = n; bad_record = 0; refusal = 0 }
plain_wrote (Err r) = record { length = 0; bad_record = bad_record r; refusal = number r }

abbrev pub plain_lined : Lined (Result ℕ Refusal) → Lined PlainWrote
plain_lined l = record { answer = plain_wrote l.answer; line = l.line }

-- The raw line of an observation that is given as numbers, for a buffer of so many bytes.
unfoldable pub raw_line : PlainObservation → ℕ → Lined PlainWrote
raw_line o room = plain_lined (observation_line (observation_of o) room)

-- The line of a list's record.
unfoldable pub line_at : List ℕ → ℕ → ℕ → Lined PlainWrote
line_at l i room = plain_lined (record_line l i room)
