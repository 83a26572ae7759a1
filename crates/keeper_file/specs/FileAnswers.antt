-- When a list is written as a keeper's file and when it is refused, in the order of the tests: each answer with all that is so then.
use Rattle.std.specs.Prelude.{ℕ, ◌<◌, ◌≤◌, ◌≡◌, List, length, Result, Ok, Err}
use Rattle.text.specs.Written.{Lined}
use Rattle.refusals.specs.declared.ListRefusal.{ListRefusal}
use Rattle.refusals.specs.declared.Refusal.TheVariants as refusal
use Rattle.siglist.specs.List.{check_list}
use Rattle.refusals.specs.declared.Refusal.{Refusal}
use Rattle.written_line.specs.RoundTrip.{whole_line}
use Rattle.written_line.specs.Writing.{refusing}
use Rattle.keeper_file.specs.FileText.{file_text}

pub data FileAnswer (l : List ℕ) (room : ℕ) : Lined (Result ℕ Refusal) → Type 0 where
  list_refused_lem : (r : ListRefusal) → check_list l ≡ Err r → FileAnswer l room (refusing (refusal.List r))
  no_room : check_list l ≡ Ok tt → room < length (file_text l) → FileAnswer l room (refusing refusal.BufferTooShort)
  written : check_list l ≡ Ok tt → length (file_text l) ≤ room → FileAnswer l room (whole_line (file_text l))
