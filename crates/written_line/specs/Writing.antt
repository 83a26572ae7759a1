-- What writing a line into a buffer of so many bytes answers, and which line is written (document 02, Wish 7).
use Rattle.std.specs.Prelude.{ℕ, cond, ◌&&◌, List, [], ltb, length, Result, Ok, Err}
use Rattle.text.specs.Written.{Lined}
use Rattle.observable.specs.declared.TcpObservation.{TcpObservation}
use Rattle.refusals.specs.declared.Refusal.{Refusal}
use Rattle.refusals.specs.declared.Refusal.TheVariants as refusal
use Rattle.refusals.specs.Refusals.{Verdict}
use Rattle.sigrecord.specs.declared.Signature.{Signature}
use Rattle.refusals.specs.declared.ListRefusal.{ListRefusal}
use Rattle.sigrecord.specs.Record.{first_entry, entry_count}
use Rattle.siglist.specs.List.{record_count, layout_count, list_fits, record_at, entries_lie, check_list}
use Rattle.written_line.specs.LineText.{signature_text, record_text, observation_text}

-- "Refusals, nothing written"
unfoldable pub refusing : Refusal → Lined (Result ℕ Refusal)
refusing r = record { answer = Err r; line = [] }

-- "last 15, exactly when the line is longer than the buffer"
unfoldable pub line_into : List ℕ → ℕ → Lined (Result ℕ Refusal)
line_into s room =
    cond (ltb room (length s)) (refusing refusal.BufferTooShort) (record { answer = Ok (length s); line = s })

-- A signature with the entries of its layout.
abbrev pub signature_line : Signature → List ℕ → ℕ → Lined (Result ℕ Refusal)
signature_line s entries = line_into (signature_text s entries)

-- "11 for an observation"
unfoldable pub observation_line : TcpObservation → ℕ → Lined (Result ℕ Refusal)
observation_line o room = cond (ltb 40 o.olayout.count) (refusing refusal.LayoutTooLong) (line_into (observation_text o) room)

-- A record that is well formed.
abbrev pub good_line : List ℕ → ℕ → ℕ → Lined (Result ℕ Refusal)
good_line l i = line_into (record_text l i)

-- "for a record 9 and 10 of its list, then 23 for an index not in it"
abbrev pub record_line_of : Result (Unit {0}) ListRefusal → List ℕ → ℕ → ℕ → Lined (Result ℕ Refusal)
record_line_of (Err r) l i room = refusing (refusal.List r)
record_line_of (Ok tt) l i room = cond (ltb i (record_count l)) (good_line l i room) (refusing refusal.NoSuchRecord)

unfoldable pub record_line : List ℕ → ℕ → ℕ → Lined (Result ℕ Refusal)
record_line l i room = record_line_of (check_list l) l i room

-- The same of a list that was checked before: 23 for what no list so checked could have.
unfoldable pub listed_line : List ℕ → ℕ → ℕ → Lined (Result ℕ Refusal)
listed_line l i room =
    cond
    (list_fits l && ltb i (record_count l) && entries_lie (layout_count l) (first_entry (record_at l i)) (entry_count (record_at l i)))
    (good_line l i room)
    (refusing refusal.NoSuchRecord)

-- Which refusal of the table an answer is, if any.
abbrev pub wrote_verdict : Result ℕ Refusal → Verdict
wrote_verdict (Ok n) = Verdict.accepted
wrote_verdict (Err r) = Verdict.refused r
