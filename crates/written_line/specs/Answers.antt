-- When a line is written and when it is refused (document 02, Wish 7), in the order of the tests: each answer with all that is so then.
-- Beside a refusal no line is written.
use Rattle.std.specs.Prelude.{ℕ, ◌<◌, ◌≤◌, ◌≡◌, List, length, Result, Ok, Err}
use Rattle.text.specs.Written.{Lined}
use Rattle.observable.specs.declared.TcpObservation.{TcpObservation}
use Rattle.refusals.specs.declared.ListRefusal.{ListRefusal}
use Rattle.refusals.specs.declared.Refusal.TheVariants as refusal
use Rattle.siglist.specs.List.{record_count, check_list}
use Rattle.refusals.specs.declared.Refusal.{Refusal}
use Rattle.written_line.specs.LineText.{record_text, observation_text}
use Rattle.written_line.specs.RoundTrip.{whole_line}
use Rattle.written_line.specs.Writing.{refusing}

-- "11 for an observation; .. last 15, exactly when the line is longer than the buffer"
pub data ObservationAnswer (o : TcpObservation) (room : ℕ) : Lined (Result ℕ Refusal) → Type 0 where
  over_forty : 40 < o.olayout.count → ObservationAnswer o room (refusing refusal.LayoutTooLong)
  no_room : o.olayout.count ≤ 40 → room < length (observation_text o) → ObservationAnswer o room (refusing refusal.BufferTooShort)
  written : o.olayout.count ≤ 40 → length (observation_text o) ≤ room → ObservationAnswer o room (whole_line (observation_text o))

-- "for a record 9 and 10 of its list, then 23 for an index not in it; last 15"
pub data RecordAnswer (l : List ℕ) (i room : ℕ) : Lined (Result ℕ Refusal) → Type 0 where
  list_refused_lem : (r : ListRefusal) → check_list l ≡ Err r → RecordAnswer l i room (refusing (refusal.List r))
  not_in_it : check_list l ≡ (Ok tt) → record_count l ≤ i → RecordAnswer l i room (refusing refusal.NoSuchRecord)
  no_room
      : check_list l ≡ (Ok tt) → i < record_count l → room < length (record_text l i)
      → RecordAnswer l i room (refusing refusal.BufferTooShort)
  written
      : check_list l ≡ (Ok tt) → i < record_count l → length (record_text l i) ≤ room
      → RecordAnswer l i room (whole_line (record_text l i))
