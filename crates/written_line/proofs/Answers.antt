-- What is answered, by the order of the tests; and that a buffer of the longest line's size is long enough.
use Rattle.std.specs.Prelude.{Result, Ok, Err}
use Prim.Native.Nat.{ℕ, ◌<◌, ◌≤◌}
use mathlib.Core.Path.{◌≡◌, refl}
use mathlib.Core.Bool.{Bool, true, false, cond}
use mathlib.Core.List.{List}
use lib.Dec.{ltb}
use lib.ListN.{length}
use borrow.Author.Tests.{ltb-true, ltb-false}
use Rattle.text.specs.Written.{Lined}
use Rattle.observable.specs.declared.TcpObservation.{TcpObservation}
use Rattle.refusals.specs.declared.Refusal.TheVariants as refusal
use Rattle.refusals.specs.declared.ListRefusal.{ListRefusal}
use Rattle.siglist.specs.List.{record_count, check_list}
use Rattle.refusals.specs.declared.Refusal.{Refusal}
use Rattle.written_line.specs.Answers.{ObservationAnswer, RecordAnswer}
use Rattle.written_line.specs.LineText.{record_text, observation_text}
use Rattle.written_line.specs.RoundTrip.{whole_line}
use Rattle.written_line.specs.Writing.{refusing, line_into, observation_line, record_line_of, record_line}

-- A line that finds room, or not.
pub into
    : (P : Lined (Result ℕ Refusal) → Type 0) (s : List ℕ) (room : ℕ) → (room < length s → P (refusing refusal.BufferTooShort))
    → (length s ≤ room → P (whole_line s))
    → P (line_into s room)
unfolding line_into
into P s room short enough = by (ltb room (length s)) refl
  where
    by : (t : Bool) → ltb room (length s) ≡ t → P (cond t (refusing refusal.BufferTooShort) (whole_line s))
    by true e = short (ltb-true room (length s) e)
    by false e = enough (ltb-false room (length s) e)

pub observation_answer : (o : TcpObservation) (room : ℕ) → ObservationAnswer o room (observation_line o room)
unfolding observation_line
observation_answer o room = by (ltb 40 o.olayout.count) refl
  where
    by
        : (t : Bool) → ltb 40 o.olayout.count ≡ t
        → ObservationAnswer o room (cond t (refusing refusal.LayoutTooLong) (line_into (observation_text o) room))
    by true e = ObservationAnswer.over_forty (ltb-true 40 o.olayout.count e)
    by false e =
        let few = ltb-false 40 o.olayout.count e in
        into (ObservationAnswer o room) (observation_text o) room (λ short. ObservationAnswer.no_room few short)
        (λ enough. ObservationAnswer.written few enough)

pub record_answer : (l : List ℕ) (i room : ℕ) → RecordAnswer l i room (record_line l i room)
unfolding record_line
record_answer l i room = by (check_list l) refl
  where
    inside
        : (t : Bool) → ltb i (record_count l) ≡ t → check_list l ≡ Ok tt
        → RecordAnswer l i room (cond t (line_into (record_text l i) room) (refusing refusal.NoSuchRecord))
    inside true e good =
        let there = ltb-true i (record_count l) e in
        into (RecordAnswer l i room) (record_text l i) room (λ short. RecordAnswer.no_room good there short)
        (λ enough. RecordAnswer.written good there enough)
    inside false e good = RecordAnswer.not_in_it good (ltb-false i (record_count l) e)

    by : (a : Result (Unit {0}) ListRefusal) → check_list l ≡ a → RecordAnswer l i room (record_line_of a l i room)
    by (Ok tt) e = inside (ltb i (record_count l)) refl e
    by (Err r) e = RecordAnswer.list_refused_lem r e
