-- The text form written: each theorem in its place.
use Rattle.std.specs.Prelude.{Result, Err}
use mathlib.Core.Path.{◌≡◌, refl, ap, ◌∙◌}
use mathlib.Core.List.{List}
use Prim.Native.Nat.{ℕ, ◌+◌, ◌≤◌}
use native.Mathlib.Nat.{zero-add}
use native.Mathlib.Omega.{arith}
use lib.ListN.{length, drop}
use lib.Seq.{take_at, drop_at}
use Rattle.basis.specs.Bytes.{AllBytes}
use Rattle.refusals.specs.declared.Refusal.TheVariants as refusal
use Rattle.text.specs.Written.{written, Lined}
use Rattle.text.proofs.Writing.{nothing_written}
use Rattle.observable.specs.declared.TcpObservation.{TcpObservation}
use Rattle.siglist.proofs.FirstBad.{each_good, good_fits}
use Rattle.refusals.specs.declared.Refusal.{Refusal}
use Rattle.written_line.specs.Answers.{ObservationAnswer, RecordAnswer}
use Rattle.written_line.specs.Numbers.{ObservationHeld}
use Rattle.written_line.specs.Writing.{refusing, observation_line, record_line}
use Rattle.written_line.proofs.Answers.{observation_answer, record_answer}
use Rattle.written_line.proofs.EveryRecord.{read_again, record_form, record_length_lem}
use Rattle.written_line.proofs.LongestLines.{longest_lines}
use Rattle.written_line.proofs.Observed.{observation_form, observation_length_lem}
use Rattle.written_line.proofs.Reproduced.{reproduced}
use Rattle.acceptance.specs.WrittenLines.{InBuffer, WrittenLines}
use Rattle.acceptance.proofs.OwnLine.{own_line}

-- ---- 15 in a buffer that is long enough

record_room
    : (l : List ℕ) (i room : ℕ) → AllBytes l → 434 ≤ room → (record_line l i room).answer ≡ Err refusal.BufferTooShort → ⊥
unfolding refusing
record_room l i room all h = by (record_line l i room) (record_answer l i room)
  where
    by : (x : Lined (Result ℕ Refusal)) → RecordAnswer l i room x → x.answer ≡ Err refusal.BufferTooShort → ⊥
    by x (RecordAnswer.list_refused_lem r refused) e = let z : ◌≡◌ {A = ℕ} 0 1 = cc in omega arith
    by x (RecordAnswer.not_in_it good past) e = let z : ◌≡◌ {A = ℕ} 0 1 = cc in omega arith
    by x (RecordAnswer.no_room good there short) e =
        omega (arith, record_length_lem l i all (good_fits l good) (each_good l i good there))
    by x (RecordAnswer.written good there enough) e = let z : ◌≡◌ {A = ℕ} 0 1 = cc in omega arith

observation_room
    : (o : TcpObservation) (room : ℕ) → ObservationHeld o → 432 ≤ room
    → (observation_line o room).answer ≡ Err refusal.BufferTooShort
    → ⊥
unfolding refusing
observation_room o room held h = by (observation_line o room) (observation_answer o room)
  where
    by : (x : Lined (Result ℕ Refusal)) → ObservationAnswer o room x → x.answer ≡ Err refusal.BufferTooShort → ⊥
    by x (ObservationAnswer.over_forty many) e = let z : ◌≡◌ {A = ℕ} 0 1 = cc in omega arith
    by x (ObservationAnswer.no_room few short) e = omega (arith, observation_length_lem o held few)
    by x (ObservationAnswer.written few enough) e = let z : ◌≡◌ {A = ℕ} 0 1 = cc in omega arith

-- ---- in the buffer

in_buffer : (buffer s : List ℕ) → length s ≤ length buffer → InBuffer buffer s
unfolding written
in_buffer buffer s h =
    record {
      line = take_at s (drop (0 + length s) buffer) (length s) refl;
      past = drop_at s (drop (0 + length s) buffer) (length s) refl ∙ ap (λ (n : ℕ). drop n buffer) (zero-add (length s));
    }

-- ---- the statement

pub written_lines_lem : WrittenLines
written_lines_lem =
    record {
      read_again = read_again;
      reproduced = reproduced;
      record_form = record_form;
      observation_form = observation_form;
      record_length_lem = record_length_lem;
      observation_length_lem = observation_length_lem;
      longest = longest_lines;
      record_room = record_room;
      observation_room = observation_room;
      observation = observation_answer;
      record_line_lem = record_answer;
      eleven = refl;
      fifteen = refl;
      twenty_three = refl;
      of_list_lem = λ r. refl;
      in_buffer = in_buffer;
      nothing_written = λ buffer. nothing_written buffer 0;
      own_line = own_line;
    }
