-- The text form written (document 02, Wish 7; D1): a record as its signature line, an observation as p0f's raw line. The text is
-- `written_line/specs/` `Signature.antt` and `LineText.antt`; what is answered is the promise of `line_writer`, `record_line` and
-- `observation_line` (`Writing.antt`). `WrittenLines` is the statement.
use Rattle.std.specs.Prelude.{◌≡◌, true, List, [], ℕ, ◌≤◌, length, take, drop, Err}
use Rattle.basis.specs.Bytes.{AllBytes}
use Rattle.refusals.specs.declared.ListRefusal.{ListRefusal}
use Rattle.refusals.specs.declared.Refusal.TheVariants as refusal
use Rattle.refusals.specs.Refusals.{list_number, number_of}
use Rattle.text.specs.Written.{written}
use Rattle.observable.specs.declared.TcpObservation.{TcpObservation}
use Rattle.siglist.specs.List.{list_fits, record_good}
use Rattle.written_line.specs.Answers.{ObservationAnswer, RecordAnswer}
use Rattle.written_line.specs.LineText.{record_text, observation_text}
use Rattle.written_line.specs.Longest.{LongestLines}
use Rattle.written_line.specs.Numbers.{ObservationHeld}
use Rattle.written_line.specs.RoundTrip.{ReadAgain, Reproduced}
use Rattle.written_line.specs.Writing.{observation_line, record_line, wrote_verdict}
use Rattle.written_line.specs.WrittenForm.{WrittenForm}
use Rattle.acceptance.specs.OwnLine.{OwnLine}

-- "Write into a lent buffer and answer the length; bytes past it stay as they were": of a line that the buffer has room for.
pub record InBuffer (buffer s : List ℕ) : Type 0 where
  pub line : take (length s) (written buffer 0 s) ≡ s
  pub past : drop (length s) (written buffer 0 s) ≡ drop (length s) buffer

-- A record of a list of bytes that is well formed.
abbrev pub OfGood : (List ℕ → ℕ → Type 0) → Type 0
OfGood P = (l : List ℕ) (i : ℕ) → AllBytes l → list_fits l ≡ true → record_good l i ≡ true → P l i

-- An observation whose numbers are such as their types hold, and whose layout is not too long.
abbrev pub OfHeld : (TcpObservation → Type 0) → Type 0
OfHeld P = (o : TcpObservation) → ObservationHeld o → o.olayout.count ≤ 40 → P o

pub record WrittenLines : Type 0 where
  -- "Reading a line written from a well-formed record gives that record's meaning again (label, generic byte and place of layout
  -- excepted)"
  pub read_again : OfGood ReadAgain
  -- ", and a line in written form is reproduced byte for byte."
  pub reproduced : (s : List ℕ) → WrittenForm s → Reproduced s
  -- What is written is in written form.
  pub record_form : OfGood (λ l i. WrittenForm (record_text l i))
  pub observation_form : OfHeld (λ o. WrittenForm (observation_text o))
  -- The longest lines have 434 and 432 bytes: none is longer, and these there are;
  pub record_length_lem : OfGood (λ l i. length (record_text l i) ≤ 434)
  pub observation_length_lem : OfHeld (λ o. length (observation_text o) ≤ 432)
  pub longest : LongestLines
  -- so that a buffer of so many bytes never meets 15.
  pub record_room
      : (l : List ℕ) (i room : ℕ) → AllBytes l → 434 ≤ room → (record_line l i room).answer ≡ Err refusal.BufferTooShort → ⊥
  pub observation_room
      : (o : TcpObservation) (room : ℕ) → ObservationHeld o → 432 ≤ room
      → (observation_line o room).answer ≡ Err refusal.BufferTooShort
      → ⊥
  -- What is answered and written, and when, on every input.
  pub observation : (o : TcpObservation) (room : ℕ) → ObservationAnswer o room (observation_line o room)
  pub record_line_lem : (l : List ℕ) (i room : ℕ) → RecordAnswer l i room (record_line l i room)
  -- These refusals by their numbers; those of a list are 9 and 10, as everywhere.
  pub eleven : number_of (wrote_verdict (Err refusal.LayoutTooLong)) ≡ 11
  pub fifteen : number_of (wrote_verdict (Err refusal.BufferTooShort)) ≡ 15
  pub twenty_three : number_of (wrote_verdict (Err refusal.NoSuchRecord)) ≡ 23
  pub of_list_lem : (r : ListRefusal) → number_of (wrote_verdict (Err (refusal.List r))) ≡ list_number r
  -- A line that finds room stands in the buffer, and the bytes past it are as they were; beside a refusal, which has no line, all are.
  pub in_buffer : (buffer s : List ℕ) → length s ≤ length buffer → InBuffer buffer s
  pub nothing_written : (buffer : List ℕ) → written buffer 0 [] ≡ buffer
  -- An observation that the packet reader gives, written and read as a record of its own, is fitted exactly by it.
  pub own_line : OwnLine
