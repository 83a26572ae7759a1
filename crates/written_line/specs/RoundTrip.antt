-- From a record to its line and back, and from a line to its record and back (document 02, Wish 7).
use Rattle.std.specs.Prelude.{ℕ, ◌≤◌, ◌≡◌, List, length, Result, Ok}
use Rattle.text.specs.Written.{Lined}
use Rattle.observable.specs.declared.TcpObservation.{TcpObservation}
use Rattle.sigrecord.specs.Record.{signature_of}
use Rattle.refusals.specs.declared.Refusal.{Refusal}
use Rattle.signature_line.specs.Answer.{read_of}
use Rattle.signature_line.specs.LineReader.{read_line}
use Rattle.signature_line.specs.Meaning.{LineMeaning}
use Rattle.signature_line.specs.OneRecord.{entries_in, MeansRecord, list_of_one}
use Rattle.written_line.specs.LineText.{record_text, observation_text}
use Rattle.written_line.specs.Signature.{signature_seen}
use Rattle.written_line.specs.Writing.{record_line}

-- "Reading a line written from a well-formed record gives that record's meaning again (label, generic byte and place of layout excepted)"
pub record ReadAgain (l : List ℕ) (i : ℕ) : Type 0 where
  pub means : MeansRecord l i (record_text l i)
  pub reads : read_line (record_text l i) ≡ read_of means.meaning

-- The line of an observation, read: a record that means what was seen, its window as a plain number.
pub record ObservationRead (o : TcpObservation) : Type 0 where
  pub meaning : LineMeaning
  pub reads : read_line (observation_text o) ≡ read_of meaning
  pub signature : signature_of meaning.raw ≡ signature_seen o
  pub entries : entries_in meaning.layout ≡ entries_in o.olayout
  pub counted : meaning.layout.count ≡ o.olayout.count

-- A line was written, and this one.
abbrev pub whole_line : List ℕ → Lined (Result ℕ Refusal)
whole_line s = record { answer = Ok (length s); line = s }

-- ", and a line in written form is reproduced byte for byte": read, and written from the list of the one record that was read, into any
-- buffer that has room.
pub record Reproduced (s : List ℕ) : Type 0 where
  pub meaning : LineMeaning
  pub reads : read_line s ≡ read_of meaning
  pub writes : (room : ℕ) → length s ≤ room → record_line (list_of_one meaning) 0 room ≡ whole_line s
