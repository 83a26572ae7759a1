-- An observation written as a line and read as a record (document 02, Wish 7): it is fitted exactly by it. `OwnLine` is the statement.
use Rattle.std.specs.Prelude.{◌≡◌, false, List, ℕ, Option, Ok}
use Rattle.basis.specs.Bytes.{AllBytes}
use Rattle.observable.specs.declared.TcpObservation.{TcpObservation}
use Rattle.flow.specs.declared.Mode.{Mode}
use Rattle.flow.specs.Modes.{read_in}
use Rattle.flow.specs.Reading.{observation_read}
use Rattle.found.specs.declared.Found.TheVariants as found
use Rattle.search.specs.Search.{search_list}
use Rattle.signature_line.specs.Answer.{read_of}
use Rattle.signature_line.specs.LineReader.{read_line}
use Rattle.signature_line.specs.Meaning.{LineMeaning}
use Rattle.signature_line.specs.OneRecord.{list_of_one}
use Rattle.written_line.specs.LineText.{observation_text}
use Rattle.observed.specs.Observed.{Observed}

-- Its line is read, and a search of the list of this one record finds it exact.
pub record FitsItself (o : TcpObservation) : Type 0 where
  pub meaning : LineMeaning
  pub reads : read_line (observation_text o) ≡ read_of meaning
  pub exact
      : search_list o (list_of_one meaning)
      ≡ Ok (record { found = found.Exact (record { label = 0; number = 0; generic = false }); examined = 1 })

-- In every mode, for every packet of bytes, whatever the peer's MSS. Of a refusal and "nothing" `observation_read` gives the empty
-- observation, of which it holds too.
pub record OwnLine : Type 0 where
  pub observed : (mode : Mode) (p : List ℕ) (peer : Option ℕ) → AllBytes p → Observed (observation_read (read_in mode p peer))
  pub fits : (mode : Mode) (p : List ℕ) (peer : Option ℕ) → AllBytes p → FitsItself (observation_read (read_in mode p peer))
