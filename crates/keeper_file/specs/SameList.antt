-- "a list written as a keeper's file, which, read again, gives the same list up to where layouts lie and the order of areas"
use Rattle.std.specs.Prelude.{ℕ, zero, suc, ◌+◌, ◌<◌, ◌≤◌, ◌≡◌, List, length, Ok}
use Rattle.basis.specs.Bytes.{byte_at}
use Rattle.sigrecord.specs.Record.{entry_count}
use Rattle.siglist.specs.List.{record_count, record_at, entries_of, check_list}
use Rattle.keeper_file.specs.CompileAnswers.{NotPlace}
use Rattle.keeper_file.specs.Compiling.{compile_file}
use Rattle.keeper_file.specs.FileText.{file_text}

-- The same records in the same order, with the same entries; only the places of these may differ.
pub record SameList (l m : List ℕ) : Type 0 where
  pub good : check_list m ≡ Ok tt
  pub count : record_count m ≡ record_count l
  pub same : (i k : ℕ) → i < record_count l → NotPlace k → byte_at (record_at m i) k ≡ byte_at (record_at l i) k
  pub entries : (i : ℕ) → i < record_count l → entries_of m (record_at m i) ≡ entries_of l (record_at l i)

-- How many entries the records of a list have together, each counted wherever it is shared: so many records from one on.
unfoldable pub entries_from_record : List ℕ → ℕ → ℕ → ℕ
entries_from_record l i zero = 0
entries_from_record l i (suc n) = entry_count (record_at l i) + entries_from_record l (i + 1) n

abbrev pub entries_all : List ℕ → ℕ
entries_all l = entries_from_record l 0 (record_count l)

-- The file of a list, compiled again.
pub record CompiledAgain (l : List ℕ) : Type 0 where
  pub list' : List ℕ
  pub same : SameList l list'
  pub compiles
      : (room : ℕ) → length list' ≤ room
      → compile_file (file_text l) room ≡ record { answer = Ok (length list'); line = list' }
