-- When a file is compiled and when it is refused, each answer with all that is so then; and what the list that is written says. No reader
-- is named here.
use Rattle.std.specs.Prelude.{ℕ, ◌+◌, ◌*◌, ◌<◌, ◌≤◌, ◌≡◌, List, [], ◌∷◌, ◌++◌, length, Result, Ok}
use Rattle.basis.specs.Bytes.{byte_at, AllBytes}
use Rattle.text.specs.Written.{Lined}
use Rattle.refusals.specs.declared.Refusal.TheVariants as refusal
use Rattle.sigrecord.specs.Record.{signature_of}
use Rattle.siglist.specs.List.{record_count, record_at, entries_of, check_list}
use Rattle.signature_line.specs.Meaning.{LineMeaning}
use Rattle.signature_line.specs.OneRecord.{entries_in}
use Rattle.keeper_file.specs.declared.LineRefusal.{LineRefusal}
use Rattle.keeper_file.specs.Compiling.{most_signatures, most_entries, refusing_line}
use Rattle.keeper_file.specs.KeptLine.{KeptRefused, KeptMeans}
use Rattle.keeper_file.specs.Lines.{Numbered, signature_lines}
use Rattle.keeper_file.specs.ListText.{entry_total}

-- Each line means its record.
pub data EachMeans : List Numbered → List LineMeaning → Type 0 where
  none : EachMeans [] []
  one_more
      : {line : Numbered} {lines : List Numbered} {m : LineMeaning} {ms : List LineMeaning} → KeptMeans line.text m
      → EachMeans lines ms
      → EachMeans (line ∷ lines) (m ∷ ms)

-- ---- what a list says

-- Every place of a record but 18 and 19, where it says where its layout lies.
pub data NotPlace : ℕ → Type 0 where
  before : {k : ℕ} → k < 18 → NotPlace k
  behind : {k : ℕ} → 20 ≤ k → k < 24 → NotPlace k

-- Record i of a list means this, with its label and kind, wherever its entries lie.
pub record RecordMeans (l : List ℕ) (i : ℕ) (m : LineMeaning) : Type 0 where
  pub same : (k : ℕ) → NotPlace k → byte_at (record_at l i) k ≡ byte_at m.raw k
  -- Hence it is the same signature.
  pub signature : signature_of (record_at l i) ≡ signature_of m.raw
  pub entries : entries_of l (record_at l i) ≡ entries_in m.layout

-- The records of a list from one on, in order, and no more.
abbrev pub RecordsMean : List ℕ → ℕ → List LineMeaning → Type 0
RecordsMean l i [] = record_count l ≡ i
RecordsMean l i (m ∷ ms) = RecordMeans l i m × RecordsMean l (i + 1) ms

-- The header, 2 bytes for each entry, 24 for each record.
abbrev pub list_size : List LineMeaning → ℕ
list_size ms = 8 + 2 * entry_total ms + 24 * length ms

-- "the list is well formed; it has one record for each signature line, in order; record i means what line i says, with its label and kind"
pub record ListSays (file list' : List ℕ) : Type 0 where
  pub bytes : AllBytes list'
  pub good : check_list list' ≡ Ok tt
  pub meanings : List LineMeaning
  pub each : EachMeans (signature_lines file) meanings
  pub records : RecordsMean list' 0 meanings
  pub size : length list' ≡ list_size meanings
  -- A header can count them.
  pub signatures : length meanings ≤ most_signatures
  pub entries : entry_total meanings ≤ most_entries

-- ---- the answers

-- The lines before one, and it.
pub record LinesBefore (file : List ℕ) (line : Numbered) : Type 0 where
  pub earlier : List Numbered
  pub later : List Numbered
  pub splits : signature_lines file ≡ earlier ++ line ∷ later
  pub means : List LineMeaning
  pub each : EachMeans earlier means

-- Every signature line means something.
pub record AllGood (file : List ℕ) : Type 0 where
  pub means : List LineMeaning
  pub each : EachMeans (signature_lines file) means

pub data CompileAnswer (file : List ℕ) (room : ℕ) : Lined (Result ℕ LineRefusal) → Type 0 where
  -- "the first bad line"
  bad_line
      : (line : Numbered) (at : ℕ) → LinesBefore file line → KeptRefused line.text at
      → CompileAnswer file room (refusing_line line.number (refusal.BadLine at))
  -- "more signatures or entries than a header can count": with this line, and not before it.
  too_many_signatures
      : AllGood file → (line : Numbered) (before : LinesBefore file line) → length before.earlier ≡ most_signatures
      → entry_total before.means ≤ most_entries
      → CompileAnswer file room (refusing_line line.number refusal.TooManySignatures)
  too_many_entries
      : AllGood file → (line : Numbered) (before : LinesBefore file line) (m : LineMeaning) → KeptMeans line.text m
      → length before.earlier < most_signatures
      → entry_total before.means ≤ most_entries
      → most_entries < entry_total before.means + m.layout.count
      → CompileAnswer file room (refusing_line line.number refusal.TooManyEntries)
  -- "a buffer that is too short, last"
  no_room
      : (all : AllGood file) → length all.means ≤ most_signatures → entry_total all.means ≤ most_entries
      → room < list_size all.means
      → CompileAnswer file room (refusing_line 0 refusal.BufferTooShort)
  compiled_list
      : (list' : List ℕ) → ListSays file list' → length list' ≤ room
      → CompileAnswer file room (record { answer = Ok (length list'); line = list' })
