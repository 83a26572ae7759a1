-- The record of a line beside the records of a list: the list of this one record, what makes a record well formed, and that a record of
-- a list has a line (document 02, Wish 1).
use Rattle.std.specs.Prelude.{ℕ, ◌/◌, ◌%◌, ◌<◌, ◌≤◌, ◌≡◌, List, [], ◌∷◌, ◌++◌, length, take, Ok}
use Rattle.basis.specs.Bytes.{byte_at}
use Rattle.tcp.specs.declared.Layout.{Layout}
use Rattle.sigrecord.specs.Record.{signature_of}
use Rattle.siglist.specs.List.{record_at, entries_of, check_list}
use Rattle.signature_line.specs.Line.{SignatureLine, longest}
use Rattle.signature_line.specs.Meaning.{LineMeaning}

-- "A layout entry is an option kind and a byte": kind, byte, kind, byte, ..
abbrev pub alternating : List ℕ → List ℕ → List ℕ
alternating [] bytes = []
alternating (k ∷ kinds) [] = []
alternating (k ∷ kinds) (b ∷ bytes) = k ∷ b ∷ alternating kinds bytes

-- The entries of a layout, as a signature list has them.
unfoldable pub entries_in : Layout → List ℕ
entries_in y = alternating (take y.count y.kinds) (take y.count y.bytes)

-- A number as two bytes, its high byte first.
abbrev pub two_bytes : ℕ → List ℕ
two_bytes n = n / 256 ∷ n % 256 ∷ []

-- The signature list of this one record: "signature count, offset of records, layout entry count, offset of layout entries", the record,
-- its entries.
unfoldable pub list_of_one : LineMeaning → List ℕ
list_of_one m = two_bytes 1 ++ two_bytes 8 ++ two_bytes m.layout.count ++ two_bytes 32 ++ m.raw ++ entries_in m.layout

-- What a line means is well formed.
pub record WellFormedLine (m : LineMeaning) : Type 0 where
  -- No condition of document 01 makes the record bad, on the list that holds it and its entries alone.
  pub good : check_list (list_of_one m) ≡ (Ok tt)
  -- A whole record.
  pub whole : length m.raw ≡ 24
  -- "18 first layout entry": 0.
  pub first_entry_high : byte_at m.raw 18 ≡ 0
  pub first_entry_low : byte_at m.raw 19 ≡ 0
  -- "20 entry count": how many entries the layout has.
  pub counted : byte_at m.raw 20 ≡ m.layout.count
  -- "21 zero"
  pub zero : byte_at m.raw 21 ≡ 0
  -- "22 label": 0.
  pub label_high : byte_at m.raw 22 ≡ 0
  pub label_low : byte_at m.raw 23 ≡ 0
  -- At most forty entries.
  pub fits : m.layout.count ≤ 40
  -- Forty places for kinds, and forty for bytes.
  pub kinds_whole : length m.layout.kinds ≡ 40
  pub bytes_whole : length m.layout.bytes ≡ 40
  -- Past the entries the places are 0.
  pub kinds_past : (i : ℕ) → m.layout.count ≤ i → byte_at m.layout.kinds i ≡ 0
  pub bytes_past : (i : ℕ) → m.layout.count ≤ i → byte_at m.layout.bytes i ≡ 0
  -- Each place of the record, of the kinds and of the bytes is a byte.
  pub raw_bytes : (i : ℕ) → byte_at m.raw i < 256
  pub kinds_bytes : (i : ℕ) → byte_at m.layout.kinds i < 256
  pub bytes_bytes : (i : ℕ) → byte_at m.layout.bytes i < 256

-- A line means record i of a list, but for the place of its layout (bytes 18 and 19), byte 21 and its label (22 and 23).
pub record MeansRecord (l : List ℕ) (i : ℕ) (line : List ℕ) : Type 0 where
  pub meaning : LineMeaning
  pub says : SignatureLine line meaning
  -- It is short enough to be read.
  pub short : length line ≤ longest
  -- Bytes 0 to 17 are the record's, from its version to its quirks.
  pub same : (k : ℕ) → k < 18 → byte_at meaning.raw k ≡ byte_at (record_at l i) k
  -- Byte 20, the entry count, is the record's.
  pub same_count : byte_at meaning.raw 20 ≡ byte_at (record_at l i) 20
  -- Hence it is the same signature.
  pub signature : signature_of meaning.raw ≡ signature_of (record_at l i)
  -- The layout's entries are the record's, wherever these lie in the list.
  pub entries : entries_in meaning.layout ≡ entries_of l (record_at l i)

-- Record i of a list has a line.
pub record HasLine (l : List ℕ) (i : ℕ) : Type 0 where
  pub line : List ℕ
  pub means : MeansRecord l i line
