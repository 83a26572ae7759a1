-- The signature list of some records with their layouts (document 01, "The signature list"): the header, the layout entries one after the
-- other, the records. Equal layouts are stored as often as they stand in the file.
use Rattle.std.specs.Prelude.{ℕ, ◌+◌, ◌*◌, ◌/◌, ◌%◌, List, [], ◌∷◌, ◌++◌, length, set}
use Rattle.signature_line.specs.Meaning.{LineMeaning}
use Rattle.signature_line.specs.OneRecord.{two_bytes, entries_in}

-- How many entries they have together.
unfoldable pub entry_total : List LineMeaning → ℕ
entry_total [] = 0
entry_total (m ∷ rest) = m.layout.count + entry_total rest

unfoldable pub entries_text : List LineMeaning → List ℕ
entries_text [] = []
entries_text (m ∷ rest) = entries_in m.layout ++ entries_text rest

-- "18 first layout entry"
unfoldable pub placed_at : ℕ → List ℕ → List ℕ
placed_at first raw = set (set raw 18 (first / 256)) 19 (first % 256)

-- The records, the first entry of the first of them given.
unfoldable pub records_text : ℕ → List LineMeaning → List ℕ
records_text first [] = []
records_text first (m ∷ rest) = placed_at first m.raw ++ records_text (first + m.layout.count) rest

-- "signature count, offset of records, layout entry count, offset of layout entries"
unfoldable pub header_text : ℕ → ℕ → List ℕ
header_text signatures entries =
    two_bytes signatures ++ two_bytes (8 + 2 * entries) ++ two_bytes entries ++ two_bytes 8

unfoldable pub list_text : List LineMeaning → List ℕ
list_text ms = header_text (length ms) (entry_total ms) ++ entries_text ms ++ records_text 0 ms
