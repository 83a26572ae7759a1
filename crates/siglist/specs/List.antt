-- The signature list (document 01, "The signature list"): its header, its areas, its records and their layouts.
use Rattle.std.specs.Prelude.{◌≡◌, ℕ, zero, suc, ◌+◌, ◌*◌, ◌≤◌, Bool, cond, ◌&&◌, List, [], leb, ltb, length, Option, Some, None, Result}
use Rattle.std.specs.Prelude.{Ok, Err}
use Rattle.basis.specs.Bytes.{be16, part}
use Rattle.siglist.specs.declared.Areas.{Areas}
use Rattle.refusals.specs.declared.ListRefusal.{ListRefusal}
use Rattle.refusals.specs.declared.ListRefusal.TheVariants as refusal
use Rattle.refusals.specs.Refusals.{Verdict, list_refused, number_of}
use Rattle.sigrecord.specs.Layout.{entries_good}
use Rattle.sigrecord.specs.Record.{first_entry, entry_count}
use Rattle.sigrecord.specs.WellFormed.{scalars_good}

-- "Header of 8 bytes, four two-byte numbers: signature count, offset of records, layout entry count, offset of layout entries."
abbrev pub record_count : List ℕ → ℕ
record_count l = be16 l 0

abbrev pub records_offset : List ℕ → ℕ
records_offset l = be16 l 2

abbrev pub layout_count : List ℕ → ℕ
layout_count l = be16 l 4

abbrev pub layout_offset : List ℕ → ℕ
layout_offset l = be16 l 6

-- "An area fits exactly if its offset plus its size is at most the length, also at count 0."
abbrev pub area_fits : ℕ → ℕ → List ℕ → Bool
area_fits offset size l = leb (offset + size) (length l)

-- Refusal 9: "list header or its areas do not fit".
unfoldable pub list_fits : List ℕ → Bool
list_fits l = leb 8 (length l) && area_fits (records_offset l) (24 * record_count l) l && area_fits (layout_offset l) (2 * layout_count l) l

-- The size of a list: the records that its header counts, if they fit; else it has none.
abbrev pub size_of : List ℕ → ℕ
size_of l = cond (list_fits l) (record_count l) 0

-- The four numbers of the header.
unfoldable pub areas_of : List ℕ → Areas
areas_of l =
    record { records = record_count l; records_offset = records_offset l; entries = layout_count l; entries_offset = layout_offset l }

-- The header of a list that fits.
unfoldable pub header_of : List ℕ → Option Areas
header_of l = cond (list_fits l) (Some (areas_of l)) None

-- These are the numbers of a list's header, and its areas fit.
pub record AreasFit (l : List ℕ) (a : Areas) : Type 0 where
  pub header : 8 ≤ length l
  pub records : a.records ≡ record_count l
  pub records_at : a.records_offset ≡ records_offset l
  pub entries : a.entries ≡ layout_count l
  pub entries_at : a.entries_offset ≡ layout_offset l
  pub records_fit : a.records_offset + 24 * a.records ≤ length l
  pub entries_fit : a.entries_offset + 2 * a.entries ≤ length l

-- Where record i starts, and its 24 bytes.
abbrev pub record_start : List ℕ → ℕ → ℕ
record_start l i = records_offset l + 24 * i

abbrev pub record_at : List ℕ → ℕ → List ℕ
record_at l i = part (record_start l i) (record_start l i + 24) l

-- Record i by the numbers of a header, on every byte string: its 24 bytes, or none if it is not among the records or these do not fit.
unfoldable pub record_of : List ℕ → Areas → ℕ → List ℕ
record_of l a i =
    cond (ltb i a.records && area_fits a.records_offset (24 * a.records) l)
    (part (a.records_offset + 24 * i) (a.records_offset + 24 * i + 24) l)
    []

-- So many layout entries from one on, where they lie.
abbrev pub entries_from : List ℕ → ℕ → ℕ → List ℕ
entries_from l first count = part (layout_offset l + 2 * first) (layout_offset l + 2 * first + 2 * count) l

-- The entries of a record's layout.
abbrev pub entries_of : List ℕ → List ℕ → List ℕ
entries_of l r = entries_from l (first_entry r) (entry_count r)

-- "its layout exceeds 40 entries, has first entry plus count above the entry count": neither is so, of n entries.
abbrev pub entries_lie : ℕ → ℕ → ℕ → Bool
entries_lie n first count = leb count 40 && leb (first + count) n

-- ", or holds a bad entry": nor that.
unfoldable pub layout_lies : List ℕ → ℕ → ℕ → Bool
layout_lies l first count = entries_lie (layout_count l) first count && entries_good (entries_from l first count) count

-- A record is well formed if no condition makes it bad.
unfoldable pub record_good : List ℕ → ℕ → Bool
record_good l i = scalars_good (record_at l i) && layout_lies l (first_entry (record_at l i)) (entry_count (record_at l i))

-- Of so many records from this one on: all well formed, or the index of the first that is bad.
unfoldable pub records_from : List ℕ → ℕ → ℕ → Result (Unit {0}) ListRefusal
records_from l i zero = (Ok tt)
records_from l i (suc n) = cond (record_good l i) (records_from l (i + 1) n) (Err (refusal.BadRecord i))

-- Refusals 9 and 10, in this order.
unfoldable pub check_list : List ℕ → Result (Unit {0}) ListRefusal
check_list l = cond (list_fits l) (records_from l 0 (record_count l)) (Err refusal.DoesNotFit)

-- Which refusal of the table an answer is, if any, and its number; 0 if it is none.
abbrev pub header_verdict : Option Areas → Verdict
header_verdict (Some areas) = Verdict.accepted
header_verdict None = list_refused refusal.DoesNotFit

abbrev pub list_verdict : Result (Unit {0}) ListRefusal → Verdict
list_verdict (Ok tt) = Verdict.accepted
list_verdict (Err r) = list_refused r

unfoldable pub list_refusal : Result (Unit {0}) ListRefusal → ℕ
list_refusal a = number_of (list_verdict a)
