-- Laws of the list: its areas as numbers, and one turn of the loop over its records.
use Rattle.std.specs.Prelude.{Option, Some, None, Ok, Err}
use mathlib.Core.Path.{◌≡◌, refl, sym, subst, ◌∙◌, ap}
use mathlib.Core.Bool.{Bool, true, false, cond, ◌&&◌}
use mathlib.Core.List.{List, []}
use Prim.Native.Nat.{ℕ, suc, ◌+◌, ◌*◌, ◌-◌, ◌/◌, ◌<◌, ◌≤◌}
use native.Mathlib.Nat.{sub-zero}
use native.Mathlib.Omega.{arith}
use lib.Dec.{leb}
use lib.ListN.{length}
use borrow.Author.Tests.{leb-true, le-leb, lt-ltb, le-ltb}
use Rattle.basis.specs.Bytes.{be32, part}
use Rattle.basis.proofs.Tests.{and_left, and_right, and_false}
use Rattle.basis.proofs.Bytes.{part_length}
use Rattle.sigrecord.specs.Record.{first_entry, entry_count}
use Rattle.sigrecord.specs.WellFormed.{quirks_good, forms_well_formed}
use Rattle.sigrecord.proofs.Laws.{whole, quirks_last}
use Rattle.siglist.specs.declared.Areas.{Areas}
use Rattle.refusals.specs.declared.ListRefusal.TheVariants as refusal
use Rattle.siglist.specs.List.{record_count, records_offset, layout_count, layout_offset, area_fits, list_fits, areas_of, header_of}
use Rattle.siglist.specs.List.{AreasFit, record_start, record_at, record_of, entries_lie, layout_lies, record_good, records_from}
use Rattle.siglist.specs.List.{check_list}

-- A list that fits has a whole header.
pub header_fits : (l : List ℕ) → list_fits l ≡ true → 8 ≤ length l
unfolding list_fits
header_fits l e =
    leb-true 8 (length l)
    (and_left (leb 8 (length l)) _ (and_left (leb 8 (length l) && leb (records_offset l + 24 * record_count l) (length l)) _ e))

areas_of_fit : (l : List ℕ) → list_fits l ≡ true → AreasFit l (areas_of l)
unfolding list_fits areas_of
areas_of_fit l e =
    let both = and_left (leb 8 (length l) && leb (records_offset l + 24 * record_count l) (length l)) _ e in
    record {
      header = header_fits l e;
      records = refl;
      records_at = refl;
      entries = refl;
      entries_at = refl;
      records_fit = leb-true _ (length l) (and_right (leb 8 (length l)) _ both);
      entries_fit =
          leb-true _ (length l) (and_right (leb 8 (length l) && leb (records_offset l + 24 * record_count l) (length l)) _ e);
    }

-- Areas that were read off a list that fits.
pub areas_fit : (l : List ℕ) (a : Areas) → list_fits l ≡ true → a ≡ areas_of l → AreasFit l a
areas_fit l a fits same = subst (AreasFit l) (sym same) (areas_of_fit l fits)

-- Whether a list with a whole header fits, by the numbers read off it.
pub fits_by
    : (l : List ℕ) (a : Areas)
    → a ≡ areas_of l
    → 8 ≤ length l
    → list_fits l ≡ area_fits a.records_offset (24 * a.records) l && area_fits a.entries_offset (2 * a.entries) l
unfolding list_fits areas_of
fits_by l a same whole = rw (same, le-leb 8 (length l) whole)

module _ (l : List ℕ) (i n : ℕ) (inside : i < n) where
  more : n - i ≡ suc (n - (i + 1))
  more = omega arith

  pub record_good_turn : record_good l i ≡ true → records_from l (i + 1) (n - (i + 1)) ≡ records_from l i (n - i)
  unfolding records_from
  record_good_turn e = rw (more, e)

  pub record_bad_turn : record_good l i ≡ false → records_from l i (n - i) ≡ Err (refusal.BadRecord i)
  unfolding records_from
  record_bad_turn e = rw (more, e)

pub records_end : (l : List ℕ) (i n : ℕ) → n ≤ i → records_from l i (n - i) ≡ (Ok tt)
unfolding records_from
records_end l i n h = let none : n - i ≡ 0 = omega arith in rw none

-- A list that fits is checked from its first record on.
pub from_the_first : (l : List ℕ) (a : Areas) → list_fits l ≡ true → AreasFit l a → records_from l 0 (a.records - 0) ≡ check_list l
unfolding check_list
from_the_first l a fits numbers = rw (sub-zero, fits, numbers.records)

-- The areas of a list fit: so does the list.
pub list_fits_lem : (l : List ℕ) (a : Areas) → AreasFit l a → list_fits l ≡ true
unfolding list_fits
list_fits_lem l a fit =
    rw (
      le-leb 8 (length l) fit.header,
      le-leb (records_offset l + 24 * record_count l) (length l) (omega arith),
      le-leb (layout_offset l + 2 * layout_count l) (length l) (omega arith),
    )

-- What a header says of its list.
pub header_areas : (l : List ℕ) (a : Areas) → header_of l ≡ Some a → AreasFit l a
unfolding header_of
header_areas l a e = by_test (list_fits l) refl e
  where
    by_test : (t : Bool) → list_fits l ≡ t → cond {A = (Option Areas)} t (Some (areas_of l)) None ≡ Some a → AreasFit l a
    by_test true fits same = let those : areas_of l ≡ a = cc in areas_fit l a fits (sym those)
    by_test false fits same = let z : ◌≡◌ {A = ℕ} 0 1 = cc in absurd (omega arith)

pub header_none : (l : List ℕ) → header_of l ≡ None → list_fits l ≡ false
unfolding header_of
header_none l e = by_test (list_fits l) e
  where
    by_test : (t : Bool) → cond {A = (Option Areas)} t (Some (areas_of l)) None ≡ None → t ≡ false
    by_test true same = let z : ◌≡◌ {A = ℕ} 0 1 = cc in absurd (omega arith)
    by_test false same = refl

-- A record that lies in a list is whole.
pub record_whole : (l : List ℕ) (a : Areas) (i : ℕ) → AreasFit l a → i < a.records → length (record_at l i) ≡ 24
record_whole l a i fits inside =
    part_length (record_start l i) (record_start l i + 24) l (omega arith) ∙ omega arith

-- Entries that lie within the area end there at the latest.
pub lie_within : (n first count : ℕ) → entries_lie n first count ≡ true → first + count ≤ n
lie_within n first count e = leb-true (first + count) n (and_right (leb count 40) (leb (first + count) n) e)

-- A row of so many entries, two bytes each, has so many.
pub row_of_lem : (l : List ℕ) (start count : ℕ) → start + 2 * count ≤ length l → length (part start (start + 2 * count) l) / 2 ≡ count
row_of_lem l start count h = rw (part_length start (start + 2 * count) l h) (omega arith)

-- A record by the numbers of a header: there, or not.
module _ (l : List ℕ) (a : Areas) (i : ℕ) where
  abbrev Fit : Bool
  Fit = area_fits a.records_offset (24 * a.records) l

  pub there
      : i < a.records
      → Fit ≡ true
      → record_of l a i ≡ part (a.records_offset + 24 * i) (a.records_offset + 24 * i + 24) l
  unfolding record_of
  there inside fits = rw (lt-ltb i a.records inside, fits)

  pub past_the_last : a.records ≤ i → record_of l a i ≡ []
  unfolding record_of
  past_the_last past = rw (le-ltb i a.records past)

  pub past_the_end : Fit ≡ false → record_of l a i ≡ []
  unfolding record_of
  past_the_end past = simp (past, and_false)

  -- By the numbers of the list's own header it is the list's record.
  pub record_of_list : AreasFit l a → i < a.records → record_of l a i ≡ record_at l i
  record_of_list fits inside =
      there inside (le-leb (a.records_offset + 24 * a.records) (length l) fits.records_fit)
      ∙ ap (λ (start : ℕ). part (start + 24 * i) (start + 24 * i + 24) l) fits.records_at

  -- It is asked as it is: whole, then by its own tests.
  pub record_by_tests
      : (raw : List ℕ)
      → raw ≡ record_of l a i
      → AreasFit l a
      → i < a.records
      → record_good l i ≡ forms_well_formed raw && quirks_good (be32 raw 14) && layout_lies l (first_entry raw) (entry_count raw)
  unfolding record_good
  record_by_tests raw e fits inside =
      rw (e ∙ record_of_list fits inside, ← quirks_last (record_at l i), whole (record_at l i) (record_whole l a i fits inside))
