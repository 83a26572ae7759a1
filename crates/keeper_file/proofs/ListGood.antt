-- The list of what a file's lines mean is well formed, and its records mean that.
use Rattle.std.specs.Prelude.{Ok}
use Prim.Native.Nat.{ℕ, ◌+◌, ◌*◌}
use mathlib.Core.Path.{◌≡◌, refl, ◌∙◌, ap}
use mathlib.Core.Bool.{true}
use mathlib.Core.List.{List, [], ◌∷◌}
use native.Mathlib.Omega.{arith}
use lib.ListN.{length, length-append}
use borrow.Author.Tests.{le-leb}
use Rattle.basis.specs.Bytes.{byte_at}
use Rattle.sigrecord.specs.Record.{first_entry, entry_count}
use Rattle.siglist.specs.List.{record_count, records_offset, layout_count, layout_offset, list_fits}
use Rattle.siglist.specs.List.{record_at, layout_lies, record_good, records_from, check_list}
use Rattle.signature_line.specs.Meaning.{LineMeaning}
use Rattle.keeper_file.specs.CompileAnswers.{NotPlace, RecordMeans, RecordsMean, list_size}
use Rattle.keeper_file.specs.ListText.{entry_total, entries_text, placed_at, records_text, header_text, list_text}
use Rattle.keeper_file.proofs.KeptWellFormed.{KeptGood}
use Rattle.keeper_file.proofs.PlacedRecord.{same_scalars, same_signature, placed_same, placed_first}
use Rattle.keeper_file.proofs.ListParts.{AllKept, entries_text_length, records_text_length, Left, record_here, entries_here}
use Rattle.keeper_file.proofs.ListParts.{left_behind, all_left, header_signatures, header_records, header_entries, header_layouts}

pub list_size_lem : (ms : List LineMeaning) → AllKept ms → length (list_text ms) ≡ list_size ms
unfolding list_text header_text
list_size_lem ms good =
    omega (
      arith,
      length-append (entries_text ms) (records_text 0 ms),
      entries_text_length ms good,
      records_text_length ms good 0,
    )

-- ---- one record

module _ (l : List ℕ) (i first : ℕ) (m : LineMeaning) (ms : List LineMeaning) (good : KeptGood m) (left : Left l i first (m ∷ ms)) where
  here : record_at l i ≡ placed_at first m.raw
  here = record_here l i first m ms good left

  same_here : (k : ℕ) → NotPlace k → byte_at (record_at l i) k ≡ byte_at m.raw k
  same_here k p = ap (λ (r : List ℕ). byte_at r k) here ∙ placed_same first m.raw k p

  first_here : first_entry (record_at l i) ≡ first
  first_here = ap first_entry here ∙ placed_first first m.raw good.whole

  count_here : entry_count (record_at l i) ≡ m.layout.count
  count_here = same_here 20 (NotPlace.behind (omega arith) (omega arith)) ∙ good.counted

  lies_here : layout_lies l first m.layout.count ≡ true
  unfolding layout_lies entry_total
  lies_here =
      rw (
        le-leb m.layout.count 40 good.fits,
        le-leb (first + m.layout.count) (layout_count l) (omega (arith, left.entries_counted)),
        entries_here l i first m ms good left,
      )
      good.entries

  good_here : record_good l i ≡ true
  unfolding record_good
  good_here = rw (same_scalars (record_at l i) m.raw same_here, good.scalars, first_here, count_here) lies_here

  means_here : RecordMeans l i m
  means_here =
      record {
        same = same_here;
        signature = same_signature (record_at l i) m.raw same_here;
        entries = rw (first_here, count_here) (entries_here l i first m ms good left);
      }

-- ---- the records from one on

records_good
    : (l : List ℕ) (i first : ℕ) (ms : List LineMeaning) → AllKept ms → Left l i first ms → records_from l i (length ms) ≡ Ok tt
unfolding records_from
records_good l i first [] good left = refl
records_good l i first (m ∷ ms) good left =
    rw (good_here l i first m ms good.0 left)
    (records_good l (i + 1) (first + m.layout.count) ms good.1 (left_behind l i first m ms good.0 left))

records_mean : (l : List ℕ) (i first : ℕ) (ms : List LineMeaning) → AllKept ms → Left l i first ms → RecordsMean l i ms
records_mean l i first [] good left = omega (arith, left.records_counted)
records_mean l i first (m ∷ ms) good left = (
  means_here l i first m ms good.0 left,
  records_mean l (i + 1) (first + m.layout.count) ms good.1 (left_behind l i first m ms good.0 left),
)

-- ---- the list

module _ (ms : List LineMeaning) (good : AllKept ms) where
  fits : list_fits (list_text ms) ≡ true
  unfolding list_fits
  fits =
      let l = list_text ms in
      rw (
        le-leb 8 (length l) (omega (arith, list_size_lem ms good)),
        le-leb (records_offset l + 24 * record_count l) (length l)
            (omega (arith, list_size_lem ms good, header_records ms, header_signatures ms)),
        le-leb (layout_offset l + 2 * layout_count l) (length l)
            (omega (arith, list_size_lem ms good, header_layouts ms, header_entries ms)),
      )

  pub list_good : check_list (list_text ms) ≡ Ok tt
  unfolding check_list
  list_good = rw (fits, header_signatures ms) (records_good (list_text ms) 0 0 ms good (all_left ms good))

  pub list_records : RecordsMean (list_text ms) 0 ms
  list_records = records_mean (list_text ms) 0 0 ms good (all_left ms good)
