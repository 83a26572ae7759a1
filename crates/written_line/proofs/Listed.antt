-- The line of a record of a list that was checked before: that which is written of the record in a list that is good.
use Rattle.std.specs.Prelude.{Ok}
use Prim.Native.Nat.{ℕ, ◌<◌, ◌≤◌}
use mathlib.Core.Path.{◌≡◌, refl}
use mathlib.Core.Bool.{Bool, true, false}
use mathlib.Core.List.{List}
use lib.Dec.{ltb}
use borrow.Author.Tests.{lt-ltb, le-ltb, ltb-true, ltb-false}
use Rattle.basis.proofs.Tests.{and_left, and_right, and_false}
use Rattle.refusals.specs.declared.Refusal.TheVariants as refusal
use Rattle.sigrecord.specs.Layout.{entries_good}
use Rattle.sigrecord.specs.Record.{first_entry, entry_count}
use Rattle.sigrecord.specs.WellFormed.{scalars_good}
use Rattle.siglist.specs.List.{record_count, layout_count, list_fits, record_at, entries_from, entries_lie, layout_lies, record_good}
use Rattle.siglist.specs.List.{check_list}
use Rattle.siglist.proofs.FirstBad.{good_fits, each_good}
use Rattle.written_line.specs.Writing.{refusing, good_line, record_line, listed_line}

-- The layout of a good record lies within the area.
good_lies
    : (l : List ℕ) (i : ℕ)
    → record_good l i ≡ true
    → entries_lie (layout_count l) (first_entry (record_at l i)) (entry_count (record_at l i)) ≡ true
unfolding record_good layout_lies
good_lies l i e =
    let first = first_entry (record_at l i) in
    let count = entry_count (record_at l i) in
    and_left (entries_lie (layout_count l) first count) (entries_good (entries_from l first count) count)
    (and_right (scalars_good (record_at l i)) _ e)

module _ (l : List ℕ) (i room : ℕ) where
  pub listed_good : check_list l ≡ Ok tt → i < record_count l → listed_line l i room ≡ good_line l i room
  unfolding listed_line
  listed_good e h = rw (good_fits l e, lt-ltb i (record_count l) h, good_lies l i (each_good l i e h))

  pub listed_past : record_count l ≤ i → listed_line l i room ≡ refusing refusal.NoSuchRecord
  unfolding listed_line
  listed_past h = rw (le-ltb i (record_count l) h, and_false (list_fits l))

  -- In a good list it is the record's line, whatever the index.
  pub listed_record : check_list l ≡ Ok tt → listed_line l i room ≡ record_line l i room
  unfolding record_line
  listed_record e = by (ltb i (record_count l)) refl
    where
      by : (t : Bool) → ltb i (record_count l) ≡ t → listed_line l i room ≡ record_line l i room
      by true h = rw (e, h) (listed_good e (ltb-true i (record_count l) h))
      by false h = rw (e, h) (listed_past (ltb-false i (record_count l) h))
