-- Where all entries of the area are good, a layout is if it lies there.
use mathlib.Core.Path.{◌≡◌, refl, sym, ◌∙◌, ap}
use mathlib.Core.Bool.{Bool, true, false, ◌&&◌}
use mathlib.Core.List.{List}
use Prim.Native.Nat.{ℕ, ◌+◌, ◌*◌, ◌-◌, ◌/◌, ◌<◌, ◌≤◌}
use native.Mathlib.Omega.{arith}
use lib.ListN.{length, drop}
use lib.Seq.{get_or-take, get_or-drop}
use Rattle.basis.specs.Bytes.{byte_at, part}
use Rattle.sigrecord.specs.Layout.{entries_good}
use Rattle.sigrecord.proofs.Laws.{each_good, all_good}
use Rattle.siglist.specs.declared.Areas.{Areas}
use Rattle.siglist.specs.List.{AreasFit, layout_count, layout_offset, entries_from, entries_lie, layout_lies}
use Rattle.siglist.specs.Entries.{all_entries_good}
use Rattle.siglist.proofs.List.{lie_within, row_of_lem}

part_byte : (l : List ℕ) (start end k : ℕ) → k < end - start → byte_at (part start end l) k ≡ byte_at l (start + k)
part_byte l start end k h = get_or-take (end - start) (drop start l) k 0 h ∙ get_or-drop start l k 0

-- What a walk over the area finds, by the numbers of the header.
pub area_walked
    : (l : List ℕ) (a : Areas)
    → AreasFit l a
    → let walked = part a.entries_offset (a.entries_offset + 2 * a.entries) l in
    entries_good walked (length walked / 2) ≡ all_entries_good l
unfolding all_entries_good
area_walked l a fits = rw (row_of_lem l a.entries_offset a.entries fits.entries_fit, fits.entries, fits.entries_at)

module _ (l : List ℕ) (first count : ℕ) (all : all_entries_good l ≡ true) where
  abbrev area : List ℕ
  area = part (layout_offset l) (layout_offset l + 2 * layout_count l) l

  own
      : first + count ≤ layout_count l
      → (j k : ℕ)
      → j ≡ 2 * first + k
      → k < 2 * count
      → byte_at area j ≡ byte_at (entries_from l first count) k
  own within j k e h =
      part_byte l (layout_offset l) (layout_offset l + 2 * layout_count l) j (omega arith)
      ∙ ap (byte_at l) (omega arith)
      ∙ sym (part_byte l (layout_offset l + 2 * first) (layout_offset l + 2 * first + 2 * count) k (omega arith))

  within_good : first + count ≤ layout_count l → entries_good (entries_from l first count) count ≡ true
  unfolding all_entries_good
  within_good within =
      all_good (entries_from l first count) count
      (λ k h.
      let kind = own within (2 * (first + k)) (2 * k) (omega arith) (omega arith) in
      let byte = own within (2 * (first + k) + 1) (2 * k + 1) (omega arith) (omega arith) in
      rw (kind, byte) at (each_good area (layout_count l) all (first + k) (omega arith)))

  pub lies_if_there : layout_lies l first count ≡ entries_lie (layout_count l) first count
  unfolding layout_lies
  lies_if_there = by_test (entries_lie (layout_count l) first count) (λ e. within_good (lie_within (layout_count l) first count e))
    where
      by_test
          : (t : Bool)
          → (t ≡ true → entries_good (entries_from l first count) count ≡ true)
          → t && entries_good (entries_from l first count) count ≡ t
      by_test true good = good refl
      by_test false good = refl
