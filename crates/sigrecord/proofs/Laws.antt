-- Laws of a record: a whole one is asked nothing else, and its entries are good one by one.
use mathlib.Core.Path.{◌≡◌, refl}
use mathlib.Core.Bool.{Bool, true, false, ◌&&◌}
use mathlib.Core.List.{List}
use Prim.Native.Nat.{ℕ, zero, suc, ◌+◌, ◌*◌, ◌<◌}
use native.Mathlib.Omega.{arith}
use native.Mathlib.Numerals.{add-one}
use lib.Dec.{eqb, leb}
use lib.ListN.{length}
use borrow.Author.Tests.{eq-eqb, ne_eqb}
use Rattle.basis.specs.Bytes.{byte_at, be32}
use Rattle.basis.proofs.Tests.{below, none_below, one_more_below, fails_below}
use Rattle.sigrecord.specs.Layout.{entry_good, entries_good}
use Rattle.sigrecord.specs.WellFormed.{quirks_good, forms_good, forms_well_formed, scalars_good, scalars_well_formed}

pub whole : (r : List ℕ) → length r ≡ 24 → scalars_well_formed r ≡ scalars_good r
unfolding scalars_well_formed
whole r e = rw (eq-eqb (length r) 24 e)

-- The quirks may be asked for last.
pub quirks_last : (r : List ℕ) → scalars_well_formed r ≡ forms_well_formed r && quirks_good (be32 r 14)
unfolding scalars_well_formed scalars_good forms_well_formed forms_good
quirks_last r = by_test (eqb (length r) 24) _ (quirks_good (be32 r 14)) (leb (byte_at r 21) 1)
  where
    by_test : (t forms quirks kind : Bool) → t && (forms && quirks && kind) ≡ t && (forms && kind) && quirks
    by_test false forms quirks kind = refl
    by_test true false quirks kind = refl
    by_test true true false false = refl
    by_test true true false true = refl
    by_test true true true false = refl
    by_test true true true true = refl

-- An entry, its byte tested before its kind.
module _ (kind byte : ℕ) where
  pub no_byte : byte ≡ 0 → entry_good kind byte ≡ true
  unfolding entry_good
  no_byte e = rw (eq-eqb byte 0 e)

  pub no_kind : (byte ≡ 0 → ⊥) → kind ≡ 0 → entry_good kind byte ≡ true
  unfolding entry_good
  no_kind b e = rw (ne_eqb byte 0 b, eq-eqb kind 0 e)

  pub both_set : (byte ≡ 0 → ⊥) → (kind ≡ 0 → ⊥) → entry_good kind byte ≡ false
  unfolding entry_good
  both_set b k = rw (ne_eqb byte 0 b, ne_eqb kind 0 k)

module _ (entries : List ℕ) where
  good : ℕ → Bool
  good i = entry_good (byte_at entries (2 * i)) (byte_at entries (2 * i + 1))

  pub none_bad : entries_good entries 0 ≡ true
  unfolding entries_good good
  none_bad = none_below good

  pub one_more_good
      : (i : ℕ)
      → entry_good (byte_at entries (2 * i)) (byte_at entries (2 * i + 1)) ≡ true
      → entries_good entries i ≡ true
      → entries_good entries (i + 1) ≡ true
  unfolding entries_good good
  one_more_good i here-good before = one_more_below good i here-good before

  pub one_bad
      : (count i : ℕ)
      → i < count
      → entry_good (byte_at entries (2 * i)) (byte_at entries (2 * i + 1)) ≡ false
      → entries_good entries count ≡ false
  unfolding entries_good good
  one_bad count i h bad = fails_below good count i h bad

  pub each_good
      : (count : ℕ)
      → entries_good entries count ≡ true
      → (i : ℕ)
      → i < count
      → entry_good (byte_at entries (2 * i)) (byte_at entries (2 * i + 1)) ≡ true
  unfolding entries_good good
  each_good count all i h = below good count all i h

  pub all_good
      : (count : ℕ)
      → ((i : ℕ) → i < count → entry_good (byte_at entries (2 * i)) (byte_at entries (2 * i + 1)) ≡ true)
      → entries_good entries count ≡ true
  all_good zero each = none_bad
  all_good (suc n) each = rw add-one at (one_more_good n (each n (omega arith)) (all_good n (λ i h. each i (omega arith))))
