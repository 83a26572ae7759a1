-- A difference is empty exactly if the first set is a subset of the second: place by place, and, within the seventeen, quirk by quirk.
use mathlib.Core.Path.{◌≡◌, refl, sym, ◌∙◌, ap, subst}
use mathlib.Core.Bool.{Bool, true, ◌||◌, not}
use mathlib.Core.Logic.{◌↔◌}
use Prim.Native.Nat.{ℕ, zero, suc, ◌-◌, ◌^◌, ◌<◌, min}
use native.Mathlib.Omega.{arith}
use lib.Dec.{eqb}
use lib.Bits.{and_le_l}
use borrow.Author.Tests.{eq-eqb, eqb-true}
use Rattle.basis.specs.Digits.{digit}
use Rattle.basis.specs.Tests.{all_below}
use Rattle.basis.proofs.Digits.{digit_lt, digit_of_zero, digits_zero}
use Rattle.basis.proofs.Tests.{below}
use Rattle.quirks.specs.declared.QuirkSet.{QuirkSet}
use Rattle.quirks.specs.Quirks.{place_of, bit_of, bits_of, holds, contains, is_empty, with, difference, SubsetByPlaces, SubsetByQuirks}
use Rattle.quirks.specs.Named.{seventeen, from_quirks, display_order}
use Rattle.quirks.proofs.Laws.{digit_difference}
use Rattle.quirks.proofs.Places.{quirk_at, place_lt}

module _ (a b : QuirkSet) (small : bits_of b < 2 ^ 32) where
  empty_subset : is_empty (difference a b) ≡ true → SubsetByPlaces a b
  unfolding SubsetByPlaces holds is_empty
  empty_subset none k low has =
      let gone : digit (bits_of (difference a b)) k ≡ 0 =
      ap (λ (n : ℕ). digit n k) (eqb-true _ 0 none) ∙ digit_of_zero k in
      let both : min (digit (bits_of a) k) (1 - digit (bits_of b) k) ≡ 0 = sym (digit_difference a b k small low) ∙ gone in
      let here : digit (bits_of a) k ≡ 1 = eqb-true _ 1 has in
      let db = digit_lt (bits_of b) k in
      eq-eqb (digit (bits_of b) k) 1 (omega arith)

  subset_empty : bits_of a < 2 ^ 32 → SubsetByPlaces a b → is_empty (difference a b) ≡ true
  unfolding SubsetByPlaces holds is_empty difference
  subset_empty fits inside =
      eq-eqb _ 0 (digits_zero 32 (bits_of (difference a b)) (omega (arith, and_le_l (bits_of a) (2 ^ 32 - 1 - bits_of b))) gone)
    where
      none : (d e : ℕ) → d < 2 → (eqb d 1 ≡ true → eqb e 1 ≡ true) → min d (1 - e) ≡ 0
      none zero e h f = omega arith
      none (suc zero) e h f = let one : e ≡ 1 = eqb-true e 1 (f refl) in omega arith
      none (suc (suc d)) e h f = absurd (omega arith)

      gone : (k : ℕ) → k < 32 → digit (bits_of (difference a b)) k ≡ 0
      gone k low =
          digit_difference a b k small low
          ∙ none (digit (bits_of a) k) (digit (bits_of b) k) (digit_lt (bits_of a) k) (inside k low)

  -- "difference is empty exactly if subset", over all 32 places.
  pub difference_empty : bits_of a < 2 ^ 32 → (is_empty (difference a b) ≡ true) ↔ SubsetByPlaces a b
  difference_empty fits = (empty_subset, subset_empty fits)

-- ---- within the seventeen, places are quirks

-- One computed test over the 32 places: a place of the seventeen is some quirk's.
quirk_places : all_below (λ (k : ℕ). not (holds seventeen k) || eqb (place_of (quirk_at k)) k) 32 ≡ true
unfolding all_below holds seventeen from_quirks display_order with bit_of place_of quirk_at digit
quirk_places = refl

place_of_quirk : (k : ℕ) → k < 32 → holds seventeen k ≡ true → place_of (quirk_at k) ≡ k
place_of_quirk k low has =
    eqb-true _ k
    (subst (λ (t : Bool). not t || eqb (place_of (quirk_at k)) k ≡ true) has
    (below (λ (n : ℕ). not (holds seventeen n) || eqb (place_of (quirk_at n)) n) 32 quirk_places k low))

-- A set within the seventeen is a subset by places exactly if it is one by quirks.
pub by_quirks
    : (a b : QuirkSet) → SubsetByPlaces a seventeen → (SubsetByPlaces a b) ↔ (SubsetByQuirks a b)
unfolding SubsetByPlaces SubsetByQuirks contains
by_quirks a b within = (to, from)
  where
    to : SubsetByPlaces a b → SubsetByQuirks a b
    to inside q has = inside (place_of q) (place_lt q) has

    from : SubsetByQuirks a b → SubsetByPlaces a b
    from inside k low has =
        let at : place_of (quirk_at k) ≡ k = place_of_quirk k low (within k low has) in
        subst (λ (n : ℕ). holds b n ≡ true) at
        (inside (quirk_at k) (subst (λ (n : ℕ). holds a n ≡ true) (sym at) has))
