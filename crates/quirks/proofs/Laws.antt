-- Laws of quirk sets: what a set contains.
use mathlib.Core.Path.{◌≡◌, refl, ◌∙◌, ap}
use mathlib.Core.Bool.{Bool, true, ◌&&◌, ◌||◌, not}
use Prim.Native.Nat.{ℕ, zero, suc, ◌*◌, ◌-◌, ◌^◌, ◌<◌, min, max}
use native.Mathlib.Omega.{arith}
use native.Mathlib.Nat.{zero-mul, one-mul}
use lib.Dec.{eqb}
use lib.Pow.{pow_pos}
use lib.Bits.{bit_and}
use borrow.Author.Tests.{eq-eqb, ne_eqb}
use Rattle.basis.specs.Digits.{digit}
use Rattle.basis.proofs.Digits.{digit_lt, digit_and, digit_or, digit_not, and_power, digit_power_same, digit_power_other}
use Rattle.quirks.specs.declared.Quirk.{Quirk}
use Rattle.quirks.specs.declared.QuirkSet.{QuirkSet}
use Rattle.quirks.specs.Quirks.{place_of, bit_of, bits_of, holds, contains, with, difference}
use Rattle.quirks.proofs.Places.{place_lt, place_injective}

-- ---- the code's test of a quirk

digit_test : (d p : ℕ) → d < 2 → 0 < p → not (eqb (d * p) 0) ≡ eqb d 1
digit_test zero p h pos = rw zero-mul
digit_test (suc zero) p h pos = rw (one-mul, ne_eqb p 0 (omega arith))
digit_test (suc (suc d)) p h pos = absurd (omega arith)

-- A quirk is in a set exactly if its bit survives the mask.
pub masked : (s : QuirkSet) (q : Quirk) → not (eqb (bit_and (bits_of s) (bit_of q)) 0) ≡ contains s q
unfolding contains holds bit_of
masked s q =
    ap (λ (n : ℕ). not (eqb n 0)) (and_power (bits_of s) (place_of q))
    ∙ digit_test (digit (bits_of s) (place_of q)) (2 ^ place_of q) (digit_lt (bits_of s) (place_of q)) (pow_pos (place_of q))

-- ---- by places

-- One-digit numbers under max, min and complement, as tests.
max_test : (a b : ℕ) → a < 2 → b < 2 → eqb (max a b) 1 ≡ eqb a 1 || eqb b 1
max_test zero zero h k = refl
max_test zero (suc zero) h k = refl
max_test (suc zero) zero h k = refl
max_test (suc zero) (suc zero) h k = refl
max_test zero (suc (suc b)) h k = absurd (omega arith)
max_test (suc zero) (suc (suc b)) h k = absurd (omega arith)
max_test (suc (suc a)) b h k = absurd (omega arith)

min_test : (a b : ℕ) → a < 2 → b < 2 → eqb (min a b) 1 ≡ eqb a 1 && eqb b 1
min_test zero zero h k = refl
min_test zero (suc zero) h k = refl
min_test (suc zero) zero h k = refl
min_test (suc zero) (suc zero) h k = refl
min_test zero (suc (suc b)) h k = absurd (omega arith)
min_test (suc zero) (suc (suc b)) h k = absurd (omega arith)
min_test (suc (suc a)) b h k = absurd (omega arith)

not_test : (b : ℕ) → b < 2 → eqb (1 - b) 1 ≡ not (eqb b 1)
not_test zero k = refl
not_test (suc zero) k = refl
not_test (suc (suc b)) k = absurd (omega arith)

pub digit_difference
    : (a b : QuirkSet) (k : ℕ)
    → bits_of b < 2 ^ 32
    → k < 32
    → digit (bits_of (difference a b)) k ≡ min (digit (bits_of a) k) (1 - digit (bits_of b) k)
unfolding difference
digit_difference a b k small low =
    digit_and (bits_of a) (2 ^ 32 - 1 - bits_of b) k
    ∙ ap (min (digit (bits_of a) k)) (digit_not 32 (bits_of b) k small low)

pub holds_difference
    : (a b : QuirkSet) (k : ℕ)
    → bits_of b < 2 ^ 32
    → k < 32
    → holds (difference a b) k ≡ holds a k && not (holds b k)
unfolding holds
holds_difference a b k small low =
    let da = digit_lt (bits_of a) k in
    let db = digit_lt (bits_of b) k in
    ap (λ (n : ℕ). eqb n 1) (digit_difference a b k small low)
    ∙ min_test (digit (bits_of a) k) (1 - digit (bits_of b) k) da (omega arith)
    ∙ ap (λ (t : Bool). eqb (digit (bits_of a) k) 1 && t) (not_test (digit (bits_of b) k) db)

-- ---- by quirks

pub contains_difference
    : (a b : QuirkSet) (q : Quirk)
    → bits_of b < 2 ^ 32
    → contains (difference a b) q ≡ contains a q && not (contains b q)
unfolding contains
contains_difference a b q small = holds_difference a b (place_of q) small (place_lt q)

pub contains_with_same : (s : QuirkSet) (q : Quirk) → contains (with s q) q ≡ true
unfolding contains holds with bit_of
contains_with_same s q =
    eq-eqb _ 1
    (digit_or (bits_of s) (2 ^ place_of q) (place_of q)
    ∙ ap (max (digit (bits_of s) (place_of q))) (digit_power_same (place_of q))
    ∙ top (digit (bits_of s) (place_of q)) (digit_lt (bits_of s) (place_of q)))
  where
    top : (d : ℕ) → d < 2 → max d 1 ≡ 1
    top d h = omega arith

pub contains_with_other : (s : QuirkSet) (q p : Quirk) → (q ≡ p → ⊥) → contains (with s q) p ≡ contains s p
unfolding contains holds with bit_of
contains_with_other s q p differ =
    ap (λ (n : ℕ). eqb n 1)
    (digit_or (bits_of s) (2 ^ place_of q) (place_of p)
    ∙ ap (max (digit (bits_of s) (place_of p))) (digit_power_other (place_of q) (place_of p) (λ e. differ (place_injective q p e)))
    ∙ plain (digit (bits_of s) (place_of p)))
  where
    plain : (d : ℕ) → max d 0 ≡ d
    plain d = omega arith
