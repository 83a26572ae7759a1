-- Laws of tests: the two halves of a conjunction, and one computed test as a rule at every number below its bound.
use mathlib.Core.Path.{◌≡◌, refl, sym, ◌∙◌, ap}
use mathlib.Core.Bool.{Bool, true, false, ◌&&◌, false≢true}
use Prim.Native.Nat.{ℕ, zero, suc, ◌+◌, ◌<◌}
use native.Mathlib.Omega.{arith}
use native.Mathlib.Decide.{ℕ_discrete}
use native.Mathlib.Numerals.{add-one}
use Rattle.basis.specs.Tests.{all_below}

pub and_left : (a b : Bool) → a && b ≡ true → a ≡ true
and_left true b e = refl
and_left false b e = absurd (false≢true e)

pub and_right : (a b : Bool) → a && b ≡ true → b ≡ true
and_right true b e = e
and_right false b e = absurd (false≢true e)

pub and_false : (a : Bool) → a && false ≡ false
and_false true = refl
and_false false = refl

pub and_true : (a : Bool) → a && true ≡ a
and_true true = refl
and_true false = refl

pub below : (f : ℕ → Bool) (n : ℕ) → all_below f n ≡ true → (k : ℕ) → k < n → f k ≡ true
unfolding all_below
below f zero e k h = absurd (omega arith)
below f (suc n) e k h = by_place (ℕ_discrete k n) (below f n (and_right (f n) (all_below f n) e) k)
  where
    by_place : Dec (k ≡ n) → (k < n → f k ≡ true) → f k ≡ true
    by_place (yes same) rest = ap f same ∙ and_left (f n) (all_below f n) e
    by_place (no other) rest = rest (omega arith)

-- One number more, and a number that fails.
pub one_more_below : (f : ℕ → Bool) (n : ℕ) → f n ≡ true → all_below f n ≡ true → all_below f (n + 1) ≡ true
unfolding all_below
one_more_below f n here before = rw (add-one, here, before)

pub none_below : (f : ℕ → Bool) → all_below f 0 ≡ true
unfolding all_below
none_below f = refl

pub fails_below : (f : ℕ → Bool) (n k : ℕ) → k < n → f k ≡ false → all_below f n ≡ false
fails_below f n k h fails = by_test (all_below f n) refl
  where
    by_test : (t : Bool) → all_below f n ≡ t → t ≡ false
    by_test true e = absurd (false≢true (sym fails ∙ below f n e k h))
    by_test false e = refl
