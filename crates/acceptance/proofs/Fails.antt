-- Laws of tests that fail: which part of a test does, and which number.
use mathlib.Core.Path.{◌≡◌, refl}
use mathlib.Core.Bool.{Bool, true, false, ◌&&◌, ◌||◌, true≢false}
use Prim.Native.Nat.{ℕ, zero, suc, ◌<◌}
use native.Mathlib.Omega.{arith}
use lib.Dec.{eqb}
use borrow.Author.Tests.{eqb-false, ne_eqb}
use Rattle.basis.specs.Tests.{all_below}

module _ {P : Type 0} where
  pub either_false : (a b : Bool) → (a ≡ false → P) → (b ≡ false → P) → a && b ≡ false → P
  either_false true b f g e = g e
  either_false false b f g e = f refl

  pub failing : (f : ℕ → Bool) (n : ℕ) → ((k : ℕ) → k < n → f k ≡ false → P) → all_below f n ≡ false → P
  unfolding all_below
  failing f zero found e = absurd (true≢false e)
  failing f (suc n) found e =
      either_false (f n) (all_below f n) (found n (omega arith)) (failing f n (λ k h x. found k (omega arith) x)) e

pub or_left : (a b : Bool) → a || b ≡ false → a ≡ false
or_left true b e = e
or_left false b e = refl

pub or_right : (a b : Bool) → a || b ≡ false → b ≡ false
or_right true b e = absurd (true≢false e)
or_right false b e = e

pub and_false : (a : Bool) → a && false ≡ false
and_false true = refl
and_false false = refl

pub positive : (n : ℕ) → eqb n 0 ≡ false → 0 < n
positive zero e = absurd (eqb-false 0 0 e refl)
positive (suc n) e = omega arith

pub nonzero : (n : ℕ) → 0 < n → eqb n 0 ≡ false
nonzero n h = ne_eqb n 0 (λ e. omega arith)
