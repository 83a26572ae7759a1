-- Laws of bits in bytes: the code's test of the fragment fields is the definitions'.
use mathlib.Core.Path.{◌≡◌, refl}
use mathlib.Core.Bool.{true, false, not, ◌||◌}
use Prim.Native.Nat.{ℕ, zero, suc, ◌+◌, ◌*◌, ◌/◌, ◌%◌, ◌<◌, ◌≤◌}
use native.Mathlib.Omega.{arith}
use native.Mathlib.Decide.{dec_le}
use lib.Dec.{eqb, ltb}
use borrow.Author.Tests.{lt-ltb, le-ltb, eq-eqb, ne_eqb, not-true}
use Rattle.basis.specs.Tests.{all_below}
use Rattle.basis.proofs.Tests.{below}

every_high : all_below (λ (high : ℕ). not (eqb (high % 64) 0) || not (eqb (high / 32 % 2) 1)) 256 ≡ true
unfolding all_below
every_high = refl

no_more : (high : ℕ) → high < 256 → high % 64 ≡ 0 → eqb (high / 32 % 2) 1 ≡ false
no_more high byte none =
    not-true (eqb (high / 32 % 2) 1)
    (rw (eq-eqb (high % 64) 0 none) at (below (λ (h : ℕ). not (eqb (h % 64) 0) || not (eqb (h / 32 % 2) 1)) 256 every_high high byte))

module _ (high low : ℕ) where
  pub fragment_high : (high % 64 ≡ 0 → ⊥) → ltb 0 (high % 32 * 256 + low) || eqb (high / 32 % 2) 1 ≡ true
  fragment_high some = elim (dec_le 1 (high % 32 * 256 + low)) [ yes h ↦ by_offset h | no h ↦ by_flag h ]
    where
      by_offset : 1 ≤ high % 32 * 256 + low → ltb 0 (high % 32 * 256 + low) || eqb (high / 32 % 2) 1 ≡ true
      by_offset h = rw (lt-ltb 0 (high % 32 * 256 + low) h)

      by_flag : (1 ≤ high % 32 * 256 + low → ⊥) → ltb 0 (high % 32 * 256 + low) || eqb (high / 32 % 2) 1 ≡ true
      by_flag h = rw (le-ltb 0 (high % 32 * 256 + low) (omega arith), eq-eqb (high / 32 % 2) 1 (omega arith))

  pub fragment_low : high < 256 → high % 64 ≡ 0 → ltb 0 (high % 32 * 256 + low) || eqb (high / 32 % 2) 1 ≡ not (eqb low 0)
  fragment_low byte none =
      let offset : high % 32 * 256 + low ≡ low = omega arith in
      rw (offset, no_more high byte none) (by_low low)
    where
      by_low : (n : ℕ) → ltb 0 n || false ≡ not (eqb n 0)
      by_low zero = refl
      by_low (suc n) = rw (lt-ltb 0 (suc n) (omega arith), ne_eqb (suc n) 0 (omega arith))
