-- Laws of a row of eight bytes that is read as a number, its first byte lowest.
use mathlib.Core.Path.{◌≡◌}
use Prim.Native.Nat.{ℕ, zero, suc, ◌+◌, ◌*◌, ◌/◌, ◌%◌, ◌^◌, ◌<◌, ◌≤◌}
use native.Mathlib.Nat.{add-zero, add-suc, suc-add, div-one, div-div-eq-div-mul}
use native.Mathlib.Omega.{arith}
use lib.Pow.{pow-add}
use Rattle.ttl.specs.Rows.{Widened}

-- The number of a byte and of so many behind it.
unfoldable pub word_from : (ℕ → ℕ) → ℕ → ℕ → ℕ
word_from byte i zero = byte i
word_from byte i (suc n) = byte i + 256 * word_from byte (suc i) n

module _ (byte : ℕ → ℕ) (small : (i : ℕ) → i < 8 → byte i < 256) where
  lowest : (i n : ℕ) → i < 8 → word_from byte i n % 256 ≡ byte i
  unfolding word_from
  lowest i zero h = omega (arith, small i h)
  lowest i (suc n) h = omega (arith, small i h)

  -- A shift by a byte leaves the bytes behind it.
  behind : (i n k : ℕ) → i < 8 → word_from byte i (suc n) / 2 ^ (8 * suc k) ≡ word_from byte (suc i) n / 2 ^ (8 * k)
  unfolding word_from
  behind i n k h =
      let more : 8 * suc k ≡ 8 + 8 * k = omega arith in
      let word : (byte i + 256 * word_from byte (suc i) n) / 256 ≡ word_from byte (suc i) n = omega (arith, small i h) in
      rw (more, pow-add 2 8 (8 * k), ← div-div-eq-div-mul (byte i + 256 * word_from byte (suc i) n) 256 (2 ^ (8 * k)), word)

  -- The byte at a place, by a shift.
  pub shifted : (i n k : ℕ) → i + n < 8 → k ≤ n → word_from byte i n / 2 ^ (8 * k) % 256 ≡ byte (i + k)
  shifted i n zero h inside = rw (div-one, lowest i n (omega arith), add-zero i)
  shifted i zero (suc k) h inside = absurd (omega arith)
  shifted i (suc n) (suc k) h inside =
      rw (behind i n k (omega arith), shifted (suc i) n k (omega arith) (omega arith), suc-add i k, ← add-suc i k)

pub under : {byte wide : ℕ} → Widened byte wide → byte < 256
under w = rw (← w.same) w.small

-- What holds of each of eight numbers holds of every number under eight.
pub each_of_eight
    : (P : ℕ → Type 0) → P 0 → P 1 → P 2 → P 3 → P 4 → P 5 → P 6 → P 7 → (i : ℕ) → i < 8 → P i
each_of_eight P a b c d e f g h zero k = a
each_of_eight P a b c d e f g h (suc zero) k = b
each_of_eight P a b c d e f g h (suc (suc zero)) k = c
each_of_eight P a b c d e f g h (suc (suc (suc zero))) k = d
each_of_eight P a b c d e f g h (suc (suc (suc (suc zero)))) k = e
each_of_eight P a b c d e f g h (suc (suc (suc (suc (suc zero))))) k = f
each_of_eight P a b c d e f g h (suc (suc (suc (suc (suc (suc zero)))))) k = g
each_of_eight P a b c d e f g h (suc (suc (suc (suc (suc (suc (suc zero))))))) k = h
each_of_eight P a b c d e f g h (suc (suc (suc (suc (suc (suc (suc (suc i)))))))) k = absurd (omega arith)
