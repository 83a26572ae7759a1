-- Laws of binary digits: of a number's half, of and, or and complement, of a power of two; a number is its digits.
use mathlib.Core.Path.{◌≡◌, refl, sym, ◌∙◌, ap}
use mathlib.Core.Logic.{◌≢◌}
use Prim.Native.Nat.{ℕ, zero, suc, ◌*◌, ◌-◌, ◌/◌, ◌%◌, ◌^◌, ◌<◌, min, max}
use native.Mathlib.Omega.{arith}
use native.Mathlib.Nat.{pow-zero, pow-succ', div-one, div-div-eq-div-mul}
use lib.Pow.{pow-add}
use lib.Bits.{bit_and, bit_or, and_step, or_step, and_shr, or_shr, and_high}
use Rattle.basis.specs.Digits.{digit}

-- ---- the lowest digit, and the others as the half's

pub digit_zero : (n : ℕ) → digit n zero ≡ n % 2
unfolding digit
digit_zero n = rw (pow-zero, div-one)

pub digit_suc : (n k : ℕ) → digit n (suc k) ≡ digit (n / 2) k
unfolding digit
digit_suc n k = rw (pow-succ', ← div-div-eq-div-mul n 2 (2 ^ k))

pub digit_lt : (n k : ℕ) → digit n k < 2
unfolding digit
digit_lt n k = omega arith

pub digit_of_zero : (k : ℕ) → digit 0 k ≡ 0
digit_of_zero zero = digit_zero 0
digit_of_zero (suc k) = digit_suc 0 k ∙ digit_of_zero k

-- ---- and, or, complement

low_and : (a b : ℕ) → bit_and a b % 2 ≡ min (a % 2) (b % 2)
low_and a b = omega (arith, and_step a b)

low_or : (a b : ℕ) → bit_or a b % 2 ≡ max (a % 2) (b % 2)
low_or a b = omega (arith, or_step a b)

pub digit_and : (a b k : ℕ) → digit (bit_and a b) k ≡ min (digit a k) (digit b k)
unfolding digit
digit_and a b k = rw (and_shr a b k) (low_and (a / 2 ^ k) (b / 2 ^ k))

pub digit_or : (a b k : ℕ) → digit (bit_or a b) k ≡ max (digit a k) (digit b k)
unfolding digit
digit_or a b k = rw (or_shr a b k) (low_or (a / 2 ^ k) (b / 2 ^ k))

half_not : (w x : ℕ) → x < 2 ^ suc w → (2 ^ suc w - 1 - x) / 2 ≡ 2 ^ w - 1 - x / 2
half_not w x h = omega (arith, pow-succ' 2 w)

-- The complement in a width turns each digit below the width.
pub digit_not : (w x k : ℕ) → x < 2 ^ w → k < w → digit (2 ^ w - 1 - x) k ≡ 1 - digit x k
digit_not zero x k h b = omega arith
digit_not (suc w) x zero h b =
    rw (digit_zero (2 ^ suc w - 1 - x), digit_zero x) (omega (arith, pow-succ' 2 w))
digit_not (suc w) x (suc k) h b =
    rw (digit_suc (2 ^ suc w - 1 - x) k, digit_suc x k, half_not w x h)
    (digit_not w (x / 2) k (omega (arith, pow-succ' 2 w)) (omega arith))

-- ---- a power of two has one digit

pub digit_power_same : (k : ℕ) → digit (2 ^ k) k ≡ 1
digit_power_same zero = digit_zero 1
digit_power_same (suc k) =
    digit_suc (2 ^ suc k) k
    ∙ ap (λ (n : ℕ). digit n k) (omega (arith, pow-succ' 2 k))
    ∙ digit_power_same k

pub digit_power_other : (j k : ℕ) → j ≢ k → digit (2 ^ j) k ≡ 0
digit_power_other zero zero d = absurd (d refl)
digit_power_other zero (suc k) d = digit_suc 1 k ∙ digit_of_zero k
digit_power_other (suc j) zero d = rw (digit_zero (2 ^ suc j)) (omega (arith, pow-succ' 2 j))
digit_power_other (suc j) (suc k) d =
    digit_suc (2 ^ suc j) k
    ∙ ap (λ (n : ℕ). digit n k) (omega (arith, pow-succ' 2 j))
    ∙ digit_power_other j k (λ e. d (ap suc e))

-- What a mask of one digit leaves is that digit at its place.
pub and_power : (n k : ℕ) → bit_and n (2 ^ k) ≡ digit n k * 2 ^ k
unfolding digit
and_power n k = ap (bit_and n) (omega (arith, pow-add 2 1 k)) ∙ and_high n 1 k

-- ---- a number is its digits

pub digits_zero : (w n : ℕ) → n < 2 ^ w → ((k : ℕ) → k < w → digit n k ≡ 0) → n ≡ 0
digits_zero zero n h all = omega (arith, pow-zero 2)
digits_zero (suc w) n h all =
    let low : n % 2 ≡ 0 = sym (digit_zero n) ∙ all zero (omega arith) in
    let half : n / 2 ≡ 0 =
    digits_zero w (n / 2) (omega (arith, pow-succ' 2 w)) (λ k b. sym (digit_suc n k) ∙ all (suc k) (omega arith)) in
    omega arith
