-- Laws of decimals: how long they are, how they begin, that they are read back, and that their digits are put.
use mathlib.Core.Path.{◌≡◌, refl, sym, ◌∙◌, ap}
use mathlib.Core.Bool.{Bool, true, false, cond, ◌&&◌}
use mathlib.Core.List.{List, [], ◌∷◌, ◌++◌, append_assoc, append-nil}
use Prim.Native.Nat.{ℕ, zero, suc, ◌+◌, ◌*◌, ◌-◌, ◌/◌, ◌%◌, ◌<◌, ◌≤◌}
use native.Mathlib.Omega.{arith}
use lib.Dec.{ltb, leb}
use lib.ListN.{length, get_or, take, drop, length-drop}
use borrow.Author.Tests.{ltb-true, ltb-false, le-leb, lt-leb}
use Rattle.basis.specs.Bytes.{byte_at}
use Rattle.text.specs.Decimal.{newline, width, five_digits, decimal}

-- What holds of a number's last digits, as many as it has, holds of its decimal.
pub by_width
    : (P : List ℕ → Type 0) (n : ℕ)
    → (n < 10 → P (drop 4 (five_digits n)))
    → (10 ≤ n → n < 100 → P (drop 3 (five_digits n)))
    → (100 ≤ n → n < 1000 → P (drop 2 (five_digits n)))
    → (1000 ≤ n → n < 10000 → P (drop 1 (five_digits n)))
    → (10000 ≤ n → P (five_digits n))
    → P (decimal n)
unfolding decimal width
by_width P n one two three four five = by_tests (ltb n 10) refl (ltb n 100) refl (ltb n 1000) refl (ltb n 10000) refl
  where
    by_tests
        : (s : Bool)
        → ltb n 10 ≡ s
        → (t : Bool)
        → ltb n 100 ≡ t
        → (u : Bool)
        → ltb n 1000 ≡ u
        → (v : Bool)
        → ltb n 10000 ≡ v
        → P (decimal n)
    by_tests true e t f u g v i = rw e (one (ltb-true n 10 e))
    by_tests false e true f u g v i = rw (e, f) (two (ltb-false n 10 e) (ltb-true n 100 f))
    by_tests false e false f true g v i = rw (e, f, g) (three (ltb-false n 100 f) (ltb-true n 1000 g))
    by_tests false e false f false g true i = rw (e, f, g, i) (four (ltb-false n 1000 g) (ltb-true n 10000 i))
    by_tests false e false f false g false i = rw (e, f, g, i) (five (ltb-false n 10000 i))

pub decimal_length : (n : ℕ) → length (decimal n) ≤ 5
unfolding decimal
decimal_length n = rw (length-drop) (omega arith)

pub decimal_short : (n : ℕ) → n < 1000 → length (decimal n) ≤ 3
decimal_short n h =
    by_width (λ (s : List ℕ). length s ≤ 3) n
    (λ b. omega arith)
    (λ a b. omega arith)
    (λ a b. omega arith)
    (λ a b. omega arith)
    (λ a. omega arith)

-- No decimal but that of 0 begins with the digit 0.
pub no_leading_zero_lem : (n : ℕ) → 0 < n → n < 100000 → 48 < byte_at (decimal n) 0
no_leading_zero_lem n some small =
    by_width (λ (s : List ℕ). 48 < byte_at s 0) n
    (λ b. omega arith)
    (λ a b. omega arith)
    (λ a b. omega arith)
    (λ a b. omega arith)
    (λ a. omega arith)

-- ---- a number, read back from its digits up to the first byte that is none

abbrev pub digits_read : ℕ → List ℕ → ℕ
digits_read n [] = n
digits_read n (d ∷ rest) = cond (leb 48 d && leb d 57) (digits_read (n * 10 + (d - 48)) rest) n

more : (n d : ℕ) (rest : List ℕ) → d < 10 → digits_read n ((48 + d) ∷ rest) ≡ digits_read (n * 10 + d) rest
more n d rest h =
    let back : 48 + d - 48 ≡ d = omega arith in
    rw (le-leb 48 (48 + d) (omega arith), le-leb (48 + d) 57 (omega arith), back)

digit : (n : ℕ) → n % 10 < 10
digit n = omega arith

module _ (n : ℕ) (rest : List ℕ) (ends : (k : ℕ) → digits_read k rest ≡ k) where
  one : (k : ℕ) → digits_read k (drop 4 (five_digits n) ++ rest) ≡ k * 10 + n % 10
  one k = more k (n % 10) rest (digit n) ∙ ends (k * 10 + n % 10)

  two : (k : ℕ) → digits_read k (drop 3 (five_digits n) ++ rest) ≡ k * 100 + n % 100
  two k = more k (n / 10 % 10) (drop 4 (five_digits n) ++ rest) (digit (n / 10)) ∙ one (k * 10 + n / 10 % 10) ∙ omega arith

  three : (k : ℕ) → digits_read k (drop 2 (five_digits n) ++ rest) ≡ k * 1000 + n % 1000
  three k = more k (n / 100 % 10) (drop 3 (five_digits n) ++ rest) (digit (n / 100)) ∙ two (k * 10 + n / 100 % 10) ∙ omega arith

  four : (k : ℕ) → digits_read k (drop 1 (five_digits n) ++ rest) ≡ k * 10000 + n % 10000
  four k = more k (n / 1000 % 10) (drop 2 (five_digits n) ++ rest) (digit (n / 1000)) ∙ three (k * 10 + n / 1000 % 10) ∙ omega arith

  five : (k : ℕ) → digits_read k (five_digits n ++ rest) ≡ k * 100000 + n % 100000
  five k = more k (n / 10000 % 10) (drop 1 (five_digits n) ++ rest) (digit (n / 10000)) ∙ four (k * 10 + n / 10000 % 10) ∙ omega arith

  pub read_decimal : n < 100000 → digits_read 0 (decimal n ++ rest) ≡ n
  read_decimal h =
      by_width (λ (s : List ℕ). digits_read 0 (s ++ rest) ≡ n) n
      (λ b. one 0 ∙ omega arith)
      (λ a b. two 0 ∙ omega arith)
      (λ a b. three 0 ∙ omega arith)
      (λ a b. four 0 ∙ omega arith)
      (λ a. five 0 ∙ omega arith)

-- At the end of a line.
pub read_back : (n : ℕ) → n < 100000 → digits_read 0 (decimal n ++ newline) ≡ n
read_back n = read_decimal n newline (λ k. refl)

-- A decimal tells numbers apart.
pub decimal_one : (m n : ℕ) → m < 100000 → n < 100000 → decimal m ≡ decimal n → m ≡ n
decimal_one m n hm hn e =
    sym (read_decimal m [] (λ k. refl) hm) ∙ ap (λ (s : List ℕ). digits_read 0 (s ++ [])) e ∙ read_decimal n [] (λ k. refl) hn

-- ---- a digit for each unit that a number reaches

-- The digit of a unit, if the number reaches it.
unfoldable pub reached : ℕ → ℕ → List ℕ
reached n unit = cond (leb unit n) ((48 + n / unit % 10) ∷ []) []

-- Those of the first units of a row.
unfoldable pub front : ℕ → List ℕ → List ℕ
front n [] = []
front n (unit ∷ units) = reached n unit ++ front n units

abbrev pub units : List ℕ
units = 10000 ∷ 1000 ∷ 100 ∷ 10 ∷ []

pub front_more
    : (n : ℕ) (us : List ℕ) (i : ℕ) → i < length us → front n (take (suc i) us) ≡ front n (take i us) ++ reached n (get_or us i 0)
unfolding front
front_more n [] i h = absurd (omega arith)
front_more n (u ∷ us) zero h = append-nil (reached n u)
front_more n (u ∷ us) (suc i) h =
    ap (◌++◌ (reached n u)) (front_more n us i (omega arith))
    ∙ sym (append_assoc (reached n u) (front n (take i us)) (reached n (get_or us i 0)))

pub is_reached : (n unit digit : ℕ) → unit ≤ n → digit ≡ 48 + n / unit % 10 → reached n unit ≡ digit ∷ []
unfolding reached
is_reached n unit digit h e = rw (le-leb unit n h, e)

pub not_reached : (n unit : ℕ) → n < unit → reached n unit ≡ []
unfolding reached
not_reached n unit h = rw (lt-leb unit n h)

pub front_all : (n : ℕ) → front n units ++ (48 + n % 10) ∷ [] ≡ decimal n
unfolding front reached
front_all n =
    by_width (λ (s : List ℕ). front n units ++ (48 + n % 10) ∷ [] ≡ s) n
    (λ b. rw (lt-leb 10000 n (omega arith), lt-leb 1000 n (omega arith), lt-leb 100 n (omega arith), lt-leb 10 n (omega arith)))
    (λ a b. rw (lt-leb 10000 n (omega arith), lt-leb 1000 n (omega arith), lt-leb 100 n (omega arith), le-leb 10 n (omega arith)))
    (λ a b. rw (lt-leb 10000 n (omega arith), lt-leb 1000 n (omega arith), le-leb 100 n (omega arith), le-leb 10 n (omega arith)))
    (λ a b. rw (lt-leb 10000 n (omega arith), le-leb 1000 n (omega arith), le-leb 100 n (omega arith), le-leb 10 n (omega arith)))
    (λ a. rw (le-leb 10000 n (omega arith), le-leb 1000 n (omega arith), le-leb 100 n (omega arith), le-leb 10 n (omega arith)))
