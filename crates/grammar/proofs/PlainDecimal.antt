-- A numeral without a leading zero is the decimal of its number.
use Prim.Native.Nat.{ℕ, ◌+◌, ◌*◌, ◌-◌, ◌/◌, ◌%◌, ◌<◌, ◌≤◌}
use mathlib.Core.Path.{◌≡◌, refl, sym, ◌∙◌}
use mathlib.Core.Bool.{Bool, true, false, not, ◌&&◌, ◌||◌, false≢true}
use mathlib.Core.List.{List, [], ◌∷◌, ◌++◌}
use native.Mathlib.Omega.{arith}
use native.Mathlib.Decide.{ℕ_discrete}
use lib.Dec.{eqb}
use lib.ListN.{length}
use borrow.Author.Tests.{lt-ltb, le-ltb, le-leb, eq-eqb}
use Rattle.basis.proofs.Tests.{and_left, and_right}
use Rattle.text.specs.Decimal.{width, decimal}
use Rattle.grammar.specs.LeadingZero.{is_digit, begins_with_digit, plain_behind}
use Rattle.grammar.specs.Numeral.{Digits, decimal_value}
use Rattle.grammar.proofs.LeadingZero.{ends}

-- ---- parts of a text without a leading zero

shorter : (b : ℕ) (a s : List ℕ) (k : Bool) → k || not (eqb b 48 && begins_with_digit (a ++ s)) ≡ true
    → k || not (eqb b 48 && begins_with_digit a) ≡ true
shorter b [] s true e = refl
shorter b [] s false e = by (eqb b 48)
  where
    by : (t : Bool) → not (t && false) ≡ true
    by true = refl
    by false = refl
shorter b (c ∷ a) s k e = e

pub plain_left : (k : Bool) (a s : List ℕ) → plain_behind k (a ++ s) ≡ true → plain_behind k a ≡ true
unfolding plain_behind
plain_left k [] s e = refl
plain_left k (b ∷ a) s e =
    rw (shorter b a s k (and_left _ (plain_behind (is_digit b) (a ++ s)) e))
    (plain_left (is_digit b) a s (and_right (k || not (eqb b 48 && begins_with_digit (a ++ s))) _ e))

pub plain_right : (k : Bool) (a s : List ℕ) → plain_behind k (a ++ s) ≡ true → plain_behind (ends k a) s ≡ true
unfolding plain_behind
plain_right k [] s e = e
plain_right k (b ∷ a) s e =
    plain_right (is_digit b) a s (and_right (k || not (eqb b 48 && begins_with_digit (a ++ s))) _ e)

-- ---- as many digits as a number has

value_grows : (k : ℕ) (w : List ℕ) → k ≤ decimal_value k w
value_grows k [] = omega arith
value_grows k (b ∷ w) = omega (arith, value_grows (k * 10 + (b - 48)) w)

six : (k f : ℕ) (w : List ℕ) → 10000 ≤ k → 100000 ≤ decimal_value k (f ∷ w)
six k f w h = omega (arith, value_grows (k * 10 + (f - 48)) w)

-- Behind a first digit that is not 0 there are digits.
some_first : (b c : ℕ) (w : List ℕ) → plain_behind false (b ∷ c ∷ w) ≡ true → 48 ≤ b → 48 ≤ c → c < 58 → 48 < b
unfolding plain_behind
some_first b c w e l m h = by (ℕ_discrete b 48)
  where
    by : Dec (b ≡ 48) → 48 < b
    by (yes same) =
        let d : is_digit c ≡ true = rw (le-leb 48 c m, lt-ltb c 58 h) in
        let z : not (eqb b 48 && is_digit c) ≡ false = rw (eq-eqb b 48 same, d) in
        absurd (false≢true (sym z ∙ and_left (not (eqb b 48 && is_digit c)) _ e))
    by (no other) = omega arith

module _ (n : ℕ) where
  one : (e : ℕ) → n < 10 → e ≡ 48 + n % 10 → e ∷ [] ≡ decimal n
  unfolding decimal width
  one e h e-is = rw (lt-ltb n 10 h, e-is)

  two : (d e : ℕ) → 10 ≤ n → n < 100 → d ≡ 48 + n / 10 % 10 → e ≡ 48 + n % 10 → d ∷ e ∷ [] ≡ decimal n
  unfolding decimal width
  two d e l h d-is e-is = rw (le-ltb n 10 l, lt-ltb n 100 h, d-is, e-is)

  three : (c d e : ℕ) → 100 ≤ n → n < 1000 → c ≡ 48 + n / 100 % 10 → d ≡ 48 + n / 10 % 10 → e ≡ 48 + n % 10
      → c ∷ d ∷ e ∷ [] ≡ decimal n
  unfolding decimal width
  three c d e l h c-is d-is e-is = rw (le-ltb n 10 (omega arith), le-ltb n 100 l, lt-ltb n 1000 h, c-is, d-is, e-is)

  four : (b c d e : ℕ) → 1000 ≤ n → n < 10000 → b ≡ 48 + n / 1000 % 10 → c ≡ 48 + n / 100 % 10 → d ≡ 48 + n / 10 % 10
      → e ≡ 48 + n % 10 → b ∷ c ∷ d ∷ e ∷ [] ≡ decimal n
  unfolding decimal width
  four b c d e l h b-is c-is d-is e-is =
      rw (le-ltb n 10 (omega arith), le-ltb n 100 (omega arith), le-ltb n 1000 l, lt-ltb n 10000 h, b-is, c-is, d-is, e-is)

  five : (a b c d e : ℕ) → 10000 ≤ n → a ≡ 48 + n / 10000 % 10 → b ≡ 48 + n / 1000 % 10 → c ≡ 48 + n / 100 % 10
      → d ≡ 48 + n / 10 % 10 → e ≡ 48 + n % 10 → a ∷ b ∷ c ∷ d ∷ e ∷ [] ≡ decimal n
  unfolding decimal width
  five a b c d e l a-is b-is c-is d-is e-is =
      rw (
        le-ltb n 10 (omega arith),
        le-ltb n 100 (omega arith),
        le-ltb n 1000 (omega arith),
        le-ltb n 10000 l,
        a-is,
        b-is,
        c-is,
        d-is,
        e-is,
      )

  pub plain_decimal : (w : List ℕ) → 0 < length w → Digits w → decimal_value 0 w ≡ n → n < 100000 → plain_behind false w ≡ true
      → w ≡ decimal n
  plain_decimal [] some ds v h p = absurd (omega arith)
  plain_decimal (a ∷ []) some ds v h p = one a (omega (arith, ds.1, v)) (omega (arith, ds.0, ds.1, v))
  plain_decimal (a ∷ b ∷ []) some (la, ha, (lb, hb, ds)) v h p =
      let first = some_first a b [] p la lb hb in
      two a b (omega arith) (omega arith) (omega arith) (omega arith)
  plain_decimal (a ∷ b ∷ c ∷ []) some (la, ha, (lb, hb, (lc, hc, ds))) v h p =
      let first = some_first a b _ p la lb hb in
      three a b c (omega arith) (omega arith) (omega arith) (omega arith) (omega arith)
  plain_decimal (a ∷ b ∷ c ∷ d ∷ []) some (la, ha, (lb, hb, (lc, hc, (ld, hd, ds)))) v h p =
      let first = some_first a b _ p la lb hb in
      four a b c d (omega arith) (omega arith) (omega arith) (omega arith) (omega arith) (omega arith)
  plain_decimal (a ∷ b ∷ c ∷ d ∷ e ∷ []) some (la, ha, (lb, hb, (lc, hc, (ld, hd, (le, he, ds))))) v h p =
      let first = some_first a b _ p la lb hb in
      five a b c d e (omega arith) (omega arith) (omega arith) (omega arith) (omega arith) (omega arith)
  plain_decimal (a ∷ b ∷ c ∷ d ∷ e ∷ f ∷ w) some (la, ha, (lb, hb, ds)) v h p =
      let first = some_first a b _ p la lb hb in
      absurd (omega (arith, six (decimal_value 0 (a ∷ b ∷ c ∷ d ∷ e ∷ [])) f w (omega arith)))
