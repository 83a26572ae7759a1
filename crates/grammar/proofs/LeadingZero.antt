-- Texts put together have no leading zero; nor have decimals and a table's words.
use Prim.Native.Nat.{ℕ, zero, suc, ◌<◌, ◌≤◌}
use mathlib.Core.Path.{◌≡◌, refl, sym}
use mathlib.Core.Bool.{Bool, true, false, cond, not, ◌&&◌, ◌||◌, false≢true}
use mathlib.Core.List.{List, [], ◌∷◌, ◌++◌}
use native.Mathlib.Omega.{arith}
use lib.Dec.{eqb}
use borrow.Author.Tests.{eqb-true, ne_eqb, le-leb, lt-ltb, not-true}
use Rattle.basis.specs.Bytes.{byte_at}
use Rattle.basis.proofs.Tests.{and_left, and_right, and_false}
use Rattle.text.specs.Decimal.{width, decimal}
use Rattle.text.proofs.Decimal.{no_leading_zero_lem}
use Rattle.grammar.specs.LeadingZero.{is_digit, begins_with_digit, plain_behind, no_leading_zero}
use Rattle.grammar.specs.Numeral.{Digits}
use Rattle.grammar.specs.Spelling.{tail_text, spelt}
use Rattle.grammar.specs.Table.{Tail, nothing, numeral, Row, row, Said}
use Rattle.grammar.proofs.Spelling.{decimal_digits, TailFits, Either, Fits}

-- ---- texts put together

-- Whether what follows a text stands behind a digit.
abbrev pub ends : Bool → List ℕ → Bool
ends digit [] = digit
ends digit (b ∷ s) = ends (is_digit b) s

-- A byte that may stand before a text without being a leading zero.
first_plain
    : (digit : Bool) (b : ℕ) (a t : List ℕ) → digit || not (eqb b 48 && begins_with_digit a) ≡ true
    → begins_with_digit t && ends (is_digit b) a ≡ false
    → digit || not (eqb b 48 && begins_with_digit (a ++ t)) ≡ true
first_plain digit b (c ∷ a) t h e = h
first_plain true b [] t h e = refl
first_plain false b [] t h e = by (eqb b 48) refl (begins_with_digit t) refl
  where
    by : (zero : Bool) → eqb b 48 ≡ zero → (d : Bool) → begins_with_digit t ≡ d → not (zero && d) ≡ true
    by false z d f = refl
    by true z false f = refl
    by true z true f = absurd (false≢true (sym (rw (f, eqb-true b 48 z) at e)))

pub append_plain
    : (digit : Bool) (a t : List ℕ) → plain_behind digit a ≡ true → plain_behind (ends digit a) t ≡ true
    → begins_with_digit t && ends digit a ≡ false
    → plain_behind digit (a ++ t) ≡ true
unfolding plain_behind
append_plain digit [] t h k e = k
append_plain digit (b ∷ a) t h k e =
    let here = and_left (digit || not (eqb b 48 && begins_with_digit a)) (plain_behind (is_digit b) a) h in
    let rest = and_right (digit || not (eqb b 48 && begins_with_digit a)) (plain_behind (is_digit b) a) h in
    rw (first_plain digit b a t here e) (append_plain (is_digit b) a t rest k e)

-- A text that begins with no digit may stand behind anything.
no_digit_first : (digit : Bool) (t : List ℕ) → begins_with_digit t ≡ false → no_leading_zero t ≡ true → plain_behind digit t ≡ true
unfolding plain_behind
no_digit_first digit [] e h = refl
no_digit_first true (b ∷ t) e h = and_right (not (eqb b 48 && begins_with_digit t)) (plain_behind (is_digit b) t) h
no_digit_first false (b ∷ t) e h = h

pub plain_before
    : (a t : List ℕ) → begins_with_digit t ≡ false → no_leading_zero a ≡ true → no_leading_zero t ≡ true → no_leading_zero (a ++ t) ≡ true
plain_before a t e h k = append_plain false a t h (no_digit_first (ends false a) t e k) (rw e)

-- A byte that is no digit, before a text.
pub plain_behind_lem : (c : ℕ) (t : List ℕ) → is_digit c ≡ false → no_leading_zero t ≡ true → no_leading_zero (c ∷ t) ≡ true
unfolding plain_behind
plain_behind_lem c t e h = rw (other (eqb c 48) refl, e) h
  where
    other : (z : Bool) → eqb c 48 ≡ z → z ≡ false
    other false z = refl
    other true z = absurd (false≢true (sym (rw (eqb-true c 48 z) at e)))

-- Two texts with such a byte between.
pub plain_between
    : (c : ℕ) (a t : List ℕ) → is_digit c ≡ false → no_leading_zero a ≡ true → no_leading_zero t ≡ true
    → no_leading_zero (a ++ c ∷ t) ≡ true
plain_between c a t e h k = plain_before a (c ∷ t) e h (plain_behind_lem c t e k)

-- ---- numbers

is_digit_lem : (b : ℕ) → 48 ≤ b → b < 58 → is_digit b ≡ true
is_digit_lem b h k = rw (le-leb 48 b h, lt-ltb b 58 k)

digits_plain : (w : List ℕ) → Digits w → plain_behind true w ≡ true
unfolding plain_behind
digits_plain [] d = refl
digits_plain (b ∷ w) d = rw (is_digit_lem b d.0 d.1) (digits_plain w d.2)

from_one : (w : List ℕ) → Digits w → 48 < byte_at w 0 → no_leading_zero w ≡ true
unfolding plain_behind
from_one [] d h = absurd (omega arith)
from_one (b ∷ w) d h =
    rw (ne_eqb b 48 (λ (e : b ≡ 48). omega arith), is_digit_lem b d.0 d.1) (digits_plain w d.2)

pub decimal_plain : (n : ℕ) → n < 100000 → no_leading_zero (decimal n) ≡ true
unfolding decimal width plain_behind
decimal_plain zero h = refl
decimal_plain (suc n) h = from_one (decimal (suc n)) (decimal_digits (suc n)) (no_leading_zero_lem (suc n) (omega arith) h)

-- ---- a table's words

-- A word without a leading zero, which ends in no digit if a number follows.
abbrev tail_behind : Bool → Tail → Bool
tail_behind digit nothing = true
tail_behind digit (numeral max wanted) = not digit

unfoldable pub rows_plain : List Row → Bool
rows_plain [] = true
rows_plain (row cs f t ∷ rows) = no_leading_zero cs && tail_behind (ends false cs) t && rows_plain rows

tail_plain
    : (cs : List ℕ) (t : Tail) (n : ℕ) → no_leading_zero cs ≡ true → tail_behind (ends false cs) t ≡ true → TailFits t n
    → no_leading_zero (cs ++ tail_text t n) ≡ true
unfolding plain_behind
tail_plain cs nothing n p b h = append_plain false cs [] p refl refl
tail_plain cs (numeral max wanted) n p b h =
    let no : ends false cs ≡ false = not-true (ends false cs) b in
    append_plain false cs (decimal n) p (rw no (decimal_plain n h.1)) (rw no (and_false (begins_with_digit (decimal n))))

pub spelt_plain : (rows : List Row) → rows_plain rows ≡ true → (v : Said) → Fits rows v → no_leading_zero (spelt rows v) ≡ true
unfolding spelt rows_plain
spelt_plain [] p v h = absurd h
spelt_plain (row cs f t ∷ rows) p v h =
    let word = no_leading_zero cs in
    let tail = tail_behind (ends false cs) t in
    let here = and_left (word && tail) (rows_plain rows) p in
    by (eqb f v.form) (and_left word tail here) (and_right word tail here)
    (spelt_plain rows (and_right (word && tail) (rows_plain rows) p) v) h
  where
    by
        : (same : Bool) → no_leading_zero cs ≡ true → tail_behind (ends false cs) t ≡ true
        → (Fits rows v → no_leading_zero (spelt rows v) ≡ true)
        → Either same (TailFits t v.number) (Fits rows v)
        → no_leading_zero (cond same (cs ++ tail_text t v.number) (spelt rows v)) ≡ true
    by true word tail later fits = tail_plain cs t v.number word tail fits
    by false word tail later fits = later fits
