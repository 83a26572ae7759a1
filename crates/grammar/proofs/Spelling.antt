-- The word that a table has for a meaning says it, and is not too long.
use Prim.Native.Nat.{ℕ, ◌+◌, ◌*◌, ◌-◌, ◌/◌, ◌%◌, ◌<◌, ◌≤◌}
use mathlib.Core.Path.{◌≡◌, refl, sym, ◌∙◌}
use mathlib.Core.Logic.{inl, inr}
use mathlib.Core.Bool.{Bool, true, false, cond, ◌&&◌}
use mathlib.Core.List.{List, [], ◌∷◌, ◌++◌}
use native.Mathlib.Omega.{arith}
use lib.Dec.{eqb, leb, ltb}
use lib.ListN.{length, length-append}
use borrow.Author.Tests.{eqb-true, leb-true, ltb-true, le-leb}
use Rattle.basis.proofs.Tests.{and_left, and_right}
use Rattle.text.specs.Decimal.{decimal}
use Rattle.text.proofs.Decimal.{by_width, decimal_length, decimal_short, digits_read, read_decimal}
use Rattle.grammar.specs.Numeral.{Digits, decimal_value}
use Rattle.grammar.specs.Spelling.{tail_text, spelt}
use Rattle.grammar.specs.Table.{Tail, nothing, numeral, Row, row, Said, TailSays, RowSays, Choice}

-- ---- numbers

pub decimal_digits : (n : ℕ) → Digits (decimal n)
decimal_digits n =
    let last : Digits ((48 + n / 10 % 10) ∷ (48 + n % 10) ∷ []) = (omega arith, omega arith, (omega arith, omega arith, tt)) in
    by_width Digits n
    (λ b. last.2)
    (λ a b. last)
    (λ a b. (omega arith, omega arith, last))
    (λ a b. (omega arith, omega arith, (omega arith, omega arith, last)))
    (λ a. (omega arith, omega arith, (omega arith, omega arith, (omega arith, omega arith, last))))

pub decimal_some : (n : ℕ) → 0 < length (decimal n)
decimal_some n =
    by_width (λ (s : List ℕ). 0 < length s) n
    (λ b. omega arith)
    (λ a b. omega arith)
    (λ a b. omega arith)
    (λ a b. omega arith)
    (λ a. omega arith)

digits_value : (k : ℕ) (w : List ℕ) → Digits w → digits_read k (w ++ []) ≡ decimal_value k w
digits_value k [] d = refl
digits_value k (b ∷ w) d = rw (le-leb 48 b d.0, le-leb b 57 (omega (arith, d.1))) (digits_value (k * 10 + (b - 48)) w d.2)

pub decimal_value_lem : (n : ℕ) → n < 100000 → decimal_value 0 (decimal n) ≡ n
decimal_value_lem n h = sym (digits_value 0 (decimal n) (decimal_digits n)) ∙ read_decimal n [] (λ k. refl) h

-- ---- meanings that a table has

-- A number of a tail.
abbrev pub TailFits : Tail → ℕ → Type 0
TailFits nothing n = n ≡ 0
TailFits (numeral max wanted) n = (n ≤ max) × (n < 100000) × (wanted n ≡ true)

abbrev pub Either : Bool → Type 0 → Type 0 → Type 0
Either true here later = here
Either false here later = later

-- The first row of the form has the number.
abbrev pub Fits : List Row → Said → Type 0
Fits [] v = ⊥
Fits (row cs f t ∷ rows) v = Either (eqb f v.form) (TailFits t v.number) (Fits rows v)

tail_says : (t : Tail) (n : ℕ) → TailFits t n → TailSays t (tail_text t n) n
tail_says nothing n h = (refl, h)
tail_says (numeral max wanted) n h =
    record {
      some = decimal_some n;
      digits = decimal_digits n;
      says = decimal_value_lem n h.1;
      small = h.0;
      meant = h.2;
    }

row_says : (cs : List ℕ) (f : ℕ) (t : Tail) (w : List ℕ) (v : Said) → v.form ≡ f → TailSays t w v.number → RowSays cs f t (cs ++ w) v
row_says [] f t w v e h = (e, h)
row_says (c ∷ cs) f t w v e h = (refl, row_says cs f t w v e h)

pub spelt_says : (rows : List Row) (v : Said) → Fits rows v → Choice rows (spelt rows v) v
unfolding spelt
spelt_says [] v h = absurd h
spelt_says (row cs f t ∷ rows) v h = by (eqb f v.form) refl (spelt_says rows v) h
  where
    by
        : (same : Bool) → eqb f v.form ≡ same → (Fits rows v → Choice rows (spelt rows v) v)
        → Either same (TailFits t v.number) (Fits rows v)
        → Choice (row cs f t ∷ rows) (cond same (cs ++ tail_text t v.number) (spelt rows v)) v
    by true e later fits = inl (row_says cs f t (tail_text t v.number) v (sym (eqb-true f v.form e)) (tail_says t v.number fits))
    by false e later fits = inr (later fits)

-- ---- how long they are

-- A number of at most 999 has at most three digits, and none has more than five.
abbrev tail_most : Tail → ℕ
tail_most nothing = 0
tail_most (numeral max wanted) = cond (ltb max 1000) 3 5

-- Every row's word, with what stands after it, has at most so many bytes.
unfoldable pub rows_short : ℕ → List Row → Bool
rows_short most [] = true
rows_short most (row cs f t ∷ rows) = leb (length cs + tail_most t) most && rows_short most rows

tail_short : (t : Tail) (n : ℕ) → TailFits t n → length (tail_text t n) ≤ tail_most t
tail_short nothing n h = omega arith
tail_short (numeral max wanted) n h = by (ltb max 1000) refl
  where
    by : (few : Bool) → ltb max 1000 ≡ few → length (decimal n) ≤ cond few 3 5
    by true e = decimal_short n (omega (arith, ltb-true max 1000 e, h.0))
    by false e = decimal_length n

pub spelt_short : (most : ℕ) (rows : List Row) → rows_short most rows ≡ true → (v : Said) → Fits rows v → length (spelt rows v) ≤ most
unfolding spelt rows_short
spelt_short most [] s v h = absurd h
spelt_short most (row cs f t ∷ rows) s v h =
    by (eqb f v.form) (spelt_short most rows (and_right (leb (length cs + tail_most t) most) (rows_short most rows) s) v) h
  where
    by
        : (same : Bool) → (Fits rows v → length (spelt rows v) ≤ most) → Either same (TailFits t v.number) (Fits rows v)
        → length (cond same (cs ++ tail_text t v.number) (spelt rows v)) ≤ most
    by true later fits =
        let here = leb-true (length cs + tail_most t) most (and_left (leb (length cs + tail_most t) most) (rows_short most rows) s) in
        simp length-append (omega (arith, tail_short t v.number fits))
    by false later fits = later fits
