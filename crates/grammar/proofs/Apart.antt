-- Rows of a table that are apart: one meaning for each word.
use Prim.Native.Nat.{ℕ}
use mathlib.Core.Path.{◌≡◌, sym, ◌∙◌}
use mathlib.Core.Logic.{inl, inr}
use mathlib.Core.Bool.{Bool, true, false, cond, not, ◌&&◌, false≢true}
use mathlib.Core.List.{List, [], ◌∷◌, cons≢nil}
use native.Mathlib.Omega.{arith}
use lib.Dec.{eqb, ltb, leb}
use borrow.Author.Tests.{eq-eqb, le-leb, lt-ltb}
use Rattle.basis.proofs.Tests.{and_left, and_right}
use Rattle.grammar.specs.Table.{Tail, nothing, numeral, Row, row, Said, said, TailSays, RowSays, Choice}
use Rattle.grammar.proofs.States.{Single}

-- Two rows have no word in common.
abbrev apart_tail : Tail → List ℕ → Bool
apart_tail nothing [] = false
apart_tail nothing (c ∷ cs) = true
apart_tail (numeral max wanted) [] = false
apart_tail (numeral max wanted) (c ∷ cs) = not (leb 48 c && ltb c 58)

abbrev apart : List ℕ → Tail → List ℕ → Tail → Bool
apart [] t ds u = apart_tail t ds
apart (c ∷ cs) t [] u = apart_tail u (c ∷ cs)
apart (c ∷ cs) t (d ∷ ds) u = cond (eqb c d) (apart cs t ds u) true

abbrev apart_from : List ℕ → Tail → List Row → Bool
apart_from cs t [] = true
apart_from cs t (row ds f u ∷ rows) = apart cs t ds u && apart_from cs t rows

unfoldable pub all_apart : List Row → Bool
all_apart [] = true
all_apart (row cs f t ∷ rows) = apart_from cs t rows && all_apart rows

tail_single : (t : Tail) → Single (TailSays t)
tail_single nothing w u v c d = c.1 ∙ sym d.1
tail_single (numeral max wanted) w u v c d = sym c.says ∙ d.says

same_said : (a b c d : ℕ) → a ≡ c → b ≡ d → said a b ≡ said c d
same_said a b c d p q = cc

row_single : (cs : List ℕ) (f : ℕ) (t : Tail) → Single (RowSays cs f t)
row_single [] f t w u v c d =
    same_said u.form u.number v.form v.number (c.0 ∙ sym d.0) (tail_single t w u.number v.number c.1 d.1)
row_single (c' ∷ cs) f t [] u v c d = absurd c
row_single (c' ∷ cs) f t (b ∷ w) u v c d = row_single cs f t w u v c.1 d.1

tail_Apart
    : (t : Tail) (cs : List ℕ) → apart_tail t cs ≡ true → (g : ℕ) (u : Tail) (w : List ℕ) (n : ℕ) (v : Said) → TailSays t w n
    → RowSays cs g u w v → ⊥
tail_Apart nothing [] e g u w n v a r = false≢true e
tail_Apart nothing (c ∷ cs) e g u [] n v a r = r
tail_Apart nothing (c ∷ cs) e g u (b ∷ w) n v a r = cons≢nil a.0
tail_Apart (numeral max wanted) [] e g u w n v a r = false≢true e
tail_Apart (numeral max wanted) (c ∷ cs) e g u [] n v a r = r
tail_Apart (numeral max wanted) (c ∷ cs) e g u (b ∷ w) n v a r =
    let d = a.digits in
    let l : leb 48 c ≡ true = le-leb 48 c (omega (arith, d.0, r.0)) in
    let h : ltb c 58 ≡ true = lt-ltb c 58 (omega (arith, d.1, r.0)) in
    false≢true (sym (rw (l, h)) ∙ e)

rows_apart : (cs : List ℕ) (t : Tail) (ds : List ℕ) (u : Tail) → apart cs t ds u ≡ true → (f g : ℕ) (w : List ℕ) (a b : Said)
    → RowSays cs f t w a → RowSays ds g u w b → ⊥
rows_apart [] t ds u e f g w a b x y = tail_Apart t ds e g u w a.number b x.1 y
rows_apart (c ∷ cs) t [] u e f g w a b x y = tail_Apart u (c ∷ cs) e f t w b.number a y.1 x
rows_apart (c ∷ cs) t (d ∷ ds) u e f g [] a b x y = x
rows_apart (c ∷ cs) t (d ∷ ds) u e f g (k ∷ w) a b x y =
    let q : eqb c d ≡ true = eq-eqb c d (sym x.0 ∙ y.0) in
    rows_apart cs t ds u (rw q at e) f g w a b x.1 y.1

row_apart : (cs : List ℕ) (t : Tail) (rows : List Row) → apart_from cs t rows ≡ true → (f : ℕ) (w : List ℕ) (a b : Said)
    → RowSays cs f t w a → Choice rows w b → ⊥
row_apart cs t [] e f w a b x y = y
row_apart cs t (row ds g u ∷ rows) e f w a b x (inl y) =
    rows_apart cs t ds u (and_left (apart cs t ds u) (apart_from cs t rows) e) f g w a b x y
row_apart cs t (row ds g u ∷ rows) e f w a b x (inr y) =
    row_apart cs t rows (and_right (apart cs t ds u) (apart_from cs t rows) e) f w a b x y

pub apart_single : (rows : List Row) → all_apart rows ≡ true → Single (Choice rows)
unfolding all_apart
apart_single [] e w u v c d = absurd c
apart_single (row cs f t ∷ rows) e w u v (inl c) (inl d) = row_single cs f t w u v c d
apart_single (row cs f t ∷ rows) e w u v (inl c) (inr d) =
    absurd (row_apart cs t rows (and_left (apart_from cs t rows) (all_apart rows) e) f w u v c d)
apart_single (row cs f t ∷ rows) e w u v (inr c) (inl d) =
    absurd (row_apart cs t rows (and_left (apart_from cs t rows) (all_apart rows) e) f w v u d c)
apart_single (row cs f t ∷ rows) e w u v (inr c) (inr d) =
    apart_single rows (and_right (apart_from cs t rows) (all_apart rows) e) w u v c d
