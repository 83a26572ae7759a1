-- The bytes of a table's words.
use Prim.Native.Nat.{ℕ, ◌+◌, ◌-◌, ◌<◌, ◌≤◌}
use mathlib.Core.Path.{◌≡◌}
use mathlib.Core.Logic.{inl, inr}
use mathlib.Core.Bool.{Bool, true, false, not, ◌&&◌, false≢true}
use mathlib.Core.List.{List, [], ◌∷◌, cons≢nil}
use native.Mathlib.Omega.{arith}
use borrow.Author.Tests.{not-true}
use Rattle.basis.specs.Tests.{all_below}
use Rattle.basis.proofs.Tests.{and_left, and_right, below}
use Rattle.grammar.specs.Numeral.{Digits}
use Rattle.grammar.specs.Table.{Tail, nothing, numeral, Row, row, Said, TailSays, RowSays, Choice}
use Rattle.grammar.proofs.Join.{Within, nil, inside, Outside}

-- Every digit is in the set; every byte of the words and, if a row ends in a numeral, every digit.
abbrev digits_within : (ℕ → Bool) → Bool
digits_within D = all_below (λ (k : ℕ). D (48 + k)) 10

abbrev tail_within : (ℕ → Bool) → Tail → Bool
tail_within D nothing = true
tail_within D (numeral max wanted) = digits_within D

abbrev word_within : (ℕ → Bool) → List ℕ → Bool
word_within D [] = true
word_within D (c ∷ cs) = D c && word_within D cs

unfoldable pub rows_within : (ℕ → Bool) → List Row → Bool
rows_within D [] = true
rows_within D (row cs f t ∷ rows) = word_within D cs && tail_within D t && rows_within D rows

digit_within : (D : ℕ → Bool) → digits_within D ≡ true → (b : ℕ) → 48 ≤ b → b < 58 → D b ≡ true
digit_within D e b h k =
    let same : 48 + (b - 48) ≡ b = omega arith in
    rw same at (below (λ (i : ℕ). D (48 + i)) 10 e (b - 48) (omega arith))

digits_within_lem : (D : ℕ → Bool) → digits_within D ≡ true → (w : List ℕ) → Digits w → Within D w
digits_within_lem D h [] d = nil
digits_within_lem D h (b ∷ w) d = inside (digit_within D h b d.0 d.1) (digits_within_lem D h w d.2)

tail_within_lem : (D : ℕ → Bool) (t : Tail) → tail_within D t ≡ true → (w : List ℕ) (n : ℕ) → TailSays t w n → Within D w
tail_within_lem D nothing h [] n a = nil
tail_within_lem D nothing h (b ∷ w) n a = absurd (cons≢nil a.0)
tail_within_lem D (numeral max wanted) h w n a = digits_within_lem D h w a.digits

row_within
    : (D : ℕ → Bool) (cs : List ℕ) (f : ℕ) (t : Tail) → word_within D cs ≡ true → tail_within D t ≡ true
    → (w : List ℕ) (v : Said) → RowSays cs f t w v → Within D w
row_within D [] f t e h w v r = tail_within_lem D t h w v.number r.1
row_within D (c ∷ cs) f t e h [] v r = absurd r
row_within D (c ∷ cs) f t e h (b ∷ w) v r =
    inside {b = b} (rw r.0 (and_left (D c) (word_within D cs) e))
    (row_within D cs f t (and_right (D c) (word_within D cs) e) h w v r.1)

pub table_within
    : (D : ℕ → Bool) (rows : List Row) → rows_within D rows ≡ true → (w : List ℕ) (v : Said) → Choice rows w v → Within D w
unfolding rows_within
table_within D [] h w v c = absurd c
table_within D (row cs f t ∷ rows) h w v (inl r) =
    let both = and_left (word_within D cs && tail_within D t) (rows_within D rows) h in
    row_within D cs f t (and_left (word_within D cs) (tail_within D t) both) (and_right (word_within D cs) (tail_within D t) both) w v r
table_within D (row cs f t ∷ rows) h w v (inr c) =
    table_within D rows (and_right (word_within D cs && tail_within D t) (rows_within D rows) h) w v c

-- Every word of a table is empty or begins outside a set.
abbrev row_outside : (ℕ → Bool) → List ℕ → Tail → Bool
row_outside D (c ∷ cs) t = not (D c)
row_outside D [] nothing = true
row_outside D [] (numeral max wanted) = false

unfoldable pub rows_outside : (ℕ → Bool) → List Row → Bool
rows_outside D [] = true
rows_outside D (row cs f t ∷ rows) = row_outside D cs t && rows_outside D rows

row_outside_lem
    : (D : ℕ → Bool) (cs : List ℕ) (f : ℕ) (t : Tail) → row_outside D cs t ≡ true
    → (w : List ℕ) (v : Said) → RowSays cs f t w v → Outside D w
row_outside_lem D (c ∷ cs) f t e [] v r = tt
row_outside_lem D (c ∷ cs) f t e (b ∷ w) v r = rw r.0 (not-true (D c) e)
row_outside_lem D [] f nothing e w v r = rw r.1.0 tt
row_outside_lem D [] f (numeral max wanted) e w v r = absurd (false≢true e)

pub table_outside
    : (D : ℕ → Bool) (rows : List Row) → rows_outside D rows ≡ true → (w : List ℕ) (v : Said) → Choice rows w v → Outside D w
unfolding rows_outside
table_outside D [] h w v c = absurd c
table_outside D (row cs f t ∷ rows) h w v (inl r) = row_outside_lem D cs f t (and_left (row_outside D cs t) (rows_outside D rows) h) w v r
table_outside D (row cs f t ∷ rows) h w v (inr c) = table_outside D rows (and_right (row_outside D cs t) (rows_outside D rows) h) w v c
