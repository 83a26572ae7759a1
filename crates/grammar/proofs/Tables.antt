-- A table is read exactly, if its rows are apart; what holds of every row's meaning.
use Prim.Native.Nat.{ℕ, suc, ◌≤◌}
use mathlib.Core.Path.{◌≡◌, sym, ◌∙◌}
use mathlib.Core.Logic.{◌↔◌, inl, inr, ⊎_elim}
use mathlib.Core.Bool.{Bool, true, false, cond, false≢true}
use mathlib.Core.List.{List, [], ◌∷◌}
use native.Mathlib.Omega.{arith}
use lib.ListN.{length}
use Rattle.grammar.specs.States.{Awaited, start, after, is_nil, run, done, states_read, table_read}
use Rattle.grammar.specs.Table.{Tail, nothing, numeral, Row, row, Said, TailSays, RowSays, Choice}
use Rattle.grammar.proofs.Apart.{all_apart, apart_single}
use Rattle.grammar.proofs.Exact.{alike}
use Rattle.grammar.proofs.Reading.{Field}
use Rattle.grammar.proofs.States.{AnyOf, AllLive, NumbersLive, Single, states_exact, any_goes, done_found}

-- ---- the whole table

start_same : (rows : List Row) (w : List ℕ) (v : Said) → AnyOf (start rows) w v ↔ Choice rows w v
start_same [] w v = (λ c. c, λ c. c)
start_same (row cs f t ∷ rows) w v =
    let ih = start_same rows w v in
    (λ c. ⊎_elim (λ r. inl r) (λ d. inr (ih.0 d)) c, λ c. ⊎_elim (λ r. inl r) (λ d. inr (ih.1 d)) c)

-- Every numeral of a table goes on.
abbrev pub RowsLive : List Row → Type 0
RowsLive [] = Unit
RowsLive (row cs f nothing ∷ rows) = RowsLive rows
RowsLive (row cs f (numeral max wanted) ∷ rows) = NumbersLive max wanted × RowsLive rows

start_lives : (rows : List Row) → RowsLive rows → AllLive (start rows)
start_lives [] l = tt
start_lives (row cs f nothing ∷ rows) l = (tt, start_lives rows l)
start_lives (row cs f (numeral max wanted) ∷ rows) l = (l.0, start_lives rows l.1)

run_within : (states : List Awaited) (s : List ℕ) → run states s ≤ length s
unfolding run
run_within states [] = omega arith
run_within states (b ∷ bs) = by (is_nil (after b states)) (run_within (after b states) bs)
  where
    by : (k : Bool) → run (after b states) bs ≤ length bs → cond k 0 (suc (run (after b states) bs)) ≤ suc (length bs)
    by true h = omega arith
    by false h = omega arith

pub table_field
    : (rows : List Row) → RowsLive rows → is_nil (start rows) ≡ false → all_apart rows ≡ true → Field (Choice rows) (table_read rows)
unfolding states_read
table_field rows l e a =
    let lives = start_lives rows l in
    let goes = any_goes (start rows) lives e in
    let single : Single (AnyOf (start rows)) =
    λ w u v c d. apart_single rows a w u v ((start_same rows w u).0 c) ((start_same rows w v).0 d) in
    record {
      goes = record { tail = goes.tail; meaning = goes.meaning; derives = (start_same rows _ _).0 goes.derives };
      reads = λ s.
          record {
            within = run_within (start rows) s;
            exact = alike _ _ (start_same rows) (states_exact (start rows) lives e single s);
          };
    }

-- No word of a table is empty.
pub table_empty : (rows : List Row) → (done (start rows)).good ≡ false → (v : Said) → Choice rows [] v → ⊥
table_empty rows e v c = false≢true (sym e ∙ done_found (start rows) v ((start_same rows [] v).1 c))

-- ---- what holds of every row's meaning

-- Of a form and a number: of every row's form, with 0 or with every number that its numeral may say.
abbrev TailHolds : (ℕ → ℕ → Type 0) → ℕ → Tail → Type 0
TailHolds P f nothing = P f 0
TailHolds P f (numeral max wanted) = (n : ℕ) → n ≤ max → wanted n ≡ true → P f n

abbrev pub RowsHold : (ℕ → ℕ → Type 0) → List Row → Type 0
RowsHold P [] = Unit
RowsHold P (row cs f t ∷ rows) = TailHolds P f t × RowsHold P rows

tail_holds : (P : ℕ → ℕ → Type 0) (f : ℕ) (t : Tail) → TailHolds P f t → (w : List ℕ) (n : ℕ) → TailSays t w n → P f n
tail_holds P f nothing h w n a = rw a.1 h
tail_holds P f (numeral max wanted) h w n a = h n a.small a.meant

row_holds : (P : ℕ → ℕ → Type 0) (cs : List ℕ) (f : ℕ) (t : Tail) → TailHolds P f t → (w : List ℕ) (v : Said) → RowSays cs f t w v
    → P v.form v.number
row_holds P [] f t h w v r = rw r.0 (tail_holds P f t h w v.number r.1)
row_holds P (c ∷ cs) f t h [] v r = absurd r
row_holds P (c ∷ cs) f t h (b ∷ w) v r = row_holds P cs f t h w v r.1

pub table_holds : (P : ℕ → ℕ → Type 0) (rows : List Row) → RowsHold P rows → (w : List ℕ) (v : Said) → Choice rows w v
    → P v.form v.number
table_holds P [] h w v c = absurd c
table_holds P (row cs f t ∷ rows) h w v (inl r) = row_holds P cs f t h.0 w v r
table_holds P (row cs f t ∷ rows) h w v (inr c) = table_holds P rows h.1 w v c
