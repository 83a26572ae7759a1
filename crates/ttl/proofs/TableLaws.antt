-- Laws of the table: each of its entries is what the rule says of that byte, and a reading is what class and guess say.
use mathlib.Core.Path.{◌≡◌, refl, ◌∙◌, ap}
use mathlib.Core.Bool.{Bool, true, false, cond}
use mathlib.Core.List.{List, []}
use Prim.Native.Nat.{ℕ, zero, suc, ◌+◌, ◌*◌, ◌/◌, ◌%◌, ◌<◌, ◌≤◌}
use native.Mathlib.Nat.{zero-add, add-zero, add-suc, suc-add}
use native.Mathlib.Omega.{arith}
use lib.Dec.{leb, eqb}
use lib.ListN.{get_or, length}
use borrow.Author.Tests.{eqb-true}
use Rattle.ttl.specs.declared.Ttl.{Ttl}
use Rattle.ttl.specs.declared.Ttl.TheVariants.{Value, Distance, Guess, Bad}
use Rattle.ttl.specs.declared.TtlEntry.{TtlEntry}
use Rattle.ttl.specs.declared.rows.TtlRow.{TtlRow}
use Rattle.ttl.specs.Table.{form_of, class_of, in_turn, row_of, each_byte, entry_at, entry_of}
use Rattle.ttl.specs.Rows.{both_rows, rows_at}
use Rattle.ttl.specs.Ttl.{guess_of, reading_of}

-- ---- an entry

entry_from : {A : Type 0} (rule : ℕ → A) (none : A) (from n k : ℕ) → k < n → get_or (in_turn rule from n) k none ≡ rule (from + k)
unfolding in_turn
entry_from rule none from zero k h = absurd (omega arith)
entry_from rule none from (suc n) zero h = rw (add-zero from)
entry_from rule none from (suc n) (suc k) h =
    rw (entry_from rule none (suc from) n k (omega arith), suc-add from k, ← add-suc from k)

pub row : (rule : ℕ → ℕ) (k : ℕ) → k < 32 → get_or (each_byte rule) k [] ≡ row_of rule k
unfolding each_byte
row rule k h = entry_from (row_of rule) [] 0 32 k h ∙ ap (row_of rule) (zero-add k)

pub in_row : (rule : ℕ → ℕ) (t : ℕ) → get_or (row_of rule (t / 8)) (t % 8) 0 ≡ rule t
unfolding row_of
in_row rule t = entry_from rule 0 (8 * (t / 8)) 8 (t % 8) (omega arith) ∙ ap rule (omega arith)

-- Of both rows.
pub in_rows
    : (t : ℕ) (rows : TtlRow)
    → rows ≡ both_rows (t / 8)
    → record { class = get_or rows.classes (t % 8) 0; guess = get_or rows.guesses (t % 8) 0 } ≡ entry_of t
unfolding both_rows entry_of
in_rows t rows said = rw (said, in_row class_of t, in_row guess_of t)

pub entry : (rule : ℕ → ℕ) (t : ℕ) → t < 256 → entry_at (each_byte rule) t ≡ rule t
entry rule t h = rw (row rule (t / 8) (omega arith)) (in_row rule t)

pub thirty_two : (rule : ℕ → ℕ) → length (each_byte rule) ≡ 32
unfolding each_byte in_turn
thirty_two rule = refl

pub eight : (rule : ℕ → ℕ) (k : ℕ) → length (row_of rule k) ≡ 8
unfolding row_of in_turn
eight rule k = refl

-- The row that an arm of the code picks out of both constants.
pub picked
    : (classes guesses : List (List ℕ)) (k row : ℕ) (r : TtlRow)
    → classes ≡ each_byte class_of
    → guesses ≡ each_byte guess_of
    → r ≡ rows_at classes guesses k
    → row ≡ k
    → k < 32
    → r ≡ both_rows row
unfolding both_rows
picked classes guesses k at r c g e same inside =
    rw (e, c, g, row class_of k inside, row guess_of k inside, same)

-- What the last arm of a `match` is told, of a number that is none of 0, 1, .. up to a bound; and that it is the bound at least.
unfoldable pub NoneBelow : ℕ → ℕ → Type 0
NoneBelow k zero = Unit
NoneBelow k (suc n) = NoneBelow k n × (k ≡ n → ⊥)

pub none_below : (k n : ℕ) → NoneBelow k n → n ≤ k
unfolding NoneBelow
none_below k zero h = omega arith
none_below k (suc n) h = let before = none_below k n h.0 in omega (arith, before, h.1)

-- ---- what is read off the table

-- Whatever reads the three classes as a record's codes gives the reading of a byte from its class and its guess.
pub by_class
    : (read : ℕ → ℕ → ℕ → Ttl)
    → ((t guess : ℕ) → read 0 t guess ≡ Value t)
    → ((t guess : ℕ) → read 1 t guess ≡ Distance t guess)
    → ((t guess : ℕ) → read 3 t guess ≡ Bad t)
    → (t : ℕ)
    → read (class_of t) t (guess_of t) ≡ reading_of t
unfolding reading_of class_of
by_class read value distance bad t = by_cases (eqb t 0) (leb (guess_of t) 30) (eqb-true t 0)
  where
    by_cases
        : (zero? near? : Bool)
        → (zero? ≡ true → t ≡ 0)
        → read (form_of (cond zero? (Bad 0) (cond near? (Distance t (guess_of t)) (Value t)))) t (guess_of t)
        ≡ cond zero? (Bad 0) (cond near? (Distance t (guess_of t)) (Value t))
    by_cases true near? e = bad t (guess_of t) ∙ ap Bad (e refl)
    by_cases false true e = distance t (guess_of t)
    by_cases false false e = value t (guess_of t)

-- As the code reads an entry.
unfoldable pub reading_by : ℕ → ℕ → ℕ → Ttl
reading_by class t guess =
    cond (eqb (class % 4) 0) (Value t) (cond (eqb (class % 4) 1) (Distance t guess) (cond (eqb (class % 4) 2) (Guess t) (Bad t)))

pub read_off : (t : ℕ) (e : TtlEntry) → e ≡ entry_of t → reading_by e.class t e.guess ≡ reading_of t
unfolding entry_of reading_by
read_off t e said = rw said (by_class reading_by (λ t guess. refl) (λ t guess. refl) (λ t guess. refl) t)
