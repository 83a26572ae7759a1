-- A word in which no number has a leading zero is what is written of its meaning: of a table, of words put together, of rows.
use Prim.Native.Nat.{ℕ, zero, suc}
use mathlib.Core.Path.{◌≡◌, refl, sym}
use mathlib.Core.Logic.{inl, inr}
use mathlib.Core.Bool.{Bool, true, false, not, ◌&&◌, false≢true}
use mathlib.Core.List.{List, [], ◌∷◌, ◌++◌}
use native.Mathlib.Omega.{arith}
use lib.Dec.{eqb, ltb}
use borrow.Author.Tests.{ltb-true, eq-eqb}
use Rattle.basis.proofs.Tests.{and_left, and_right}
use Rattle.grammar.specs.Language.{Join, Behind, Then, Optional, More, Listed, AnyMore, AnyListed}
use Rattle.grammar.specs.LeadingZero.{is_digit, plain_behind}
use Rattle.grammar.specs.Spelling.{tail_text, spelt, more_text, listed_text}
use Rattle.grammar.specs.Table.{Tail, nothing, numeral, Row, row, Said, TailSays, RowSays, Choice}
use Rattle.grammar.proofs.LeadingZero.{ends}
use Rattle.grammar.proofs.PlainDecimal.{plain_left, plain_right, plain_decimal}

-- Of every word that stands behind a digit, or behind none; and of every word wherever it stands.
abbrev pub Back : {A : Type 0} → Bool → (List ℕ → A → Type 0) → (A → List ℕ) → Type 0
Back {A} k L text = (w : List ℕ) (v : A) → L w v → plain_behind k w ≡ true → text v ≡ w

abbrev pub Anywhere : {A : Type 0} → (List ℕ → A → Type 0) → (A → List ℕ) → Type 0
Anywhere L text = (k : Bool) → Back k L text

-- ---- a table

-- No numeral begins behind a digit, each says a number of at most five digits, and no two rows have the same form.
abbrev tail_apart : Bool → Tail → Bool
tail_apart k nothing = true
tail_apart k (numeral max wanted) = not k && ltb max 100000

abbrev other_forms : ℕ → List Row → Bool
other_forms f [] = true
other_forms f (row cs g t ∷ rows) = not (eqb f g) && other_forms f rows

unfoldable pub forms_apart : Bool → List Row → Bool
forms_apart k [] = true
forms_apart k (row cs f t ∷ rows) = tail_apart (ends k cs) t && (other_forms f rows && forms_apart k rows)

tail_back : (k : Bool) (t : Tail) → tail_apart k t ≡ true → Back k (TailSays t) (tail_text t)
tail_back k nothing a w n s p = sym s.0
tail_back true (numeral max wanted) a w n s p = absurd (false≢true a)
tail_back false (numeral max wanted) a w n s p =
    sym (plain_decimal n w s.some s.digits s.says (omega (arith, s.small, ltb-true max 100000 a)) p)

row_back : (k : Bool) (cs : List ℕ) (f : ℕ) (t : Tail) → tail_apart (ends k cs) t ≡ true
    → Back k (RowSays cs f t) (λ (v : Said). cs ++ tail_text t v.number)
row_back k [] f t a w v s p = tail_back k t a w v.number s.1 p
row_back k (c ∷ cs) f t a [] v s p = absurd s
row_back k (c ∷ cs) f t a (b ∷ w) v s p =
    let same = s.0 in
    let rest = row_back (is_digit b) cs f t (rw same a) w v s.1 (plain_right k (b ∷ []) w p) in
    cc

row_form : (cs : List ℕ) (f : ℕ) (t : Tail) (w : List ℕ) (v : Said) → RowSays cs f t w v → v.form ≡ f
row_form [] f t w v s = s.0
row_form (c ∷ cs) f t [] v s = absurd s
row_form (c ∷ cs) f t (b ∷ w) v s = row_form cs f t w v s.1

not_true : (b : Bool) → not b ≡ true → b ≡ false
not_true true e = sym e
not_true false e = refl

other_form : (f : ℕ) (rows : List Row) → other_forms f rows ≡ true → (w : List ℕ) (v : Said) → Choice rows w v → eqb f v.form ≡ false
other_form f [] o w v c = absurd c
other_form f (row cs g t ∷ rows) o w v (inl s) = rw (row_form cs g t w v s) (not_true (eqb f g) (and_left _ (other_forms f rows) o))
other_form f (row cs g t ∷ rows) o w v (inr c) = other_form f rows (and_right (not (eqb f g)) _ o) w v c

pub spelt_back : (k : Bool) (rows : List Row) → forms_apart k rows ≡ true → Back k (Choice rows) (spelt rows)
unfolding forms_apart spelt
spelt_back k [] a w v c p = absurd c
spelt_back k (row cs f t ∷ rows) a w v (inl s) p =
    rw (eq-eqb f v.form (sym (row_form cs f t w v s)))
    (row_back k cs f t (and_left _ (other_forms f rows && forms_apart k rows) a) w v s p)
spelt_back k (row cs f t ∷ rows) a w v (inr c) p =
    let others = and_right (tail_apart (ends k cs) t) _ a in
    rw (other_form f rows (and_left _ (forms_apart k rows) others) w v c)
    (spelt_back k rows (and_right (other_forms f rows) _ others) w v c p)

-- ---- words put together

module _ {A B : Type 0} (F : List ℕ → A → Type 0) (f : A → List ℕ) where
  pub join_back : (k : Bool) (T : List ℕ → B → Type 0) (t : B → List ℕ) → Back k F f → Anywhere T t
      → Back k (Join F T) (λ m. f m.0 ++ t m.1)
  join_back k T t first second w m j p =
      let q = rw j.splits at p in
      let a = first j.left m.0 j.first (plain_left k j.left j.right q) in
      let b = second (ends k j.left) j.right m.1 j.second (plain_right k j.left j.right q) in
      rw (a, b) (sym j.splits)

module _ (c : ℕ) (other : is_digit c ≡ false) where
  pub behind_back : {A : Type 0} (L : List ℕ → A → Type 0) (text : A → List ℕ) → Back false L text
      → Anywhere (Behind c L) (λ v. c ∷ text v)
  behind_back L text back k [] v l p = absurd l
  behind_back L text back k (b ∷ w) v l p =
      let same = l.0 in
      let none : is_digit b ≡ false = rw same other in
      let rest = back w v l.1 (rw none at (plain_right k (b ∷ []) w p)) in
      cc

  pub then_back : {A B : Type 0} {F : List ℕ → A → Type 0} {f : A → List ℕ} {G : List ℕ → B → Type 0} {g : B → List ℕ}
      → Back false F f → Back false G g → Back false (Then F c G) (λ m. f m.0 ++ c ∷ g m.1)
  then_back {A} {B} {F} {f} {G} {g} first second = join_back F f false (Behind c G) (λ v. c ∷ g v) first (behind_back G g second)

  -- ---- rows

  module _ {A : Type 0} (F : List ℕ → A → Type 0) (f : A → List ℕ) (back : Back false F f) where
    abbrev some_text : A × List A → List ℕ
    some_text m = f m.0 ++ more_text f c m.1

    some_back : (T : List ℕ → List A → Type 0) → Anywhere T (more_text f c) → Back false (Join F T) some_text
    some_back T more = join_back F f false T (more_text f c) back more

    more_back : (n : ℕ) → Anywhere (More F c n) (more_text f c)
    more_back zero k w vs m p = rw (m.0, m.1)
    more_back (suc n) k w vs (inl m) p = rw (m.0, m.1)
    more_back (suc n) k [] vs (inr m) p = absurd m
    more_back (suc n) k (b ∷ w) vs (inr m) p =
        let l = m.1 in
        rw l.2 (behind_back (Join F (More F c n)) some_text (some_back (More F c n) (more_back n)) k (b ∷ w) l.0 (m.0, l.1) p)

    pub listed_back : (n : ℕ) → Back false (Optional [] (Listed F c n)) (listed_text f c)
    listed_back n w vs (inl l) p = rw (l.0, l.1)
    listed_back n w vs (inr l) p = rw l.2 (some_back (More F c n) (more_back n) w l.0 l.1 p)

    pub any_listed_back : Back false (Optional [] (AnyListed F c)) (listed_text f c)
    any_listed_back w vs (inl l) p = rw (l.0, l.1)
    any_listed_back w vs (inr l) p =
        rw l.2 (some_back (AnyMore F c) (λ k x us m. more_back m.0 k x us m.1) w l.0 l.1 p)
