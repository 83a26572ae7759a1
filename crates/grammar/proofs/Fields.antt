-- Fields put together are fields: one after the other, behind a byte, in rows; and the bytes of their words.
use Prim.Native.Nat.{ℕ, zero, suc}
use mathlib.Core.Path.{◌≡◌, refl, ap}
use mathlib.Core.Logic.{inl, ⊎_elim}
use mathlib.Core.Bool.{Bool, true, false, not}
use mathlib.Core.List.{List, [], ◌∷◌, ◌++◌, nil≢cons}
use lib.Dec.{eqb}
use lib.ListN.{drop}
use borrow.Author.Tests.{eq-eqb}
use Rattle.grammar.specs.Language.{Join, Behind, Then, Optional, Mapped, cons, More, Listed, AnyMore, AnyListed}
use Rattle.grammar.specs.Reading.{Read, behind_read, join_read, then_read, map_read, listed_read, any_listed_read}
use Rattle.grammar.proofs.Join.{Within, nil, inside, Outside}
use Rattle.grammar.proofs.Listed.{listed_at, any_listed_at}
use Rattle.grammar.proofs.Reading.{Field, map_at, behind_at_lem, join_at, optional_at}

-- ---- the bytes of words

abbrev pub is_not : ℕ → ℕ → Bool
is_not c b = not (eqb b c)

within_append : (D : ℕ → Bool) (x y : List ℕ) → Within D x → Within D y → Within D (x ++ y)
within_append D [] y f g = g
within_append D (b ∷ x) y (inside d f) g = inside d (within_append D x y f g)

-- Every word of a language is within a set.
abbrev pub Words : {A : Type 0} → (ℕ → Bool) → (List ℕ → A → Type 0) → Type 0
Words {A} D L = (w : List ℕ) (v : A) → L w v → Within D w

pub join_words
    : {A B : Type 0} (D : ℕ → Bool) (F : List ℕ → A → Type 0) (T : List ℕ → B → Type 0) → Words D F → Words D T → Words D (Join F T)
join_words D F T f t w v j =
    rw j.splits
    (within_append D j.left j.right (f j.left v.0 j.first) (t j.right v.1 j.second))

pub behind_words : {A : Type 0} (D : ℕ → Bool) (c : ℕ) → D c ≡ true → (L : List ℕ → A → Type 0) → Words D L → Words D (Behind c L)
behind_words D c e L h [] v l = absurd l
behind_words D c e L h (b ∷ w) v l = inside {b = b} (rw l.0 e) (h w v l.1)

nil_words : (D : ℕ → Bool) (w : List ℕ) → w ≡ [] → Within D w
nil_words D w e = rw e nil

more_words : {A : Type 0} (D : ℕ → Bool) (c : ℕ) → D c ≡ true → (F : List ℕ → A → Type 0) → Words D F → (n : ℕ) → Words D (More F c n)
more_words D c e F h zero w v m = nil_words D w m.0
more_words {A} D c e F h (suc n) w v m =
    ⊎_elim (λ k. nil_words D w k.0)
    (λ k. behind_words D c e (Listed F c n) (λ x u l. join_words D F (More F c n) h (more_words D c e F h n) x l.0 l.1) w v k) m

-- ---- a field, a separator, and the rest

behind_outside : {A : Type 0} (c : ℕ) (L : List ℕ → A → Type 0) (w : List ℕ) (v : A) → Behind c L w v → Outside (is_not c) w
behind_outside c L [] v l = tt
behind_outside c L (b ∷ w) v l = ap not (eq-eqb b c l.0)

pub then_field : {A B : Type 0} (F : List ℕ → A → Type 0) (c : ℕ) (G : List ℕ → B → Type 0) (f : List ℕ → Read A) (g : List ℕ → Read B)
    → Words (is_not c) F → Field F f → Field G g → Field (Then F c G) (then_read f c g)
then_field F c G f g h x y =
    record {
      goes =
          record {
            tail = x.goes.tail ++ c ∷ y.goes.tail;
            meaning = (x.goes.meaning, y.goes.meaning);
            derives =
                record {
                  left = x.goes.tail;
                  right = c ∷ y.goes.tail;
                  splits = refl;
                  first = x.goes.derives;
                  second = (refl, y.goes.derives);
                };
          };
      reads = λ s.
          join_at F (Behind c G) (is_not c) h (behind_outside c G)
          (record { tail = c ∷ y.goes.tail; meaning = y.goes.meaning; derives = (refl, y.goes.derives) })
          s (f s) (behind_read c g (drop (f s).count s)) (g []).value (x.reads s)
          (behind_at_lem c G g y.goes (drop (f s).count s) (λ b bs e. y.reads bs));
    }

listed_empty
    : {A : Type 0} (F : List ℕ → A → Type 0) (T : List ℕ → List A → Type 0) → ((v : A) → F [] v → ⊥) → (vs : List A)
    → Mapped cons (Join F T) [] vs → ⊥
listed_empty F T h vs l = none l.1.left l.1.right l.1.splits l.0.0 l.1.first
  where
    none : (x y : List ℕ) → [] ≡ x ++ y → (v : _) → F x v → ⊥
    none [] y e v f = h v f
    none (b ∷ x) y e v f = nil≢cons e

-- ---- one after the other, where the second begins with no byte of the first

pub join_field
    : {A B : Type 0} (F : List ℕ → A → Type 0) (T : List ℕ → B → Type 0) (D : ℕ → Bool) (f : List ℕ → Read A) (t : List ℕ → Read B)
    → Words D F → ((w : List ℕ) (v : B) → T w v → Outside D w) → Field F f → Field T t → Field (Join F T) (join_read f t)
join_field F T D f t h o x y =
    record {
      goes =
          record {
            tail = x.goes.tail ++ y.goes.tail;
            meaning = (x.goes.meaning, y.goes.meaning);
            derives =
                record {
                  left = x.goes.tail;
                  right = y.goes.tail;
                  splits = refl;
                  first = x.goes.derives;
                  second = y.goes.derives;
                };
          };
      reads = λ s.
          join_at F T D h o y.goes s (f s) (t (drop (f s).count s)) (t []).value (x.reads s) (y.reads (drop (f s).count s));
    }

-- ---- another meaning

pub map_field
    : {A B : Type 0} (g : A → B) (L : List ℕ → A → Type 0) (f : List ℕ → Read A) → Field L f
    → Field (Mapped g L) (λ (s : List ℕ). map_read g (f s))
map_field g L f x =
    record {
      goes = record { tail = x.goes.tail; meaning = g x.goes.meaning; derives = (x.goes.meaning, x.goes.derives, refl) };
      reads = λ s. map_at g L s (f s) (x.reads s);
    }

-- ---- rows

module _ {A : Type 0} (F : List ℕ → A → Type 0) (c : ℕ) (f : List ℕ → Read A) (h : Words (is_not c) F) (x : Field F f)
    (empty : (v : A) → F [] v → ⊥) where
  separator : is_not c c ≡ false
  separator = ap not (eq-eqb c c refl)

  pub listed_field : (n : ℕ) → Field (Optional [] (Listed F c n)) (listed_read f c n)
  listed_field n =
      record {
        goes = record { tail = []; meaning = []; derives = inl (refl, refl) };
        reads = λ s.
            optional_at [] (Listed F c n) (listed_empty F (More F c n) empty) s _
            (listed_at F c (is_not c) h separator x.goes f x.reads n s);
      }

  pub any_listed_field : Field (Optional [] (AnyListed F c)) (any_listed_read f c)
  any_listed_field =
      record {
        goes = record { tail = []; meaning = []; derives = inl (refl, refl) };
        reads = λ s.
            optional_at [] (AnyListed F c) (listed_empty F (AnyMore F c) empty) s _
            (any_listed_at F c (is_not c) h separator x.goes f x.reads s);
      }

-- The bytes of a row of words: a word's, and the byte between.
module _ {A : Type 0} (D : ℕ → Bool) (c : ℕ) (e : D c ≡ true) (F : List ℕ → A → Type 0) (h : Words D F) where
  pub listed_words : (n : ℕ) → Words D (Optional [] (Listed F c n))
  listed_words n w v l =
      ⊎_elim (λ k. nil_words D w k.0) (λ k. join_words D F (More F c n) h (more_words D c e F h n) w k.0 k.1) l

  pub any_listed_words : Words D (Optional [] (AnyListed F c))
  any_listed_words w v l =
      ⊎_elim (λ k. nil_words D w k.0)
      (λ k. join_words D F (AnyMore F c) h (λ y u m. more_words D c e F h m.0 y u m.1) w k.0 k.1) l
