-- A head and what follows it, read together or one after the other.
use Prim.Native.Nat.{ℕ, suc, ◌+◌}
use mathlib.Core.Path.{◌≡◌, refl, ◌∙◌, ap}
use mathlib.Core.Bool.{Bool, true, false, cond, ◌&&◌, false≢true}
use mathlib.Core.List.{List, [], ◌∷◌}
use native.Mathlib.Omega.{arith}
use lib.Dec.{eqb}
use lib.ListN.{drop}
use lib.Seq.{drop-drop}
use Rattle.grammar.specs.Reading.{Read, later, behind_read, both, join_read, then_read}

-- A reading of the whole is one of its head and, if that is good, one of the rest.
pub record Follows {A B C : Type 0} (pair : A → B → C) (head : Read A) (rest : Read B) (whole : Read C) : Type 0 where
  pub counts : whole.count ≡ cond head.good (head.count + rest.count) head.count
  pub goods : whole.good ≡ head.good && rest.good
  pub values : head.good ≡ true → whole.value ≡ pair head.value rest.value

-- A number more, on both sides of a test.
more_each : (k : Bool) (n a b : ℕ) → n + cond k (a + b) a ≡ cond k (n + a + b) (n + a)
more_each true n a b = omega arith
more_each false n a b = refl

one_more_each : (k : Bool) (a b : ℕ) → suc (cond k (a + b) a) ≡ cond k (suc a + b) (suc a)
one_more_each true a b = omega arith
one_more_each false a b = refl

-- One reading after the other.
both_follows : {A B : Type 0} (x : Read A) (y : Read B) (d : B) → Follows {C = A × B} (λ a b. (a, b)) x y (both x y d)
both_follows x y d = by x.good
  where
    by : (k : Bool) → Follows {C = _ × _} (λ a b. (a, b)) (record { count = x.count; good = k; value = x.value }) y
        (both (record { count = x.count; good = k; value = x.value }) y d)
    by true = record { counts = refl; goods = refl; values = λ e. refl }
    by false = record { counts = refl; goods = refl; values = λ e. absurd (false≢true e) }

-- The same with a reading before the head, which the head and the whole have in common.
before_both
    : {A B C : Type 0} (x : Read A) (head : Read B) (d : B) (whole : Read (B × C)) (e : B × C) (rest : ℕ → Read C)
    → Follows {C = B × C} (λ b y. (b, y)) head (rest (x.count + head.count)) whole
    → Follows {C = A × (B × C)} (λ v y. (v.0, (v.1, y))) (both x head d) (rest (both x head d).count) (both x whole e)
before_both {A} {B} {C} x head d whole e rest w = by x.good
  where
    first : Bool → Read A
    first k = record { count = x.count; good = k; value = x.value }

    by : (k : Bool)
        → Follows {C = A × (B × C)} (λ v y. (v.0, (v.1, y))) (both (first k) head d) (rest (both (first k) head d).count)
        (both (first k) whole e)
    by true =
        record {
          counts = ap (λ (n : ℕ). x.count + n) w.counts ∙ more_each head.good x.count head.count _;
          goods = w.goods;
          values = λ g. ap (λ (p : B × C). (x.value, p)) (w.values g);
        }
    by false = record { counts = refl; goods = refl; values = λ g. absurd (false≢true g) }

module _ {B C : Type 0} (c : ℕ) (g : List ℕ → Read B) (h : List ℕ → Read C) where
  abbrev pairs : B → C → B × C
  pairs b x = (b, x)

  -- Behind a byte.
  behind_follows
      : (r : List ℕ)
      → Follows pairs (behind_read c g r) (h (drop (behind_read c g r).count r)) (behind_read c (join_read g h) r)
  behind_follows [] = record { counts = refl; goods = refl; values = λ e. absurd (false≢true e) }
  behind_follows (b ∷ bs) = by (eqb b c) (both_follows (g bs) (h (drop (g bs).count bs)) (h []).value)
    where
      none : {A : Type 0} → A → Read A
      none d = record { count = 0; good = false; value = d }

      by : (k : Bool) → Follows pairs (g bs) (h (drop (g bs).count bs)) (join_read g h bs)
          → Follows pairs (cond k (later (g bs)) (none (g []).value))
          (h (drop (cond k (later (g bs)) (none (g []).value)).count (b ∷ bs)))
          (cond k (later (join_read g h bs)) (none (join_read g h []).value))
      by true f = record { counts = ap suc f.counts ∙ one_more_each (g bs).good (g bs).count _; goods = f.goods; values = f.values }
      by false f = record { counts = refl; goods = refl; values = λ e. absurd (false≢true e) }

  -- A word, the byte, a word, and what follows: the first three are a reading of their own.
  pub then_follows
      : {A : Type 0} (f : List ℕ → Read A) (s : List ℕ)
      → Follows {C = A × (B × C)} (λ v x. (v.0, (v.1, x))) (then_read f c g s) (h (drop (then_read f c g s).count s))
      (then_read f c (join_read g h) s)
  then_follows f s =
      let r = drop (f s).count s in
      before_both (f s) (behind_read c g r) _ (behind_read c (join_read g h) r) _ (λ (n : ℕ). h (drop n s))
      (rw (← drop-drop (behind_read c g r).count (f s).count s) (behind_follows r))
