-- What rows still wait for is read exactly, byte by byte: once for every table.
use Prim.Native.Nat.{ℕ, suc, ◌+◌, ◌*◌, ◌-◌, ◌≤◌}
use mathlib.Core.Path.{◌≡◌, refl, sym, ◌∙◌}
use mathlib.Core.Logic.{◌↔◌, ◌⊎◌, inl, inr, ⊎_elim}
use mathlib.Core.Bool.{Bool, true, false, cond, false≢true}
use mathlib.Core.List.{List, [], ◌∷◌, ◌++◌, cons≢nil}
use native.Mathlib.Omega.{arith}
use lib.Dec.{eqb}
use lib.ListN.{take, drop}
use borrow.Author.Tests.{eqb-true, eqb-false}
use Rattle.grammar.specs.Language.{GoesOn}
use Rattle.grammar.specs.States.{fits, Awaited, letters, digits, after_one, after, done, is_nil, run, left}
use Rattle.grammar.specs.Table.{Tail, nothing, numeral, Said, said, TailSays, RowSays}
use Rattle.grammar.proofs.Exact.{Exact, Stops, After, step, alike}
use Rattle.grammar.proofs.Numerals.{From, fits_digit, after_from, from_after, numeral_from, from_numeral}

-- The words of what is awaited.
abbrev pub AwaitedSays : Awaited → List ℕ → Said → Type 0
AwaitedSays (letters cs f t) w v = RowSays cs f t w v
AwaitedSays (digits f max wanted m) w v = (v.form ≡ f) × From max wanted m w v.number

abbrev pub AnyOf : List Awaited → List ℕ → Said → Type 0
AnyOf [] w v = ⊥
AnyOf (a ∷ rest) w v = AwaitedSays a w v ⊎ AnyOf rest w v

-- ---- after a byte

any_append : (xs ys : List Awaited) (w : List ℕ) (v : Said) → AnyOf (xs ++ ys) w v ↔ (AnyOf xs w v ⊎ AnyOf ys w v)
any_append [] ys w v = (λ c. inr c, λ c. ⊎_elim (λ x. absurd x) (λ y. y) c)
any_append (a ∷ xs) ys w v =
    let ih = any_append xs ys w v in (
      λ c. ⊎_elim (λ r. inl (inl r)) (λ d. ⊎_elim (λ x. inl (inr x)) (λ y. inr y) (ih.0 d)) c,
      λ c. ⊎_elim (λ d. ⊎_elim (λ r. inl r) (λ x. inr (ih.1 (inl x))) d) (λ y. inr (ih.1 (inr y))) c,
    )

only : (a : Awaited) (w : List ℕ) (v : Said) → AnyOf (a ∷ []) w v → AwaitedSays a w v
only a w v c = ⊎_elim (λ r. r) (λ x. absurd x) c

one_after : (b : ℕ) (a : Awaited) (w : List ℕ) (v : Said) → AnyOf (after_one b a) w v ↔ AwaitedSays a (b ∷ w) v
one_after b (letters (c ∷ cs) f t) w v = by (eqb b c) refl
  where
    by : (k : Bool) → eqb b c ≡ k → AnyOf (cond k (letters cs f t ∷ []) []) w v ↔ RowSays (c ∷ cs) f t (b ∷ w) v
    by true e = (λ r. (eqb-true b c e, only (letters cs f t) w v r), λ r. inl r.1)
    by false e = (λ r. absurd r, λ r. absurd (eqb-false b c e r.0))
one_after b (letters [] f nothing) w v = (λ r. absurd r, λ r. absurd (cons≢nil r.1.0))
one_after b (letters [] f (numeral max wanted)) w v = by (fits max 0 b) refl
  where
    split : RowSays [] f (numeral max wanted) (b ∷ w) v
        → (fits max 0 b ≡ true) × From max wanted (0 * 10 + (b - 48)) w v.number
    split r = after_from max wanted 0 b w v.number (numeral_from max wanted b w v.number r.1)

    by : (k : Bool) → fits max 0 b ≡ k
        → AnyOf (cond k (digits f max wanted (0 * 10 + (b - 48)) ∷ []) []) w v ↔ RowSays [] f (numeral max wanted) (b ∷ w) v
    by true e = (
      λ r.
          let o = only (digits f max wanted (0 * 10 + (b - 48))) w v r in
          (o.0, from_numeral max wanted b w v.number (from_after max wanted 0 b e w v.number o.1)),
      λ r. inl (r.0, (split r).1),
    )
    by false e = (λ r. absurd r, λ r. absurd (false≢true (sym e ∙ (split r).0)))
one_after b (digits f max wanted m) w v = by (fits max m b) refl
  where
    by : (k : Bool) → fits max m b ≡ k
        → AnyOf (cond k (digits f max wanted (m * 10 + (b - 48)) ∷ []) []) w v ↔ AwaitedSays (digits f max wanted m) (b ∷ w) v
    by true e = (
      λ r.
          let o = only (digits f max wanted (m * 10 + (b - 48))) w v r in
          (o.0, from_after max wanted m b e w v.number o.1),
      λ r. inl (r.0, (after_from max wanted m b w v.number r.1).1),
    )
    by false e = (λ r. absurd r, λ r. absurd (false≢true (sym e ∙ (after_from max wanted m b w v.number r.1).0)))

any_after : (b : ℕ) (states : List Awaited) (w : List ℕ) (v : Said) → AnyOf (after b states) w v ↔ After b (AnyOf states) w v
unfolding after
any_after b [] w v = (λ r. absurd r, λ r. absurd r)
any_after b (a ∷ rest) w v =
    let p = any_append (after_one b a) (after b rest) w v in
    let r = one_after b a w v in
    let ih = any_after b rest w v in (
      λ c. ⊎_elim (λ x. inl (r.0 x)) (λ y. inr (ih.0 y)) (p.0 c),
      λ c. p.1 (⊎_elim (λ x. inl (r.1 x)) (λ y. inr (ih.1 y)) c),
    )

-- ---- every row goes on

-- Every number up to the bound begins one that is wanted.
abbrev pub NumbersLive : ℕ → (ℕ → Bool) → Type 0
NumbersLive max wanted = (n : ℕ) → n ≤ max → GoesOn (From max wanted n) []

abbrev pub TailLives : Tail → Type 0
TailLives nothing = Unit
TailLives (numeral max wanted) = NumbersLive max wanted

abbrev pub Lives : Awaited → Type 0
Lives (letters cs f t) = TailLives t
Lives (digits f max wanted m) = (m ≤ max) × NumbersLive max wanted

abbrev pub AllLive : List Awaited → Type 0
AllLive [] = Unit
AllLive (a ∷ rest) = Lives a × AllLive rest

tail_goes : (t : Tail) → TailLives t → GoesOn (TailSays t) []
tail_goes nothing h = record { tail = []; meaning = 0; derives = (refl, refl) }
tail_goes (numeral max wanted) h =
    let g = h 0 (omega arith) in
    let d = g.derives in
    record {
      tail = 48 ∷ g.tail;
      meaning = g.meaning;
      derives =
          record {
            some = omega arith;
            digits = (omega arith, omega arith, d.digits);
            says = d.says;
            small = d.small;
            meant = d.meant;
          };
    }

word_goes : (cs : List ℕ) (f : ℕ) (t : Tail) → TailLives t → (w : List ℕ) × (n : ℕ) × RowSays cs f t w (said f n)
word_goes [] f t h = let g = tail_goes t h in (g.tail, g.meaning, (refl, g.derives))
word_goes (c ∷ cs) f t h = let g = word_goes cs f t h in (c ∷ g.0, g.1, (refl, g.2))

one_goes : (a : Awaited) → Lives a → (w : List ℕ) × (v : Said) × AwaitedSays a w v
one_goes (letters cs f t) h = let g = word_goes cs f t h in (g.0, said f g.1, g.2)
one_goes (digits f max wanted m) h = let g = h.1 m h.0 in (g.tail, said f g.meaning, (refl, g.derives))

pub any_goes : (states : List Awaited) → AllLive states → is_nil states ≡ false → GoesOn (AnyOf states) []
any_goes [] l e = absurd (false≢true (sym e))
any_goes (a ∷ rest) l e = let g = one_goes a l.0 in record { tail = g.0; meaning = g.1; derives = inl g.2 }

live_append : (xs ys : List Awaited) → AllLive xs → AllLive ys → AllLive (xs ++ ys)
live_append [] ys l m = m
live_append (a ∷ xs) ys l m = (l.0, live_append xs ys l.1 m)

live_one : (b : ℕ) (a : Awaited) → Lives a → AllLive (after_one b a)
live_one b (letters (c ∷ cs) f t) h = by (eqb b c)
  where
    by : (k : Bool) → AllLive (cond k (letters cs f t ∷ []) [])
    by true = (h, tt)
    by false = tt
live_one b (letters [] f nothing) h = tt
live_one b (letters [] f (numeral max wanted)) h = by (fits max 0 b) refl
  where
    by : (k : Bool) → fits max 0 b ≡ k → AllLive (cond k (digits f max wanted (0 * 10 + (b - 48)) ∷ []) [])
    by true e = (((fits_digit max 0 b e).2, h), tt)
    by false e = tt
live_one b (digits f max wanted m) h = by (fits max m b) refl
  where
    by : (k : Bool) → fits max m b ≡ k → AllLive (cond k (digits f max wanted (m * 10 + (b - 48)) ∷ []) [])
    by true e = (((fits_digit max m b e).2, h.1), tt)
    by false e = tt

live_after : (b : ℕ) (states : List Awaited) → AllLive states → AllLive (after b states)
unfolding after
live_after b [] l = tt
live_after b (a ∷ rest) l = live_append (after_one b a) (after b rest) (live_one b a l.0) (live_after b rest l.1)

-- ---- what is done

done_sound : (states : List Awaited) → AllLive states → (done states).good ≡ true → AnyOf states [] (done states).value
unfolding done
done_sound [] l e = absurd (false≢true e)
done_sound (letters (c ∷ cs) f t ∷ rest) l e = inr (done_sound rest l.1 e)
done_sound (letters [] f nothing ∷ rest) l e = inl (refl, (refl, refl))
done_sound (letters [] f (numeral max wanted) ∷ rest) l e = inr (done_sound rest l.1 e)
done_sound (digits f max wanted m ∷ rest) l e = by (wanted m) refl (done_sound rest l.1) e
  where
    by : (k : Bool) → wanted m ≡ k → ((done rest).good ≡ true → AnyOf rest [] (done rest).value)
        → (cond k (record { good = true; value = said f m }) (done rest)).good ≡ true
        → AnyOf (digits f max wanted m ∷ rest) [] (cond k (record { good = true; value = said f m }) (done rest)).value
    by true q ih e' = inl (refl, record { digits = tt; says = refl; small = l.0.0; meant = q })
    by false q ih e' = inr (ih e')

pub done_found : (states : List Awaited) (v : Said) → AnyOf states [] v → (done states).good ≡ true
unfolding done
done_found [] v c = absurd c
done_found (letters (c' ∷ cs) f t ∷ rest) v (inl r) = absurd r
done_found (letters (c' ∷ cs) f t ∷ rest) v (inr r) = done_found rest v r
done_found (letters [] f nothing ∷ rest) v c = refl
done_found (letters [] f (numeral max wanted) ∷ rest) v (inl r) = absurd (omega (arith, r.1.some))
done_found (letters [] f (numeral max wanted) ∷ rest) v (inr r) = done_found rest v r
done_found (digits f max wanted m ∷ rest) v (inl r) =
    let q : wanted m ≡ true = rw r.1.says r.1.meant in
    rw q
done_found (digits f max wanted m ∷ rest) v (inr r) = by (wanted m) (done_found rest v r)
  where
    by : (k : Bool) → (done rest).good ≡ true → (cond k (record { good = true; value = said f m }) (done rest)).good ≡ true
    by true e = refl
    by false e = e

-- ---- all of a string

-- A word has one meaning.
abbrev pub Single : {A : Type 0} → (List ℕ → A → Type 0) → Type 0
Single {A} L = (w : List ℕ) (u v : A) → L w u → L w v → u ≡ v

single_after : (b : ℕ) (states : List Awaited) → Single (AnyOf states) → Single (AnyOf (after b states))
single_after b states h w u v c d = h (b ∷ w) u v ((any_after b states w u).0 c) ((any_after b states w v).0 d)

rest_here
    : (states : List Awaited) → AllLive states → is_nil states ≡ false → Single (AnyOf states)
    → (r : List ℕ) → Stops (AnyOf states) [] r
    → Exact (AnyOf states) [] r (done states).good (done states).value
rest_here states l e h r st =
    record {
      live = any_goes states l e;
      stops = st;
      yields = done_sound states l;
      only = λ v c. let g = done_found states v c in (g, h [] v (done states).value c (done_sound states l g));
    }

nil_ends : (b : ℕ) (states : List Awaited) → is_nil (after b states) ≡ true → GoesOn (AnyOf states) (b ∷ []) → ⊥
nil_ends b states e g = by (after b states) e ((any_after b states g.tail g.meaning).1 g.derives)
  where
    by : (rest : List Awaited) → is_nil rest ≡ true → AnyOf rest g.tail g.meaning → ⊥
    by [] q c = c
    by (a ∷ rest) q c = false≢true q

-- An exact reading of so many bytes, with what is awaited then.
abbrev ReadTo : List Awaited → List ℕ → ℕ → List Awaited → Type 0
ReadTo states s k rest = Exact (AnyOf states) (take k s) (drop k s) (done rest).good (done rest).value

pub states_exact
    : (states : List Awaited) → AllLive states → is_nil states ≡ false → Single (AnyOf states)
    → (s : List ℕ) → ReadTo states s (run states s) (left states s)
unfolding run left
states_exact states l e h [] = rest_here states l e h [] tt
states_exact states l e h (b ∷ bs) =
    by (is_nil (after b states)) refl (λ q. states_exact (after b states) (live_after b states l) q (single_after b states h) bs)
  where
    by : (k : Bool) → is_nil (after b states) ≡ k
        → (is_nil (after b states) ≡ false → ReadTo (after b states) bs (run (after b states) bs) (left (after b states) bs))
        → ReadTo states (b ∷ bs) (cond k 0 (suc (run (after b states) bs))) (cond k states (left (after b states) bs))
    by true q ih = rest_here states l e h (b ∷ bs) (nil_ends b states q)
    by false q ih = step (AnyOf states) b (alike _ _ (any_after b states) (ih q))
