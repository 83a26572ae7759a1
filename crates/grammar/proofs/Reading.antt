-- Readings put together are exact.
use Prim.Native.Nat.{ℕ, zero, suc, ◌+◌, ◌-◌, ◌≤◌}
use mathlib.Core.Path.{◌≡◌, refl, sym, ◌∙◌, ap}
use mathlib.Core.Logic.{◌↔◌, inl, inr, ⊎_elim}
use mathlib.Core.Bool.{Bool, true, false, cond, false≢true}
use mathlib.Core.List.{List, [], ◌∷◌, cons≢nil}
use native.Mathlib.Omega.{arith}
use lib.Dec.{eqb}
use lib.ListN.{length, take, drop, take-append-drop, length-drop}
use lib.Seq.{take-add, drop-drop}
use borrow.Author.Tests.{eqb-true, eqb-false}
use Rattle.grammar.specs.Language.{GoesOn, Join, Behind, Optional, Mapped}
use Rattle.grammar.specs.Reading.{Read, later, behind_read, both, map_read, optional_read}
use Rattle.grammar.proofs.Exact.{Exact, Stops, After, step, alike}
use Rattle.grammar.proofs.Join.{Within, Outside, joined, unjoined}

-- A reading of a string is exact.
pub record ReadsAt {A : Type 0} (L : List ℕ → A → Type 0) (s : List ℕ) (x : Read A) : Type 0 where
  pub within : x.count ≤ length s
  pub exact : Exact L (take x.count s) (drop x.count s) x.good x.value

-- A language and an exact reading of it.
pub record Field {A : Type 0} (L : List ℕ → A → Type 0) (f : List ℕ → Read A) : Type 0 where
  pub goes : GoesOn L []
  pub reads : (s : List ℕ) → ReadsAt L s (f s)

-- ---- behind a byte

behind_same : {A : Type 0} (c : ℕ) (L : List ℕ → A → Type 0) (b : ℕ) → b ≡ c → (w : List ℕ) (v : A) → L w v ↔ After b (Behind c L) w v
behind_same c L b e w v = (λ l. (e, l), λ l. l.1)

behind_none
    : {A : Type 0} (c : ℕ) (L : List ℕ → A → Type 0) (g : GoesOn L []) (r : List ℕ) (d : A) → Stops (Behind c L) [] r
    → Exact (Behind c L) [] r false d
behind_none c L g r d st =
    record {
      live = record { tail = c ∷ g.tail; meaning = g.meaning; derives = (refl, g.derives) };
      stops = st;
      yields = λ h. absurd (false≢true h);
      only = λ v l. absurd l;
    }

pub behind_at_lem : {A : Type 0} (c : ℕ) (L : List ℕ → A → Type 0) (f : List ℕ → Read A) → GoesOn L [] → (s : List ℕ)
    → ((b : ℕ) (bs : List ℕ) → s ≡ b ∷ bs → ReadsAt L bs (f bs)) → ReadsAt (Behind c L) s (behind_read c f s)
behind_at_lem c L f g [] h = record { within = omega arith; exact = behind_none c L g [] (f []).value tt }
behind_at_lem {A} c L f g (b ∷ bs) h = by (eqb b c) refl (h b bs refl)
  where
    by : (k : Bool) → eqb b c ≡ k → ReadsAt L bs (f bs)
        → ReadsAt (Behind c L) (b ∷ bs) (cond k (later (f bs)) (record { count = 0; good = false; value = (f []).value }))
    by true e r =
        record {
          within = omega (arith, r.within);
          exact = step (Behind c L) b (alike _ _ (behind_same c L b (eqb-true b c e)) r.exact);
        }
    by false e r =
        record { within = omega arith; exact = behind_none c L g (b ∷ bs) (f []).value (λ k. eqb-false b c e k.derives.0) }

-- ---- one after the other

module _ {A B : Type 0} (F : List ℕ → A → Type 0) (T : List ℕ → B → Type 0) (D : ℕ → Bool)
    (within : (w : List ℕ) (v : A) → F w v → Within D w) (outside : (w : List ℕ) (v : B) → T w v → Outside D w) (goes : GoesOn T []) where
  pub join_at
      : (s : List ℕ) (x : Read A) (y : Read B) (d : B) → ReadsAt F s x → ReadsAt T (drop x.count s) y
      → ReadsAt (Join F T) s (both x y d)
  join_at s x y d e t = by x.good e.exact
    where
      n : length (drop x.count s) ≡ length s - x.count
      n = length-drop x.count s

      by : (k : Bool) → Exact F (take x.count s) (drop x.count s) k x.value
          → ReadsAt (Join F T) s
          (cond k
          (record { count = x.count + y.count; good = y.good; value = (x.value, y.value) })
          (record { count = x.count; good = false; value = (x.value, d) }))
      by true f =
          record {
            within = omega (arith, n, t.within, e.within);
            exact =
                rw (take-add x.count y.count s, ← drop-drop y.count x.count s)
                (joined F T D within outside f t.exact (sym (take-append-drop y.count (drop x.count s))));
          }
      by false f = record { within = e.within; exact = unjoined F T D within outside goes (x.value, d) f }

-- ---- another meaning; nothing or a word

pub map_at
    : {A B : Type 0} (f : A → B) (L : List ℕ → A → Type 0) (s : List ℕ) (x : Read A) → ReadsAt L s x
    → ReadsAt (Mapped f L) s (map_read f x)
map_at {A} f L s x r =
    let e = r.exact in
    record {
      within = r.within;
      exact =
          record {
            live = record { tail = e.live.tail; meaning = f e.live.meaning; derives = (e.live.meaning, e.live.derives, refl) };
            stops = stops (drop x.count s) e.stops;
            yields = λ h. (x.value, e.yields h, refl);
            only = λ u l. let o = e.only l.0 l.1 in (o.0, l.2 ∙ ap f o.1);
          };
    }
  where
    stops : (q : List ℕ) → Stops L (take x.count s) q → Stops (Mapped f L) (take x.count s) q
    stops [] st = tt
    stops (b ∷ q) st = λ g. st (record { tail = g.tail; meaning = g.derives.0; derives = g.derives.1 })

module _ {A : Type 0} (d : A) (L : List ℕ → A → Type 0) (empty : (v : A) → L [] v → ⊥) where
  some : (p r : List ℕ) (good : Bool) (v : A) (b : ℕ) → Exact L (b ∷ p) r good v → Exact (Optional d L) (b ∷ p) r good v
  some p r good v b e =
      record {
        live = record { tail = e.live.tail; meaning = e.live.meaning; derives = inr e.live.derives };
        stops = stops r e.stops;
        yields = λ h. inr (e.yields h);
        only = λ u l. ⊎_elim (λ k. absurd (cons≢nil k.0)) (e.only u) l;
      }
    where
      stops : (q : List ℕ) → Stops L (b ∷ p) q → Stops (Optional d L) (b ∷ p) q
      stops [] st = tt
      stops (c ∷ q) st = λ g.
          ⊎_elim (λ k. cons≢nil k.0) (λ l. st (record { tail = g.tail; meaning = g.meaning; derives = l })) g.derives

  none : (r : List ℕ) (good : Bool) (v : A) → Exact L [] r good v → Exact (Optional d L) [] r true d
  none r good v e =
      record {
        live = record { tail = []; meaning = d; derives = inl (refl, refl) };
        stops = stops r e.stops;
        yields = λ h. inl (refl, refl);
        only = λ u l. (refl, ⊎_elim (λ k. k.1) (λ k. absurd (empty u k)) l);
      }
    where
      stops : (q : List ℕ) → Stops L [] q → Stops (Optional d L) [] q
      stops [] st = tt
      stops (c ∷ q) st = λ g.
          ⊎_elim (λ k. cons≢nil k.0) (λ l. st (record { tail = g.tail; meaning = g.meaning; derives = l })) g.derives

  pub optional_at : (s : List ℕ) (x : Read A) → ReadsAt L s x → ReadsAt (Optional d L) s (optional_read d x)
  optional_at s x r = by (eqb x.count 0) refl
    where
      by : (k : Bool) → eqb x.count 0 ≡ k → ReadsAt (Optional d L) s (cond k (record { count = 0; good = true; value = d }) x)
      by true e =
          let z = eqb-true x.count 0 e in
          record { within = omega arith; exact = none s x.good x.value (rw z at r.exact) }
      by false e = record { within = r.within; exact = at s x.count r.within (eqb-false x.count 0 e) r.exact }
        where
          at : (q : List ℕ) (n : ℕ) → n ≤ length q → (n ≡ 0 → ⊥) → Exact L (take n q) (drop n q) x.good x.value
              → Exact (Optional d L) (take n q) (drop n q) x.good x.value
          at q zero h z f = absurd (z refl)
          at [] (suc n) h z f = absurd (omega arith)
          at (b ∷ q) (suc n) h z f = some (take n q) (drop n q) x.good x.value b f
