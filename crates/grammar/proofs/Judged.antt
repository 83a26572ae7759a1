-- From an exact reading of a whole string to the judgement on it, both ways: the general theorem on offsets.
use Prim.Native.Nat.{ℕ, suc, ◌+◌, ◌<◌, ◌≤◌}
use mathlib.Core.Path.{◌≡◌, refl, sym, ◌∙◌, ap}
use mathlib.Core.Logic.{◌↔◌}
use mathlib.Core.Bool.{Bool, true, false, cond, ◌&&◌, false≢true}
use mathlib.Core.List.{List, [], ◌∷◌, ◌++◌, append_assoc, append-nil}
use native.Mathlib.Omega.{arith}
use native.Mathlib.Decide.{dec_le}
use native.Mathlib.Numerals.{add-one}
use lib.Dec.{eqb}
use lib.ListN.{length, take, drop, get_or, take-append-drop}
use lib.Seq.{take-take, take-suc, take_all, drop-cons}
use borrow.Author.Tests.{eqb-true, eq-eqb}
use Rattle.grammar.specs.Language.{GoesOn, Refused}
use Rattle.grammar.specs.Reading.{Read, Judgement, means, refused, judgement}
use Rattle.basis.proofs.Tests.{and_left, and_right}
use Rattle.grammar.proofs.Exact.{Stops}
use Rattle.grammar.proofs.Reading.{ReadsAt}

-- A string that begins another one that goes on goes on.
pub shorter : {A : Type 0} (L : List ℕ → A → Type 0) (p q : List ℕ) → GoesOn L (p ++ q) → GoesOn L p
shorter L p q g = record { tail = q ++ g.tail; meaning = g.meaning; derives = rw (← append_assoc p q g.tail) g.derives }

-- The first bytes, fewer and more.
fewer : (s : List ℕ) (i k : ℕ) → i ≤ k → take i s ++ drop i (take k s) ≡ take k s
fewer s i k h = rw (← take-take i k s h) (take-append-drop i (take k s))

pub fewer_go_on : {A : Type 0} (L : List ℕ → A → Type 0) (s : List ℕ) (i k : ℕ) → i ≤ k → GoesOn L (take k s) → GoesOn L (take i s)
fewer_go_on L s i k h g = shorter L (take i s) (drop i (take k s)) (rw (fewer s i k h) g)

-- A string is refused at one place at most, and not if it has a meaning.
pub one_place : {A : Type 0} (L : List ℕ → A → Type 0) (s : List ℕ) (j k : ℕ) → Refused L s j → Refused L s k → j ≡ k
one_place L s j k a b = by (dec_le (j + 1) k) (dec_le (k + 1) j)
  where
    by : Dec (j + 1 ≤ k) → Dec (k + 1 ≤ j) → j ≡ k
    by (yes h) d = absurd (a.there (omega (arith, b.within)) (b.before (j + 1) h))
    by (no h) (yes h') = absurd (b.there (omega (arith, a.within)) (a.before (k + 1) h'))
    by (no h) (no h') = omega arith

-- What a judgement says of a string.
abbrev pub Holds : {A : Type 0} → (List ℕ → A → Type 0) → List ℕ → Judgement A → Type 0
Holds L s (means v) = L s v
Holds L s (refused j) = Refused L s j

module _ {A : Type 0} (L : List ℕ → A → Type 0) (s : List ℕ) (x : Read A) (r : ReadsAt L s x) where
  there : x.count < length s → GoesOn L (take (x.count + 1) s) → ⊥
  there h g =
      let st : Stops L (take x.count s) (get_or s x.count 0 ∷ drop (suc x.count) s) =
      rw (drop-cons s x.count 0 h) at r.exact.stops in
      let g' : GoesOn L (take (suc x.count) s) = rw add-one at g in
      st (rw (take-suc s x.count 0 h) at g')

  refused_there : ((v : A) → L s v → ⊥) → Refused L s x.count
  refused_there n =
      record { within = r.within; none = n; before = λ i h. fewer_go_on L s i x.count h r.exact.live; there = there }

  whole : (v : A) → L s v → x.count < length s → ⊥
  whole v l h =
      there h
      (shorter L (take (x.count + 1) s) (drop (x.count + 1) s)
      (record { tail = []; meaning = v; derives = rw (append-nil, take-append-drop) l }))

  all : length s ≤ x.count → take x.count s ≡ s
  all h = take_all x.count s h

  abbrev test : Bool
  test = x.good && eqb x.count (length s)

  none : test ≡ false → (v : A) → L s v → ⊥
  none f v l = by (dec_le (x.count + 1) (length s))
    where
      by : Dec (x.count + 1 ≤ length s) → ⊥
      by (yes h) = whole v l (omega arith)
      by (no h) =
          let o = r.exact.only v (rw (all (omega arith)) l) in
          let q : eqb x.count (length s) ≡ true = eq-eqb x.count (length s) (omega (arith, r.within)) in
          false≢true (sym f ∙ rw (o.0, q))

  ended : test ≡ true → length s ≤ x.count
  ended f = omega (arith, eqb-true x.count (length s) (and_right x.good (eqb x.count (length s)) f))

  says : (t : Bool) → test ≡ t → Holds L s (cond t (means x.value) (refused x.count))
  says true f = rw (all (ended f)) at (r.exact.yields (and_left x.good (eqb x.count (length s)) f))
  says false f = refused_there (none f)

  only : (t : Bool) → test ≡ t → (o : Judgement A) → Holds L s o → cond t (means x.value) (refused x.count) ≡ o
  only true f (means v) h = ap means (sym (r.exact.only v (rw (all (ended f)) h)).1)
  only true f (refused j) h = absurd (h.none x.value (says true f))
  only false f (means v) h = absurd (none f v h)
  only false f (refused j) h = ap refused (one_place L s x.count j (refused_there (none f)) h)

  -- The judgement is exactly what holds: the meaning if and only if it derives, the place if and only if it is refused there.
  pub judged : (o : Judgement A) → (judgement s x ≡ o) ↔ Holds L s o
  judged o = (λ q. rw q at (says test refl), only test refl o)
