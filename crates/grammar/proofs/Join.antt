-- Two languages one after the other, where the second never begins with a byte of the first: the first is read, then the second.
use Prim.Native.Nat.{ℕ}
use mathlib.Core.Path.{◌≡◌, refl, sym, ◌∙◌, ap}
use mathlib.Core.Logic.{◌⊎◌, inl, inr}
use mathlib.Core.Bool.{Bool, true, false, false≢true}
use mathlib.Core.List.{List, [], ◌∷◌, ◌++◌, append_assoc, append-nil, head-eq_of_cons-eq, tail-eq_of_cons-eq, nil≢cons, cons≢nil}
use Rattle.grammar.specs.Language.{GoesOn, Join}
use Rattle.grammar.proofs.Exact.{Exact, Stops}

-- Every byte of a string is in a set.
pub data Within (D : ℕ → Bool) : List ℕ → Type 0 where
  nil : Within D []
  inside : {b : ℕ} {w : List ℕ} → D b ≡ true → Within D w → Within D (b ∷ w)

-- A string is empty or begins with a byte outside a set.
abbrev pub Outside : (ℕ → Bool) → List ℕ → Type 0
Outside D [] = Unit
Outside D (b ∷ w) = D b ≡ false

pub within_left : (D : ℕ → Bool) (x y : List ℕ) → Within D (x ++ y) → Within D x
within_left D [] y h = nil
within_left D (b ∷ x) y (inside d h) = inside d (within_left D x y h)

within_at : (D : ℕ → Bool) (x : List ℕ) (b : ℕ) (y : List ℕ) → Within D (x ++ b ∷ y) → D b ≡ true
within_at D [] b y (inside d h) = d
within_at D (a ∷ x) b y (inside d h) = within_at D x b y h

-- Where the second splits a string, against a first word within the set: there, or after more of the first.
pub record Longer (p y u : List ℕ) : Type 0 where
  pub byte : ℕ
  pub rest : List ℕ
  pub after : List ℕ
  pub longer : u ≡ p ++ byte ∷ rest
  pub next : y ≡ byte ∷ after

pub meets : (D : ℕ → Bool) (p y u v : List ℕ) → Within D p → Outside D v → p ++ y ≡ u ++ v → ((p ≡ u) × (y ≡ v)) ⊎ Longer p y u
meets D [] y [] v f g e = inl (refl, e)
meets D [] y (b ∷ u) v f g e = inr (record { byte = b; rest = u; after = u ++ v; longer = refl; next = e })
meets D (a ∷ p) y [] [] f g e = absurd (cons≢nil e)
meets D (a ∷ p) y [] (b ∷ v) (inside d f) g e =
    let h = head-eq_of_cons-eq e in
    absurd (false≢true (sym g ∙ rw h at d))
meets D (a ∷ p) y (b ∷ u) v (inside d f) g e = next (head-eq_of_cons-eq e) (meets D p y u v f g (tail-eq_of_cons-eq e))
  where
    next : a ≡ b → ((p ≡ u) × (y ≡ v)) ⊎ Longer p y u → ((a ∷ p ≡ b ∷ u) × (y ≡ v)) ⊎ Longer (a ∷ p) y (b ∷ u)
    next h (inl s) = let k = s.0 in inl (cc, s.1)
    next h (inr l) = let k = l.longer in inr (record { byte = l.byte; rest = l.rest; after = l.after; longer = cc; next = l.next })

module _ {A B : Type 0} (F : List ℕ → A → Type 0) (T : List ℕ → B → Type 0) (D : ℕ → Bool)
    (within : (w : List ℕ) (v : A) → F w v → Within D w) (outside : (w : List ℕ) (v : B) → T w v → Outside D w) where
  -- A longer first word cannot be: the first stops there, and what the second has read is outside the set.
  stuck : (p p' z : List ℕ) (t : GoesOn T p') (u : List ℕ) (v : A) → F u v
      → (p' ≡ [] → (b : ℕ) (y : List ℕ) → z ≡ b ∷ y → GoesOn F (p ++ b ∷ []) → ⊥) → Longer p (p' ++ z) u → ⊥
  stuck p [] z t u v f stops l =
      let k : (p ++ l.byte ∷ []) ++ l.rest ≡ p ++ l.byte ∷ l.rest = simp append_assoc in
      stops refl l.byte l.after l.next (record { tail = l.rest; meaning = v; derives = rw (k, ← l.longer) f })
  stuck p (a ∷ p') z t u v f stops l =
      let o : D a ≡ false = outside (a ∷ (p' ++ t.tail)) t.meaning t.derives in
      let h = head-eq_of_cons-eq l.next in
      let i : D l.byte ≡ true = within_at D p l.byte l.rest (rw l.longer at (within u v f)) in
      false≢true (sym o ∙ rw h i)

  first_stops : (p r : List ℕ) → Stops F p r → (b : ℕ) (y : List ℕ) → r ≡ b ∷ y → GoesOn F (p ++ b ∷ []) → ⊥
  first_stops p [] st b y e g = nil≢cons e
  first_stops p (a ∷ r) st b y e g = let h = head-eq_of_cons-eq e in st (rw h g)

  joined_stops
      : (p p' r r' : List ℕ) (v : A) → Exact F p r true v → GoesOn T p' → Stops T p' r' → r ≡ p' ++ r'
      → Stops (Join F T) (p ++ p') r'
  joined_stops p p' r [] v e t st q = tt
  joined_stops p p' r (b ∷ r'') v e t st q = λ g.
      let d = g.derives in
      let together : ((p ++ p') ++ b ∷ []) ++ g.tail ≡ p ++ (p' ++ b ∷ g.tail) = simp append_assoc in
      by g.meaning d.left d.right d.first d.second g.tail
      (meets D p (p' ++ b ∷ g.tail) d.left d.right (within p v (e.yields refl)) (outside d.right g.meaning.1 d.second)
      (sym together ∙ d.splits))
    where
      at_b : (z : List ℕ) → p' ≡ [] → (c : ℕ) (y : List ℕ) → b ∷ z ≡ c ∷ y → GoesOn F (p ++ c ∷ []) → ⊥
      at_b z n c y k g =
          let whole : p' ++ b ∷ r'' ≡ b ∷ r'' = rw n in
          first_stops p r e.stops c r'' (q ∙ whole ∙ ap (λ (x : ℕ). x ∷ r'') (head-eq_of_cons-eq k)) g

      by : (m : A × B) (u w : List ℕ) → F u m.0 → T w m.1 → (z : List ℕ)
          → ((p ≡ u) × (p' ++ b ∷ z ≡ w)) ⊎ Longer p (p' ++ b ∷ z) u → ⊥
      by m u w f s z (inl k) =
          let a : (p' ++ b ∷ []) ++ z ≡ p' ++ b ∷ z = simp append_assoc in
          st (record { tail = z; meaning = m.1; derives = rw (a, k.1) s })
      by m u w f s z (inr l) = stuck p p' (b ∷ z) t u m.0 f (at_b z) l

  pair : {a a' : A} {b b' : B} → a ≡ a' → b ≡ b' → ◌≡◌ {A = A × B} (a, b) (a', b')
  pair x y = cc

  -- What the first has read has a meaning: the reading goes on with the second.
  pub joined : {p p' r r' : List ℕ} {good : Bool} {v : A} {u : B}
      → Exact F p r true v → Exact T p' r' good u → r ≡ p' ++ r' → Exact (Join F T) (p ++ p') r' good (v, u)
  joined {p} {p'} {r} {r'} {good} {v} {u} e t q =
      let f : F p v = e.yields refl in
      record {
        live =
            record {
              tail = t.live.tail;
              meaning = (v, t.live.meaning);
              derives =
                  record {
                    left = p;
                    right = p' ++ t.live.tail;
                    splits = append_assoc p p' t.live.tail;
                    first = f;
                    second = t.live.derives;
                  };
            };
        stops = joined_stops p p' r r' v e t.live t.stops q;
        yields = λ h. record { left = p; right = p'; splits = refl; first = f; second = t.yields h };
        only = λ m j. by m j.left j.right j.first j.second
            (meets D p p' j.left j.right (within p v f) (outside j.right m.1 j.second) j.splits);
      }
    where
      by : (m : A × B) (x w : List ℕ) → F x m.0 → T w m.1 → ((p ≡ x) × (p' ≡ w)) ⊎ Longer p p' x → (good ≡ true) × (m ≡ (v, u))
      by m x w f s (inl k) =
          let a = e.only m.0 (rw k.0 f) in
          let b = t.only m.1 (rw k.1 s) in
          (b.0, pair a.1 b.1)
      by m x w f s (inr l) =
          absurd (stuck p p' [] t.live x m.0 f (λ n b y k g. nil≢cons k) (rw append-nil l))

  -- It has none: the reading stops there.
  pub unjoined : GoesOn T [] → {p r : List ℕ} {v : A} (m : A × B) → Exact F p r false v → Exact (Join F T) p r false m
  unjoined t {p} {r} {v} m e =
      let f : Within D p = within_left D p e.live.tail (within (p ++ e.live.tail) e.live.meaning e.live.derives) in
      record {
        live =
            record {
              tail = e.live.tail ++ t.tail;
              meaning = (e.live.meaning, t.meaning);
              derives =
                  record {
                    left = p ++ e.live.tail;
                    right = t.tail;
                    splits = sym (append_assoc p e.live.tail t.tail);
                    first = e.live.derives;
                    second = t.derives;
                  };
            };
        stops = stops r e.stops f;
        yields = λ h. absurd (false≢true h);
        only = λ n j. by n j.left j.right j.first
            (meets D p [] j.left j.right f (outside j.right n.1 j.second) (append-nil p ∙ j.splits));
      }
    where
      none : (a : A) (x : List ℕ) → F x a → p ≡ x → ⊥
      none a x g k = false≢true (e.only a (rw k g)).0

      by : (n : A × B) (x w : List ℕ) → F x n.0 → ((p ≡ x) × ([] ≡ w)) ⊎ Longer p [] x → (false ≡ true) × (n ≡ m)
      by n x w g (inl k) = absurd (none n.0 x g k.0)
      by n x w g (inr l) = absurd (nil≢cons l.next)

      stops : (r'' : List ℕ) → Stops F p r'' → Within D p → Stops (Join F T) p r''
      stops [] st f = tt
      stops (b ∷ r'') st f = λ g.
          let d = g.derives in
          let together : (p ++ b ∷ []) ++ g.tail ≡ p ++ b ∷ g.tail = simp append_assoc in
          at g.meaning d.left d.right d.first g.tail
          (meets D p (b ∷ g.tail) d.left d.right f (outside d.right g.meaning.1 d.second) (sym together ∙ d.splits))
        where
          at : (n : A × B) (x w : List ℕ) → F x n.0 → (z : List ℕ) → ((p ≡ x) × (b ∷ z ≡ w)) ⊎ Longer p (b ∷ z) x → ⊥
          at n x w g z (inl k) = none n.0 x g k.0
          at n x w g z (inr l) =
              let c : (p ++ l.byte ∷ []) ++ l.rest ≡ p ++ l.byte ∷ l.rest = simp append_assoc in
              first_stops p (b ∷ r'') st l.byte r'' (ap (λ (k : ℕ). k ∷ r'') (head-eq_of_cons-eq l.next))
              (record { tail = l.rest; meaning = n.0; derives = rw (c, ← l.longer) g })
