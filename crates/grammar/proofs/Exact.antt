-- The calculus of exact readings: what a field has read, what is left, and that it could read no more.
use Prim.Native.Nat.{ℕ}
use mathlib.Core.Path.{◌≡◌}
use mathlib.Core.Logic.{◌↔◌}
use mathlib.Core.Bool.{Bool, true}
use mathlib.Core.List.{List, [], ◌∷◌, ◌++◌}
use Rattle.grammar.specs.Language.{GoesOn}

-- What is left is nothing, or its first byte makes the word go on no more.
abbrev pub Stops : {A : Type 0} → (List ℕ → A → Type 0) → List ℕ → List ℕ → Type 0
Stops L p [] = Unit
Stops L p (b ∷ r) = GoesOn L (p ++ b ∷ []) → ⊥

-- An exact reading of a language: p was read and r is left; the word p has this meaning, or (not good) none.
pub record Exact {A : Type 0} (L : List ℕ → A → Type 0) (p r : List ℕ) (good : Bool) (value : A) : Type 0 where
  pub live : GoesOn L p
  pub stops : Stops L p r
  pub yields : good ≡ true → L p value
  pub only : (v : A) → L p v → (good ≡ true) × (v ≡ value)

-- The language after a byte.
abbrev pub After : {A : Type 0} → ℕ → (List ℕ → A → Type 0) → List ℕ → A → Type 0
After b L w v = L (b ∷ w) v

-- ---- one byte more; another language with the same words

stops_step : {A : Type 0} (L : List ℕ → A → Type 0) (b : ℕ) (p r : List ℕ) → Stops (After b L) p r → Stops L (b ∷ p) r
stops_step L b p [] h = h
stops_step L b p (x ∷ r) h = λ g. h (record { tail = g.tail; meaning = g.meaning; derives = g.derives })

pub step : {A : Type 0} (L : List ℕ → A → Type 0) (b : ℕ) {p r : List ℕ} {good : Bool} {value : A}
    → Exact (After b L) p r good value → Exact L (b ∷ p) r good value
step L b {p} {r} e =
    record {
      live = record { tail = e.live.tail; meaning = e.live.meaning; derives = e.live.derives };
      stops = stops_step L b p r e.stops;
      yields = e.yields;
      only = e.only;
    }

module _ {A : Type 0} (L M : List ℕ → A → Type 0) (same : (w : List ℕ) (v : A) → L w v ↔ M w v) where
  stops_same : (p r : List ℕ) → Stops L p r → Stops M p r
  stops_same p [] h = h
  stops_same p (x ∷ r) h = λ g. h (record { tail = g.tail; meaning = g.meaning; derives = (same _ _).1 g.derives })

  pub alike : {p r : List ℕ} {good : Bool} {value : A} → Exact L p r good value → Exact M p r good value
  alike {p} {r} {good} {value} e =
      record {
        live = record { tail = e.live.tail; meaning = e.live.meaning; derives = (same _ _).0 e.live.derives };
        stops = stops_same p r e.stops;
        yields = λ t. (same p value).0 (e.yields t);
        only = λ v m. e.only v ((same p v).1 m);
      }
