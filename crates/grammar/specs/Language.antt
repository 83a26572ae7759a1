-- Languages with meanings: which words of bytes there are, and what each says. No reader is named here.
use Rattle.std.specs.Prelude.{ℕ, zero, suc, ◌+◌, ◌<◌, ◌≤◌, ◌⊎◌, ◌≡◌, List, [], ◌∷◌, ◌++◌, length, take}

-- A string that goes on: some word of the language, of any length, begins with it.
pub record GoesOn {A : Type 0} (L : List ℕ → A → Type 0) (p : List ℕ) : Type 0 where
  pub tail : List ℕ
  pub meaning : A
  pub derives : L (p ++ tail) meaning

-- Refused at a place: the string has no meaning, goes on up to the place, and not with the byte there, if one is there.
pub record Refused {A : Type 0} (L : List ℕ → A → Type 0) (s : List ℕ) (k : ℕ) : Type 0 where
  pub within : k ≤ length s
  pub none : (v : A) → L s v → ⊥
  pub before : (i : ℕ) → i ≤ k → GoesOn L (take i s)
  pub there : k < length s → GoesOn L (take (k + 1) s) → ⊥

-- A word of the first and a word of the second, with nothing between.
pub record Join {A B : Type 0} (F : List ℕ → A → Type 0) (T : List ℕ → B → Type 0) (w : List ℕ) (m : A × B) : Type 0 where
  pub left : List ℕ
  pub right : List ℕ
  pub splits : w ≡ left ++ right
  pub first : F left m.0
  pub second : T right m.1

-- The byte, then a word.
abbrev pub Behind : {A : Type 0} → ℕ → (List ℕ → A → Type 0) → List ℕ → A → Type 0
Behind c L [] v = ⊥
Behind c L (b ∷ w) v = (b ≡ c) × L w v

-- A word of the first, the byte, a word of the second.
abbrev pub Then : {A B : Type 0} → (List ℕ → A → Type 0) → ℕ → (List ℕ → B → Type 0) → List ℕ → A × B → Type 0
Then F c G = Join F (Behind c G)

-- Nothing, which means this, or a word.
abbrev pub Optional : {A : Type 0} → A → (List ℕ → A → Type 0) → List ℕ → A → Type 0
Optional d L w v = ((w ≡ []) × (v ≡ d)) ⊎ L w v

-- The words, with another meaning.
abbrev pub Mapped : {A B : Type 0} → (A → B) → (List ℕ → A → Type 0) → List ℕ → B → Type 0
Mapped {A} f L w u = (v : A) × L w v × (u ≡ f v)

-- A row's first and others.
abbrev pub cons : {A : Type 0} → A × List A → List A
cons m = m.0 ∷ m.1

-- At most so many more, each behind the byte.
abbrev pub More : {A : Type 0} → (List ℕ → A → Type 0) → ℕ → ℕ → List ℕ → List A → Type 0
More F c zero w vs = (w ≡ []) × (vs ≡ [])
More F c (suc n) w vs = Optional [] (Behind c (Mapped cons (Join F (More F c n)))) w vs

-- One, and at most so many more.
abbrev pub Listed : {A : Type 0} → (List ℕ → A → Type 0) → ℕ → ℕ → List ℕ → List A → Type 0
Listed F c n = Mapped cons (Join F (More F c n))

-- Any number more; one, and any number more.
abbrev pub AnyMore : {A : Type 0} → (List ℕ → A → Type 0) → ℕ → List ℕ → List A → Type 0
AnyMore F c w vs = (n : ℕ) × More F c n w vs

abbrev pub AnyListed : {A : Type 0} → (List ℕ → A → Type 0) → ℕ → List ℕ → List A → Type 0
AnyListed F c = Mapped cons (Join F (AnyMore F c))
