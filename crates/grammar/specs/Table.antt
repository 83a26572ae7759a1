-- A field as a table: each row a word, the form that it means, and what stands after the word.
use Rattle.std.specs.Prelude.{ℕ, ◌≡◌, ◌⊎◌, Bool, List, [], ◌∷◌}
use Rattle.grammar.specs.Numeral.{Numeral}

-- After its word a row has nothing more, or a numeral up to a bound.
pub data Tail : Type 0 where
  nothing : Tail
  numeral : ℕ → (ℕ → Bool) → Tail

pub data Row : Type 0 where
  row : List ℕ → ℕ → Tail → Row

-- A form, and the number that stands with it (0 if none does).
pub record Said : Type 0 where
  pub form : ℕ
  pub number : ℕ

abbrev pub said : ℕ → ℕ → Said
said f n = record { form = f; number = n }

abbrev pub TailSays : Tail → List ℕ → ℕ → Type 0
TailSays nothing w n = (w ≡ []) × (n ≡ 0)
TailSays (numeral max wanted) w n = Numeral max wanted w n

-- The word, then the tail.
abbrev pub RowSays : List ℕ → ℕ → Tail → List ℕ → Said → Type 0
RowSays [] f t w v = (v.form ≡ f) × TailSays t w v.number
RowSays (c ∷ cs) f t [] v = ⊥
RowSays (c ∷ cs) f t (b ∷ w) v = (b ≡ c) × RowSays cs f t w v

-- One row of the table.
abbrev pub Choice : List Row → List ℕ → Said → Type 0
Choice [] w v = ⊥
Choice (row cs f t ∷ rows) w v = RowSays cs f t w v ⊎ Choice rows w v
