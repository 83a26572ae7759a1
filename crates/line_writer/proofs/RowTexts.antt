-- A row of words as it is written: a byte before each, the colon before the first, a comma before the others; the colon alone if there is
-- none.
use mathlib.Core.Path.{◌≡◌, refl, ap}
use mathlib.Core.Bool.{cond}
use mathlib.Core.List.{List, [], ◌∷◌, ◌++◌}
use Prim.Native.Nat.{ℕ, ◌<◌}
use native.Mathlib.Omega.{arith}
use lib.Dec.{eqb}
use lib.ListN.{length}
use Rattle.grammar.specs.Spelling.{more_text, listed_text}
use Rattle.signature_line.specs.Line.{colon, comma}
use Rattle.text.specs.Written.{Put}
use Rattle.text.proofs.Writing.{both}

-- What is left of a row, if the byte comes before its next word.
abbrev pub row_text : {A : Type 0} → (A → List ℕ) → ℕ → List A → List ℕ
row_text text between [] = cond (eqb between colon) (colon ∷ []) []
row_text text between (v ∷ vs) = between ∷ (text v ++ row_text text comma vs)

module _ {A : Type 0} (text : A → List ℕ) where
  behind_first : (vs : List A) → row_text text comma vs ≡ more_text text comma vs
  behind_first [] = refl
  behind_first (v ∷ vs) = ap (λ (s : List ℕ). comma ∷ (text v ++ s)) (behind_first vs)

  pub whole_row : (vs : List A) → row_text text colon vs ≡ colon ∷ listed_text text comma vs
  whole_row [] = refl
  whole_row (v ∷ vs) = ap (λ (s : List ℕ). colon ∷ (text v ++ s)) (behind_first vs)

  -- How long it is: a byte before each word, or the colon alone.
  pub some_row : (vs : List A) (n : ℕ) → n ≡ length (more_text text comma vs) → 0 < n → n ≡ length (colon ∷ listed_text text comma vs)
  some_row [] n e h = absurd (omega arith)
  some_row (v ∷ vs) n e h = e

  pub no_row : (vs : List A) → length (more_text text comma vs) ≡ 0 → 1 ≡ length (colon ∷ listed_text text comma vs)
  no_row [] e = refl
  no_row (v ∷ vs) e = absurd (omega arith)

-- The byte between, a word, and what is left behind it.
pub word_put
    : (b b₁ b₂ b₃ word rest : List ℕ) (between at at₁ at₂ at₃ : ℕ)
    → Put b at (between ∷ []) at₁ b₁
    → Put b₁ at₁ word at₂ b₂
    → Put b₂ at₂ rest at₃ b₃
    → Put b at (between ∷ (word ++ rest)) at₃ b₃
word_put b b₁ b₂ b₃ word rest between at at₁ at₂ at₃ first second third =
    both b b₁ b₃ (between ∷ []) (word ++ rest) at at₁ at₃ first (both b₁ b₂ b₃ word rest at₁ at₂ at₃ second third)
