-- What an answer for C says of the line beside it.
use Rattle.std.specs.Prelude.{◌≡◌, [], ℕ, ◌≤◌, length}
use Rattle.text.specs.Written.{Lined}
use Rattle.gateway.specs.declared.TermreadResult.{TermreadResult}

-- What is 0, unless it is what a line or a refusal has.
pub record LineZeros (a : TermreadResult) : Type 0 where
  pub kind : (a.outcome ≡ 6 → ⊥) → a.kind ≡ 0
  pub refusal : (a.outcome ≡ 5 → ⊥) → a.refusal ≡ 0
  pub value : (a.outcome ≡ 6 → ⊥) → (a.refusal ≡ 7 → ⊥) → (a.refusal ≡ 10 → ⊥) → a.value ≡ 0
  pub search : (a.label ≡ 0) × (a.number ≡ 0) × (a.examined ≡ 0) × (a.marks ≡ 0)
  pub reason : (a.tolerated ≡ 0) × (a.added ≡ 0) × (a.missing ≡ 0) × (a.hops ≡ 0)

-- Of lines that are at most so long, in a buffer of so many bytes.
pub record LineTold (most room : ℕ) (l : Lined TermreadResult) : Type 0 where
  -- "its length" (document 02, Wish 7): all of it fits the field
  pub told : l.answer.outcome ≡ 6 → l.answer.value ≡ length l.line
  pub short : length l.line ≤ most
  pub inside : length l.line ≤ room
  -- "nothing written"
  pub none : (l.answer.outcome ≡ 6 → ⊥) → l.line ≡ []
  -- a buffer for the longest line is never too short
  pub enough : most ≤ room → l.answer.refusal ≡ 15 → ⊥
  pub zeros : LineZeros l.answer
