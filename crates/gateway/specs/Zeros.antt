-- What is 0 in an answer for C.
use Rattle.std.specs.Prelude.{◌≡◌, ◌%◌, ◌/◌, ◌<◌}
use Rattle.gateway.specs.declared.TermreadResult.{TermreadResult}

pub record Zeros (a : TermreadResult) : Type 0 where
  -- In every answer: what later requests fill.
  pub tolerated : a.tolerated ≡ 0
  pub other_marks : (a.marks / 2 % 2 ≡ 0) × (a.marks < 8)
  -- Unless exact, fuzzy or none.
  pub searched : (a.outcome ≡ 1 → ⊥) → (a.outcome ≡ 2 → ⊥) → (a.outcome ≡ 3 → ⊥) → (a.kind ≡ 0) × (a.examined ≡ 0)
  -- Unless exact or fuzzy.
  pub record_found : (a.outcome ≡ 1 → ⊥) → (a.outcome ≡ 2 → ⊥) → (a.label ≡ 0) × (a.number ≡ 0) × (a.marks ≡ 0)
  -- Unless fuzzy; and the hop distance unless the TTL is out of range.
  pub reason : (a.outcome ≡ 2 → ⊥) → (a.added ≡ 0) × (a.missing ≡ 0) × (a.hops ≡ 0) × (a.marks % 2 ≡ 0)
  pub in_range : a.marks % 2 ≡ 0 → a.hops ≡ 0
  -- Unless refused; and the value unless by 7 or 10.
  pub refusal : (a.outcome ≡ 5 → ⊥) → a.refusal ≡ 0
  pub value : (a.refusal ≡ 7 → ⊥) → (a.refusal ≡ 10 → ⊥) → a.value ≡ 0
