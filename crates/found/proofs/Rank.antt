-- Laws of the rank: what fits exactly comes first, and what is held after one more is found.
use mathlib.Core.Path.{◌≡◌, sym, ◌∙◌, ap}
use mathlib.Core.Bool.{Bool, true, false}
use Prim.Native.Nat.{ℕ, ◌<◌, ◌≤◌}
use native.Mathlib.Omega.{arith}
use Rattle.found.specs.declared.Found.{Found}
use Rattle.found.specs.Least.{prefer}
use Rattle.found.specs.Rank.{exact_rank, rank_of}
use Rattle.found.proofs.Least.{kept, preferred}

-- What fits exactly comes before what fits fuzzily.
pub exact_first : (generic : Bool) → exact_rank generic < 2
exact_first true = omega arith
exact_first false = omega arith

-- What is found in a record is taken if its rank is less than that of what is held, and else left.
module _ (held found candidate : Found) (best rank : ℕ) (e : found ≡ candidate) (h : best ≡ rank_of held) (f : rank ≡ rank_of found) where
  pub taken : rank < best → found ≡ prefer rank_of held candidate
  taken less = e ∙ sym (preferred rank_of held candidate (omega (arith, ap rank_of e)))

  pub left : best ≤ rank → held ≡ prefer rank_of held candidate
  left more = sym (kept rank_of held candidate (omega (arith, ap rank_of e)))
