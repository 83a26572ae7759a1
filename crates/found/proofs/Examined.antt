-- Laws of the count: which of what is found ended its search.
use mathlib.Core.Path.{◌≡◌, refl}
use mathlib.Core.Bool.{Bool, true, false, cond}
use Prim.Native.Nat.{ℕ, ◌+◌, ◌<◌}
use native.Mathlib.Omega.{arith}
use Rattle.matching.specs.declared.SignatureFit.{SignatureFit}
use Rattle.matching.specs.declared.SignatureFit.TheVariants as fit
use Rattle.found.specs.declared.Hit.{Hit}
use Rattle.found.specs.declared.Found.{Found}
use Rattle.found.specs.declared.Found.TheVariants as found
use Rattle.found.specs.Least.{unranked}
use Rattle.found.specs.Rank.{found_of, exact_rank, rank_of}
use Rattle.found.specs.Examined.{examined_of, searched_in}
use Rattle.found.proofs.Rank.{exact_first}

-- What is not specific and exact did not end it: all records were examined.
pub all_examined : (size : ℕ) (x : Found) → 0 < rank_of x → examined_of size x ≡ size
all_examined size found.None h = refl
all_examined size (found.Fuzzy hit reason) h = refl
all_examined size (found.Exact hit) h = by_kind hit.generic h
  where
    by_kind : (generic : Bool) → 0 < exact_rank generic → cond generic size (hit.number + 1) ≡ size
    by_kind true h = refl
    by_kind false h = absurd (omega arith)

-- What is specific and exact ended it, at its position.
pub ended_there
    : (size : ℕ) (hit : Hit) (x : SignatureFit) → rank_of (found_of hit x) ≡ 0 → examined_of size (found_of hit x) ≡ hit.number + 1
unfolding found_of
ended_there size hit fit.None h = absurd (omega arith)
ended_there size hit (fit.Fuzzy reason) h = absurd (omega arith)
ended_there size hit fit.Exact h = by_kind hit.generic h
  where
    by_kind : (generic : Bool) → exact_rank generic ≡ 0 → cond generic size (hit.number + 1) ≡ hit.number + 1
    by_kind true h = absurd (omega arith)
    by_kind false h = refl

-- What has no rank is none.
pub unranked_none : (x : Found) → rank_of x ≡ unranked → found.None ≡ x
unranked_none found.None h = refl
unranked_none (found.Fuzzy hit reason) h = absurd (omega arith)
unranked_none (found.Exact hit) h = absurd (omega (arith, exact_first hit.generic))

-- An answer is what was found, and the count of it.
pub answers : (size n : ℕ) (x y : Found) → x ≡ y → n ≡ examined_of size x → record { found = x; examined = n } ≡ searched_in size y
answers size n x y e c = rw (c, e)
