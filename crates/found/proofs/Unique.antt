-- Exactly one result meets each public function's own contract.
-- tools/promises makes this file from the contracts, and the gate holds it to them.
use Rattle.std.specs.Prelude.{ℕ, Bool}
use Rattle.basis.specs.Unique.{ExactlyOne}
use Rattle.basis.proofs.Unique.{equation}
use Rattle.matching.specs.declared.SignatureFit.{SignatureFit}
use Rattle.found.specs.declared.Found.{Found}
use Rattle.found.specs.declared.Hit.{Hit}
use Rattle.found.specs.Rank.{found_of, is_none, rank_of}
use Rattle.found.proofs.found_of.Reads as found_of'
use Rattle.found.proofs.is_none.Reads as is_none'
use Rattle.found.proofs.rank_of.Reads as rank_of'

pub is_none_one : (fit : SignatureFit) → ExactlyOne Bool (λ (r : Bool). is_none'.Post tt (fit, tt) r (fit, tt))
is_none_one fit = equation (is_none fit)

pub found_of_one
    : (hit : Hit) (fit : SignatureFit)
    → ExactlyOne Found (λ (r : Found). found_of'.Post tt (hit, (fit, tt)) r (hit, (fit, tt)))
found_of_one hit fit = equation (found_of hit fit)

pub rank_of_one : (found : Found) → ExactlyOne ℕ (λ (r : ℕ). rank_of'.Post tt (found, tt) r (found, tt))
rank_of_one found = equation (rank_of found)
