-- What a search finds in one record, and its rank (document 02, Wish 3): "first specific exact, else first generic exact, else first
-- fuzzy of either kind"; document 01, "The signature list": "with its reason; else none".
use Rattle.std.specs.Prelude.{ℕ, Bool, true, false, cond}
use Rattle.matching.specs.declared.SignatureFit.{SignatureFit}
use Rattle.matching.specs.declared.SignatureFit.TheVariants as fit
use Rattle.found.specs.declared.Hit.{Hit}
use Rattle.found.specs.declared.Found.{Found}
use Rattle.found.specs.declared.Found.TheVariants as found
use Rattle.found.specs.Least.{unranked}

-- What is found in one record: which it is, how it fits, and the reason.
unfoldable pub found_of : Hit → SignatureFit → Found
found_of hit fit.None = found.None
found_of hit fit.Exact = found.Exact hit
found_of hit (fit.Fuzzy reason) = found.Fuzzy hit reason

-- Specific exact before generic exact before fuzzy of either kind; what does not fit has no rank.
abbrev pub exact_rank : Bool → ℕ
exact_rank generic = cond generic 1 0

abbrev pub rank_of : Found → ℕ
rank_of (found.Exact hit) = exact_rank hit.generic
rank_of (found.Fuzzy hit reason) = 2
rank_of found.None = unranked

abbrev pub is_none : SignatureFit → Bool
is_none fit.None = true
is_none fit.Exact = false
is_none (fit.Fuzzy reason) = false
