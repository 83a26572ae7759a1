-- The named sets as rows of quirks (document 01, modules 1 and 7).
use Rattle.std.specs.Prelude.{List, [], ◌∷◌}
use Rattle.quirks.specs.declared.Quirk.{Quirk}
use Rattle.quirks.specs.declared.Quirk.TheVariants as quirk
use Rattle.quirks.specs.declared.QuirkSet.{QuirkSet}
use Rattle.quirks.specs.declared.NamedSets.{NamedSets}
use Rattle.quirks.specs.Quirks.{set_of, with}

-- The set of a row of quirks, put in one after the other.
unfoldable pub from_quirks : List Quirk → QuirkSet
from_quirks [] = set_of 0
from_quirks (q ∷ qs) = with (from_quirks qs) q

-- The seventeen, in the order in which p0f's text form names them.
unfoldable pub display_order : List Quirk
display_order =
    quirk.Df
    ∷ quirk.NonZeroID
    ∷ quirk.ZeroID
    ∷ quirk.Ecn
    ∷ quirk.MustBeZero
    ∷ quirk.FlowID
    ∷ quirk.SeqNumZero
    ∷ quirk.AckNumNonZero
    ∷ quirk.AckNumZero
    ∷ quirk.NonZeroURG
    ∷ quirk.Urg
    ∷ quirk.Push
    ∷ quirk.OwnTimestampZero
    ∷ quirk.PeerTimestampNonZero
    ∷ quirk.TrailinigNonZero
    ∷ quirk.ExcessiveWindowScaling
    ∷ quirk.OptBad
    ∷ []

unfoldable pub empty : QuirkSet
empty = from_quirks []

-- "missing df or id+ [is] tolerated"
unfoldable pub fuzzy_deletable : QuirkSet
fuzzy_deletable = from_quirks (quirk.Df ∷ quirk.NonZeroID ∷ [])

-- "added id- or ecn [is] tolerated"
unfoldable pub fuzzy_addable : QuirkSet
fuzzy_addable = from_quirks (quirk.ZeroID ∷ quirk.Ecn ∷ [])

-- "flow is dropped .. when the packet is v4"
unfoldable pub mask_when_obs_v4 : QuirkSet
mask_when_obs_v4 = from_quirks (quirk.FlowID ∷ [])

-- "and df, id+ and id- when v6"
unfoldable pub mask_when_obs_v6 : QuirkSet
mask_when_obs_v6 = from_quirks (quirk.Df ∷ quirk.NonZeroID ∷ quirk.ZeroID ∷ [])

unfoldable pub seventeen : QuirkSet
seventeen = from_quirks display_order

unfoldable pub named_sets : NamedSets
named_sets =
    record {
      empty = empty;
      fuzzy_deletable = fuzzy_deletable;
      fuzzy_addable = fuzzy_addable;
      mask_when_obs_v4 = mask_when_obs_v4;
      mask_when_obs_v6 = mask_when_obs_v6;
      seventeen = seventeen;
    }
