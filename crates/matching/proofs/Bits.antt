-- The bits of the sets of quirks that a fit asks for by their names.
use Rattle.quirks.proofs.Named.{fuzzy_deletable_bits, fuzzy_addable_bits, mask_when_obs_v4_bits, mask_when_obs_v6_bits}

pub ruleset masks = (mask_when_obs_v4_bits, mask_when_obs_v6_bits)

pub ruleset tolerated = (fuzzy_deletable_bits, fuzzy_addable_bits)
