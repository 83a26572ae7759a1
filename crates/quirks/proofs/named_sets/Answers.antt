-- `quirks::named_sets` meets its contract.
use mathlib.Core.Path.{refl}
use Rattle.quirks.specs.Named.{named_sets, empty, fuzzy_deletable, fuzzy_addable, mask_when_obs_v4, mask_when_obs_v6}
use Rattle.quirks.specs.Named.{seventeen, from_quirks, display_order}
use Rattle.quirks.specs.Quirks.{with, bit_of, place_of}
use Rattle.quirks.proofs.named_sets.Goals as goal

pub returns : goal.returns
unfolding named_sets empty fuzzy_deletable fuzzy_addable mask_when_obs_v4 mask_when_obs_v6 seventeen from_quirks display_order with bit_of
    place_of
returns c = refl
