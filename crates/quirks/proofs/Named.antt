-- The named sets as numbers: the union of all seventeen is 0x1F03F03F.
use mathlib.Core.Path.{◌≡◌, refl}
use Rattle.quirks.specs.Quirks.{set_of, with, bit_of, place_of}
use Rattle.quirks.specs.Named.{from_quirks, display_order, empty, fuzzy_deletable, fuzzy_addable, mask_when_obs_v4, mask_when_obs_v6}
use Rattle.quirks.specs.Named.{seventeen}
use Rattle.quirks.specs.declared.TheConstants.Quirk.{DISPLAY_ORDER}

-- The constant that the code loops over.
pub in_order : DISPLAY_ORDER ≡ display_order
unfolding display_order
in_order = refl

pub empty_bits : empty ≡ set_of 0
unfolding empty from_quirks
empty_bits = refl

pub fuzzy_deletable_bits : fuzzy_deletable ≡ set_of 0x6
unfolding fuzzy_deletable from_quirks with bit_of place_of
fuzzy_deletable_bits = refl

pub fuzzy_addable_bits : fuzzy_addable ≡ set_of 0x9
unfolding fuzzy_addable from_quirks with bit_of place_of
fuzzy_addable_bits = refl

pub mask_when_obs_v4_bits : mask_when_obs_v4 ≡ set_of 0x20
unfolding mask_when_obs_v4 from_quirks with bit_of place_of
mask_when_obs_v4_bits = refl

pub mask_when_obs_v6_bits : mask_when_obs_v6 ≡ set_of 0xE
unfolding mask_when_obs_v6 from_quirks with bit_of place_of
mask_when_obs_v6_bits = refl

pub seventeen_bits : seventeen ≡ set_of 0x1F03F03F
unfolding seventeen from_quirks display_order with bit_of place_of
seventeen_bits = refl
