-- The gates of MSS and scale ask the same of a declared number.
use Rattle.std.specs.Prelude.{Option, Some, None}
use mathlib.Core.Path.{◌≡◌, refl}
use Prim.Native.Nat.{ℕ}
use lib.Dec.{eqb}
use Rattle.matching.specs.Gates.{fits_declared, mss_matches, scale_matches}

pub mss_fits : (o s : Option ℕ) → mss_matches o s ≡ fits_declared eqb o s
unfolding mss_matches
mss_fits o None = refl
mss_fits None (Some declared) = refl
mss_fits (Some seen) (Some declared) = refl

pub scale_fits : (o s : Option ℕ) → scale_matches o s ≡ fits_declared eqb o s
unfolding scale_matches
scale_fits o None = refl
scale_fits None (Some declared) = refl
scale_fits (Some seen) (Some declared) = refl
