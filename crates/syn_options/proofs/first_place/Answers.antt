-- `syn_options::first_place` meets its contract.
use Rattle.std.specs.Prelude.{Option, Some, None}
use Rattle.std.specs.Option.{option_or}
use Prim.Native.Nat.{ℕ}
use mathlib.Core.Path.{◌≡◌, refl}
use Rattle.syn_options.specs.Stops.{first_known}
use Rattle.syn_options.proofs.first_place.Goals as goal

is_or : (known : Option ℕ) (at : ℕ) → option_or known (Some at) ≡ first_known known at
unfolding first_known
is_or None at = refl
is_or (Some n) at = refl

pub returns : goal.returns
returns c = rw (c.or.ensures, is_or c.args.known c.args.at)
