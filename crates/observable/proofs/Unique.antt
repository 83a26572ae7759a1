-- Exactly one result meets each public function's own contract.
-- tools/promises makes this file from the contracts, and the gate holds it to them.
use Rattle.std.specs.Prelude.{Bool, Option}
use Rattle.basis.specs.Unique.{ExactlyOne}
use Rattle.basis.proofs.Unique.{equation}
use Rattle.window_size.specs.declared.WindowMultiplier.{WindowMultiplier}
use Rattle.observable.specs.declared.TcpObservation.{TcpObservation}
use Rattle.observable.specs.Observation.{empty_observation, own_timestamp_nonzero, window_multiplier}
use Rattle.observable.proofs.TcpObservation.empty.Reads as empty'
use Rattle.observable.proofs.TcpObservation.own_timestamp_is_nonzero.Reads as own_timestamp_is_nonzero'
use Rattle.observable.proofs.TcpObservation.window_multiplier.Reads as window_multiplier'

pub empty_one : ExactlyOne TcpObservation (λ (r : TcpObservation). empty'.Post tt tt r tt)
empty_one = equation empty_observation

pub window_multiplier_one
    : (self : TcpObservation)
    → ExactlyOne (Option WindowMultiplier) (λ (r : Option WindowMultiplier). window_multiplier'.Post tt (self, tt) r (self, tt))
window_multiplier_one self = equation (window_multiplier self)

pub own_timestamp_is_nonzero_one
    : (self : TcpObservation)
    → ExactlyOne Bool (λ (r : Bool). own_timestamp_is_nonzero'.Post tt (self, tt) r (self, tt))
own_timestamp_is_nonzero_one self = equation (own_timestamp_nonzero self)
