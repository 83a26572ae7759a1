-- `observable::TcpObservation::empty` meets its contract.
use Rattle.observable.specs.Observation.{empty_observation, empty_layout}
use Rattle.quirks.specs.Named.{empty, from_quirks}
use mathlib.Core.Path.{refl}
use Rattle.observable.proofs.TcpObservation.empty.Goals as goal

pub returns : goal.returns
unfolding empty_observation empty_layout empty from_quirks
returns c = refl
