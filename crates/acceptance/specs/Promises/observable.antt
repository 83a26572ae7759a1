-- Demand 1, a line for each public function of observable.
-- tools/promises makes this file from the contracts, and the gate holds it to them.
use Rattle.observable.specs.declared.TcpObservation.{TcpObservation}
use Rattle.observable.specs.Observation.{empty_observation, own_timestamp_nonzero, window_multiplier}
use Rattle.observable.specs.contracts.TcpObservation.empty as empty'
use Rattle.observable.specs.contracts.TcpObservation.own_timestamp_is_nonzero as own_timestamp_is_nonzero'
use Rattle.observable.specs.contracts.TcpObservation.window_multiplier as window_multiplier'
use Rattle.observable.proofs.TcpObservation.empty.Reads as empty_reads
use Rattle.observable.proofs.TcpObservation.own_timestamp_is_nonzero.Reads as own_timestamp_is_nonzero_reads
use Rattle.observable.proofs.TcpObservation.window_multiplier.Reads as window_multiplier_reads
use Rattle.acceptance.specs.Promised.{Answers}

pub record Promises : Type 0 where
  pub empty_one : Answers empty'.signature tt (empty_reads.Pre tt) (empty_reads.Post tt) tt empty_observation
  pub window_multiplier_one
      : (self : TcpObservation)
      → Answers window_multiplier'.signature tt (window_multiplier_reads.Pre tt) (window_multiplier_reads.Post tt)
      (self, tt) (window_multiplier self)
  pub own_timestamp_is_nonzero_one
      : (self : TcpObservation)
      → Answers own_timestamp_is_nonzero'.signature tt (own_timestamp_is_nonzero_reads.Pre tt) (own_timestamp_is_nonzero_reads.Post tt)
      (self, tt) (own_timestamp_nonzero self)
