-- Demand 1, a line for each public function of distances.
-- tools/promises makes this file from the contracts, and the gate holds it to them.
use Rattle.std.specs.Prelude.{ℕ, Option}
use Rattle.tcp.specs.declared.IpVersion.{IpVersion}
use Rattle.tcp.specs.declared.PayloadSize.{PayloadSize}
use Rattle.ttl.specs.declared.Ttl.{Ttl}
use Rattle.window_size.specs.declared.WindowMultiplier.{WindowMultiplier}
use Rattle.sigrecord.specs.declared.WindowSize.{WindowSize}
use Rattle.sigrecord.specs.Record.{payload_of, version_of}
use Rattle.distances.specs.DistanceGates.{payload_matches, version_matches, window_matches}
use Rattle.distances.specs.Distances.{reported_hops, ttl_fit}
use Rattle.distances.specs.contracts.ip_version_matches as ip_version_matches'
use Rattle.distances.specs.contracts.payload_size_matches as payload_size_matches'
use Rattle.distances.specs.contracts.report_hop_distance as report_hop_distance'
use Rattle.distances.specs.contracts.ttl_fit as ttl_fit'
use Rattle.distances.specs.contracts.window_size_matches as window_size_matches'
use Rattle.distances.proofs.ip_version_matches.Reads as ip_version_matches_reads
use Rattle.distances.proofs.payload_size_matches.Reads as payload_size_matches_reads
use Rattle.distances.proofs.report_hop_distance.Reads as report_hop_distance_reads
use Rattle.distances.proofs.ttl_fit.Reads as ttl_fit_reads
use Rattle.distances.proofs.window_size_matches.Reads as window_size_matches_reads
use Rattle.acceptance.specs.Promised.{Answers}

pub record Promises : Type 0 where
  pub ip_version_matches_one
      : (observed : IpVersion) (code : ℕ)
      → Answers ip_version_matches'.signature tt (ip_version_matches_reads.Pre tt) (ip_version_matches_reads.Post tt)
      (observed, (code, tt)) (version_matches observed (version_of code))
  pub ttl_fit_one
      : (observed : ℕ) (signature : Ttl)
      → Answers ttl_fit'.signature tt (ttl_fit_reads.Pre tt) (ttl_fit_reads.Post tt)
      (observed, (signature, tt)) (ttl_fit observed signature)
  pub report_hop_distance_one
      : (observed signature : Ttl)
      → Answers report_hop_distance'.signature tt (report_hop_distance_reads.Pre tt) (report_hop_distance_reads.Post tt)
      (observed, (signature, tt)) (reported_hops observed signature)
  pub window_size_matches_one
      : (observed : ℕ) (signature : WindowSize) (multiplier : Option WindowMultiplier)
      → Answers window_size_matches'.signature tt (window_size_matches_reads.Pre tt) (window_size_matches_reads.Post tt)
      (observed, (signature, (multiplier, tt))) (window_matches observed signature multiplier)
  pub payload_size_matches_one
      : (observed : PayloadSize) (code : ℕ)
      → Answers payload_size_matches'.signature tt (payload_size_matches_reads.Pre tt) (payload_size_matches_reads.Post tt)
      (observed, (code, tt)) (payload_matches observed (payload_of code))
