-- Exactly one result meets each public function's own contract.
-- tools/promises makes this file from the contracts, and the gate holds it to them.
use Rattle.std.specs.Prelude.{ℕ, Bool, Option}
use Rattle.basis.specs.Unique.{ExactlyOne}
use Rattle.basis.proofs.Unique.{equation}
use Rattle.tcp.specs.declared.IpVersion.{IpVersion}
use Rattle.tcp.specs.declared.PayloadSize.{PayloadSize}
use Rattle.ttl.specs.declared.Ttl.{Ttl}
use Rattle.window_size.specs.declared.WindowMultiplier.{WindowMultiplier}
use Rattle.sigrecord.specs.declared.WindowSize.{WindowSize}
use Rattle.sigrecord.specs.Record.{payload_of, version_of}
use Rattle.distances.specs.declared.TtlFit.{TtlFit}
use Rattle.distances.specs.DistanceGates.{payload_matches, version_matches, window_matches}
use Rattle.distances.specs.Distances.{reported_hops, ttl_fit}
use Rattle.distances.proofs.ip_version_matches.Reads as ip_version_matches'
use Rattle.distances.proofs.payload_size_matches.Reads as payload_size_matches'
use Rattle.distances.proofs.report_hop_distance.Reads as report_hop_distance'
use Rattle.distances.proofs.ttl_fit.Reads as ttl_fit'
use Rattle.distances.proofs.window_size_matches.Reads as window_size_matches'

pub ip_version_matches_one
    : (observed : IpVersion) (code : ℕ)
    → ExactlyOne Bool (λ (r : Bool). ip_version_matches'.Post tt (observed, (code, tt)) r (observed, (code, tt)))
ip_version_matches_one observed code = equation (version_matches observed (version_of code))

pub ttl_fit_one
    : (observed : ℕ) (signature : Ttl)
    → ExactlyOne (Option TtlFit) (λ (r : Option TtlFit). ttl_fit'.Post tt (observed, (signature, tt)) r (observed, (signature, tt)))
ttl_fit_one observed signature = equation (ttl_fit observed signature)

pub report_hop_distance_one
    : (observed signature : Ttl)
    → ExactlyOne ℕ (λ (r : ℕ). report_hop_distance'.Post tt (observed, (signature, tt)) r (observed, (signature, tt)))
report_hop_distance_one observed signature = equation (reported_hops observed signature)

pub window_size_matches_one
    : (observed : ℕ) (signature : WindowSize) (multiplier : Option WindowMultiplier)
    → ExactlyOne Bool
    (λ (r : Bool). window_size_matches'.Post tt (observed, (signature, (multiplier, tt))) r (observed, (signature, (multiplier, tt))))
window_size_matches_one observed signature multiplier = equation (window_matches observed signature multiplier)

pub payload_size_matches_one
    : (observed : PayloadSize) (code : ℕ)
    → ExactlyOne Bool (λ (r : Bool). payload_size_matches'.Post tt (observed, (code, tt)) r (observed, (code, tt)))
payload_size_matches_one observed code = equation (payload_matches observed (payload_of code))
