-- Demand 1, a line for each public function of bundle.
-- tools/promises makes this file from the contracts, and the gate holds it to them.
use Rattle.std.specs.Borrow.{Bor}
use Rattle.std.specs.Prelude.{ℕ, List}
use contract.Lifetimes.{Lfts}
use Rattle.flow.specs.declared.Mode.{Mode}
use Rattle.bundle.specs.Answers.{packet_at, packet_at_in}
use Rattle.bundle.specs.Bundle.{check_bundle}
use Rattle.bundle.specs.contracts.check_bundle as check_bundle'
use Rattle.bundle.specs.contracts.packet_at as packet_at'
use Rattle.bundle.specs.contracts.packet_at_in as packet_at_in'
use Rattle.bundle.proofs.check_bundle.Reads as check_bundle_reads
use Rattle.bundle.proofs.packet_at.Reads as packet_at_reads
use Rattle.bundle.proofs.packet_at_in.Reads as packet_at_in_reads
use Rattle.acceptance.specs.Promised.{Answers}

pub record Promises : Type 0 where
  pub check_bundle_one
      : (κs : Lfts 1) (bundle : Bor (List ℕ))
      → Answers check_bundle'.signature κs (check_bundle_reads.Pre κs) (check_bundle_reads.Post κs) (bundle, tt) (check_bundle bundle.now)
  pub packet_at_in_one
      : (κs : Lfts 1) (bundle : Bor (List ℕ)) (at : ℕ) (mode : Mode)
      → Answers packet_at_in'.signature κs (packet_at_in_reads.Pre κs) (packet_at_in_reads.Post κs)
      (bundle, (at, (mode, tt))) (packet_at_in mode bundle.now at)
  pub packet_at_one
      : (κs : Lfts 1) (bundle : Bor (List ℕ)) (at : ℕ)
      → Answers packet_at'.signature κs (packet_at_reads.Pre κs) (packet_at_reads.Post κs) (bundle, (at, tt)) (packet_at bundle.now at)
