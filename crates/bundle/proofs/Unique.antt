-- Exactly one result meets each public function's own contract.
-- tools/promises makes this file from the contracts, and the gate holds it to them.
use Rattle.std.specs.Borrow.{Bor}
use Rattle.std.specs.Prelude.{ℕ, List, Option, Result}
use contract.Lifetimes.{Lfts}
use Rattle.basis.specs.Unique.{ExactlyOne}
use Rattle.basis.proofs.Unique.{equation}
use Rattle.flow.specs.declared.Mode.{Mode}
use Rattle.bundle.specs.declared.BundleRefusal.{BundleRefusal}
use Rattle.bundle.specs.declared.PacketAt.{PacketAt}
use Rattle.bundle.specs.Answers.{packet_at, packet_at_in}
use Rattle.bundle.specs.Bundle.{check_bundle}
use Rattle.bundle.proofs.check_bundle.Reads as check_bundle'
use Rattle.bundle.proofs.packet_at.Reads as packet_at'
use Rattle.bundle.proofs.packet_at_in.Reads as packet_at_in'

pub check_bundle_one
    : (κs : Lfts 1) (bundle : Bor (List ℕ))
    → ExactlyOne (Result (Unit {0}) BundleRefusal)
    (λ (r : Result (Unit {0}) BundleRefusal). check_bundle'.Post κs (bundle, tt) r (bundle, tt))
check_bundle_one κs bundle = equation (check_bundle bundle.now)

pub packet_at_in_one
    : (κs : Lfts 1) (bundle : Bor (List ℕ)) (at : ℕ) (mode : Mode)
    → ExactlyOne (Option PacketAt) (λ (r : Option PacketAt). packet_at_in'.Post κs (bundle, (at, (mode, tt))) r (bundle, (at, (mode, tt))))
packet_at_in_one κs bundle at mode = equation (packet_at_in mode bundle.now at)

pub packet_at_one
    : (κs : Lfts 1) (bundle : Bor (List ℕ)) (at : ℕ)
    → ExactlyOne (Option PacketAt) (λ (r : Option PacketAt). packet_at'.Post κs (bundle, (at, tt)) r (bundle, (at, tt)))
packet_at_one κs bundle at = equation (packet_at bundle.now at)
