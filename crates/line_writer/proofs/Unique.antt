-- Exactly one result meets each public function's own contract.
-- tools/promises makes this file from the contracts, and the gate holds it to them.
use Rattle.std.specs.Borrow.{Bor, MutBor}
use Rattle.std.specs.Prelude.{ℕ, List, Result}
use contract.Lifetimes.{Lfts}
use Rattle.basis.specs.Unique.{ExactlyOne}
use Rattle.basis.proofs.Unique.{both}
use Rattle.refusals.specs.declared.Refusal.{Refusal}
use Rattle.text.specs.Written.{left_with}
use Rattle.observable.specs.declared.TcpObservation.{TcpObservation}
use Rattle.line_writer.proofs.write_listed.Reads as write_listed'
use Rattle.line_writer.proofs.write_observation.Reads as write_observation'
use Rattle.line_writer.proofs.write_record.Reads as write_record'

pub write_observation_one
    : (κs : Lfts 1) (buffer : MutBor (List ℕ)) (o : TcpObservation)
    → ExactlyOne ((Result ℕ Refusal) × List ℕ)
    (λ (r : (Result ℕ Refusal) × List ℕ). write_observation'.Post κs (buffer, (o, tt)) r.0 (left_with buffer r.1, (o, tt)))
write_observation_one κs buffer o = both _ _

pub write_listed_one
    : (κs : Lfts 2) (buffer : MutBor (List ℕ)) (list : Bor (List ℕ)) (index : ℕ)
    → ExactlyOne ((Result ℕ Refusal) × List ℕ)
    (λ (r : (Result ℕ Refusal) × List ℕ). write_listed'.Post κs (buffer, (list, (index, tt))) r.0
    (left_with buffer r.1, (list, (index, tt))))
write_listed_one κs buffer list index = both _ _

pub write_record_one
    : (κs : Lfts 2) (buffer : MutBor (List ℕ)) (list : Bor (List ℕ)) (index : ℕ)
    → ExactlyOne ((Result ℕ Refusal) × List ℕ)
    (λ (r : (Result ℕ Refusal) × List ℕ). write_record'.Post κs (buffer, (list, (index, tt))) r.0
    (left_with buffer r.1, (list, (index, tt))))
write_record_one κs buffer list index = both _ _
