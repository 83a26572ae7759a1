-- Exactly one result meets each public function's own contract.
-- tools/promises makes this file from the contracts, and the gate holds it to them.
use Rattle.std.specs.Borrow.{Bor, MutBor}
use Rattle.std.specs.Prelude.{ℕ, List, Result}
use contract.Lifetimes.{Lfts}
use Rattle.basis.specs.Unique.{ExactlyOne}
use Rattle.basis.proofs.Unique.{both, equation}
use Rattle.refusals.specs.declared.PacketRefusal.{PacketRefusal}
use Rattle.text.specs.Written.{left_with}
use Rattle.flow.specs.declared.Reading.{Reading}
use Rattle.packet_answer.specs.declared.PacketAnswer.{PacketAnswer}
use Rattle.packet_line.specs.PacketLine.{reading_at}
use Rattle.packet_line.proofs.put_packet.Reads as put_packet'
use Rattle.packet_line.proofs.reading_at.Reads as reading_at'

pub put_packet_one
    : (κs : Lfts 1) (buffer : MutBor (List ℕ)) (at : ℕ) (answer : Result PacketAnswer PacketRefusal)
    (reading : Result Reading PacketRefusal)
    → ExactlyOne (ℕ × List ℕ)
    (λ (r : ℕ × List ℕ). put_packet'.Post κs (buffer, (at, (answer, (reading, tt)))) r.0
    (left_with buffer r.1, (at, (answer, (reading, tt)))))
put_packet_one κs buffer at answer reading = both _ _

pub reading_at_one
    : (κs : Lfts 1) (bundle : Bor (List ℕ)) (at end : ℕ)
    → ExactlyOne (Result Reading PacketRefusal)
    (λ (r : Result Reading PacketRefusal). reading_at'.Post κs (bundle, (at, (end, tt))) r (bundle, (at, (end, tt))))
reading_at_one κs bundle at end = equation (reading_at bundle.now at end)
