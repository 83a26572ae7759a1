-- Demand 1, a line for each public function of packet_line.
-- tools/promises makes this file from the contracts, and the gate holds it to them.
use Rattle.std.specs.Borrow.{Bor, MutBor}
use Rattle.std.specs.Prelude.{ℕ, List, Result}
use contract.Lifetimes.{Lfts}
use Rattle.refusals.specs.declared.PacketRefusal.{PacketRefusal}
use Rattle.text.specs.Written.{left_with}
use Rattle.flow.specs.declared.Reading.{Reading}
use Rattle.packet_answer.specs.declared.PacketAnswer.{PacketAnswer}
use Rattle.packet_line.specs.PacketLine.{packet_line, reading_at}
use Rattle.packet_line.specs.contracts.put_packet as put_packet'
use Rattle.packet_line.specs.contracts.reading_at as reading_at'
use Rattle.packet_line.proofs.put_packet.Reads as put_packet_reads
use Rattle.packet_line.proofs.reading_at.Reads as reading_at_reads
use Rattle.acceptance.specs.Promised.{Answers, BufferAnswers}

pub record Promises : Type 0 where
  pub put_packet_one
      : (κs : Lfts 1) (buffer : MutBor (List ℕ)) (at : ℕ) (answer : Result PacketAnswer PacketRefusal)
      (reading : Result Reading PacketRefusal)
      → BufferAnswers put_packet'.signature κs (put_packet_reads.Pre κs) (put_packet_reads.Post κs)
      (buffer, (at, (answer, (reading, tt)))) (λ bytes. (left_with buffer bytes, (at, (answer, (reading, tt))))) buffer.now at
      (packet_line answer reading)
  pub reading_at_one
      : (κs : Lfts 1) (bundle : Bor (List ℕ)) (at end : ℕ)
      → Answers reading_at'.signature κs (reading_at_reads.Pre κs) (reading_at_reads.Post κs)
      (bundle, (at, (end, tt))) (reading_at bundle.now at end)
