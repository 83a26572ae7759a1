-- Exactly one result meets each public function's own contract.
-- tools/promises makes this file from the contracts, and the gate holds it to them.
use Rattle.std.specs.Borrow.{Bor}
use Rattle.std.specs.Prelude.{ℕ, List}
use contract.Lifetimes.{Lfts}
use Rattle.basis.specs.Unique.{ExactlyOne}
use Rattle.basis.proofs.Unique.{equation}
use Rattle.flow.specs.Modes.{mode_of}
use Rattle.witness.specs.declared.PlainLine.{PlainLine}
use Rattle.witness.specs.declared.PlainPacket.{PlainPacket}
use Rattle.witness.specs.Lined.{line_read}
use Rattle.counted.specs.Counted.{counted_answer, counted_kind, counted_reading, counted_reading_in}
use Rattle.counted.proofs.counted_answer.Reads as counted_answer'
use Rattle.counted.proofs.counted_line.Reads as counted_line'
use Rattle.counted.proofs.counted_observe.Reads as counted_observe'
use Rattle.counted.proofs.counted_observe_in.Reads as counted_observe_in'
use Rattle.counted.proofs.counted_read.Reads as counted_read'

pub counted_observe_one
    : (κs : Lfts 1) (packet : Bor (List ℕ)) (peer : ℕ)
    → ExactlyOne PlainPacket (λ (r : PlainPacket). counted_observe'.Post κs (packet, (peer, tt)) r (packet, (peer, tt)))
counted_observe_one κs packet peer = equation (counted_reading packet.now peer)

pub counted_read_one
    : (κs : Lfts 1) (packet : Bor (List ℕ)) (peer : ℕ)
    → ExactlyOne ℕ (λ (r : ℕ). counted_read'.Post κs (packet, (peer, tt)) r (packet, (peer, tt)))
counted_read_one κs packet peer = equation (counted_kind packet.now peer)

pub counted_observe_in_one
    : (κs : Lfts 1) (packet : Bor (List ℕ)) (peer bits : ℕ)
    → ExactlyOne PlainPacket (λ (r : PlainPacket). counted_observe_in'.Post κs (packet, (peer, (bits, tt))) r (packet, (peer, (bits, tt))))
counted_observe_in_one κs packet peer bits = equation (counted_reading_in (mode_of bits) packet.now peer)

pub counted_answer_one
    : (κs : Lfts 2) (packet : Bor (List ℕ)) (peer : ℕ) (list : Bor (List ℕ))
    → ExactlyOne ℕ (λ (r : ℕ). counted_answer'.Post κs (packet, (peer, (list, tt))) r (packet, (peer, (list, tt))))
counted_answer_one κs packet peer list = equation (counted_answer packet.now peer list.now)

pub counted_line_one
    : (κs : Lfts 1) (line : Bor (List ℕ))
    → ExactlyOne PlainLine (λ (r : PlainLine). counted_line'.Post κs (line, tt) r (line, tt))
counted_line_one κs line = equation (line_read line.now)
