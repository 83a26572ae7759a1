-- Exactly one result meets each public function's own contract.
-- tools/promises makes this file from the contracts, and the gate holds it to them.
use Rattle.std.specs.Borrow.{Bor, MutBor}
use Rattle.std.specs.Prelude.{ℕ, List}
use contract.Lifetimes.{Lfts}
use Rattle.basis.specs.Unique.{ExactlyOne}
use Rattle.basis.proofs.Unique.{both, equation}
use Rattle.text.specs.Written.{left_with}
use Rattle.flow.specs.Modes.{mode_of}
use Rattle.siglist.specs.List.{check_list}
use Rattle.packet_answer.specs.Packet.{answer_in, answer_of, peer_of}
use Rattle.gateway.specs.declared.TermreadCompiled.{TermreadCompiled}
use Rattle.gateway.specs.declared.TermreadResult.{TermreadResult}
use Rattle.gateway.specs.Parts.{gateway_answer, gateway_in, list_parts, packet_parts, parts_of}
use Rattle.gateway.proofs.termread_answer.Reads as termread_answer'
use Rattle.gateway.proofs.termread_answer_checked.Reads as termread_answer_checked'
use Rattle.gateway.proofs.termread_answer_checked_in.Reads as termread_answer_checked_in'
use Rattle.gateway.proofs.termread_answer_in.Reads as termread_answer_in'
use Rattle.gateway.proofs.termread_check_list.Reads as termread_check_list'
use Rattle.gateway.proofs.termread_compile_list.Reads as termread_compile_list'
use Rattle.gateway.proofs.termread_raw_line.Reads as termread_raw_line'
use Rattle.gateway.proofs.termread_raw_line_in.Reads as termread_raw_line_in'
use Rattle.gateway.proofs.termread_record_line.Reads as termread_record_line'

pub termread_check_list_one
    : (κs : Lfts 1) (list : Bor (List ℕ))
    → ExactlyOne TermreadResult (λ (r : TermreadResult). termread_check_list'.Post κs (list, tt) r (list, tt))
termread_check_list_one κs list = equation (list_parts (check_list list.now))

pub termread_answer_checked_one
    : (κs : Lfts 2) (packet : Bor (List ℕ)) (peer : ℕ) (list : Bor (List ℕ))
    → ExactlyOne TermreadResult
    (λ (r : TermreadResult). termread_answer_checked'.Post κs (packet, (peer, (list, tt))) r (packet, (peer, (list, tt))))
termread_answer_checked_one κs packet peer list = equation (packet_parts (answer_of packet.now (peer_of peer) list.now))

pub termread_answer_one
    : (κs : Lfts 2) (packet : Bor (List ℕ)) (peer : ℕ) (list : Bor (List ℕ))
    → ExactlyOne TermreadResult
    (λ (r : TermreadResult). termread_answer'.Post κs (packet, (peer, (list, tt))) r (packet, (peer, (list, tt))))
termread_answer_one κs packet peer list = equation (parts_of (gateway_answer packet.now peer list.now))

pub termread_answer_checked_in_one
    : (κs : Lfts 2) (packet : Bor (List ℕ)) (peer : ℕ) (list : Bor (List ℕ)) (bits : ℕ)
    → ExactlyOne TermreadResult
    (λ (r : TermreadResult). termread_answer_checked_in'.Post κs (packet, (peer, (list, (bits, tt)))) r
    (packet, (peer, (list, (bits, tt)))))
termread_answer_checked_in_one κs packet peer list bits =
    equation (packet_parts (answer_in (mode_of bits) packet.now (peer_of peer) list.now))

pub termread_answer_in_one
    : (κs : Lfts 2) (packet : Bor (List ℕ)) (peer : ℕ) (list : Bor (List ℕ)) (bits : ℕ)
    → ExactlyOne TermreadResult
    (λ (r : TermreadResult). termread_answer_in'.Post κs (packet, (peer, (list, (bits, tt)))) r (packet, (peer, (list, (bits, tt)))))
termread_answer_in_one κs packet peer list bits = equation (parts_of (gateway_in (mode_of bits) packet.now peer list.now))

pub termread_raw_line_one
    : (κs : Lfts 2) (buffer : MutBor (List ℕ)) (packet : Bor (List ℕ)) (peer : ℕ)
    → ExactlyOne (TermreadResult × List ℕ)
    (λ (r : TermreadResult × List ℕ). termread_raw_line'.Post κs (buffer, (packet, (peer, tt))) r.0
    (left_with buffer r.1, (packet, (peer, tt))))
termread_raw_line_one κs buffer packet peer = both _ _

pub termread_raw_line_in_one
    : (κs : Lfts 2) (buffer : MutBor (List ℕ)) (packet : Bor (List ℕ)) (peer bits : ℕ)
    → ExactlyOne (TermreadResult × List ℕ)
    (λ (r : TermreadResult × List ℕ). termread_raw_line_in'.Post κs (buffer, (packet, (peer, (bits, tt)))) r.0
    (left_with buffer r.1, (packet, (peer, (bits, tt)))))
termread_raw_line_in_one κs buffer packet peer bits = both _ _

pub termread_record_line_one
    : (κs : Lfts 2) (buffer : MutBor (List ℕ)) (list : Bor (List ℕ)) (index : ℕ)
    → ExactlyOne (TermreadResult × List ℕ)
    (λ (r : TermreadResult × List ℕ). termread_record_line'.Post κs (buffer, (list, (index, tt))) r.0
    (left_with buffer r.1, (list, (index, tt))))
termread_record_line_one κs buffer list index = both _ _

pub termread_compile_list_one
    : (κs : Lfts 2) (buffer : MutBor (List ℕ)) (file : Bor (List ℕ))
    → ExactlyOne (TermreadCompiled × List ℕ)
    (λ (r : TermreadCompiled × List ℕ). termread_compile_list'.Post κs (buffer, (file, tt)) r.0 (left_with buffer r.1, (file, tt)))
termread_compile_list_one κs buffer file = both _ _
