-- Demand 1, a line for each public function of gateway.
-- tools/promises makes this file from the contracts, and the gate holds it to them.
use Rattle.std.specs.Borrow.{Bor, MutBor}
use Rattle.std.specs.Prelude.{ℕ, List}
use contract.Lifetimes.{Lfts}
use Rattle.text.specs.Written.{left_with}
use Rattle.flow.specs.Modes.{mode_of}
use Rattle.siglist.specs.List.{check_list}
use Rattle.packet_answer.specs.Packet.{answer_in, answer_of, peer_of}
use Rattle.gateway.specs.Compiled.{compile_parts}
use Rattle.gateway.specs.Lines.{raw_line, raw_line_in, record_parts}
use Rattle.gateway.specs.Parts.{gateway_answer, gateway_in, list_parts, packet_parts, parts_of}
use Rattle.gateway.specs.contracts.termread_answer as termread_answer'
use Rattle.gateway.specs.contracts.termread_answer_checked as termread_answer_checked'
use Rattle.gateway.specs.contracts.termread_answer_checked_in as termread_answer_checked_in'
use Rattle.gateway.specs.contracts.termread_answer_in as termread_answer_in'
use Rattle.gateway.specs.contracts.termread_check_list as termread_check_list'
use Rattle.gateway.specs.contracts.termread_compile_list as termread_compile_list'
use Rattle.gateway.specs.contracts.termread_raw_line as termread_raw_line'
use Rattle.gateway.specs.contracts.termread_raw_line_in as termread_raw_line_in'
use Rattle.gateway.specs.contracts.termread_record_line as termread_record_line'
use Rattle.gateway.proofs.termread_answer.Reads as termread_answer_reads
use Rattle.gateway.proofs.termread_answer_checked.Reads as termread_answer_checked_reads
use Rattle.gateway.proofs.termread_answer_checked_in.Reads as termread_answer_checked_in_reads
use Rattle.gateway.proofs.termread_answer_in.Reads as termread_answer_in_reads
use Rattle.gateway.proofs.termread_check_list.Reads as termread_check_list_reads
use Rattle.gateway.proofs.termread_compile_list.Reads as termread_compile_list_reads
use Rattle.gateway.proofs.termread_raw_line.Reads as termread_raw_line_reads
use Rattle.gateway.proofs.termread_raw_line_in.Reads as termread_raw_line_in_reads
use Rattle.gateway.proofs.termread_record_line.Reads as termread_record_line_reads
use Rattle.acceptance.specs.Promised.{Answers, LineAnswers}

pub record Promises : Type 0 where
  pub termread_check_list_one
      : (κs : Lfts 1) (list : Bor (List ℕ))
      → Answers termread_check_list'.signature κs (termread_check_list_reads.Pre κs) (termread_check_list_reads.Post κs)
      (list, tt) (list_parts (check_list list.now))
  pub termread_answer_checked_one
      : (κs : Lfts 2) (packet : Bor (List ℕ)) (peer : ℕ) (list : Bor (List ℕ))
      → Answers termread_answer_checked'.signature κs (termread_answer_checked_reads.Pre κs) (termread_answer_checked_reads.Post κs)
      (packet, (peer, (list, tt))) (packet_parts (answer_of packet.now (peer_of peer) list.now))
  pub termread_answer_one
      : (κs : Lfts 2) (packet : Bor (List ℕ)) (peer : ℕ) (list : Bor (List ℕ))
      → Answers termread_answer'.signature κs (termread_answer_reads.Pre κs) (termread_answer_reads.Post κs)
      (packet, (peer, (list, tt))) (parts_of (gateway_answer packet.now peer list.now))
  pub termread_answer_checked_in_one
      : (κs : Lfts 2) (packet : Bor (List ℕ)) (peer : ℕ) (list : Bor (List ℕ)) (bits : ℕ)
      → Answers termread_answer_checked_in'.signature κs (termread_answer_checked_in_reads.Pre κs)
      (termread_answer_checked_in_reads.Post κs)
      (packet, (peer, (list, (bits, tt)))) (packet_parts (answer_in (mode_of bits) packet.now (peer_of peer) list.now))
  pub termread_answer_in_one
      : (κs : Lfts 2) (packet : Bor (List ℕ)) (peer : ℕ) (list : Bor (List ℕ)) (bits : ℕ)
      → Answers termread_answer_in'.signature κs (termread_answer_in_reads.Pre κs) (termread_answer_in_reads.Post κs)
      (packet, (peer, (list, (bits, tt)))) (parts_of (gateway_in (mode_of bits) packet.now peer list.now))
  pub termread_raw_line_one
      : (κs : Lfts 2) (buffer : MutBor (List ℕ)) (packet : Bor (List ℕ)) (peer : ℕ)
      → LineAnswers termread_raw_line'.signature κs (termread_raw_line_reads.Pre κs) (termread_raw_line_reads.Post κs)
      (buffer, (packet, (peer, tt))) (λ bytes. (left_with buffer bytes, (packet, (peer, tt)))) buffer.now (raw_line packet.now peer)
  pub termread_raw_line_in_one
      : (κs : Lfts 2) (buffer : MutBor (List ℕ)) (packet : Bor (List ℕ)) (peer bits : ℕ)
      → LineAnswers termread_raw_line_in'.signature κs (termread_raw_line_in_reads.Pre κs) (termread_raw_line_in_reads.Post κs)
      (buffer, (packet, (peer, (bits, tt)))) (λ bytes. (left_with buffer bytes, (packet, (peer, (bits, tt))))) buffer.now
      (raw_line_in bits packet.now peer)
  pub termread_record_line_one
      : (κs : Lfts 2) (buffer : MutBor (List ℕ)) (list : Bor (List ℕ)) (index : ℕ)
      → LineAnswers termread_record_line'.signature κs (termread_record_line_reads.Pre κs) (termread_record_line_reads.Post κs)
      (buffer, (list, (index, tt))) (λ bytes. (left_with buffer bytes, (list, (index, tt)))) buffer.now (record_parts list.now index)
  pub termread_compile_list_one
      : (κs : Lfts 2) (buffer : MutBor (List ℕ)) (file : Bor (List ℕ))
      → LineAnswers termread_compile_list'.signature κs (termread_compile_list_reads.Pre κs) (termread_compile_list_reads.Post κs)
      (buffer, (file, tt)) (λ bytes. (left_with buffer bytes, (file, tt))) buffer.now (compile_parts file.now)
