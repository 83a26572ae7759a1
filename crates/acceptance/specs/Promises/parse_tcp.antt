-- Demand 1, a line for each public function of parse_tcp.
-- tools/promises makes this file from the contracts, and the gate holds it to them.
use Rattle.std.specs.Borrow.{Bor}
use Rattle.std.specs.Prelude.{ℕ, List}
use contract.Lifetimes.{Lfts}
use Rattle.signature_line.specs.Answer.{refused_at}
use Rattle.signature_line.specs.LineReader.{read_line}
use Rattle.parse_tcp.specs.contracts.parse_tcp_signature as parse_tcp_signature'
use Rattle.parse_tcp.specs.contracts.refused_at as refused_at'
use Rattle.parse_tcp.proofs.parse_tcp_signature.Reads as parse_tcp_signature_reads
use Rattle.parse_tcp.proofs.refused_at.Reads as refused_at_reads
use Rattle.acceptance.specs.Promised.{Answers}

pub record Promises : Type 0 where
  pub refused_at_one
      : (at : ℕ)
      → Answers refused_at'.signature tt (refused_at_reads.Pre tt) (refused_at_reads.Post tt) (at, tt) (refused_at at)
  pub parse_tcp_signature_one
      : (κs : Lfts 1) (line : Bor (List ℕ))
      → Answers parse_tcp_signature'.signature κs (parse_tcp_signature_reads.Pre κs) (parse_tcp_signature_reads.Post κs)
      (line, tt) (read_line line.now)
