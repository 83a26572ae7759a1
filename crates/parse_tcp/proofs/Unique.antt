-- Exactly one result meets each public function's own contract.
-- tools/promises makes this file from the contracts, and the gate holds it to them.
use Rattle.std.specs.Borrow.{Bor}
use Rattle.std.specs.Prelude.{ℕ, List, Result}
use contract.Lifetimes.{Lfts}
use Rattle.basis.specs.Unique.{ExactlyOne}
use Rattle.basis.proofs.Unique.{equation}
use Rattle.signature_line.specs.declared.BadLine.{BadLine}
use Rattle.signature_line.specs.declared.SignatureRead.{SignatureRead}
use Rattle.signature_line.specs.Answer.{refused_at}
use Rattle.signature_line.specs.LineReader.{read_line}
use Rattle.parse_tcp.proofs.parse_tcp_signature.Reads as parse_tcp_signature'
use Rattle.parse_tcp.proofs.refused_at.Reads as refused_at'

pub refused_at_one
    : (at : ℕ)
    → ExactlyOne (Result SignatureRead BadLine) (λ (r : Result SignatureRead BadLine). refused_at'.Post tt (at, tt) r (at, tt))
refused_at_one at = equation (refused_at at)

pub parse_tcp_signature_one
    : (κs : Lfts 1) (line : Bor (List ℕ))
    → ExactlyOne (Result SignatureRead BadLine) (λ (r : Result SignatureRead BadLine). parse_tcp_signature'.Post κs (line, tt) r (line, tt))
parse_tcp_signature_one κs line = equation (read_line line.now)
