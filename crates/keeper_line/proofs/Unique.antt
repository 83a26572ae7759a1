-- Exactly one result meets each public function's own contract.
-- tools/promises makes this file from the contracts, and the gate holds it to them.
use Rattle.std.specs.Borrow.{Bor}
use Rattle.std.specs.Prelude.{ℕ, List, Result}
use contract.Lifetimes.{Lfts}
use Rattle.basis.specs.Unique.{ExactlyOne}
use Rattle.basis.proofs.Unique.{equation}
use Rattle.signature_line.specs.declared.BadLine.{BadLine}
use Rattle.signature_line.specs.declared.SignatureRead.{SignatureRead}
use Rattle.keeper_file.specs.KeptReader.{read_kept}
use Rattle.keeper_line.specs.declared.KeptAt.{KeptAt}
use Rattle.keeper_line.specs.Places.{kept_at}
use Rattle.keeper_line.proofs.kept_at.Reads as kept_at'
use Rattle.keeper_line.proofs.read_kept.Reads as read_kept'

pub read_kept_one
    : (κs : Lfts 1) (line : Bor (List ℕ))
    → ExactlyOne (Result SignatureRead BadLine) (λ (r : Result SignatureRead BadLine). read_kept'.Post κs (line, tt) r (line, tt))
read_kept_one κs line = equation (read_kept line.now)

pub kept_at_one
    : (κs : Lfts 1) (file : Bor (List ℕ)) (at : ℕ)
    → ExactlyOne KeptAt (λ (r : KeptAt). kept_at'.Post κs (file, (at, tt)) r (file, (at, tt)))
kept_at_one κs file at = equation (kept_at file.now at)
