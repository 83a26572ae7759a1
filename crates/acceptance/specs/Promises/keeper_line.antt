-- Demand 1, a line for each public function of keeper_line.
-- tools/promises makes this file from the contracts, and the gate holds it to them.
use Rattle.std.specs.Borrow.{Bor}
use Rattle.std.specs.Prelude.{ℕ, List}
use contract.Lifetimes.{Lfts}
use Rattle.keeper_file.specs.KeptReader.{read_kept}
use Rattle.keeper_line.specs.Places.{kept_at}
use Rattle.keeper_line.specs.contracts.kept_at as kept_at'
use Rattle.keeper_line.specs.contracts.read_kept as read_kept'
use Rattle.keeper_line.proofs.kept_at.Reads as kept_at_reads
use Rattle.keeper_line.proofs.read_kept.Reads as read_kept_reads
use Rattle.acceptance.specs.Promised.{Answers}

pub record Promises : Type 0 where
  pub read_kept_one
      : (κs : Lfts 1) (line : Bor (List ℕ))
      → Answers read_kept'.signature κs (read_kept_reads.Pre κs) (read_kept_reads.Post κs) (line, tt) (read_kept line.now)
  pub kept_at_one
      : (κs : Lfts 1) (file : Bor (List ℕ)) (at : ℕ)
      → Answers kept_at'.signature κs (kept_at_reads.Pre κs) (kept_at_reads.Post κs) (file, (at, tt)) (kept_at file.now at)
