-- Demand 1, a line for each public function of list_compiler.
-- tools/promises makes this file from the contracts, and the gate holds it to them.
use Rattle.std.specs.Borrow.{Bor, MutBor}
use Rattle.std.specs.Prelude.{ℕ, List}
use contract.Lifetimes.{Lfts}
use Rattle.text.specs.Written.{left_with}
use Rattle.keeper_file.specs.Compiling.{compile_file}
use Rattle.list_compiler.specs.contracts.compile_list as compile_list'
use Rattle.list_compiler.proofs.compile_list.Reads as compile_list_reads
use Rattle.acceptance.specs.Promised.{LineAnswers}

pub record Promises : Type 0 where
  pub compile_list_one
      : (κs : Lfts 2) (buffer : MutBor (List ℕ)) (file : Bor (List ℕ))
      → LineAnswers compile_list'.signature κs (compile_list_reads.Pre κs) (compile_list_reads.Post κs)
      (buffer, (file, tt)) (λ bytes. (left_with buffer bytes, (file, tt))) buffer.now (compile_file file.now)
