-- Exactly one result meets each public function's own contract.
-- tools/promises makes this file from the contracts, and the gate holds it to them.
use Rattle.std.specs.Borrow.{Bor, MutBor}
use Rattle.std.specs.Prelude.{ℕ, List, Result}
use contract.Lifetimes.{Lfts}
use Rattle.basis.specs.Unique.{ExactlyOne}
use Rattle.basis.proofs.Unique.{both}
use Rattle.text.specs.Written.{left_with}
use Rattle.keeper_file.specs.declared.LineRefusal.{LineRefusal}
use Rattle.list_compiler.proofs.compile_list.Reads as compile_list'

pub compile_list_one
    : (κs : Lfts 2) (buffer : MutBor (List ℕ)) (file : Bor (List ℕ))
    → ExactlyOne ((Result ℕ LineRefusal) × List ℕ)
    (λ (r : (Result ℕ LineRefusal) × List ℕ). compile_list'.Post κs (buffer, (file, tt)) r.0 (left_with buffer r.1, (file, tt)))
compile_list_one κs buffer file = both _ _
