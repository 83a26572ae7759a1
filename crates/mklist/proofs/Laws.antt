-- A list that was written lies within its buffer.
use Rattle.std.specs.Prelude.{Result, Ok, Err}
use mathlib.Core.Path.{◌≡◌, refl, sym, ◌∙◌, ap}
use mathlib.Core.List.{List}
use Prim.Native.Nat.{ℕ, ◌≤◌}
use native.Mathlib.Omega.{arith}
use lib.ListN.{length}
use Rattle.text.specs.Written.{Lined, Writes}
use Rattle.text.proofs.Writing.{written_length}
use Rattle.keeper_file.specs.declared.LineRefusal.{LineRefusal}
use Rattle.keeper_file.specs.CompileAnswers.{CompileAnswer}
use Rattle.keeper_file.specs.Compiling.{refusing_line, compile_file}
use Rattle.keeper_file.proofs.CompileAnswers.{compile_answer}

abbrev size_of : Result ℕ LineRefusal → ℕ
size_of (Ok n) = n
size_of (Err r) = 0

record Sized (x : Lined (Result ℕ LineRefusal)) (room : ℕ) : Type 0 where
  size : size_of x.answer ≡ length x.line
  within : length x.line ≤ room

sized : (file : List ℕ) (room : ℕ) (x : Lined (Result ℕ LineRefusal)) → CompileAnswer file room x → Sized x room
unfolding refusing_line
sized file room x (CompileAnswer.bad_line line at before refused) = record { size = refl; within = omega arith }
sized file room x (CompileAnswer.too_many_signatures all line before full few) = record { size = refl; within = omega arith }
sized file room x (CompileAnswer.too_many_entries all line before m means few small large) = record { size = refl; within = omega arith }
sized file room x (CompileAnswer.no_room all few small short) = record { size = refl; within = omega arith }
sized file room x (CompileAnswer.compiled_list list' says enough) = record { size = refl; within = enough }

pub list_within
    : (file buffer buffer' : List ℕ) (r : Result ℕ LineRefusal) (n : ℕ) → Writes buffer (compile_file file) r buffer' → r ≡ Ok n
    → n ≤ length buffer'
list_within file buffer buffer' r n writes e =
    let x = compile_file file (length buffer) in
    let s = sized file (length buffer) x (compile_answer file (length buffer)) in
    let same : n ≡ length x.line = ap size_of (sym e ∙ writes.0) ∙ s.size in
    let kept : length buffer' ≡ length buffer = ap length writes.1 ∙ written_length buffer x.line 0 (omega (arith, s.within)) in
    omega (arith, s.within)
