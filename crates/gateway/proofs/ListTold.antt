-- The struct beside a compiled list: `length` is the list's, and nothing is written beside a refusal.
use Rattle.std.specs.Prelude.{Result}
use mathlib.Core.Path.{◌≡◌, refl}
use mathlib.Core.List.{List}
use Prim.Native.Nat.{ℕ, ◌<◌, ◌≤◌}
use native.Mathlib.Nat.{mod-eq_of_lt}
use native.Mathlib.Omega.{arith}
use Rattle.text.specs.Written.{Lined}
use Rattle.refusals.specs.declared.Refusal.{Refusal}
use Rattle.refusals.specs.declared.Refusal.TheVariants as refusal
use Rattle.refusals.specs.Refusals.{number}
use Rattle.keeper_file.specs.declared.LineRefusal.{LineRefusal}
use Rattle.keeper_file.specs.CompileAnswers.{CompileAnswer}
use Rattle.keeper_file.specs.Compiling.{refusing_line, compile_file}
use Rattle.keeper_file.proofs.CompileAnswers.{compile_answer}
use Rattle.gateway.specs.declared.TermreadCompiled.{TermreadCompiled}
use Rattle.gateway.specs.Compiled.{compiled_parts, compile_parts, longest_list, ListTold}

abbrev parts : Lined (Result ℕ LineRefusal) → Lined TermreadCompiled
parts x = record { answer = compiled_parts x.answer; line = x.line }

-- A refusal has a number; 15 only where the buffer is short.
refused_told
    : (room k : ℕ) (r : Refusal) → 0 < number r → (longest_list ≤ room → number r ≡ 15 → ⊥) → ListTold room (parts (refusing_line k r))
unfolding compiled_parts refusing_line
refused_told room k r some enough =
    record {
      told = λ (e : number r ≡ 0). absurd (omega arith);
      inside = omega arith;
      none = λ h. (refl, refl);
      enough = enough;
    }

list_told_so : (file : List ℕ) (room : ℕ) (x : Lined (Result ℕ LineRefusal)) → CompileAnswer file room x → ListTold room (parts x)
unfolding compiled_parts refusing_line
list_told_so file room x (CompileAnswer.bad_line line at before refused) =
    refused_told room line.number (refusal.BadLine at) (omega arith) (λ h (e : ◌≡◌ {A = ℕ} 13 15). omega arith)
list_told_so file room x (CompileAnswer.too_many_signatures all line before full few) =
    refused_told room line.number refusal.TooManySignatures (omega arith) (λ h (e : ◌≡◌ {A = ℕ} 24 15). omega arith)
list_told_so file room x (CompileAnswer.too_many_entries all line before m means few small large) =
    refused_told room line.number refusal.TooManyEntries (omega arith) (λ h (e : ◌≡◌ {A = ℕ} 25 15). omega arith)
list_told_so file room x (CompileAnswer.no_room all few small short) =
    refused_told room 0 refusal.BufferTooShort (omega arith) (λ h e. omega arith)
list_told_so file room x (CompileAnswer.compiled_list list' says enough) =
    record {
      told = λ h. mod-eq_of_lt (omega (arith, says.size, says.signatures, says.entries));
      inside = enough;
      none = λ h. absurd (h refl);
      enough = λ h (e : ◌≡◌ {A = ℕ} 0 15). omega arith;
    }

pub list_told : (file : List ℕ) (room : ℕ) → ListTold room (compile_parts file room)
unfolding compile_parts
list_told file room = list_told_so file room (compile_file file room) (compile_answer file room)
