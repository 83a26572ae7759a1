-- The keeper's file: each theorem in its place.
use mathlib.Core.Path.{refl}
use Rattle.signature_line.proofs.Accepted.{nothing_beside}
use Rattle.keeper_file.specs.KeptReader.{read_kept}
use Rattle.keeper_file.proofs.Accepted.{kept_accepted, kept_refused, kept_one_meaning}
use Rattle.keeper_file.proofs.CompileAnswers.{compile_answer, nothing_written}
use Rattle.keeper_file.proofs.CompiledAgain.{compiled_again}
use Rattle.keeper_file.proofs.FileAnswers.{file_answer}
use Rattle.keeper_file.proofs.FileValues.{file_values}
use Rattle.keeper_file.proofs.RoomEnough.{never_short}
use Rattle.file_writer.proofs.Lines.{shown_good}
use Rattle.gateway.proofs.ListTold.{list_told}
use Rattle.acceptance.specs.KeepersFile.{KeepersFile}

pub keepers_file_lem : KeepersFile
keepers_file_lem =
    record {
      accepted = kept_accepted;
      refused = kept_refused;
      refusal_gives = λ s. nothing_beside (read_kept s);
      one_meaning = kept_one_meaning;
      compiled = compile_answer;
      nothing_written = nothing_written;
      thirteen = λ k at. refl;
      fifteen = λ k. refl;
      twenty_four = λ k. refl;
      twenty_five = λ k. refl;
      told = list_told;
      never_short = never_short;
      file = file_answer;
      compiled_again = compiled_again;
      shown = shown_good;
      values = file_values;
    }
