-- What writing a list as a keeper's file answers, by the order of the tests.
use Rattle.std.specs.Prelude.{Result, Ok, Err}
use Prim.Native.Nat.{ℕ}
use mathlib.Core.Path.{◌≡◌, refl}
use mathlib.Core.List.{List}
use Rattle.refusals.specs.declared.ListRefusal.{ListRefusal}
use Rattle.siglist.specs.List.{check_list}
use Rattle.written_line.proofs.Answers.{into}
use Rattle.keeper_file.specs.FileAnswers.{FileAnswer}
use Rattle.keeper_file.specs.FileText.{file_text, file_of, write_file}

pub file_answer : (l : List ℕ) (room : ℕ) → FileAnswer l room (write_file l room)
unfolding write_file
file_answer l room = by (check_list l) refl
  where
    by : (a : Result (Unit {0}) ListRefusal) → check_list l ≡ a → FileAnswer l room (file_of a l room)
    by (Ok tt) e =
        into (FileAnswer l room) (file_text l) room (λ short. FileAnswer.no_room e short) (λ enough. FileAnswer.written e enough)
    by (Err r) e = FileAnswer.list_refused_lem r e
