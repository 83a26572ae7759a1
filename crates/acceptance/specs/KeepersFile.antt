-- The keeper's file: a text file of signatures compiled into a list, and the way back (D1). What a line of it is and means is
-- `keeper_file/specs/KeptLine.antt`, what its lines are `Lines.antt`; what compiling answers is the promise of `list_compiler`,
-- `compile_file` (`Compiling.antt`), what writing one answers that of `file_writer`, `write_file` (`FileText.antt`). `KeepersFile` is the
-- statement.
use Rattle.std.specs.Prelude.{◌≡◌, ◌↔◌, List, [], ◌++◌, ℕ, ◌+◌, ◌*◌, ◌<◌, ◌≤◌, length, Ok, Err}
use Rattle.basis.specs.Bytes.{AllBytes}
use Rattle.refusals.specs.declared.Refusal.TheVariants as refusal
use Rattle.refusals.specs.Refusals.{Verdict, number_of}
use Rattle.text.specs.Decimal.{newline}
use Rattle.siglist.specs.List.{record_count, check_list}
use Rattle.signature_line.specs.Answer.{read_of, refused_at, line_verdict}
use Rattle.signature_line.specs.Meaning.{LineMeaning}
use Rattle.keeper_file.specs.declared.LineRefusal.{LineRefusal}
use Rattle.keeper_file.specs.CompileAnswers.{CompileAnswer}
use Rattle.keeper_file.specs.Compiling.{most_entries, compile_file, compiled_verdict}
use Rattle.keeper_file.specs.FileAnswers.{FileAnswer}
use Rattle.keeper_file.specs.FileText.{kept_text, write_file}
use Rattle.keeper_file.specs.FileValues.{FileValues}
use Rattle.keeper_file.specs.KeptLine.{KeptMeans, KeptRefused}
use Rattle.keeper_file.specs.KeptReader.{read_kept}
use Rattle.keeper_file.specs.SameList.{entries_all, CompiledAgain}
use Rattle.file_writer.specs.Shown.{shown_text}
use Rattle.gateway.specs.Compiled.{compile_parts, ListTold}

pub record KeepersFile : Type 0 where
  -- A signature line is read exactly if it is one, into what it means; else refused where it goes on no more, with nothing beside that.
  pub accepted : (s : List ℕ) (m : LineMeaning) → (read_kept s ≡ read_of m) ↔ KeptMeans s m
  pub refused : (s : List ℕ) (at : ℕ) → (read_kept s ≡ refused_at at) ↔ KeptRefused s at
  pub refusal_gives
      : (s : List ℕ) (at : ℕ) → line_verdict (read_kept s) ≡ Verdict.refused (refusal.BadLine at) → read_kept s ≡ refused_at at
  pub one_meaning : (s : List ℕ) (m n : LineMeaning) → KeptMeans s m → KeptMeans s n → m ≡ n
  -- What compiling a file answers and writes, and when, on every file and every buffer: among it that the list is well formed, has one
  -- record for each signature line, in order, and that each record means what its line says, with its label and kind.
  pub compiled : (file : List ℕ) (room : ℕ) → CompileAnswer file room (compile_file file room)
  -- Beside a refusal nothing is written.
  pub nothing_written
      : (file : List ℕ) (room : ℕ) (r : LineRefusal) → (compile_file file room).answer ≡ Err r
      → (compile_file file room).line ≡ []
  -- The refusals by their numbers.
  pub thirteen : (k at : ℕ) → number_of (compiled_verdict (Err (record { line = k; refusal = refusal.BadLine at }))) ≡ 13
  pub fifteen : (k : ℕ) → number_of (compiled_verdict (Err (record { line = k; refusal = refusal.BufferTooShort }))) ≡ 15
  pub twenty_four : (k : ℕ) → number_of (compiled_verdict (Err (record { line = k; refusal = refusal.TooManySignatures }))) ≡ 24
  pub twenty_five : (k : ℕ) → number_of (compiled_verdict (Err (record { line = k; refusal = refusal.TooManyEntries }))) ≡ 25
  -- As C gets it: `length` is all of the list, beside a refusal nothing is written, a buffer of 1,638,374 bytes never meets 15.
  pub told : (file : List ℕ) (room : ℕ) → ListTold room (compile_parts file room)
  -- A buffer of twice the file's bytes, and 8, never meets 15 either.
  pub never_short
      : (file : List ℕ) (room : ℕ) → 8 + 2 * length file ≤ room → number_of (compiled_verdict (compile_file file room).answer) ≡ 15 → ⊥
  -- The way back: what is answered and written, and when; and that the file of a list, compiled again, is the same list up to where
  -- layouts lie and the order of areas, unless its layouts, counted for each record, are too many.
  pub file : (l : List ℕ) (room : ℕ) → FileAnswer l room (write_file l room)
  pub compiled_again : (l : List ℕ) → AllBytes l → check_list l ≡ Ok tt → entries_all l ≤ most_entries → CompiledAgain l
  -- What `showlist` prints of a record is its line of that file.
  pub shown
      : (l : List ℕ) (i : ℕ) → check_list l ≡ Ok tt → i < record_count l → AllBytes l → shown_text l i ≡ kept_text l i ++ newline
  -- Line ends, numbers of lines, labels, marks and offsets; a file of two records, and back.
  pub values : FileValues
