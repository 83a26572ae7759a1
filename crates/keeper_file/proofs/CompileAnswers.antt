-- What compiling a file answers is what is so of the file.
use Rattle.std.specs.Prelude.{Result, Ok, Err}
use Prim.Native.Nat.{ℕ, ◌≤◌}
use mathlib.Core.Path.{◌≡◌, refl}
use mathlib.Core.Bool.{Bool, true, false, cond}
use mathlib.Core.List.{List, [], ◌∷◌, ◌++◌}
use native.Mathlib.Omega.{arith}
use lib.Dec.{ltb}
use lib.ListN.{length}
use borrow.Author.Tests.{ltb-true, ltb-false}
use Rattle.text.specs.Written.{Lined}
use Rattle.refusals.specs.declared.Refusal.TheVariants as refusal
use Rattle.signature_line.specs.Meaning.{LineMeaning}
use Rattle.keeper_file.specs.declared.Counts.{Counts}
use Rattle.keeper_file.specs.declared.LineRefusal.{LineRefusal}
use Rattle.keeper_file.specs.CompileAnswers.{EachMeans, ListSays, LinesBefore, AllGood, CompileAnswer}
use Rattle.keeper_file.specs.Compiling.{first_bad, most_signatures, most_entries, meanings, tallied_from, refusing_line}
use Rattle.keeper_file.specs.Compiling.{list_into, tallied_into, checked_into, compile_file}
use Rattle.keeper_file.specs.Lines.{Numbered, signature_lines}
use Rattle.keeper_file.specs.ListText.{entry_total, list_text}
use Rattle.keeper_file.proofs.KeptWellFormed.{kept_good}
use Rattle.keeper_file.proofs.LinesRead.{line_meaning, EachRead, each_means, meanings_length, each_before}
use Rattle.keeper_file.proofs.LinesRead.{LinesChecked, lines_checked, Tallied, lines_tallied}
use Rattle.keeper_file.proofs.ListBytes.{list_bytes}
use Rattle.keeper_file.proofs.ListParts.{AllKept}
use Rattle.keeper_file.proofs.ListGood.{list_size_lem, list_good, list_records}

-- The lines before one, and what they mean.
abbrev before
    : (file : List ℕ) (earlier : List Numbered) (line : Numbered) (later : List Numbered)
    → signature_lines file ≡ earlier ++ line ∷ later
    → EachRead earlier
    → LinesBefore file line
before file earlier line later splits each =
    record { earlier = earlier; later = later; splits = splits; means = meanings earlier; each = each_means earlier each }

-- What the lines of a file mean is well formed.
pub each_kept : {lines : List Numbered} {ms : List LineMeaning} → EachMeans lines ms → AllKept ms
each_kept EachMeans.none = tt
each_kept (EachMeans.one_more {line = line} {m = m} here rest) = (kept_good line.text m here.says, each_kept rest)

module _ (file : List ℕ) (room : ℕ) where
  abbrev lines : List Numbered
  lines = signature_lines file

  abbrev ms : List LineMeaning
  ms = meanings lines

  -- Every line is read.
  module _ (all : EachRead lines) where
    abbrev all_good : AllGood file
    all_good = record { means = ms; each = each_means lines all }

    kept : AllKept ms
    kept = each_kept (each_means lines all)

    list_says : length ms ≤ most_signatures → entry_total ms ≤ most_entries → ListSays file (list_text ms)
    list_says few small =
        record {
          bytes = list_bytes (each_means lines all) few small;
          good = list_good ms kept;
          meanings = ms;
          each = each_means lines all;
          records = list_records ms kept;
          size = list_size_lem ms kept;
          signatures = few;
          entries = small;
        }

    by_room
        : (t : Bool) → ltb room (length (list_text ms)) ≡ t → length ms ≤ most_signatures → entry_total ms ≤ most_entries
        → CompileAnswer file room
        (cond t (refusing_line 0 refusal.BufferTooShort)
        (record { answer = Ok (length (list_text ms)); line = list_text ms }))
    by_room true e few small =
        CompileAnswer.no_room all_good few small (omega (arith, ltb-true room (length (list_text ms)) e, list_size_lem ms kept))
    by_room false e few small =
        CompileAnswer.compiled_list (list_text ms) (list_says few small) (ltb-false room (length (list_text ms)) e)

    by_tally : (t : Result Counts LineRefusal) → Tallied 0 0 lines t → CompileAnswer file room (tallied_into t (list_text ms) room)
    unfolding list_into
    by_tally t (Tallied.counted n total a b few small) =
        by_room (ltb room (length (list_text ms))) refl (omega (arith, meanings_length lines)) (omega arith)
    by_tally t (Tallied.many_signatures earlier line later splits full small) =
        let each = each_before lines earlier line later splits all in
        CompileAnswer.too_many_signatures all_good line (before file earlier line later splits each.0) (omega arith) (omega arith)
    by_tally t (Tallied.many_entries earlier line later splits few small large) =
        let each = each_before lines earlier line later splits all in
        CompileAnswer.too_many_entries all_good line (before file earlier line later splits each.0) (line_meaning line) each.1
        (omega arith) (omega arith) (omega arith)

  by_check : (c : Result (Unit {0}) LineRefusal) → LinesChecked lines c → CompileAnswer file room (checked_into c lines room)
  by_check c (LinesChecked.all_read all) =
      by_tally all (tallied_from 0 0 lines) (lines_tallied 0 0 lines (omega arith) (omega arith))
  by_check c (LinesChecked.first_bad_lem earlier line later at splits each refused) =
      CompileAnswer.bad_line line at (before file earlier line later splits each) refused

  pub compile_answer : CompileAnswer file room (compile_file file room)
  unfolding compile_file
  compile_answer = by_check (first_bad lines) (lines_checked lines)

  -- Beside a refusal there is no list.
  pub nothing_written : (r : LineRefusal) → (compile_file file room).answer ≡ Err r → (compile_file file room).line ≡ []
  unfolding refusing_line
  nothing_written r = by (compile_file file room) compile_answer
    where
      by : (x : Lined (Result ℕ LineRefusal)) → CompileAnswer file room x → x.answer ≡ Err r → x.line ≡ []
      by x (CompileAnswer.bad_line line at earlier refused) e = refl
      by x (CompileAnswer.too_many_signatures all line earlier full few) e = refl
      by x (CompileAnswer.too_many_entries all line earlier m means few small large) e = refl
      by x (CompileAnswer.no_room all few small short) e = refl
      by x (CompileAnswer.compiled_list list' says enough) e = let z : ◌≡◌ {A = ℕ} 0 1 = cc in absurd (omega arith)
