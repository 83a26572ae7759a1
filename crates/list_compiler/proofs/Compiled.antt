-- The whole: what is answered of a file, and what is written.
use Rattle.std.specs.Prelude.{Result, Ok, Err}
use Prim.Native.Nat.{ℕ, ◌+◌, ◌*◌, ◌<◌, ◌≤◌}
use mathlib.Core.Path.{◌≡◌, refl, sym, ◌∙◌, ap, subst}
use mathlib.Core.List.{List, ◌++◌}
use native.Mathlib.Omega.{arith}
use lib.ListN.{length}
use borrow.Author.Tests.{lt-ltb, le-ltb}
use Rattle.text.specs.Written.{Put, Writes}
use Rattle.text.proofs.Writing.{both, nothing_written, put_all}
use Rattle.refusals.specs.declared.Refusal.{Refusal}
use Rattle.refusals.specs.declared.Refusal.TheVariants as refusal
use Rattle.signature_line.specs.Meaning.{LineMeaning}
use Rattle.keeper_file.specs.declared.Counts.{Counts}
use Rattle.keeper_file.specs.declared.LineRefusal.{LineRefusal}
use Rattle.keeper_file.specs.Compiling.{refused, first_bad, most_signatures, most_entries, meanings, tallied_from}
use Rattle.keeper_file.specs.Compiling.{refusing_line, list_into, compile_file}
use Rattle.keeper_file.specs.Lines.{signature_lines}
use Rattle.keeper_file.specs.ListText.{entry_total, header_text, list_text}
use Rattle.list_compiler.specs.FileLines.{file_lines}
use Rattle.list_compiler.specs.FileParts.{file_meanings, file_check, file_tally, file_entries, file_records, file_into}
use Rattle.list_compiler.proofs.Passes.{check_same, tally_same, meanings_same}
use Rattle.list_compiler.proofs.Totals.{Totals, totals, list_length}

refused_so : (b : List ℕ) (k : ℕ) (r : Refusal) → Writes b (λ room. refusing_line k r) (refused k r) b
unfolding refusing_line
refused_so b k r = (refl, sym (nothing_written b 0))

-- ---- a list that finds room, and one that does not

short_of_room : (b s : List ℕ) → length b < length s → Writes b (list_into s) (refused 0 refusal.BufferTooShort) b
unfolding list_into
short_of_room b s h = rw (lt-ltb (length b) (length s) h) (refused_so b 0 refusal.BufferTooShort)

written_whole
    : (b b' s : List ℕ) (size end : ℕ) → size ≡ length s → size ≤ length b → Put b 0 s end b'
    → Writes b (list_into s) (Ok size) b'
unfolding list_into
written_whole b b' s size end e h put =
    rw (le-ltb (length b) (length s) (omega (arith, e))) (ap Ok e, (put_all b b' s 0 end (omega (arith, e)) put).1)

-- ---- the list of a file that was counted

module _ (file : List ℕ) (counts : Counts) (counted : file_tally file ≡ Ok counts) where
  abbrev signatures : ℕ
  signatures = counts.signatures

  abbrev entries : ℕ
  entries = counts.entries

  all : Totals 0 0 (signature_lines file) signatures entries
  unfolding file_lines
  all =
      totals signatures entries 0 0 (signature_lines file) (omega arith) (omega arith)
      (sym (tally_same 0 0 (signature_lines file)) ∙ counted)

  abbrev ms : List LineMeaning
  ms = file_meanings file

  -- What the lines mean is what was read of them.
  ms_is : ms ≡ meanings (signature_lines file)
  unfolding file_lines
  ms_is = meanings_same (signature_lines file)

  pub few_signatures : signatures ≤ most_signatures
  few_signatures = all.few

  pub few_entries : entries ≤ most_entries
  few_entries = all.small

  pub few_in_all : entry_total ms ≤ most_entries
  few_in_all = rw ms_is (omega (arith, all.entries_are, all.small))

  abbrev size : ℕ
  size = 8 + 2 * entries + 24 * signatures

  size_is : size ≡ length (list_text ms)
  size_is = rw ms_is (omega (arith, all.entries_are, all.signatures_are, list_length (signature_lines file)))

  list_is : header_text signatures entries ++ file_entries file ++ file_records file ≡ list_text ms
  unfolding list_text
  list_is =
      let all-signatures : signatures ≡ length ms = rw ms_is (omega (arith, all.signatures_are)) in
      let all_entries : entries ≡ entry_total ms = rw ms_is (omega (arith, all.entries_are)) in
      rw (all-signatures, all_entries)

  pub no_room : (b : List ℕ) → length b < size → Writes b (file_into file) (refused 0 refusal.BufferTooShort) b
  no_room b h = short_of_room b (list_text ms) (omega (arith, size_is))

  pub whole_list
      : (b b₁ b₂ b₃ : List ℕ) (at₁ at₂ at₃ : ℕ) → size ≤ length b → Put b 0 (header_text signatures entries) at₁ b₁
      → Put b₁ at₁ (file_entries file) at₂ b₂ → Put b₂ at₂ (file_records file) at₃ b₃
      → Writes b (file_into file) (Ok size) b₃
  whole_list b b₁ b₂ b₃ at₁ at₂ at₃ h first second third =
      written_whole b b₃ (list_text ms) size at₃ size_is h
      (subst (λ (s : List ℕ). Put b 0 s at₃ b₃) list_is
      (both b b₂ b₃ _ _ 0 at₂ at₃ (both b b₁ b₂ _ _ 0 at₁ at₂ first second) third))

-- ---- the answer, by what the two counts gave

module _ (file b : List ℕ) where
  checked : {c : Result (Unit {0}) LineRefusal} → file_check file ≡ c → first_bad (signature_lines file) ≡ c
  unfolding file_lines
  checked e = sym (check_same (signature_lines file)) ∙ e

  tallied : {t : Result Counts LineRefusal} → file_tally file ≡ t → tallied_from 0 0 (signature_lines file) ≡ t
  unfolding file_lines
  tallied e = sym (tally_same 0 0 (signature_lines file)) ∙ e

  pub bad_line : (r : LineRefusal) → file_check file ≡ Err r → Writes b (compile_file file) (Err r) b
  unfolding compile_file
  bad_line r e = rw (checked e) (refused_so b r.line r.refusal)

  module _ (good : file_check file ≡ Ok tt) where
    pub too_many : (r : LineRefusal) → file_tally file ≡ Err r → Writes b (compile_file file) (Err r) b
    unfolding compile_file
    too_many r e = rw (checked good, tallied e) (refused_so b r.line r.refusal)

    pub its_list
        : (counts : Counts) → file_tally file ≡ Ok counts → (r : Result ℕ LineRefusal) (b' : List ℕ) → Writes b (file_into file) r b'
        → Writes b (compile_file file) r b'
    unfolding compile_file file_lines
    its_list counts q r b' w = rw (checked good, tallied q, ← meanings_same (signature_lines file)) w
