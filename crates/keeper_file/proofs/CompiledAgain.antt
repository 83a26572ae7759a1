-- The file of a list, compiled again, gives the same list up to where the layouts lie.
use Rattle.std.specs.Prelude.{Ok}
use Prim.Native.Nat.{ℕ, suc, ◌+◌, ◌<◌, ◌≤◌}
use mathlib.Core.Path.{◌≡◌, refl, ◌∙◌, ap}
use mathlib.Core.List.{List}
use native.Mathlib.Omega.{arith}
use native.Mathlib.Decide.{ℕ_discrete}
use lib.ListN.{length}
use borrow.Author.Tests.{le-ltb}
use Rattle.basis.specs.Bytes.{byte_at, AllBytes, be16}
use Rattle.siglist.specs.List.{record_count, record_at, entries_of, check_list}
use Rattle.signature_line.specs.Meaning.{LineMeaning}
use Rattle.keeper_file.specs.CompileAnswers.{EachMeans, NotPlace, RecordsMean}
use Rattle.keeper_file.specs.Compiling.{first_bad, most_signatures, most_entries, meanings, tallied_from, list_into, compile_file}
use Rattle.keeper_file.specs.FileText.{file_text}
use Rattle.keeper_file.specs.Lines.{Numbered, signature_lines}
use Rattle.keeper_file.specs.ListText.{entry_total, list_text}
use Rattle.keeper_file.specs.SameList.{SameList, entries_from_record, entries_all, CompiledAgain}
use Rattle.keeper_file.proofs.Accepted.{kept_accepted}
use Rattle.keeper_file.proofs.CompileAnswers.{each_kept}
use Rattle.keeper_file.proofs.KeptAgain.{KeptFrom, all_kept}
use Rattle.keeper_file.proofs.ListGood.{list_good, list_records}
use Rattle.keeper_file.proofs.ListParts.{header_signatures}
use Rattle.keeper_file.proofs.WrittenLines.{lines_mean}

-- ---- lines that mean something are read, and counted

means_read : {lines : List Numbered} {ms : List LineMeaning} → EachMeans lines ms → meanings lines ≡ ms
unfolding meanings
means_read EachMeans.none = refl
means_read (EachMeans.one_more {line = line} {m = m} here rest) =
    rw ((kept_accepted line.text m).1 here, means_read rest)

none_bad : {lines : List Numbered} {ms : List LineMeaning} → EachMeans lines ms → first_bad lines ≡ Ok tt
unfolding first_bad
none_bad EachMeans.none = refl
none_bad (EachMeans.one_more {line = line} {m = m} here rest) = rw ((kept_accepted line.text m).1 here) (none_bad rest)

few_counted
    : {lines : List Numbered} {ms : List LineMeaning} (signatures entries n total : ℕ) → EachMeans lines ms
    → n ≡ signatures + length ms
    → total ≡ entries + entry_total ms
    → n ≤ most_signatures
    → total ≤ most_entries
    → tallied_from signatures entries lines ≡ Ok (record { signatures = n; entries = total })
unfolding tallied_from entry_total
few_counted signatures entries n total EachMeans.none a b few small =
    let same-n : signatures ≡ n = omega arith in
    let same_total : entries ≡ total = omega arith in
    rw (same-n, same_total)
few_counted signatures entries n total (EachMeans.one_more {line = line} {m = m} {ms = ms} here rest) a b few small =
    rw (
      le-ltb most_signatures (signatures + 1) (omega arith),
      (kept_accepted line.text m).1 here,
      le-ltb most_entries (entries + m.layout.count) (omega arith),
    )
    (few_counted (signatures + 1) (entries + m.layout.count) n total rest (omega arith) (omega arith) few small)

compiles_to
    : (file : List ℕ) (ms : List LineMeaning) → EachMeans (signature_lines file) ms → length ms ≤ most_signatures
    → entry_total ms ≤ most_entries
    → (room : ℕ)
    → compile_file file room ≡ list_into (list_text ms) room
unfolding compile_file
compiles_to file ms each few small room =
    rw (none_bad each, few_counted 0 0 (length ms) (entry_total ms) each (omega arith) (omega arith) few small, means_read each)

-- ---- the records that are kept, counted

kept_length : {l : List ℕ} {i n : ℕ} {ms : List LineMeaning} → KeptFrom l i n ms → length ms ≡ n
kept_length KeptFrom.none = refl
kept_length (KeptFrom.one_more here rest) = ap suc (kept_length rest)

kept_entries : {l : List ℕ} {i n : ℕ} {ms : List LineMeaning} → KeptFrom l i n ms → entry_total ms ≡ entries_from_record l i n
unfolding entry_total entries_from_record
kept_entries KeptFrom.none = refl
kept_entries (KeptFrom.one_more here rest) = rw (here.counted, kept_entries rest)

-- ---- the same records

record SameRecord (l m : List ℕ) (i : ℕ) : Type 0 where
  same : (k : ℕ) → NotPlace k → byte_at (record_at m i) k ≡ byte_at (record_at l i) k
  entries : entries_of m (record_at m i) ≡ entries_of l (record_at l i)

-- Among the records from one on that mean what is kept.
same_record
    : {l : List ℕ} {i n : ℕ} {ms : List LineMeaning} (m : List ℕ) → KeptFrom l i n ms → RecordsMean m i ms
    → (j : ℕ)
    → i ≤ j
    → j < i + n
    → SameRecord l m j
same_record m KeptFrom.none means j low high = absurd (omega arith)
same_record {l = l} m (KeptFrom.one_more {i = i} {n = n} here rest) means j low high = by (ℕ_discrete j i) (same_record m rest means.1 j)
  where
    by : Dec (j ≡ i) → (i + 1 ≤ j → j < i + 1 + n → SameRecord l m j) → SameRecord l m j
    by (yes first) later =
        rw first
        (record { same = λ k p. means.0.same k p ∙ here.same k p; entries = means.0.entries ∙ here.entries })
    by (no other) later = later (omega arith) (omega arith)

-- ---- compiled again

module _ (l : List ℕ) (all : AllBytes l) (good : check_list l ≡ Ok tt) (few : entries_all l ≤ most_entries) where
  kept : (ms : List LineMeaning) × KeptFrom l 0 (record_count l) ms
  kept = all_kept l all good 0 (record_count l) (omega arith)

  abbrev ms : List LineMeaning
  ms = kept.0

  each : EachMeans (signature_lines (file_text l)) ms
  unfolding file_text signature_lines
  each = lines_mean _ kept.1

  few_signatures : length ms ≤ most_signatures
  unfolding be16
  few_signatures = omega (arith, kept_length kept.1, all 0, all 1)

  same_list : SameList l (list_text ms)
  same_list =
      let there = same_record (list_text ms) kept.1 (list_records ms (each_kept each)) in
      record {
        good = list_good ms (each_kept each);
        count = header_signatures ms ∙ kept_length kept.1;
        same = λ i k h p. (there i (omega arith) (omega arith)).same k p;
        entries = λ i h. (there i (omega arith) (omega arith)).entries;
      }

  pub compiled_again : CompiledAgain l
  unfolding list_into
  compiled_again =
      record {
        list' = list_text ms;
        same = same_list;
        compiles = λ room enough.
            compiles_to (file_text l) ms each few_signatures (omega (arith, kept_entries kept.1)) room
            ∙ rw (le-ltb room (length (list_text ms)) enough);
      }
