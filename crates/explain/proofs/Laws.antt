-- A record of a list that passed its check; a record's line.
use Rattle.std.specs.Prelude.{Ok}
use Prim.Native.Nat.{ℕ, ◌+◌, ◌*◌, ◌<◌, ◌≤◌}
use mathlib.Core.Path.{◌≡◌, ◌∙◌, ap, subst}
use mathlib.Core.Bool.{Bool, true, ◌&&◌}
use mathlib.Core.List.{List}
use native.Mathlib.Omega.{arith}
use lib.Dec.{leb}
use borrow.Author.Tests.{leb-true}
use Rattle.basis.specs.Bytes.{part}
use Rattle.basis.proofs.Tests.{and_left, and_right, and_true}
use Rattle.text.specs.Decimal.{newline}
use Rattle.text.specs.Written.{Put}
use Rattle.text.proofs.Writing.{both}
use Rattle.sigrecord.specs.Layout.{entries_good}
use Rattle.sigrecord.specs.Record.{first_entry, entry_count, signature_of}
use Rattle.sigrecord.specs.WellFormed.{scalars_good}
use Rattle.siglist.specs.declared.Areas.{Areas}
use Rattle.siglist.specs.List.{AreasFit, check_list, layout_count, record_at, record_of, entries_lie, layout_lies, record_good}
use Rattle.siglist.proofs.List.{record_of_list}
use Rattle.siglist.proofs.FirstBad.{each_good}
use Rattle.matching.specs.declared.Features.{Features}
use Rattle.file_writer.specs.Shown.{listed_text}
use Rattle.explain.specs.declared.gates.Gates.{Gates}
use Rattle.explain.specs.declared.gates.Said.{Said}
use Rattle.explain.specs.Gating.{gates_of, gates_at, row_of}
use Rattle.explain.specs.GateText.{gates_text}
use Rattle.explain.specs.RecordLine.{line_word, which_text, explained_line}

-- ---- a record of a list that passed its check

-- Entries that are good do not keep a layout from matching.
pub same_fit : (r matches good : Bool) → r ≡ matches && good → good ≡ true → r ≡ matches
same_fit r matches good e h = e ∙ rw h (and_true matches)

module _ (l : List ℕ) (a : Areas) (i : ℕ) (fits : AreasFit l a) (good : check_list l ≡ Ok tt) (inside : i < a.records) where
  there : record_good l i ≡ true
  there = each_good l i good (omega (arith, inside, fits.records))

  module _
      (raw : List ℕ) (first count : ℕ) (raw-is : raw ≡ record_of l a i) (first-is : first ≡ first_entry raw)
      (count_is : count ≡ entry_count raw)
    where
      pub the_record_lem : raw ≡ record_at l i
      the_record_lem = raw-is ∙ record_of_list l a i fits inside

      first_there : first ≡ first_entry (record_at l i)
      first_there = first-is ∙ ap first_entry the_record_lem

      count_there : count ≡ entry_count (record_at l i)
      count_there = count_is ∙ ap entry_count the_record_lem

      abbrev Entries : List ℕ
      Entries = part (a.entries_offset + 2 * first) (a.entries_offset + 2 * first + 2 * count) l

      pub entries_good_lem : entries_good Entries (entry_count raw) ≡ true
      unfolding record_good layout_lies
      entries_good_lem =
          let here = record_at l i in
          rw (fits.entries_at, first_there, count_there, the_record_lem)
          (and_right (entries_lie (layout_count l) (first_entry here) (entry_count here)) _ (and_right (scalars_good here) _ there))

      pub entries_end : first + count ≤ a.entries
      unfolding record_good layout_lies
      entries_end =
          let here = record_at l i in
          let lies = and_left (entries_lie (layout_count l) (first_entry here) (entry_count here)) _
          (and_right (scalars_good here) _ there) in
          let end = leb-true (first_entry here + entry_count here) (layout_count l)
          (and_right (leb (entry_count here) 40) (leb (first_entry here + entry_count here) (layout_count l)) lies) in
          rw (fits.entries, first_there, count_there) end

      pub the_gates
          : (f : Features) (kinds bytes : List ℕ)
          → gates_of f kinds bytes (signature_of raw) (entry_count raw) Entries ≡ gates_at f kinds bytes l i
      the_gates f kinds bytes = rw (fits.entries_at, first_there, count_there, the_record_lem)

-- ---- a record's line

-- Which record it is, how its fields meet the observation, and its signature line, one behind the other.
pub explained_put
    : (gates : Gates) (s : List ℕ) (i : ℕ) (raw : List ℕ) (row : List Said) → raw ≡ record_at s i → row ≡ row_of gates
    → (l l₁ l₂ l₃ l₄ l₅ : List ℕ) (n₁ n₂ n₃ n₄ n₅ : ℕ) → Put l 0 (which_text i raw) n₁ l₁
    → Put l₁ n₁ (gates_text row) n₂ l₂
    → Put l₂ n₂ line_word n₃ l₃
    → Put l₃ n₃ (listed_text s i) n₄ l₄
    → Put l₄ n₄ newline n₅ l₅
    → Put l 0 (explained_line gates s i) n₅ l₅
unfolding explained_line
explained_put gates s i raw row raw-is row_is l l₁ l₂ l₃ l₄ l₅ n₁ n₂ n₃ n₄ n₅ head names word signature last =
    both l l₁ l₅ _ _ 0 n₁ n₅ (subst (λ (r : List ℕ). Put l 0 (which_text i r) n₁ l₁) raw-is head)
    (both l₁ l₂ l₅ _ _ n₁ n₂ n₅ (subst (λ (r : List Said). Put l₁ n₁ (gates_text r) n₂ l₂) row_is names)
    (both l₂ l₃ l₅ _ _ n₂ n₃ n₅ word (both l₃ l₄ l₅ _ _ n₃ n₄ n₅ signature last)))
