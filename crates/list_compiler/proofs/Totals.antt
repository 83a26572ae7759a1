-- How long the list of a file is, and that this is what was counted.
use Rattle.std.specs.Prelude.{Result, Ok}
use Prim.Native.Nat.{ℕ, ◌+◌, ◌*◌, ◌/◌, ◌%◌, ◌≤◌}
use mathlib.Core.Path.{◌≡◌, refl, sym, ◌∙◌, ap}
use mathlib.Core.List.{List, [], ◌∷◌, ◌++◌}
use native.Mathlib.Decide.{dec_le}
use native.Mathlib.Omega.{arith}
use lib.ListN.{length, take, set, length-append, length-set}
use lib.Seq.{length-take-le}
use borrow.Author.Tests.{lt-ltb, le-ltb}
use Rattle.refusals.specs.declared.Refusal.{Refusal}
use Rattle.signature_line.specs.Meaning.{LineMeaning}
use Rattle.signature_line.specs.OneRecord.{alternating, entries_in}
use Rattle.keeper_file.specs.declared.Counts.{Counts}
use Rattle.keeper_file.specs.declared.LineRefusal.{LineRefusal}
use Rattle.keeper_file.specs.Compiling.{refused, most_signatures, most_entries, meanings, tallied_from}
use Rattle.keeper_file.specs.KeptReader.{meaning_read, read_kept}
use Rattle.keeper_file.specs.Lines.{Numbered}
use Rattle.keeper_file.specs.ListText.{entry_total, entries_text, placed_at, records_text, header_text, list_text}
use Rattle.keeper_line.proofs.Shapes.{Shaped, kept_shaped}

-- ---- lengths

turned_length : (kinds bytes : List ℕ) → length kinds ≡ length bytes → length (alternating kinds bytes) ≡ 2 * length kinds
turned_length [] bytes h = refl
turned_length (k ∷ kinds) [] h = absurd (omega arith)
turned_length (k ∷ kinds) (b ∷ bytes) h = omega (arith, turned_length kinds bytes (omega arith))

entries_length : (m : LineMeaning) → Shaped m → length (entries_in m.layout) ≡ 2 * m.layout.count
unfolding entries_in
entries_length m h =
    let count = m.layout.count in
    let kinds : length (take count m.layout.kinds) ≡ count = length-take-le count _ (omega (arith, h.kinds, h.few)) in
    let bytes : length (take count m.layout.bytes) ≡ count = length-take-le count _ (omega (arith, h.bytes, h.few)) in
    turned_length (take count m.layout.kinds) (take count m.layout.bytes) (kinds ∙ sym bytes) ∙ ap (λ (n : ℕ). 2 * n) kinds

record_length_lem : (first : ℕ) (m : LineMeaning) → Shaped m → length (placed_at first m.raw) ≡ 24
unfolding placed_at
record_length_lem first m h =
    length-set (set m.raw 18 (first / 256)) 19 (first % 256) ∙ length-set m.raw 18 (first / 256) ∙ h.raw

abbrev of : Numbered → LineMeaning
of line = meaning_read (read_kept line.text)

entries_all_lem : (lines : List Numbered) → length (entries_text (meanings lines)) ≡ 2 * entry_total (meanings lines)
unfolding entries_text meanings entry_total
entries_all_lem [] = refl
entries_all_lem (line ∷ lines) =
    length-append (entries_in (of line).layout) (entries_text (meanings lines))
    ∙ omega (arith, entries_length (of line) (kept_shaped line.text), entries_all_lem lines)

records_all : (first : ℕ) (lines : List Numbered) → length (records_text first (meanings lines)) ≡ 24 * length (meanings lines)
unfolding records_text meanings
records_all first [] = refl
records_all first (line ∷ lines) =
    let next = first + (of line).layout.count in
    length-append (placed_at first (of line).raw) (records_text next (meanings lines))
    ∙ omega (arith, record_length_lem first (of line) (kept_shaped line.text), records_all next lines)

header_length : (signatures entries : ℕ) → length (header_text signatures entries) ≡ 8
unfolding header_text
header_length signatures entries = refl

pub list_length
    : (lines : List Numbered)
    → length (list_text (meanings lines)) ≡ 8 + 2 * entry_total (meanings lines) + 24 * length (meanings lines)
unfolding list_text
list_length lines =
    let ms = meanings lines in
    let header = header_text (length ms) (entry_total ms) in
    omega (
      arith,
      length-append (header ++ entries_text ms) (records_text 0 ms),
      length-append header (entries_text ms),
      header_length (length ms) (entry_total ms),
      entries_all_lem lines,
      records_all 0 lines,
    )

-- ---- what was counted

pub record Totals (signatures entries : ℕ) (lines : List Numbered) (s e : ℕ) : Type 0 where
  pub signatures_are : s ≡ signatures + length (meanings lines)
  pub entries_are : e ≡ entries + entry_total (meanings lines)
  pub few : s ≤ most_signatures
  pub small : e ≤ most_entries

-- The counts of so many signatures and entries.
abbrev counts : ℕ → ℕ → Result Counts LineRefusal
counts s e = Ok (record { signatures = s; entries = e })

too_many_not : (k : ℕ) (r : Refusal) (s e : ℕ) → refused k r ≡ counts s e → ⊥
too_many_not k r s e q = cc

same_counts
    : (a b s e : ℕ) → counts a b ≡ counts s e
    → ◌≡◌ {A = Counts} (record { signatures = a; entries = b }) (record { signatures = s; entries = e })
same_counts a b s e q = cc

counts_first : (a b s e : ℕ) → counts a b ≡ counts s e → a ≡ s
counts_first a b s e q = ap (λ (c : Counts). c.signatures) (same_counts a b s e q)

counts_second : (a b s e : ℕ) → counts a b ≡ counts s e → b ≡ e
counts_second a b s e q = ap (λ (c : Counts). c.entries) (same_counts a b s e q)

module _ (s e : ℕ) where
  none_left
      : (signatures entries : ℕ) → signatures ≤ most_signatures → entries ≤ most_entries
      → tallied_from signatures entries [] ≡ counts s e → Totals signatures entries [] s e
  unfolding tallied_from meanings entry_total
  none_left signatures entries few small q =
      let first = counts_first signatures entries s e q in
      let second = counts_second signatures entries s e q in
      record {
        signatures_are = omega (arith, first);
        entries_are = omega (arith, second);
        few = omega (arith, first, few);
        small = omega (arith, second, small);
      }

  -- One line more, of what was counted with it.
  abbrev more : ℕ → Numbered → ℕ
  more entries line = entries + (of line).layout.count

  one_more
      : (signatures entries : ℕ) (line : Numbered) (lines : List Numbered) → Totals (signatures + 1) (more entries line) lines s e
      → Totals signatures entries (line ∷ lines) s e
  unfolding meanings entry_total
  one_more signatures entries line lines t =
      record {
        signatures_are = omega (arith, t.signatures_are);
        entries_are = omega (arith, t.entries_are);
        few = t.few;
        small = t.small;
      }

  line_counted
      : (signatures entries : ℕ) (line : Numbered) (lines : List Numbered)
      → tallied_from signatures entries (line ∷ lines) ≡ counts s e
      → (signatures + 1 ≤ most_signatures) × (more entries line ≤ most_entries)
      × (tallied_from (signatures + 1) (more entries line) lines ≡ counts s e)
  unfolding tallied_from
  line_counted signatures entries line lines q = by (dec_le (signatures + 1) most_signatures) (dec_le (more entries line) most_entries)
    where
      by : Dec (signatures + 1 ≤ most_signatures) → Dec (more entries line ≤ most_entries)
          → (signatures + 1 ≤ most_signatures) × (more entries line ≤ most_entries)
          × (tallied_from (signatures + 1) (more entries line) lines ≡ counts s e)
      by (no h) k =
          absurd (too_many_not _ _ s e (rw (lt-ltb most_signatures (signatures + 1) (omega arith)) at q))
      by (yes h) (no k) =
          absurd (too_many_not _ _ s e
          (rw (le-ltb most_signatures (signatures + 1) h, lt-ltb most_entries (more entries line) (omega arith)) at q))
      by (yes h) (yes k) =
          (h, k, rw (le-ltb most_signatures (signatures + 1) h, le-ltb most_entries (more entries line) k) at q)

  pub totals
      : (signatures entries : ℕ) (lines : List Numbered) → signatures ≤ most_signatures → entries ≤ most_entries
      → tallied_from signatures entries lines ≡ counts s e → Totals signatures entries lines s e
  totals signatures entries [] few small q = none_left signatures entries few small q
  totals signatures entries (line ∷ lines) few small q =
      let t = line_counted signatures entries line lines q in
      one_more signatures entries line lines (totals (signatures + 1) (more entries line) lines t.0 t.1 t.2)
