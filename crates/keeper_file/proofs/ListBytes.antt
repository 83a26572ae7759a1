-- The list of what a file's lines mean is a byte string: every number of its header, of its entries and of its records finds room.
use Prim.Native.Nat.{ℕ, zero, suc, ◌+◌, ◌*◌, ◌/◌, ◌%◌, ◌<◌, ◌≤◌}
use mathlib.Core.Path.{refl}
use mathlib.Core.List.{List, [], ◌∷◌, ◌++◌}
use native.Mathlib.Omega.{arith}
use lib.ListN.{length, take, set}
use borrow.Author.Tests.{leb-true}
use Rattle.basis.specs.Bytes.{AllBytes}
use Rattle.grammar.specs.Language.{Join}
use Rattle.grammar.specs.Table.{Said, Choice}
use Rattle.grammar.proofs.Tables.{table_holds}
use Rattle.signature_line.specs.Line.{LineSays, SignatureLine}
use Rattle.signature_line.specs.Meaning.{LineMeaning, raw_of, layout_of, meaning_of}
use Rattle.signature_line.specs.OneRecord.{alternating, entries_in, two_bytes}
use Rattle.signature_line.proofs.FieldsGood.{Each}
use Rattle.signature_line.proofs.WellFormed.{well_formed}
use Rattle.written_line.proofs.EveryRecord.{take_bytes}
use Rattle.keeper_file.specs.CompileAnswers.{EachMeans}
use Rattle.keeper_file.specs.Compiling.{most_signatures, most_entries}
use Rattle.keeper_file.specs.KeptLine.{blank, label, mark, kind_and_label, KeptLine}
use Rattle.keeper_file.specs.Lines.{Numbered}
use Rattle.keeper_file.specs.ListText.{entry_total, entries_text, placed_at, records_text, header_text, list_text}
use Rattle.keeper_file.proofs.KeptWellFormed.{behind_byte, mark_good}

-- ---- byte strings put together

cons_bytes : (b : ℕ) (s : List ℕ) → b < 256 → AllBytes s → AllBytes (b ∷ s)
cons_bytes b s here rest zero = here
cons_bytes b s here rest (suc i) = rest i

no_bytes : AllBytes []
no_bytes i = omega arith

append_bytes : (p q : List ℕ) → AllBytes p → AllBytes q → AllBytes (p ++ q)
append_bytes [] q a b = b
append_bytes (x ∷ p) q a b = cons_bytes x (p ++ q) (a 0) (append_bytes p q (λ i. a (suc i)) b)

set_bytes : (s : List ℕ) (k b : ℕ) → AllBytes s → b < 256 → AllBytes (set s k b)
set_bytes [] k b a h = a
set_bytes (x ∷ s) zero b a h = cons_bytes b s h (λ i. a (suc i))
set_bytes (x ∷ s) (suc k) b a h = cons_bytes x (set s k b) (a 0) (set_bytes s k b (λ i. a (suc i)) h)

two_bytes_lem : (n : ℕ) → n < 65536 → AllBytes (two_bytes n)
two_bytes_lem n h = cons_bytes (n / 256) (n % 256 ∷ []) (omega arith) (cons_bytes (n % 256) [] (omega arith) no_bytes)

alternating_bytes : (kinds bytes : List ℕ) → AllBytes kinds → AllBytes bytes → AllBytes (alternating kinds bytes)
alternating_bytes [] bytes a b = no_bytes
alternating_bytes (k ∷ kinds) [] a b = no_bytes
alternating_bytes (k ∷ kinds) (x ∷ bytes) a b =
    cons_bytes k (x ∷ alternating kinds bytes) (a 0)
    (cons_bytes x (alternating kinds bytes) (b 0) (alternating_bytes kinds bytes (λ i. a (suc i)) (λ i. b (suc i))))

-- ---- what a signature line means

record KeptBytes (m : LineMeaning) : Type 0 where
  raw : AllBytes m.raw
  entries : AllBytes (entries_in m.layout)

label_fits : (w : List ℕ) (v : Said) → Choice label w v → v.number < 65536
unfolding label
label_fits = table_holds (λ f n. n < 65536) label (λ n h a. omega arith, tt)

-- A kind and a label are bytes of the record.
module _ (kind number : ℕ) (raw : List ℕ) (all : AllBytes raw) (k : kind < 256) (n : number < 65536) where
  labelled : AllBytes (kind_and_label kind number raw)
  unfolding kind_and_label
  labelled =
      set_bytes (set (set raw 21 kind) 22 (number / 256)) 23 (number % 256)
      (set_bytes (set raw 21 kind) 22 (number / 256) (set_bytes raw 21 kind all k) (omega arith))
      (omega arith)

kept_bytes : (s : List ℕ) (m : LineMeaning) → KeptLine s m → KeptBytes m
unfolding KeptLine SignatureLine entries_in
kept_bytes s m k =
    let v = k.0 in
    let j = (behind_byte blank (Join (Choice mark) LineSays) v.1 k.1.right k.1.second).1 in
    let f = v.1.1 in
    let w = well_formed j.right (meaning_of f) (f, j.second, refl) in
    let small = leb-true v.1.0.form 1 (mark_good j.left v.1.0 j.first) in
    let y = layout_of f.layout in
    rw k.2
    (record {
      raw =
          labelled v.1.0.form v.0.number (raw_of f) w.raw_bytes (omega arith)
          (label_fits k.1.left v.0 k.1.first);
      entries =
          alternating_bytes (take y.count y.kinds) (take y.count y.bytes)
          (take_bytes y.count y.kinds w.kinds_bytes)
          (take_bytes y.count y.bytes w.bytes_bytes);
    })

each_bytes : {lines : List Numbered} {ms : List LineMeaning} → EachMeans lines ms → Each KeptBytes ms
each_bytes EachMeans.none = tt
each_bytes (EachMeans.one_more {line = line} {m = m} here rest) = (kept_bytes line.text m here.says, each_bytes rest)

-- ---- the areas

entries_bytes : (ms : List LineMeaning) → Each KeptBytes ms → AllBytes (entries_text ms)
unfolding entries_text
entries_bytes [] all = no_bytes
entries_bytes (m ∷ ms) all = append_bytes (entries_in m.layout) (entries_text ms) all.0.entries (entries_bytes ms all.1)

placed_bytes : (first : ℕ) (raw : List ℕ) → first < 65536 → AllBytes raw → AllBytes (placed_at first raw)
unfolding placed_at
placed_bytes first raw h all =
    set_bytes (set raw 18 (first / 256)) 19 (first % 256) (set_bytes raw 18 (first / 256) all (omega arith)) (omega arith)

records_bytes
    : (first : ℕ) (ms : List LineMeaning) → Each KeptBytes ms → first + entry_total ms ≤ most_entries → AllBytes (records_text first ms)
unfolding records_text entry_total
records_bytes first [] all h = no_bytes
records_bytes first (m ∷ ms) all h =
    append_bytes (placed_at first m.raw) (records_text (first + m.layout.count) ms)
    (placed_bytes first m.raw (omega arith) all.0.raw)
    (records_bytes (first + m.layout.count) ms all.1 (omega arith))

-- "two bytes" for each number: the records lie at most at 65,534.
header_bytes : (signatures entries : ℕ) → signatures ≤ most_signatures → entries ≤ most_entries → AllBytes (header_text signatures entries)
unfolding header_text
header_bytes signatures entries few small =
    append_bytes (two_bytes signatures ++ two_bytes (8 + 2 * entries) ++ two_bytes entries) (two_bytes 8)
    (append_bytes (two_bytes signatures ++ two_bytes (8 + 2 * entries)) (two_bytes entries)
    (append_bytes (two_bytes signatures) (two_bytes (8 + 2 * entries)) (two_bytes_lem signatures (omega arith))
    (two_bytes_lem (8 + 2 * entries) (omega arith)))
    (two_bytes_lem entries (omega arith)))
    (two_bytes_lem 8 (omega arith))

pub list_bytes
    : {lines : List Numbered} {ms : List LineMeaning} → EachMeans lines ms → length ms ≤ most_signatures → entry_total ms ≤ most_entries
    → AllBytes (list_text ms)
unfolding list_text
list_bytes {ms = ms} each few small =
    let all = each_bytes each in
    append_bytes (header_text (length ms) (entry_total ms) ++ entries_text ms) (records_text 0 ms)
    (append_bytes (header_text (length ms) (entry_total ms)) (entries_text ms) (header_bytes (length ms) (entry_total ms) few small)
    (entries_bytes ms all))
    (records_bytes 0 ms all (omega arith))
