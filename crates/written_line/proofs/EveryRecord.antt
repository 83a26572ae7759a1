-- Every well-formed record of a list has a line, which is written of it, and read again; it is in written form, and not long.
use Prim.Native.Nat.{ℕ, zero, suc, ◌+◌, ◌*◌, ◌-◌, ◌<◌, ◌≤◌}
use mathlib.Core.Path.{◌≡◌, refl, ◌∙◌}
use mathlib.Core.Bool.{true, ◌&&◌}
use mathlib.Core.List.{List, [], ◌∷◌}
use native.Mathlib.Omega.{arith}
use lib.Dec.{leb, lit<}
use lib.ListN.{length, take, drop}
use lib.Seq.{get_or-drop}
use borrow.Author.Tests.{leb-true}
use Rattle.basis.specs.Bytes.{byte_at, AllBytes, be16, be32, part}
use Rattle.basis.proofs.Bytes.{part_length}
use Rattle.basis.proofs.Tests.{and_left, and_right, below}
use Rattle.sigrecord.specs.Layout.{entries_good}
use Rattle.sigrecord.specs.Record.{first_entry, entry_count, signature_of}
use Rattle.sigrecord.specs.WellFormed.{scalars_good}
use Rattle.siglist.specs.List.{layout_count, layout_offset, list_fits, areas_of, record_start, record_at}
use Rattle.siglist.specs.List.{entries_from, entries_of, layout_lies, record_good}
use Rattle.siglist.proofs.List.{areas_fit}
use Rattle.signature_line.specs.Line.{LineSays, SignatureLine}
use Rattle.signature_line.specs.Meaning.{Fields, layout_of, raw_of, meaning_of}
use Rattle.signature_line.specs.OneRecord.{entries_in, MeansRecord, HasLine}
use Rattle.signature_line.proofs.Accepted.{accepted}
use Rattle.signature_line.proofs.Arrays.{in_turn, entries_in_lem}
use Rattle.written_line.specs.LineText.{record_text}
use Rattle.written_line.specs.RoundTrip.{ReadAgain}
use Rattle.written_line.specs.Signature.{entries_said, fields_of}
use Rattle.written_line.specs.WrittenForm.{WrittenForm}
use Rattle.written_line.proofs.LayoutRow.{Entries, entries_of_lem, entries_same}
use Rattle.written_line.proofs.RecordLine.{both, Scalars, scalars_of, record_held, same_bytes}
use Rattle.written_line.proofs.SignatureLine.{signature_spelled, signature_form}
use Rattle.written_line.proofs.Spelled.{Spelled}

-- ---- parts of bytes are bytes

pub take_bytes : (n : ℕ) (s : List ℕ) → AllBytes s → AllBytes (take n s)
take_bytes zero s all k = omega arith
take_bytes (suc n) [] all k = omega arith
take_bytes (suc n) (b ∷ s) all zero = all 0
take_bytes (suc n) (b ∷ s) all (suc k) = take_bytes n s (λ j. all (suc j)) k

pub part_bytes : (start end : ℕ) (s : List ℕ) → AllBytes s → AllBytes (part start end s)
part_bytes start end s all = take_bytes (end - start) (drop start s) (λ k. rw get_or-drop (all (start + k)))

-- ---- a record of a list

-- A signature is told by the first eighteen bytes.
same_signature : (a b : List ℕ) → ((k : ℕ) → k < 18 → byte_at a k ≡ byte_at b k) → signature_of a ≡ signature_of b
unfolding signature_of be16 be32
same_signature a b h =
    rw (
      h 0 (lit< tt),
      h 1 (lit< tt),
      h 2 (lit< tt),
      h 3 (lit< tt),
      h 4 (lit< tt),
      h 5 (lit< tt),
      h 6 (lit< tt),
      h 7 (lit< tt),
      h 8 (lit< tt),
      h 9 (lit< tt),
      h 10 (lit< tt),
      h 11 (lit< tt),
      h 12 (lit< tt),
      h 13 (lit< tt),
      h 14 (lit< tt),
      h 15 (lit< tt),
      h 16 (lit< tt),
      h 17 (lit< tt),
    )

-- Entries where a list's good layout lies.
record Lies (l : List ℕ) (first count : ℕ) : Type 0 where
  few : count ≤ 40
  within : first + count ≤ layout_count l
  good : entries_good (entries_from l first count) count ≡ true

lies_of : (l : List ℕ) (first count : ℕ) → layout_lies l first count ≡ true → Lies l first count
unfolding layout_lies
lies_of l first count e =
    let parts = both (leb count 40 && leb (first + count) (layout_count l)) _ e in
    let ends = both (leb count 40) _ parts.0 in
    record { few = leb-true count 40 ends.0; within = leb-true (first + count) (layout_count l) ends.1; good = parts.1 }

module _ (l : List ℕ) (first count : ℕ) (all : AllBytes l) (fits : list_fits l ≡ true) (lies : Lies l first count) where
  there : length (entries_from l first count) ≡ 2 * count
  unfolding areas_of
  there =
      let start = layout_offset l + 2 * first in
      let area = (areas_fit l (areas_of l) fits refl).entries_fit in
      part_length start (start + 2 * count) l (omega (arith, area, lies.within)) ∙ omega arith

  small : AllBytes (entries_from l first count)
  small = part_bytes (layout_offset l + 2 * first) (layout_offset l + 2 * first + 2 * count) l all

  entries_there : Entries (entries_from l first count) count
  entries_there = entries_of_lem count (entries_from l first count) there small

  entries_mean : in_turn (entries_said (entries_from l first count)) ≡ entries_from l first count
  unfolding entries_good
  entries_mean = entries_same count (entries_from l first count) there small (below _ count lies.good)

module _ (l : List ℕ) (i : ℕ) (all : AllBytes l) (fits : list_fits l ≡ true) (good : record_good l i ≡ true) where
  abbrev r : List ℕ
  r = record_at l i

  abbrev e : List ℕ
  e = entries_of l r

  abbrev f : Fields
  f = fields_of (signature_of r) e

  scalars : Scalars r
  unfolding record_good
  scalars = scalars_of r (and_left (scalars_good r) (layout_lies l (first_entry r) (entry_count r)) good)

  lies : Lies l (first_entry r) (entry_count r)
  unfolding record_good
  lies = lies_of l (first_entry r) (entry_count r) (and_right (scalars_good r) (layout_lies l (first_entry r) (entry_count r)) good)

  bytes : AllBytes r
  bytes = part_bytes (record_start l i) (record_start l i + 24) l all

  entries : Entries e (entry_count r)
  entries = entries_there l (first_entry r) (entry_count r) all fits lies

  spelled : Spelled LineSays f (record_text l i) 434
  unfolding record_text
  spelled = signature_spelled (signature_of r) e (entry_count r) (record_held r bytes) entries lies.few

  same_count : byte_at (raw_of f) 20 ≡ entry_count r
  unfolding raw_of fields_of
  same_count = entries.counted

  same_entries : entries_in (layout_of f.layout) ≡ e
  unfolding fields_of
  same_entries = entries_in_lem (entries_said e) ∙ entries_mean l (first_entry r) (entry_count r) all fits lies

  means_record : MeansRecord l i (record_text l i)
  unfolding SignatureLine
  means_record =
      record {
        meaning = meaning_of f;
        says = (f, spelled.says, refl);
        short = omega (arith, spelled.short);
        same = same_bytes r e bytes scalars;
        same_count = same_count;
        signature = same_signature (raw_of f) r (same_bytes r e bytes scalars);
        entries = same_entries;
      }

  pub every_record : HasLine l i
  every_record = record { line = record_text l i; means = means_record }

  -- What is read of the line is what it means.
  pub read_again : ReadAgain l i
  read_again =
      let m = means_record in
      record { means = m; reads = (accepted (record_text l i) m.meaning).1 (m.short, m.says) }

  pub record_form : WrittenForm (record_text l i)
  unfolding record_text
  record_form = signature_form (signature_of r) e (entry_count r) (record_held r bytes) entries lies.few

  pub record_length_lem : length (record_text l i) ≤ 434
  record_length_lem = spelled.short
