-- What a line means is well formed.
use Rattle.std.specs.Prelude.{Ok}
use Prim.Native.Nat.{ℕ, ◌+◌, ◌*◌, ◌/◌, ◌%◌, ◌-◌}
use mathlib.Core.Path.{◌≡◌, refl, ◌∙◌}
use mathlib.Core.Bool.{true}
use mathlib.Core.List.{List, [], ◌∷◌}
use native.Mathlib.Omega.{arith}
use lib.Dec.{lit<}
use lib.ListN.{length}
use lib.Seq.{take_all}
use borrow.Author.Tests.{le-leb}
use Rattle.basis.specs.Bytes.{be16, be32}
use Rattle.sigrecord.specs.Record.{first_entry, entry_count}
use Rattle.sigrecord.specs.WellFormed.{scalars_good}
use Rattle.sigrecord.proofs.Laws.{all_good}
use Rattle.siglist.specs.List.{record_count, records_offset, layout_count, layout_offset, list_fits}
use Rattle.siglist.specs.List.{record_at, entries_from, layout_lies, record_good}
use Rattle.siglist.specs.List.{records_from, check_list}
use Rattle.signature_line.specs.Line.{SignatureLine}
use Rattle.signature_line.specs.Meaning.{Fields, LineMeaning, kind_said, byte_said, union_from, layout_of, raw_of, meaning_of}
use Rattle.signature_line.specs.OneRecord.{entries_in, list_of_one, WellFormedLine}
use Rattle.signature_line.proofs.Arrays.{Bytes, bytes_at, padded_whole, padded_past, padded_bytes}
use Rattle.signature_line.proofs.Arrays.{in_turn, entries_in_lem, length_in_turn, good_at}
use Rattle.signature_line.proofs.FieldsGood.{◌then◌, Each, FieldsGood, fields_good}

each_of : {A : Type 0} {P Q : A → Type 0} → ((v : A) → P v → Q v) → (vs : List A) → Each P vs → Each Q vs
each_of g [] all = tt
each_of g (v ∷ vs) all = (g v all.0, each_of g vs all.1)

module _ (f : Fields) (g : FieldsGood f) where
  abbrev m : LineMeaning
  m = meaning_of f

  abbrev l : List ℕ
  l = list_of_one m

  raw_bytes_lem : Bytes (raw_of f)
  unfolding raw_of
  raw_bytes_lem =
      g.version_small
      then g.ttl_form.small
      then g.ttl
      then omega (arith, g.ttl_form.within)
      then g.olen
      then g.mss.small
      then omega (arith, g.mss.within)
      then omega arith
      then g.window.small
      then omega (arith, g.window.within)
      then omega arith
      then g.scale.small
      then omega (arith, g.scale.within)
      then g.payload_small
      then omega (arith, g.quirks_small)
      then omega arith
      then omega arith
      then omega arith
      then lit< tt
      then lit< tt
      then omega (arith, g.layout_count)
      then lit< tt
      then lit< tt
      then lit< tt
      then tt

  scalars : scalars_good (raw_of f) ≡ true
  unfolding raw_of scalars_good be16 be32
  scalars =
      rw (
        two f.mss.number,
        two f.window.number,
        four (union_from 0 f.quirks),
        g.version,
        g.ttl_form.listed,
        g.mss.listed,
        g.window.listed,
        g.scale.listed,
        g.payload,
        g.quirks,
      )
    where
      two : (n : ℕ) → n / 256 * 256 + n % 256 ≡ n
      two n = omega arith

      four : (n : ℕ) → (n / 16777216 * 256 + n / 65536 % 256) * 65536 + (n / 256 % 256 * 256 + n % 256) ≡ n
      four n = omega arith

  -- The header's four numbers, and the length.
  pub one_record : record_count l ≡ 1
  unfolding list_of_one be16
  one_record = refl

  records_at_lem : records_offset l ≡ 8
  unfolding list_of_one be16
  records_at_lem = refl

  entries_counted_lem : layout_count l ≡ length f.layout
  unfolding list_of_one layout_of be16
  entries_counted_lem = omega arith

  entries_at : layout_offset l ≡ 32
  unfolding list_of_one be16
  entries_at = refl

  entries_whole : length (entries_in m.layout) ≡ 2 * length f.layout
  entries_whole = rw (entries_in_lem f.layout) (length_in_turn f.layout)

  list_length : length l ≡ 32 + 2 * length f.layout
  unfolding list_of_one raw_of
  list_length = omega (arith, entries_whole)

  fits : list_fits l ≡ true
  unfolding list_fits
  fits =
      rw (
        le-leb 8 (length l) (omega (arith, list_length)),
        le-leb (records_offset l + 24 * record_count l) (length l) (omega (arith, list_length, records_at_lem, one_record)),
        le-leb (layout_offset l + 2 * layout_count l) (length l) (omega (arith, list_length, entries_at, entries_counted_lem)),
      )

  -- The record and its entries, where the header says that they are.
  pub record_there : record_at l 0 ≡ raw_of f
  unfolding list_of_one raw_of be16
  record_there = refl

  pub entries_there : entries_from l 0 (length f.layout) ≡ in_turn f.layout
  unfolding list_of_one raw_of be16
  entries_there =
      let n = length f.layout in
      take_all (32 + 2 * 0 + 2 * n - (32 + 2 * 0)) (entries_in m.layout) (omega (arith, entries_whole)) ∙ entries_in_lem f.layout

  lies : layout_lies l 0 (length f.layout) ≡ true
  unfolding layout_lies
  lies =
      rw (
        le-leb (length f.layout) 40 g.layout_count,
        le-leb (0 + length f.layout) (layout_count l) (omega (arith, entries_counted_lem)),
        entries_there,
      )
      (all_good (in_turn f.layout) (length f.layout) (good_at f.layout g.layout))

  lies_there : layout_lies l (first_entry (raw_of f)) (entry_count (raw_of f)) ≡ true
  unfolding raw_of be16
  lies_there = lies

  record_good_lem : record_good l 0 ≡ true
  unfolding record_good
  record_good_lem = rw (record_there, scalars) lies_there

  pub list_good : check_list l ≡ (Ok tt)
  unfolding check_list records_from
  list_good = rw (fits, one_record, record_good_lem)

  fields_well_formed : WellFormedLine m
  unfolding raw_of layout_of
  fields_well_formed =
      record {
        good = list_good;
        whole = refl;
        first_entry_high = refl;
        first_entry_low = refl;
        counted = refl;
        zero = refl;
        label_high = refl;
        label_low = refl;
        fits = g.layout_count;
        kinds_whole = padded_whole kind_said f.layout g.layout_count;
        bytes_whole = padded_whole byte_said f.layout g.layout_count;
        kinds_past = padded_past kind_said f.layout;
        bytes_past = padded_past byte_said f.layout;
        raw_bytes = bytes_at (raw_of f) raw_bytes_lem;
        kinds_bytes = padded_bytes kind_said f.layout (each_of (λ e h. h.kind) f.layout g.layout);
        bytes_bytes = padded_bytes byte_said f.layout (each_of (λ e h. h.byte) f.layout g.layout);
      }

pub well_formed : (s : List ℕ) (m : LineMeaning) → SignatureLine s m → WellFormedLine m
unfolding SignatureLine
well_formed s m l = rw l.2 (fields_well_formed l.0 (fields_good s l.0 l.1))
