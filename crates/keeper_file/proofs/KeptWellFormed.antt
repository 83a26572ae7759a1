-- What a signature line of the keeper's file means is as well formed as what its line means.
use Prim.Native.Nat.{ℕ, ◌<◌, ◌≤◌}
use mathlib.Core.Path.{◌≡◌, refl, sym, ◌∙◌, ap}
use mathlib.Core.Bool.{true, ◌&&◌}
use mathlib.Core.List.{List, [], ◌∷◌}
use native.Mathlib.Omega.{arith}
use lib.Dec.{leb}
use lib.ListN.{length}
use Rattle.basis.specs.Bytes.{byte_at, be16, be32}
use Rattle.basis.proofs.Tests.{and_left, and_right}
use Rattle.sigrecord.specs.Layout.{entries_good}
use Rattle.sigrecord.specs.Record.{first_entry, entry_count}
use Rattle.sigrecord.specs.WellFormed.{scalars_good}
use Rattle.siglist.specs.List.{record_count, layout_count, entries_from, entries_lie, layout_lies, record_good}
use Rattle.siglist.proofs.FirstBad.{each_good}
use Rattle.grammar.specs.Language.{Join, Behind}
use Rattle.grammar.specs.Table.{Said, Choice}
use Rattle.grammar.proofs.Tables.{table_holds}
use Rattle.signature_line.specs.Line.{LineSays, SignatureLine}
use Rattle.signature_line.specs.Meaning.{Fields, LineMeaning, raw_of, layout_of, meaning_of}
use Rattle.signature_line.specs.OneRecord.{entries_in, list_of_one}
use Rattle.signature_line.proofs.Arrays.{entries_in_lem}
use Rattle.signature_line.proofs.FieldsGood.{FieldsGood, fields_good}
use Rattle.signature_line.proofs.WellFormed.{one_record, record_there, entries_there, list_good, well_formed}
use Rattle.keeper_file.specs.KeptLine.{blank, mark, kind_and_label, KeptLine}

-- What a list that holds the record and its entries needs of them.
pub record KeptGood (m : LineMeaning) : Type 0 where
  pub whole : length m.raw ≡ 24
  pub scalars : scalars_good m.raw ≡ true
  pub counted : byte_at m.raw 20 ≡ m.layout.count
  pub fits : m.layout.count ≤ 40
  pub kinds_whole : length m.layout.kinds ≡ 40
  pub bytes_whole : length m.layout.bytes ≡ 40
  pub entries : entries_good (entries_in m.layout) m.layout.count ≡ true

-- A mark is 0 or 1.
pub mark_good : (w : List ℕ) (v : Said) → Choice mark w v → leb v.form 1 ≡ true
unfolding mark
mark_good = table_holds (λ f n. leb f 1 ≡ true) mark (refl, (refl, tt))

-- The kind and the label change neither the length nor the entry count.
module _ (kind number : ℕ) (f : Fields) where
  kept_whole : length (kind_and_label kind number (raw_of f)) ≡ 24
  unfolding kind_and_label raw_of
  kept_whole = refl

  kept_counted : byte_at (kind_and_label kind number (raw_of f)) 20 ≡ (layout_of f.layout).count
  unfolding kind_and_label raw_of layout_of
  kept_counted = refl

module _ (f : Fields) (g : FieldsGood f) where
  abbrev l : List ℕ
  l = list_of_one (meaning_of f)

  -- The line's own record is good, on the list that holds it alone.
  alone : scalars_good (raw_of f) && layout_lies l (first_entry (raw_of f)) (entry_count (raw_of f)) ≡ true
  unfolding record_good
  alone =
      let first : 0 < record_count l = rw (one_record f g) (omega arith) in
      rw (record_there f g) at (each_good l 0 (list_good f g) first)

  -- Its entries are the first of that list.
  lies : layout_lies l 0 (length f.layout) ≡ true
  unfolding raw_of be16
  lies = and_right (scalars_good (raw_of f)) (layout_lies l 0 (length f.layout)) alone

  entries_good_lem : entries_good (entries_in (layout_of f.layout)) (layout_of f.layout).count ≡ true
  unfolding layout_lies layout_of
  entries_good_lem =
      let n = length f.layout in
      ap (λ (e : List ℕ). entries_good e n) (entries_in_lem f.layout ∙ sym (entries_there f g))
      ∙ and_right (entries_lie (layout_count l) 0 n) (entries_good (entries_from l 0 n) n) lies

  -- So is it with a kind and a label.
  scalars_good_lem : (kind number : ℕ) → leb kind 1 ≡ true → scalars_good (kind_and_label kind number (raw_of f)) ≡ true
  unfolding raw_of kind_and_label scalars_good be16 be32
  scalars_good_lem kind number k =
      rw k (and_left (scalars_good (raw_of f)) (layout_lies l (first_entry (raw_of f)) (entry_count (raw_of f))) alone)

-- What stands behind a byte.
pub behind_byte : {A : Type 0} (c : ℕ) (L : List ℕ → A → Type 0) (v : A) (w : List ℕ) → Behind c L w v → (x : List ℕ) × L x v
behind_byte c L v [] b = absurd b
behind_byte c L v (a ∷ w) b = (w, b.1)

pub kept_good : (s : List ℕ) (m : LineMeaning) → KeptLine s m → KeptGood m
unfolding KeptLine SignatureLine
kept_good s m k =
    let v = k.0 in
    let j = (behind_byte blank (Join (Choice mark) LineSays) v.1 k.1.right k.1.second).1 in
    let f = v.1.1 in
    let g = fields_good j.right f j.second in
    let w = well_formed j.right (meaning_of f) (f, j.second, refl) in
    rw k.2
    (record {
      whole = kept_whole v.1.0.form v.0.number f;
      scalars = scalars_good_lem f g v.1.0.form v.0.number (mark_good j.left v.1.0 j.first);
      counted = kept_counted v.1.0.form v.0.number f;
      fits = w.fits;
      kinds_whole = w.kinds_whole;
      bytes_whole = w.bytes_whole;
      entries = entries_good_lem f g;
    })
