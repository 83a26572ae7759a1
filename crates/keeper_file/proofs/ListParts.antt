-- Where the parts of a list lie: its header's numbers, and from each record on the entries and the records that are left.
use Prim.Native.Nat.{ℕ, ◌+◌, ◌*◌, ◌-◌}
use mathlib.Core.Path.{◌≡◌, refl, ◌∙◌}
use mathlib.Core.List.{List, [], ◌∷◌, ◌++◌, append_assoc}
use native.Mathlib.Omega.{arith}
use lib.ListN.{length, drop, length-append}
use lib.Seq.{take_at, drop_at, drop-drop}
use Rattle.basis.specs.Bytes.{be16}
use Rattle.siglist.specs.List.{record_count, records_offset, layout_count, layout_offset, record_start, record_at, entries_from}
use Rattle.signature_line.specs.Meaning.{LineMeaning}
use Rattle.signature_line.specs.OneRecord.{entries_in}
use Rattle.signature_line.proofs.FieldsGood.{Each}
use Rattle.keeper_file.specs.ListText.{entry_total, entries_text, placed_at, records_text, header_text, list_text}
use Rattle.keeper_file.proofs.KeptWellFormed.{KeptGood}
use Rattle.keeper_file.proofs.PlacedRecord.{placed_length, entries_length}

-- What each line of a file means is well formed.
abbrev pub AllKept : List LineMeaning → Type 0
AllKept = Each KeptGood

-- ---- lengths

pub kept_entries : (m : LineMeaning) → KeptGood m → length (entries_in m.layout) ≡ 2 * m.layout.count
kept_entries m g =
    entries_length m.layout (omega (arith, g.fits, g.kinds_whole)) (omega (arith, g.fits, g.bytes_whole))

placed_whole : (first : ℕ) (m : LineMeaning) → KeptGood m → length (placed_at first m.raw) ≡ 24
placed_whole first m g = placed_length first m.raw ∙ g.whole

pub entries_text_length : (ms : List LineMeaning) → AllKept ms → length (entries_text ms) ≡ 2 * entry_total ms
unfolding entries_text entry_total
entries_text_length [] good = refl
entries_text_length (m ∷ ms) good =
    omega (
      arith,
      length-append (entries_in m.layout) (entries_text ms),
      kept_entries m good.0,
      entries_text_length ms good.1,
    )

pub records_text_length : (ms : List LineMeaning) → AllKept ms → (first : ℕ) → length (records_text first ms) ≡ 24 * length ms
unfolding records_text
records_text_length [] good first = refl
records_text_length (m ∷ ms) good first =
    let rest = records_text_length ms good.1 in
    simp (length-append, placed_whole first m good.0, rest) (omega arith)

-- ---- the header

module _ (ms : List LineMeaning) where
  pub header_signatures : record_count (list_text ms) ≡ length ms
  unfolding list_text header_text be16
  header_signatures = omega arith

  pub header_records : records_offset (list_text ms) ≡ 8 + 2 * entry_total ms
  unfolding list_text header_text be16
  header_records = omega arith

  pub header_entries : layout_count (list_text ms) ≡ entry_total ms
  unfolding list_text header_text be16
  header_entries = omega arith

  pub header_layouts : layout_offset (list_text ms) ≡ 8
  unfolding list_text header_text be16
  header_layouts = refl

-- ---- what is left

-- From a place on two rows stand: from behind the first on, the second.
drop_behind
    : (l p q : List ℕ) (start n end : ℕ) → drop start l ≡ p ++ q → length p ≡ n → end ≡ start + n → drop end l ≡ q
drop_behind l p q start n end both whole at =
    rw (at, ← drop-drop n start l, both) (drop_at p q n whole)

-- From record i of a list on, whose entries start at this one: the entries and the records of these meanings, and no more records.
pub record Left (l : List ℕ) (i first : ℕ) (ms : List LineMeaning) : Type 0 where
  pub behind : List ℕ
  pub entries : drop (layout_offset l + 2 * first) l ≡ entries_text ms ++ behind
  pub records : drop (record_start l i) l ≡ records_text first ms
  pub entries_counted : first + entry_total ms ≡ layout_count l
  pub records_counted : i + length ms ≡ record_count l

-- The first record that is left, its entries, and what is left behind it.
module _ (l : List ℕ) (i first : ℕ) (m : LineMeaning) (ms : List LineMeaning) (good : KeptGood m) (left : Left l i first (m ∷ ms)) where
  abbrev count : ℕ
  count = m.layout.count

  entries_split : drop (layout_offset l + 2 * first) l ≡ entries_in m.layout ++ (entries_text ms ++ left.behind)
  unfolding entries_text
  entries_split = left.entries ∙ append_assoc (entries_in m.layout) (entries_text ms) left.behind

  records_split : drop (record_start l i) l ≡ placed_at first m.raw ++ records_text (first + count) ms
  unfolding records_text
  records_split = left.records

  pub record_here : record_at l i ≡ placed_at first m.raw
  record_here =
      rw records_split
      (take_at (placed_at first m.raw) (records_text (first + count) ms) (record_start l i + 24 - record_start l i)
      (placed_whole first m good ∙ omega arith))

  pub entries_here : entries_from l first count ≡ entries_in m.layout
  entries_here =
      let start = layout_offset l + 2 * first in
      rw entries_split
      (take_at (entries_in m.layout) (entries_text ms ++ left.behind) (start + 2 * count - start)
      (kept_entries m good ∙ omega arith))

  pub left_behind : Left l (i + 1) (first + count) ms
  unfolding entry_total
  left_behind =
      record {
        behind = left.behind;
        entries =
            drop_behind l (entries_in m.layout) (entries_text ms ++ left.behind) (layout_offset l + 2 * first) (2 * count)
            (layout_offset l + 2 * (first + count))
            entries_split (kept_entries m good) (omega arith);
        records =
            drop_behind l (placed_at first m.raw) (records_text (first + count) ms) (record_start l i) 24 (record_start l (i + 1))
            records_split (placed_whole first m good) (omega arith);
        entries_counted = omega (arith, left.entries_counted);
        records_counted = omega (arith, left.records_counted);
      }

behind_header : (ms : List LineMeaning) → drop 8 (list_text ms) ≡ entries_text ms ++ records_text 0 ms
unfolding list_text header_text
behind_header ms = refl

-- At first all is left.
pub all_left : (ms : List LineMeaning) → AllKept ms → Left (list_text ms) 0 0 ms
all_left ms good =
    record {
      behind = records_text 0 ms;
      entries = rw (header_layouts ms) (behind_header ms);
      records =
          drop_behind (list_text ms) (entries_text ms) (records_text 0 ms) 8 (2 * entry_total ms) (record_start (list_text ms) 0)
          (behind_header ms) (entries_text_length ms good) (omega (arith, header_records ms));
      entries_counted = omega (arith, header_entries ms);
      records_counted = omega (arith, header_signatures ms);
    }
