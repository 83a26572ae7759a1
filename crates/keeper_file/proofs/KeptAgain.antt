-- The line of a good record in a keeper's file means the record, with its kind, its label and its entries; only their place is not said.
use Rattle.std.specs.Prelude.{Ok}
use Prim.Native.Nat.{ℕ, zero, suc, ◌+◌, ◌-◌, ◌<◌, ◌≤◌}
use mathlib.Core.Path.{◌≡◌, refl, sym, ◌∙◌, ap}
use mathlib.Core.Logic.{inl, inr}
use mathlib.Core.Bool.{true, false, cond, false≢true}
use mathlib.Core.List.{List, [], ◌∷◌, ◌++◌, append_assoc, append-nil}
use native.Mathlib.Omega.{arith}
use native.Mathlib.Decide.{dec_le}
use lib.Dec.{eqb}
use lib.ListN.{length, take, length-append}
use lib.Seq.{get_or-take, take_at}
use borrow.Author.Tests.{lt-leb}
use Rattle.basis.specs.Ascii.{ascii}
use Rattle.basis.specs.Bytes.{byte_at, AllBytes, be16}
use Rattle.basis.proofs.Tests.{and_left, and_false}
use Rattle.text.specs.Decimal.{decimal}
use Rattle.sigrecord.specs.Record.{entry_count, label_of, first_entry}
use Rattle.sigrecord.specs.WellFormed.{scalars_good}
use Rattle.siglist.specs.List.{record_count, record_start, record_at, entries_of, layout_lies, record_good, check_list}
use Rattle.siglist.proofs.FirstBad.{good_fits, each_good}
use Rattle.grammar.specs.Numeral.{any}
use Rattle.grammar.specs.Spelling.{spelt}
use Rattle.grammar.specs.Table.{Said, said, Choice}
use Rattle.grammar.proofs.Judged.{fewer_go_on}
use Rattle.grammar.proofs.Spelling.{spelt_says}
use Rattle.signature_line.specs.Line.{LineSays, SignatureLine, longest}
use Rattle.signature_line.specs.Meaning.{Fields, LineMeaning, raw_of}
use Rattle.signature_line.specs.OneRecord.{entries_in}
use Rattle.written_line.specs.LineText.{record_text}
use Rattle.written_line.specs.RoundTrip.{ReadAgain}
use Rattle.written_line.proofs.EveryRecord.{part_bytes, read_again, record_length_lem}
use Rattle.keeper_file.specs.CompileAnswers.{NotPlace}
use Rattle.keeper_file.specs.FileText.{head_text, kept_text}
use Rattle.keeper_file.specs.KeptLine.{blank, label, mark, HeadSays, KeptSays, kind_and_label}
use Rattle.keeper_file.specs.KeptLine.{kept_meaning, KeptLine, LineStarts, KeptMeans}
use Rattle.keeper_file.proofs.KeptWellFormed.{kept_good}

-- ---- the head

label_says : (n : ℕ) → n < 65536 → Choice label (decimal n) (said 0 n)
unfolding label spelt any
label_says n h = spelt_says label (said 0 n) (omega arith, omega arith, refl)

-- The mark of a kind that is 0 or 1.
abbrev mark_text : ℕ → List ℕ
mark_text kind = cond (eqb kind 1) (ascii "g ") []

mark_says : (kind : ℕ) → kind ≤ 1 → Choice mark (mark_text kind) (said kind 0)
unfolding mark
mark_says zero h = inl (refl, (refl, refl))
mark_says (suc zero) h = inr (inl (refl, (refl, (refl, (refl, refl)))))
mark_says (suc (suc kind)) h = absurd (omega arith)

-- ---- the bytes

-- Before 21, 22 and 23, where a kind and a label stand, a record is as it was.
kept_before : (kind number : ℕ) (f : Fields) → take 21 (kind_and_label kind number (raw_of f)) ≡ take 21 (raw_of f)
unfolding kind_and_label raw_of
kept_before kind number f = refl

module _ (r : List ℕ) (f : Fields) (bytes : AllBytes r)
    (same : (k : ℕ) → k < 18 → byte_at (raw_of f) k ≡ byte_at r k) (count : byte_at (raw_of f) 20 ≡ byte_at r 20) where
  abbrev raw : List ℕ
  raw = kind_and_label (byte_at r 21) (label_of r) (raw_of f)

  last_four : (d k : ℕ) → k ≡ 20 + d → k < 24 → byte_at raw k ≡ byte_at r k
  unfolding kind_and_label raw_of be16
  last_four zero k e h = rw e count
  last_four (suc zero) k e h = rw e
  last_four (suc (suc zero)) k e h = rw e (omega (arith, bytes 23))
  last_four (suc (suc (suc zero))) k e h = rw e (omega (arith, bytes 23))
  last_four (suc (suc (suc (suc d)))) k e h = absurd (omega arith)

  same_raw : (k : ℕ) → NotPlace k → byte_at raw k ≡ byte_at r k
  same_raw k (NotPlace.before h) =
      sym (get_or-take 21 raw k 0 (omega arith))
      ∙ ap (λ (s : List ℕ). byte_at s k) (kept_before (byte_at r 21) (label_of r) f)
      ∙ get_or-take 21 (raw_of f) k 0 (omega arith)
      ∙ same k h
  same_raw k (NotPlace.behind low high) = last_four (k - 20) k (omega arith) high

kind_good : (r : List ℕ) → scalars_good r ≡ true → byte_at r 21 ≤ 1
unfolding scalars_good
kind_good r g = by (dec_le (byte_at r 21) 1)
  where
    by : Dec (byte_at r 21 ≤ 1) → byte_at r 21 ≤ 1
    by (yes h) = h
    by (no h) =
        let bad : scalars_good r ≡ false = simp (lt-leb (byte_at r 21) 1 (omega arith), and_false) in
        absurd (false≢true (sym bad ∙ g))

-- ---- the record

-- Record i of a list is kept by its line as this.
pub record KeptAgain (l : List ℕ) (i : ℕ) (m : LineMeaning) : Type 0 where
  pub means : KeptMeans (kept_text l i) m
  pub same : (k : ℕ) → NotPlace k → byte_at m.raw k ≡ byte_at (record_at l i) k
  pub entries : entries_in m.layout ≡ entries_of l (record_at l i)
  pub counted : m.layout.count ≡ entry_count (record_at l i)

module _ (l : List ℕ) (i : ℕ) (all : AllBytes l) (good : check_list l ≡ Ok tt) (there : i < record_count l) where
  abbrev r : List ℕ
  r = record_at l i

  abbrev kind : ℕ
  kind = byte_at r 21

  bytes : AllBytes r
  bytes = part_bytes (record_start l i) (record_start l i + 24) l all

  small_label : label_of r < 65536
  unfolding be16
  small_label = omega (arith, bytes 22, bytes 23)

  small_kind : kind ≤ 1
  unfolding record_good
  small_kind = kind_good r (and_left (scalars_good r) (layout_lies l (first_entry r) (entry_count r)) (each_good l i good there))

  again : ReadAgain l i
  again = read_again l i all (good_fits l good) (each_good l i good there)

  abbrev head_said : Said × Said
  head_said = (said 0 (label_of r), said kind 0)

  head_says : HeadSays (head_text r) head_said
  unfolding head_text
  head_says =
      record {
        left = decimal (label_of r);
        right = blank ∷ mark_text kind;
        splits = refl;
        first = label_says (label_of r) small_label;
        second = (refl, mark_says kind small_kind);
      }

  -- A line that starts in the head could go on there.
  short : (start : ℕ) → LineStarts (kept_text l i) start → length (kept_text l i) - start ≤ longest
  unfolding kept_text
  short start starts = by (dec_le (length (head_text r)) start)
    where
      by : Dec (length (head_text r) ≤ start) → length (kept_text l i) - start ≤ longest
      by (yes h) =
          omega (
            arith,
            length-append (head_text r) (record_text l i),
            record_length_lem l i all (good_fits l good) (each_good l i good there),
          )
      by (no h) =
          let whole : take (length (head_text r)) (kept_text l i) ≡ head_text r =
          take_at (head_text r) (record_text l i) (length (head_text r)) refl in
          absurd
          (starts.ends (omega (arith, length-append (head_text r) (record_text l i)))
          (fewer_go_on HeadSays (kept_text l i) (start + 1) (length (head_text r)) (omega arith)
          (record { tail = []; meaning = head_said; derives = rw (append-nil, whole) head_says })))

  module _ (f : Fields) (line : LineSays (record_text l i) f) where
    abbrev said_all : Said × (Said × Fields)
    said_all = (said 0 (label_of r), (said kind 0, f))

    kept_says : KeptSays (kept_text l i) said_all
    unfolding kept_text head_text
    kept_says =
        record {
          left = decimal (label_of r);
          right = blank ∷ (mark_text kind ++ record_text l i);
          splits = append_assoc (decimal (label_of r)) (blank ∷ mark_text kind) (record_text l i);
          first = label_says (label_of r) small_label;
          second = (
            refl,
            record {
              left = mark_text kind;
              right = record_text l i;
              splits = refl;
              first = mark_says kind small_kind;
              second = line;
            },
          );
        }

    kept_line : KeptLine (kept_text l i) (kept_meaning said_all)
    unfolding KeptLine
    kept_line = (said_all, kept_says, refl)

  pub kept_again : (m : LineMeaning) × KeptAgain l i m
  unfolding SignatureLine
  kept_again =
      let m = again.means in
      let f = m.says.0 in
      let line = kept_line f m.says.1 in
      let raws : raw_of f ≡ m.meaning.raw = ap (λ (x : LineMeaning). x.raw) (sym m.says.2) in
      let same = same_raw r f bytes (λ k h. rw raws (m.same k h)) (rw raws m.same_count) in (
        kept_meaning (said_all f m.says.1),
        record {
          means = record { says = line; short = short };
          same = same;
          entries = ap (λ (x : LineMeaning). entries_in x.layout) (sym m.says.2) ∙ m.entries;
          counted =
              sym (kept_good (kept_text l i) _ line).counted ∙ same 20 (NotPlace.behind (omega arith) (omega arith));
        },
      )

-- ---- the records

-- So many records from one on are kept as these.
pub data KeptFrom (l : List ℕ) : ℕ → ℕ → List LineMeaning → Type 0 where
  none : {i : ℕ} → KeptFrom l i 0 []
  one_more
      : {i n : ℕ} {m : LineMeaning} {ms : List LineMeaning} → KeptAgain l i m → KeptFrom l (i + 1) n ms
      → KeptFrom l i (suc n) (m ∷ ms)

pub all_kept
    : (l : List ℕ) → AllBytes l → check_list l ≡ Ok tt → (i n : ℕ) → i + n ≤ record_count l
    → (ms : List LineMeaning) × KeptFrom l i n ms
all_kept l all good i zero h = ([], KeptFrom.none)
all_kept l all good i (suc n) h =
    let here = kept_again l i all good (omega arith) in
    let rest = all_kept l all good (i + 1) n (omega arith) in
    (here.0 ∷ rest.0, KeptFrom.one_more here.1 rest.1)
