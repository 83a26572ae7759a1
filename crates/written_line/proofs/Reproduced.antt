-- A line in written form, read and written, is reproduced byte for byte (document 02, Wish 7).
use Prim.Native.Nat.{ℕ, ◌≤◌}
use mathlib.Core.Path.{◌≡◌, refl, sym, ◌∙◌, ap}
use mathlib.Core.List.{List}
use native.Mathlib.Omega.{arith}
use lib.ListN.{length}
use borrow.Author.Tests.{le-ltb}
use Rattle.basis.specs.Bytes.{be16}
use Rattle.sigrecord.specs.Record.{signature_of}
use Rattle.siglist.specs.List.{entries_of}
use Rattle.signature_line.specs.Line.{SignatureLine}
use Rattle.signature_line.specs.Meaning.{Fields, layout_of, raw_of, meaning_of}
use Rattle.signature_line.specs.OneRecord.{entries_in, list_of_one}
use Rattle.signature_line.proofs.Accepted.{accepted}
use Rattle.signature_line.proofs.Arrays.{entries_in_lem}
use Rattle.signature_line.proofs.FieldsGood.{FieldsGood, fields_good}
use Rattle.signature_line.proofs.WellFormed.{one_record, record_there, entries_there, list_good}
use Rattle.written_line.specs.LineText.{line_text, signature_text, record_text}
use Rattle.written_line.specs.RoundTrip.{whole_line, Reproduced}
use Rattle.written_line.specs.Writing.{line_into, record_line}
use Rattle.written_line.specs.WrittenForm.{WrittenForm}
use Rattle.written_line.proofs.Back.{line_back}
use Rattle.written_line.proofs.FieldsBack.{fields_back}
use Rattle.written_line.proofs.LineFits.{line_length}

-- The line of the one record that a line's fields mean.
module _ (f : Fields) (g : FieldsGood f) where
  abbrev l : List ℕ
  l = list_of_one (meaning_of f)

  entries_same : entries_of l (raw_of f) ≡ entries_in (layout_of f.layout)
  unfolding raw_of be16
  entries_same = entries_there f g ∙ sym (entries_in_lem f.layout)

  record_text_lem : record_text l 0 ≡ signature_text (signature_of (raw_of f)) (entries_in (layout_of f.layout))
  unfolding record_text
  record_text_lem = rw (record_there f g, entries_same)

  record_line_lem : (room : ℕ) → length (record_text l 0) ≤ room → record_line l 0 room ≡ whole_line (record_text l 0)
  unfolding record_line line_into
  record_line_lem room h = rw (list_good f g, one_record f g, le-ltb room (length (record_text l 0)) h)

-- What is written of the record that a line in written form means is the line.
pub written_again : (s : List ℕ) (w : WrittenForm s) → record_text (list_of_one (meaning_of w.fields)) 0 ≡ s
unfolding signature_text
written_again s w =
    let f = w.fields in
    record_text_lem f (fields_good s f w.says)
    ∙ ap line_text (fields_back s f w.says w.rising)
    ∙ line_back s f w.says w.plain

-- A line in written form is short enough to be read.
pub form_length : (s : List ℕ) → WrittenForm s → length s ≤ 434
form_length s w =
    rw (ap length (line_back s w.fields w.says w.plain)) at (line_length s w.fields w.says w.rising)

pub reproduced : (s : List ℕ) → WrittenForm s → Reproduced s
unfolding SignatureLine
reproduced s w =
    let f = w.fields in
    let same = written_again s w in
    record {
      meaning = meaning_of f;
      reads = (accepted s (meaning_of f)).1 (omega (arith, form_length s w), (f, w.says, refl));
      writes = λ room h. record_line_lem f (fields_good s f w.says) room (rw same h) ∙ ap whole_line same;
    }
