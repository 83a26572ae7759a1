-- The fields of a line that have words: their line says them.
use Prim.Native.Nat.{ℕ, suc, ◌+◌, ◌-◌, ◌≤◌}
use mathlib.Core.Path.{◌≡◌, refl, ap}
use mathlib.Core.Logic.{inl, inr}
use mathlib.Core.Bool.{false}
use mathlib.Core.List.{List, [], ◌∷◌}
use native.Mathlib.Omega.{arith}
use lib.ListN.{length, length-append}
use Rattle.quirks.specs.declared.Quirk.{Quirk}
use Rattle.quirks.specs.Named.{display_order}
use Rattle.quirks.specs.Quirks.{bit_of, place_of}
use Rattle.grammar.specs.LeadingZero.{is_digit, begins_with_digit, plain_behind}
use Rattle.grammar.specs.Spelling.{spelt, more_text, listed_text}
use Rattle.grammar.specs.Table.{nothing, numeral, Row, row, Said, said, Choice}
use Rattle.grammar.proofs.Join.{Outside}
use Rattle.grammar.proofs.LeadingZero.{rows_plain}
use Rattle.grammar.proofs.Spelling.{Fits, rows_short, spelt_says}
use Rattle.grammar.proofs.WordBytes.{rows_outside, table_outside}
use Rattle.signature_line.specs.Line.{colon, comma, TtlText, LayoutText, QuirksText, LineSays}
use Rattle.signature_line.specs.Meaning.{Fields}
use Rattle.signature_line.specs.Words.{version, bare_byte, ttl_form, mss, window, scale, entry, quirk_word, payload}
use Rattle.signature_line.proofs.FieldsGood.{Each}
use Rattle.written_line.specs.LineText.{ttl_text, layout_text, quirks_text, text_after_scale, text_after_olen, line_text}
use Rattle.written_line.specs.WrittenForm.{RisingIn}
use Rattle.written_line.proofs.Spelled.{Spelled, table_spelled, join_spelled, then_spelled, listed_spelled}
use Rattle.written_line.proofs.Spelled.{any_listed_spelled}

-- ---- one field

version_spelled : (v : Said) → Fits version v → Spelled (Choice version) v (spelt version v) 1
unfolding version rows_short rows_plain plain_behind
version_spelled = table_spelled 1 version refl refl

byte_spelled : (v : Said) → Fits bare_byte v → Spelled (Choice bare_byte) v (spelt bare_byte v) 3
unfolding bare_byte rows_short rows_plain plain_behind
byte_spelled = table_spelled 3 bare_byte refl refl

form_spelled : (v : Said) → Fits ttl_form v → Spelled (Choice ttl_form) v (spelt ttl_form v) 4
unfolding ttl_form rows_short rows_plain plain_behind
form_spelled = table_spelled 4 ttl_form refl refl

mss_spelled : (v : Said) → Fits mss v → Spelled (Choice mss) v (spelt mss v) 5
unfolding mss rows_short rows_plain plain_behind
mss_spelled = table_spelled 5 mss refl refl

pub window_spelled : (v : Said) → Fits window v → Spelled (Choice window) v (spelt window v) 7
unfolding window rows_short rows_plain plain_behind
window_spelled = table_spelled 7 window refl refl

scale_spelled : (v : Said) → Fits scale v → Spelled (Choice scale) v (spelt scale v) 3
unfolding scale rows_short rows_plain plain_behind
scale_spelled = table_spelled 3 scale refl refl

entry_spelled : (v : Said) → Fits entry v → Spelled (Choice entry) v (spelt entry v) 7
unfolding entry rows_short rows_plain plain_behind
entry_spelled = table_spelled 7 entry refl refl

quirk_spelled : (v : Said) → Fits quirk_word v → Spelled (Choice quirk_word) v (spelt quirk_word v) 6
unfolding quirk_word rows_short rows_plain plain_behind
quirk_spelled = table_spelled 6 quirk_word refl refl

payload_spelled : (v : Said) → Fits payload v → Spelled (Choice payload) v (spelt payload v) 1
unfolding payload rows_short rows_plain plain_behind
payload_spelled = table_spelled 1 payload refl refl

-- ---- a TTL: its form begins with no digit

no_digit : (w : List ℕ) → Outside is_digit w → begins_with_digit w ≡ false
no_digit [] o = refl
no_digit (b ∷ w) o = o

form_outside : (v : Said) → Fits ttl_form v → begins_with_digit (spelt ttl_form v) ≡ false
unfolding ttl_form rows_outside
form_outside v h =
    no_digit (spelt ttl_form v) (table_outside is_digit ttl_form refl (spelt ttl_form v) v (spelt_says ttl_form v h))

ttl_spelled : (t form : Said) → Fits bare_byte t → Fits ttl_form form → Spelled TtlText (t, form) (ttl_text t form) 7
ttl_spelled t form h k = join_spelled (form_outside form k) (byte_spelled t h) (form_spelled form k)

-- ---- rows

pub each_of : {A : Type 0} {P Q : A → Type 0} → ((v : A) → P v → Q v) → (vs : List A) → Each P vs → Each Q vs
each_of g [] all = tt
each_of g (v ∷ vs) all = (g v all.0, each_of g vs all.1)

layout_spelled
    : (vs : List Said) → Each (Fits entry) vs → length vs ≤ 40 → Spelled LayoutText vs (layout_text vs) 319
layout_spelled vs all h =
    let l = listed_spelled (Choice entry) (spelt entry) comma 7 refl 39 vs (each_of entry_spelled vs all) h in
    record { says = l.says; short = omega (arith, l.short); plain = l.plain }

-- ---- quirks, each at most once

-- No row has a number: the form alone tells a word.
abbrev Bare : List Row → Type 0
Bare [] = Unit
Bare (row cs f nothing ∷ rows) = Bare rows
Bare (row cs f (numeral max wanted) ∷ rows) = ⊥

form_alone : (rows : List Row) → Bare rows → (u v : Said) → u.form ≡ v.form → spelt rows u ≡ spelt rows v
unfolding spelt
form_alone [] b u v e = refl
form_alone (row cs f nothing ∷ rows) b u v e = rw (form_alone rows b u v e, e)
form_alone (row cs f (numeral max wanted) ∷ rows) b u v e = absurd b

abbrev all_of : List Quirk → List Said
all_of [] = []
all_of (q ∷ qs) = said (bit_of q) 0 ∷ all_of qs

more_length : (v : Said) (vs : List Said) → length (more_text (spelt quirk_word) comma (v ∷ vs))
    ≡ suc (length (spelt quirk_word v) + length (more_text (spelt quirk_word) comma vs))
more_length v vs = ap suc (length-append (spelt quirk_word v) (more_text (spelt quirk_word) comma vs))

rising_short
    : (qs : List Quirk) (vs : List Said) → RisingIn qs vs
    → length (more_text (spelt quirk_word) comma vs) ≤ length (more_text (spelt quirk_word) comma (all_of qs))
unfolding quirk_word
rising_short qs [] r = omega arith
rising_short [] (v ∷ vs) r = absurd r
rising_short (q ∷ qs) (v ∷ vs) (inl r) =
    let same = form_alone quirk_word tt v (said (bit_of q) 0) r.0 in
    omega (arith, ap length same, rising_short qs vs r.1, more_length v vs, more_length (said (bit_of q) 0) (all_of qs))
rising_short (q ∷ qs) (v ∷ vs) (inr r) = omega (arith, rising_short qs (v ∷ vs) r, more_length (said (bit_of q) 0) (all_of qs))

all_short : length (more_text (spelt quirk_word) comma (all_of display_order)) ≡ 81
unfolding quirk_word spelt display_order bit_of place_of
all_short = refl

listed_more : {A : Type 0} (text : A → List ℕ) (c : ℕ) (vs : List A) → length (listed_text text c vs) ≤ length (more_text text c vs) - 1
listed_more text c [] = omega arith
listed_more text c (v ∷ vs) = omega arith

quirks_spelled
    : (vs : List Said) → Each (Fits quirk_word) vs → RisingIn display_order vs → Spelled QuirksText vs (quirks_text vs) 80
quirks_spelled vs all r =
    let l = any_listed_spelled (Choice quirk_word) (spelt quirk_word) comma 6 refl vs (each_of quirk_spelled vs all) in
    record {
      says = l.says;
      short = omega (arith, listed_more (spelt quirk_word) comma vs, rising_short display_order vs r, all_short);
      plain = l.plain;
    }

-- ---- the line

-- Every field has a word, and the layout at most forty entries.
pub record FieldsFit (f : Fields) : Type 0 where
  pub version : Fits version f.version
  pub ttl : Fits bare_byte f.ttl
  pub ttl_form : Fits ttl_form f.ttl_form
  pub olen : Fits bare_byte f.olen
  pub mss : Fits mss f.mss
  pub window : Fits window f.window
  pub scale : Fits scale f.scale
  pub layout : Each (Fits entry) f.layout
  pub layout_count : length f.layout ≤ 40
  pub quirks : Each (Fits quirk_word) f.quirks
  pub payload : Fits payload f.payload

-- Of a line with a window of at most so many bytes.
pub line_spelled
    : (f : Fields) (m : ℕ) → FieldsFit f → RisingIn display_order f.quirks → length (spelt window f.window) ≤ m
    → Spelled LineSays f (line_text f) (427 + m)
unfolding LineSays line_text text_after_olen text_after_scale
line_spelled f m h r narrow =
    let wide = window_spelled f.window h.window in
    let wsize : Spelled (Choice window) f.window (spelt window f.window) m =
    record { says = wide.says; short = narrow; plain = wide.plain } in
    let line =
    then_spelled colon refl (version_spelled f.version h.version)
    (then_spelled colon refl (ttl_spelled f.ttl f.ttl_form h.ttl h.ttl_form)
    (then_spelled colon refl (byte_spelled f.olen h.olen)
    (then_spelled colon refl (mss_spelled f.mss h.mss)
    (then_spelled comma refl wsize
    (then_spelled colon refl (scale_spelled f.scale h.scale)
    (then_spelled colon refl (layout_spelled f.layout h.layout h.layout_count)
    (then_spelled colon refl (quirks_spelled f.quirks h.quirks r) (payload_spelled f.payload h.payload))))))))
    in
    record { says = (_, line.says, refl); short = omega (arith, line.short); plain = line.plain }
