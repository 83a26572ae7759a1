-- What a line says has words of its own, and these are no longer than a record's.
use Prim.Native.Nat.{ℕ, ◌≤◌}
use mathlib.Core.Path.{refl}
use mathlib.Core.Logic.{inl, inr}
use mathlib.Core.List.{List, [], ◌∷◌}
use native.Mathlib.Omega.{arith}
use lib.ListN.{length}
use Rattle.quirks.specs.Named.{display_order}
use Rattle.quirks.specs.Quirks.{bit_of, place_of}
use Rattle.grammar.specs.Language.{Behind, Then}
use Rattle.grammar.specs.Table.{Said, said, Choice}
use Rattle.grammar.proofs.Spelling.{Fits}
use Rattle.grammar.proofs.Tables.{table_holds}
use Rattle.signature_line.specs.Line.{colon, comma, TtlText, LayoutText, QuirksText, AfterScale, AfterOlen, LineSays}
use Rattle.signature_line.specs.Meaning.{Fields}
use Rattle.signature_line.specs.Words.{version, bare_byte, ttl_form, mss, window, scale, entry, quirk_word, payload}
use Rattle.signature_line.proofs.FieldsGood.{◌then◌, Each, more_each, layout_good}
use Rattle.written_line.specs.LineText.{line_text}
use Rattle.written_line.specs.WrittenForm.{RisingIn}
use Rattle.written_line.proofs.FieldWords.{FieldsFit, window_spelled, line_spelled}

-- ---- one field

version_fits : (w : List ℕ) (v : Said) → Choice version w v → Fits version v
unfolding version
version_fits = table_holds (λ f n. Fits version (said f n)) version (refl then refl then refl then tt)

byte_fits : (w : List ℕ) (v : Said) → Choice bare_byte w v → Fits bare_byte v
unfolding bare_byte
byte_fits = table_holds (λ f n. Fits bare_byte (said f n)) bare_byte (λ n h a. (h, omega arith, a), tt)

form_fits : (w : List ℕ) (v : Said) → Choice ttl_form w v → Fits ttl_form v
unfolding ttl_form
form_fits =
    table_holds (λ f n. Fits ttl_form (said f n)) ttl_form
    (refl then (λ n h a. (h, omega arith, a)) then refl then refl then tt)

mss_fits : (w : List ℕ) (v : Said) → Choice mss w v → Fits mss v
unfolding mss
mss_fits = table_holds (λ f n. Fits mss (said f n)) mss (refl then (λ n h a. (h, omega arith, a)) then tt)

scale_fits : (w : List ℕ) (v : Said) → Choice scale w v → Fits scale v
unfolding scale
scale_fits = table_holds (λ f n. Fits scale (said f n)) scale (refl then (λ n h a. (h, omega arith, a)) then tt)

window_fits : (w : List ℕ) (v : Said) → Choice window w v → Fits window v
unfolding window
window_fits =
    table_holds (λ f n. Fits window (said f n)) window
    (refl
    then (λ n h a. (h, omega arith, a))
    then (λ n h a. (h, omega arith, a))
    then (λ n h a. (h, omega arith, a))
    then (λ n h a. (h, omega arith, a))
    then tt)

entry_fits : (w : List ℕ) (v : Said) → Choice entry w v → Fits entry v
unfolding entry
entry_fits =
    table_holds (λ f n. Fits entry (said f n)) entry
    ((λ n h a. (h, omega arith, a))
    then refl
    then refl
    then refl
    then refl
    then refl
    then refl
    then (λ n h a. (h, omega arith, a))
    then tt)

quirk_fits : (w : List ℕ) (v : Said) → Choice quirk_word w v → Fits quirk_word v
unfolding quirk_word bit_of place_of
quirk_fits =
    table_holds (λ f n. Fits quirk_word (said f n)) quirk_word
    (refl
    then refl
    then refl
    then refl
    then refl
    then refl
    then refl
    then refl
    then refl
    then refl
    then refl
    then refl
    then refl
    then refl
    then refl
    then refl
    then refl
    then tt)

payload_fits : (w : List ℕ) (v : Said) → Choice payload w v → Fits payload v
unfolding payload
payload_fits = table_holds (λ f n. Fits payload (said f n)) payload (refl then refl then refl then tt)

-- ---- rows

layout_fits : (w : List ℕ) (vs : List Said) → LayoutText w vs → Each (Fits entry) vs
layout_fits w vs (inl l) = rw l.1 tt
layout_fits w vs (inr l) =
    let rest = more_each (Choice entry) comma (Fits entry) entry_fits 39 l.1.right l.0.1 l.1.second in
    rw l.2 (entry_fits l.1.left l.0.0 l.1.first, rest.0)

quirks_fit_lem : (w : List ℕ) (vs : List Said) → QuirksText w vs → Each (Fits quirk_word) vs
quirks_fit_lem w vs (inl l) = rw l.1 tt
quirks_fit_lem w vs (inr l) =
    let m = l.1.second in
    let rest = more_each (Choice quirk_word) comma (Fits quirk_word) quirk_fits m.0 l.1.right l.0.1 m.1 in
    rw l.2 (quirk_fits l.1.left l.0.0 l.1.first, rest.0)

-- ---- the line

pub fields_fit : (s : List ℕ) (f : Fields) → LineSays s f → FieldsFit f
unfolding LineSays
fields_fit s f l =
    let ver = l.1 in
    let p = l.0.1 in
    let q = p.1.1.1 in
    let ttl = (inner colon (Then TtlText colon (Then (Choice bare_byte) colon AfterOlen)) p ver.right ver.second).1 in
    let olen = (inner colon (Then (Choice bare_byte) colon AfterOlen) p.1 ttl.right ttl.second).1 in
    let mss = (inner colon AfterOlen p.1.1 olen.right olen.second).1 in
    let wsize = (inner colon (Then (Choice window) comma (Then (Choice scale) colon AfterScale)) q mss.right mss.second).1 in
    let scale = (inner comma (Then (Choice scale) colon AfterScale) q.1 wsize.right wsize.second).1 in
    let olayout = (inner colon AfterScale q.1.1 scale.right scale.second).1 in
    let quirks = (inner colon (Then QuirksText colon (Choice payload)) q.1.1.1 olayout.right olayout.second).1 in
    let pclass = inner colon (Choice payload) q.1.1.1.1 quirks.right quirks.second in
    rw l.2
    (record {
      version = version_fits ver.left _ ver.first;
      ttl = byte_fits ttl.first.left _ ttl.first.first;
      ttl_form = form_fits ttl.first.right _ ttl.first.second;
      olen = byte_fits olen.left _ olen.first;
      mss = mss_fits mss.left _ mss.first;
      window = window_fits wsize.left _ wsize.first;
      scale = scale_fits scale.left _ scale.first;
      layout = layout_fits olayout.left _ olayout.first;
      layout_count = (layout_good olayout.left _ olayout.first).1;
      quirks = quirks_fit_lem quirks.left _ quirks.first;
      payload = payload_fits pclass.0 _ pclass.1;
    })
  where
    inner : {A : Type 0} (c : ℕ) (L : List ℕ → A → Type 0) (v : A) (w : List ℕ) → Behind c L w v → (x : List ℕ) × L x v
    inner c L v [] h = absurd h
    inner c L v (b ∷ w) h = (w, h.1)

-- The text of what a line says, if its quirks rise.
pub line_length : (s : List ℕ) (f : Fields) → LineSays s f → RisingIn display_order f.quirks → length (line_text f) ≤ 434
line_length s f l r =
    let h = fields_fit s f l in
    (line_spelled f 7 h r (window_spelled f.window h.window).short).short
