-- A line of the grammar in which no number has a leading zero is what is written of its fields.
use Prim.Native.Nat.{ℕ}
use mathlib.Core.Path.{◌≡◌, refl}
use mathlib.Core.Bool.{true, false}
use mathlib.Core.List.{List}
use Rattle.quirks.specs.Quirks.{place_of, bit_of}
use Rattle.grammar.specs.LeadingZero.{no_leading_zero}
use Rattle.grammar.specs.Spelling.{spelt}
use Rattle.grammar.specs.Table.{Said, Choice}
use Rattle.grammar.proofs.SpeltBack.{Back, Anywhere, forms_apart, spelt_back, join_back, then_back, listed_back, any_listed_back}
use Rattle.signature_line.specs.Line.{colon, comma, TtlText, LayoutText, QuirksText, LineSays}
use Rattle.signature_line.specs.Meaning.{Fields}
use Rattle.signature_line.specs.Words.{version, bare_byte, ttl_form, mss, window, scale, entry, quirk_word, payload}
use Rattle.written_line.specs.LineText.{ttl_text, layout_text, quirks_text, text_after_scale, text_after_olen, line_text}

-- ---- the fields

version_back : Back false (Choice version) (spelt version)
unfolding forms_apart version
version_back = spelt_back false version refl

byte_back : Back false (Choice bare_byte) (spelt bare_byte)
unfolding forms_apart bare_byte
byte_back = spelt_back false bare_byte refl

form_back : Anywhere (Choice ttl_form) (spelt ttl_form)
unfolding forms_apart ttl_form
form_back true = spelt_back true ttl_form refl
form_back false = spelt_back false ttl_form refl

mss_back : Back false (Choice mss) (spelt mss)
unfolding forms_apart mss
mss_back = spelt_back false mss refl

window_back : Back false (Choice window) (spelt window)
unfolding forms_apart window
window_back = spelt_back false window refl

scale_back : Back false (Choice scale) (spelt scale)
unfolding forms_apart scale
scale_back = spelt_back false scale refl

entry_back : Back false (Choice entry) (spelt entry)
unfolding forms_apart entry
entry_back = spelt_back false entry refl

quirk_back : Back false (Choice quirk_word) (spelt quirk_word)
unfolding forms_apart quirk_word bit_of place_of
quirk_back = spelt_back false quirk_word refl

payload_back : Back false (Choice payload) (spelt payload)
unfolding forms_apart payload
payload_back = spelt_back false payload refl

-- ---- the line

abbrev ttl_words : Said × Said → List ℕ
ttl_words m = ttl_text m.0 m.1

ttl_back : Back false TtlText ttl_words
ttl_back = join_back (Choice bare_byte) (spelt bare_byte) false (Choice ttl_form) (spelt ttl_form) byte_back form_back

layout_back : Back false LayoutText layout_text
layout_back = listed_back comma refl (Choice entry) (spelt entry) entry_back 39

quirks_back : Back false QuirksText quirks_text
quirks_back = any_listed_back comma refl (Choice quirk_word) (spelt quirk_word) quirk_back

pub line_back : (s : List ℕ) (f : Fields) → LineSays s f → no_leading_zero s ≡ true → line_text f ≡ s
unfolding LineSays line_text text_after_olen text_after_scale
line_back s f l plain =
    rw l.2
    (then_back colon refl version_back
    (then_back colon refl ttl_back
    (then_back colon refl byte_back
    (then_back colon refl mss_back
    (then_back comma refl window_back
    (then_back colon refl scale_back
    (then_back colon refl layout_back (then_back colon refl quirks_back payload_back)))))))
    s l.0 l.1 plain)
