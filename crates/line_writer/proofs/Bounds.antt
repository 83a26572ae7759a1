-- How long the parts of a line are at most, so that their lengths can be added up; and the whole as their sum.
use mathlib.Core.Path.{◌≡◌, refl}
use mathlib.Core.Bool.{Bool, true, false, cond}
use mathlib.Core.List.{List, [], ◌∷◌}
use Prim.Native.Nat.{ℕ, ◌+◌, ◌*◌, ◌≤◌}
use native.Mathlib.Omega.{arith}
use lib.ListN.{length, length-append}
use Rattle.quirks.specs.declared.Quirk.{Quirk}
use Rattle.quirks.specs.declared.QuirkSet.{QuirkSet}
use Rattle.quirks.specs.Named.{display_order}
use Rattle.quirks.specs.Quirks.{bit_of, contains}
use Rattle.sigrecord.specs.declared.Signature.{Signature}
use Rattle.sigrecord.specs.declared.SigPayload.{SigPayload}
use Rattle.sigrecord.specs.declared.SigPayload.TheVariants as carries
use Rattle.sigrecord.specs.declared.SigVersion.{SigVersion}
use Rattle.sigrecord.specs.declared.SigVersion.TheVariants as sigversion
use Rattle.ttl.specs.Ttl.{byte_of}
use Rattle.grammar.specs.Spelling.{spelt, more_text, listed_text}
use Rattle.grammar.specs.Table.{Said, said}
use Rattle.signature_line.specs.Line.{colon, comma}
use Rattle.signature_line.specs.Words.{version, bare_byte, ttl_form, mss, window, scale, entry, quirk_word, payload}
use Rattle.text.specs.Decimal.{decimal}
use Rattle.text.proofs.Decimal.{decimal_length}
use Rattle.written_line.specs.LineText.{ttl_text, layout_text, quirks_text, text_after_scale, text_after_olen, line_text, signature_text}
use Rattle.written_line.specs.Signature.{version_said, form_said, mss_said, scale_said, window_said, payload_said}
use Rattle.written_line.specs.Signature.{entry_said, entries_said, chosen, fields_of}
use Rattle.line_writer.proofs.Layouts.{rows_within, spelt_within, entry_within}

-- ---- fields

pub mss_within : (v : Said) → length (spelt mss v) ≤ 6
unfolding mss rows_within
mss_within = spelt_within 6 mss refl

pub scale_within : (v : Said) → length (spelt scale v) ≤ 6
unfolding scale rows_within
scale_within = spelt_within 6 scale refl

pub window_within : (v : Said) → length (spelt window v) ≤ 9
unfolding window rows_within
window_within = spelt_within 9 window refl

byte_within : (v : Said) → length (spelt bare_byte v) ≤ 5
unfolding bare_byte rows_within
byte_within = spelt_within 5 bare_byte refl

form_within : (v : Said) → length (spelt ttl_form v) ≤ 7
unfolding ttl_form rows_within
form_within = spelt_within 7 ttl_form refl

pub ttl_within : (t form : Said) → length (ttl_text t form) ≤ 12
ttl_within t form =
    omega (arith, length-append (spelt bare_byte t) (spelt ttl_form form), byte_within t, form_within form)

quirk_within : (v : Said) → length (spelt quirk_word v) ≤ 11
unfolding quirk_word rows_within
quirk_within = spelt_within 11 quirk_word refl

-- ---- rows

row_within
    : {A : Type 0} (text : A → List ℕ) (vs : List A)
    → length (colon ∷ listed_text text comma vs) ≤ 1 + length (more_text text comma vs)
row_within text [] = omega arith
row_within text (v ∷ vs) = omega arith

entries_within : (e : List ℕ) → length (more_text (spelt entry) comma (entries_said e)) ≤ 5 * length e
unfolding entries_said
entries_within [] = omega arith
entries_within (k ∷ []) = omega arith
entries_within (k ∷ b ∷ rest) = simp length-append (omega (arith, entry_within (entry_said k b), entries_within rest))

pub layout_within : (e : List ℕ) → length (colon ∷ layout_text (entries_said e)) ≤ 1 + 5 * length e
layout_within e = omega (arith, row_within (spelt entry) (entries_said e), entries_within e)

names_within : (s : QuirkSet) (qs : List Quirk) → length (more_text (spelt quirk_word) comma (chosen s qs)) ≤ 12 * length qs
unfolding chosen
names_within s [] = omega arith
names_within s (q ∷ qs) = by (contains s q) (names_within s qs)
  where
    by
        : (t : Bool) → length (more_text (spelt quirk_word) comma (chosen s qs)) ≤ 12 * length qs
        → length (more_text (spelt quirk_word) comma (cond t (said (bit_of q) 0 ∷ chosen s qs) (chosen s qs))) ≤ 12 * length (q ∷ qs)
    by true rest = simp length-append (omega (arith, quirk_within (said (bit_of q) 0), rest))
    by false rest = omega (arith, rest)

pub quirks_within : (s : QuirkSet) → length (colon ∷ quirks_text (chosen s display_order)) ≤ 205
unfolding display_order
quirks_within s = omega (arith, row_within (spelt quirk_word) (chosen s display_order), names_within s display_order)

-- ---- the whole

one_version : (v : SigVersion) → length (spelt version (version_said v)) ≡ 1
unfolding spelt version
one_version sigversion.Any = refl
one_version sigversion.V4 = refl
one_version sigversion.V6 = refl

one_payload : (p : SigPayload) → length (spelt payload (payload_said p)) ≡ 1
unfolding spelt payload
one_payload carries.Zero = refl
one_payload carries.NonZero = refl
one_payload carries.Any = refl

bare_number : (n : ℕ) → length (spelt bare_byte (said 0 n)) ≡ length (decimal n)
unfolding spelt bare_byte
bare_number n = refl

-- Beside the parts there are the version, the payload's class and six bytes between.
pub whole_length
    : (s : Signature) (e : List ℕ)
    → length (signature_text s e)
    ≡ length (ttl_text (said 0 (byte_of s.ittl)) (form_said s.ittl))
    + length (decimal s.olen)
    + (length (spelt mss (mss_said s.mss)) + length (spelt window (window_said s.wsize)) + length (spelt scale (scale_said s.wscale)))
    + (length (colon ∷ layout_text (entries_said e)) + length (colon ∷ quirks_text (chosen s.quirks display_order)))
    + 8
unfolding signature_text line_text text_after_olen text_after_scale fields_of
whole_length s e =
    simp length-append (omega (arith, bare_number s.olen, one_version s.version, one_payload s.pclass))

pub ruleset few = (whole_length, mss_within, scale_within, window_within, ttl_within, layout_within, quirks_within, decimal_length)
