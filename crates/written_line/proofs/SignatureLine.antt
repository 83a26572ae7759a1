-- The line of a signature with its layout says them.
use Rattle.std.specs.Prelude.{Option, Some, None}
use Prim.Native.Nat.{ℕ, ◌+◌, ◌<◌, ◌≤◌}
use mathlib.Core.Path.{refl}
use mathlib.Core.List.{List}
use native.Mathlib.Omega.{arith}
use lib.ListN.{length}
use Rattle.quirks.specs.Named.{display_order}
use Rattle.ttl.specs.declared.Ttl.{Ttl}
use Rattle.ttl.specs.declared.Ttl.TheVariants as ttl
use Rattle.ttl.specs.Ttl.{byte_of}
use Rattle.sigrecord.specs.declared.Signature.{Signature}
use Rattle.sigrecord.specs.declared.SigPayload.{SigPayload}
use Rattle.sigrecord.specs.declared.SigPayload.TheVariants as payload
use Rattle.sigrecord.specs.declared.SigVersion.{SigVersion}
use Rattle.sigrecord.specs.declared.SigVersion.TheVariants as version
use Rattle.sigrecord.specs.declared.WindowSize.{WindowSize}
use Rattle.sigrecord.specs.declared.WindowSize.TheVariants as window
use Rattle.grammar.specs.Numeral.{any}
use Rattle.grammar.specs.Spelling.{spelt}
use Rattle.grammar.specs.Table.{said}
use Rattle.grammar.proofs.Spelling.{Fits}
use Rattle.signature_line.specs.Words as words
use Rattle.signature_line.specs.Line.{LineSays}
use Rattle.written_line.specs.LineText.{signature_text}
use Rattle.written_line.specs.Numbers.{TtlHeld, MssHeld, ScaleHeld, WindowHeld, SignatureHeld}
use Rattle.written_line.specs.Signature.{version_said, form_said, mss_said, scale_said, window_said, payload_said, fields_of}
use Rattle.written_line.specs.WrittenForm.{RisingIn, WrittenForm}
use Rattle.written_line.proofs.FieldWords.{FieldsFit, window_spelled, line_spelled}
use Rattle.written_line.proofs.LayoutRow.{Entries}
use Rattle.written_line.proofs.QuirkRow.{chosen_fits, chosen_rising}
use Rattle.written_line.proofs.Spelled.{Spelled}

version_fits : (v : SigVersion) → Fits words.version (version_said v)
unfolding words.version
version_fits version.Any = refl
version_fits version.V4 = refl
version_fits version.V6 = refl

byte_fits : (n : ℕ) → n < 256 → Fits words.bare_byte (said 0 n)
unfolding words.bare_byte any
byte_fits n h = (omega arith, omega arith, refl)

ttl_fits : (t : Ttl) → TtlHeld t → Fits words.bare_byte (said 0 (byte_of t))
ttl_fits (ttl.Value t) h = byte_fits t h
ttl_fits (ttl.Distance t d) h = byte_fits t h.0
ttl_fits (ttl.Guess t) h = byte_fits t h
ttl_fits (ttl.Bad t) h = byte_fits t h

form_fits : (t : Ttl) → TtlHeld t → Fits words.ttl_form (form_said t)
unfolding words.ttl_form any
form_fits (ttl.Value t) h = refl
form_fits (ttl.Distance t d) h = (omega (arith, h.1), omega (arith, h.1), refl)
form_fits (ttl.Guess t) h = refl
form_fits (ttl.Bad t) h = refl

mss_fits : (m : Option ℕ) → MssHeld m → Fits words.mss (mss_said m)
unfolding words.mss any
mss_fits None h = refl
mss_fits (Some n) h = (omega arith, omega arith, refl)

scale_fits : (s : Option ℕ) → ScaleHeld s → Fits words.scale (scale_said s)
unfolding words.scale any
scale_fits None h = refl
scale_fits (Some n) h = (omega arith, omega arith, refl)

window_fits : (w : WindowSize) → WindowHeld w → Fits words.window (window_said w)
unfolding words.window any
window_fits window.Any h = refl
window_fits (window.Value n) h = (omega arith, omega arith, refl)
window_fits (window.Mod n) h = (omega arith, omega arith, refl)
window_fits (window.Mss n) h = (omega arith, omega arith, refl)
window_fits (window.Mtu n) h = (omega arith, omega arith, refl)

payload_fits : (p : SigPayload) → Fits words.payload (payload_said p)
unfolding words.payload
payload_fits payload.Zero = refl
payload_fits payload.NonZero = refl
payload_fits payload.Any = refl

signature_fits
    : (s : Signature) (e : List ℕ) (count : ℕ) → SignatureHeld s → Entries e count → count ≤ 40 → FieldsFit (fields_of s e)
unfolding fields_of
signature_fits s e count held y few =
    record {
      version = version_fits s.version;
      ttl = ttl_fits s.ittl held.ittl;
      ttl_form = form_fits s.ittl held.ittl;
      olen = byte_fits s.olen held.olen;
      mss = mss_fits s.mss held.mss;
      window = window_fits s.wsize held.wsize;
      scale = scale_fits s.wscale held.wscale;
      layout = y.fits;
      layout_count = omega (arith, y.counted);
      quirks = chosen_fits s.quirks display_order;
      payload = payload_fits s.pclass;
    }

-- ---- the line

module _ (s : Signature) (e : List ℕ) (count : ℕ) (held : SignatureHeld s) (y : Entries e count) (few : count ≤ 40) where
  rising : RisingIn display_order (fields_of s e).quirks
  unfolding fields_of
  rising = chosen_rising s.quirks display_order

  -- With a window of at most so many bytes, and of any.
  pub signature_narrow
      : (m : ℕ) → length (spelt words.window (window_said s.wsize)) ≤ m → Spelled LineSays (fields_of s e) (signature_text s e) (427 + m)
  unfolding signature_text fields_of
  signature_narrow m narrow = line_spelled (fields_of s e) m (signature_fits s e count held y few) rising narrow

  pub signature_spelled : Spelled LineSays (fields_of s e) (signature_text s e) 434
  signature_spelled = signature_narrow 7 (window_spelled (window_said s.wsize) (window_fits s.wsize held.wsize)).short

  pub signature_form : WrittenForm (signature_text s e)
  signature_form =
      record { fields = fields_of s e; says = signature_spelled.says; plain = signature_spelled.plain; rising = rising }
