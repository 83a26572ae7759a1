-- A signature is read back from the record that its line means.
use Rattle.std.specs.Prelude.{Option, Some, None}
use Prim.Native.Nat.{ℕ, ◌+◌, ◌*◌, ◌/◌, ◌%◌, ◌^◌, ◌<◌}
use mathlib.Core.Path.{◌≡◌, refl}
use mathlib.Core.Bool.{true}
use mathlib.Core.List.{List}
use native.Mathlib.Omega.{arith}
use Rattle.basis.specs.Bytes.{be16, be32}
use Rattle.quirks.specs.Named.{display_order}
use Rattle.quirks.specs.Quirks.{bits_of}
use Rattle.ttl.specs.declared.Ttl.{Ttl}
use Rattle.ttl.specs.declared.Ttl.TheVariants as ttl
use Rattle.ttl.specs.Ttl.{byte_of}
use Rattle.sigrecord.specs.declared.Signature.{Signature}
use Rattle.sigrecord.specs.declared.SigPayload.{SigPayload}
use Rattle.sigrecord.specs.declared.SigPayload.TheVariants as payload
use Rattle.sigrecord.specs.declared.SigVersion.{SigVersion}
use Rattle.sigrecord.specs.declared.SigVersion.TheVariants as version
use Rattle.sigrecord.specs.declared.WindowSize.{WindowSize}
use Rattle.sigrecord.specs.declared.WindowSize.TheVariants as window
use Rattle.sigrecord.specs.Record.{version_of, ttl_of, mss_of, scale_of, window_of, payload_of, signature_of}
use Rattle.sigrecord.specs.WellFormed.{quirks_good}
use Rattle.signature_line.specs.Meaning.{union_from, raw_of}
use Rattle.written_line.specs.Numbers.{WindowHeld, SignatureHeld}
use Rattle.written_line.specs.Signature.{version_said, form_said, mss_said, scale_said, window_said, payload_said, chosen, fields_of}
use Rattle.written_line.proofs.QuirkRow.{chosen_all}

version_back : (v : SigVersion) → version_of (version_said v).form ≡ v
unfolding version_of
version_back version.Any = refl
version_back version.V4 = refl
version_back version.V6 = refl

ttl_back : (t : Ttl) → ttl_of (form_said t).form (byte_of t) (form_said t).number ≡ t
unfolding ttl_of
ttl_back (ttl.Value t) = refl
ttl_back (ttl.Distance t d) = refl
ttl_back (ttl.Guess t) = refl
ttl_back (ttl.Bad t) = refl

-- Two bytes of a number, and the number.
abbrev two : ℕ → ℕ
two n = n / 256 * 256 + n % 256

two_back : (n : ℕ) → two n ≡ n
two_back n = omega arith

one_back : (n : ℕ) → n < 256 → two n % 256 ≡ n
one_back n h = omega arith

mss_back : (m : Option ℕ) → mss_of (mss_said m).form (two (mss_said m).number) ≡ m
unfolding mss_of
mss_back None = refl
mss_back (Some n) = rw (two_back n)

scale_back : (s : Option ℕ) → scale_of (scale_said s).form (scale_said s).number ≡ s
unfolding scale_of
scale_back None = refl
scale_back (Some n) = refl

window_back : (w : WindowSize) → WindowHeld w → window_of (window_said w).form (two (window_said w).number) ≡ w
unfolding window_of
window_back window.Any h = refl
window_back (window.Value n) h = rw (two_back n)
window_back (window.Mod n) h = rw (two_back n)
window_back (window.Mss n) h = rw (one_back n h)
window_back (window.Mtu n) h = rw (one_back n h)

payload_back : (p : SigPayload) → payload_of (payload_said p).form ≡ p
unfolding payload_of
payload_back payload.Zero = refl
payload_back payload.NonZero = refl
payload_back payload.Any = refl

-- Four bytes.
four_back : (q : ℕ) → (q / 16777216 * 256 + q / 65536 % 256) * 65536 + (q / 256 % 256 * 256 + q % 256) ≡ q
four_back q = omega arith

pub signature_back
    : (s : Signature) (e : List ℕ) → SignatureHeld s → quirks_good (bits_of s.quirks) ≡ true → bits_of s.quirks < 2 ^ 32
    → signature_of (raw_of (fields_of s e)) ≡ s
unfolding signature_of raw_of fields_of be16 be32
signature_back s e held good small =
    let quirks = union_from 0 (chosen s.quirks display_order) in
    rw (
      version_back s.version,
      ttl_back s.ittl,
      mss_back s.mss,
      window_back s.wsize held.wsize,
      scale_back s.wscale,
      payload_back s.pclass,
      four_back quirks,
      chosen_all s.quirks small good,
    )
