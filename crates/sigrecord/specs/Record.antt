-- What a record of the signature list means (document 01, "The signature list"; document 02, Wish 3). A record is its 24 bytes.
use Rattle.std.specs.Prelude.{ℕ, ◌%◌, Bool, cond, List, eqb, Option, Some, None}
use Rattle.basis.specs.Bytes.{byte_at, be16, be32}
use Rattle.quirks.specs.Quirks.{set_of}
use Rattle.ttl.specs.declared.Ttl.{Ttl}
use Rattle.ttl.specs.declared.Ttl.TheVariants as ttl
use Rattle.sigrecord.specs.declared.Signature.{Signature}
use Rattle.sigrecord.specs.declared.SigPayload.{SigPayload}
use Rattle.sigrecord.specs.declared.SigPayload.TheVariants as payload
use Rattle.sigrecord.specs.declared.SigVersion.{SigVersion}
use Rattle.sigrecord.specs.declared.SigVersion.TheVariants as version
use Rattle.sigrecord.specs.declared.WindowSize.{WindowSize}
use Rattle.sigrecord.specs.declared.WindowSize.TheVariants as window

-- "0 version (0 any, 4, 6)"
unfoldable pub version_of : ℕ → SigVersion
version_of code = cond (eqb code 4) version.V4 (cond (eqb code 6) version.V6 version.Any)

-- "1 TTL form (0 Value, 1 Distance, 2 Guess, 3 Bad); 2 TTL; 3 distance"
unfoldable pub ttl_of : ℕ → ℕ → ℕ → Ttl
ttl_of form t d = cond (eqb form 0) (ttl.Value t) (cond (eqb form 1) (ttl.Distance t d) (cond (eqb form 2) (ttl.Guess t) (ttl.Bad t)))

-- "5 MSS present; 6 MSS", "11 scale present; 12 scale"
unfoldable pub mss_of : ℕ → ℕ → Option ℕ
mss_of present n = cond (eqb present 0) None (Some n)

unfoldable pub scale_of : ℕ → ℕ → Option ℕ
scale_of present n = cond (eqb present 0) None (Some n)

-- "8 window form (0 any, 1 value, 2 modulus, 3 MSS, 4 MTU); 9 number". A multiple is one byte: more makes the record bad.
unfoldable pub window_of : ℕ → ℕ → WindowSize
window_of form n =
    cond (eqb form 0) window.Any
    (cond (eqb form 1) (window.Value n)
    (cond (eqb form 2) (window.Mod n)
    (cond (eqb form 3) (window.Mss (n % 256))
    (window.Mtu (n % 256)))))

-- "13 payload (0 empty, 1 not, 2 any)"
unfoldable pub payload_of : ℕ → SigPayload
payload_of code = cond (eqb code 0) payload.Zero (cond (eqb code 1) payload.NonZero payload.Any)

-- The signature of a record, its layout apart; "4 option length", "14 quirks".
unfoldable pub signature_of : List ℕ → Signature
signature_of r =
    record {
      version = version_of (byte_at r 0);
      ittl = ttl_of (byte_at r 1) (byte_at r 2) (byte_at r 3);
      olen = byte_at r 4;
      mss = mss_of (byte_at r 5) (be16 r 6);
      wsize = window_of (byte_at r 8) (be16 r 9);
      wscale = scale_of (byte_at r 11) (byte_at r 12);
      pclass = payload_of (byte_at r 13);
      quirks = set_of (be32 r 14);
    }

-- "18 first layout entry", "20 entry count", "22 label"
abbrev pub first_entry : List ℕ → ℕ
first_entry r = be16 r 18

abbrev pub entry_count : List ℕ → ℕ
entry_count r = byte_at r 20

abbrev pub label_of : List ℕ → ℕ
label_of r = be16 r 22

-- "Byte 21 becomes 0 specific or 1 generic"
abbrev pub is_generic : List ℕ → Bool
is_generic r = eqb (byte_at r 21) 1
