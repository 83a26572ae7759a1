-- What a line says of a signature and its layout, field by field, in the codes of a record (document 01, "The signature list"): what is
-- written of a record, and of an observation (document 02, Wish 7).
use Rattle.std.specs.Prelude.{ℕ, cond, List, [], ◌∷◌, eqb, Option, Some, None}
use Rattle.quirks.specs.declared.Quirk.{Quirk}
use Rattle.quirks.specs.declared.QuirkSet.{QuirkSet}
use Rattle.quirks.specs.Named.{display_order}
use Rattle.quirks.specs.Quirks.{bit_of, contains}
use Rattle.ttl.specs.declared.Ttl.{Ttl}
use Rattle.ttl.specs.declared.Ttl.TheVariants as ttl
use Rattle.ttl.specs.Ttl.{byte_of}
use Rattle.observable.specs.declared.TcpObservation.{TcpObservation}
use Rattle.sigrecord.specs.declared.Signature.{Signature}
use Rattle.sigrecord.specs.declared.SigPayload.{SigPayload}
use Rattle.sigrecord.specs.declared.SigPayload.TheVariants as payload
use Rattle.sigrecord.specs.declared.SigVersion.{SigVersion}
use Rattle.sigrecord.specs.declared.SigVersion.TheVariants as version
use Rattle.sigrecord.specs.declared.WindowSize.{WindowSize}
use Rattle.sigrecord.specs.declared.WindowSize.TheVariants as window
pub use Rattle.sigrecord.specs.Seen.{version_seen, payload_seen}
use Rattle.grammar.specs.Table.{Said, said}
use Rattle.signature_line.specs.Meaning.{Fields}
use Rattle.signature_line.specs.Words.{unnamed}

abbrev pub version_said : SigVersion → Said
version_said version.Any = said 0 0
version_said version.V4 = said 4 0
version_said version.V6 = said 6 0

-- Behind the number of a TTL: `n`, `n+d`, `n+?`, `n-`.
abbrev pub form_said : Ttl → Said
form_said (ttl.Value t) = said 0 0
form_said (ttl.Distance t d) = said 1 d
form_said (ttl.Guess t) = said 2 0
form_said (ttl.Bad t) = said 3 0

-- "an absent MSS or scale as `*`"
abbrev pub mss_said : Option ℕ → Said
mss_said None = said 0 0
mss_said (Some n) = said 1 n

abbrev pub scale_said : Option ℕ → Said
scale_said None = said 0 0
scale_said (Some n) = said 1 n

abbrev pub window_said : WindowSize → Said
window_said window.Any = said 0 0
window_said (window.Value n) = said 1 n
window_said (window.Mod n) = said 2 n
window_said (window.Mss n) = said 3 n
window_said (window.Mtu n) = said 4 n

abbrev pub payload_said : SigPayload → Said
payload_said payload.Zero = said 0 0
payload_said payload.NonZero = said 1 0
payload_said payload.Any = said 2 0

-- An entry: the bytes left after kind 0; a kind without a name by its number. The byte beside any other kind is not written.
unfoldable pub entry_said : ℕ → ℕ → Said
entry_said kind byte = cond (eqb kind 0) (said 0 byte) (cond (unnamed kind) (said 6 kind) (said kind 0))

-- Entries, kind and byte in turn.
unfoldable pub entries_said : List ℕ → List Said
entries_said [] = []
entries_said (kind ∷ []) = []
entries_said (kind ∷ byte ∷ rest) = entry_said kind byte ∷ entries_said rest

-- Those of a row of quirks that a set has; a bit that is no quirk's is not written.
unfoldable pub chosen : QuirkSet → List Quirk → List Said
chosen s [] = []
chosen s (q ∷ qs) = cond (contains s q) (said (bit_of q) 0 ∷ chosen s qs) (chosen s qs)

-- The fields of a line for a signature and the entries of its layout; "quirks in display order".
unfoldable pub fields_of : Signature → List ℕ → Fields
fields_of s entries =
    record {
      version = version_said s.version;
      ttl = said 0 (byte_of s.ittl);
      ttl_form = form_said s.ittl;
      olen = said 0 s.olen;
      mss = mss_said s.mss;
      window = window_said s.wsize;
      scale = scale_said s.wscale;
      layout = entries_said entries;
      quirks = chosen s.quirks display_order;
      payload = payload_said s.pclass;
    }

-- ---- an observation

-- An observation as a signature of its own: "its window as a plain number, its TTL in its own form".
unfoldable pub signature_seen : TcpObservation → Signature
signature_seen o =
    record {
      version = version_seen o.version;
      ittl = o.ittl;
      olen = o.olen;
      mss = o.mss;
      wsize = window.Value o.wsize;
      wscale = o.wscale;
      pclass = payload_seen o.pclass;
      quirks = o.quirks;
    }
