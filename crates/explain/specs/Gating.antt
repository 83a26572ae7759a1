-- How the nine fields of a record meet an observation, one by one (document 01, module 7), and the fit that they decide together.
use Rattle.std.specs.Prelude.{ℕ, Bool, true, false, cond, ◌&&◌, List, [], ◌∷◌, count_by, Option, Some, None}
use Rattle.quirks.specs.Quirks.{is_empty}
use Rattle.sigrecord.specs.declared.Signature.{Signature}
use Rattle.sigrecord.specs.Record.{signature_of, entry_count}
use Rattle.siglist.specs.List.{record_at, entries_of}
use Rattle.distances.specs.declared.TtlFit.{TtlFit}
use Rattle.distances.specs.declared.TtlFit.TheVariants as ttlfit
use Rattle.distances.specs.DistanceGates.{version_matches, window_matches, payload_matches}
use Rattle.distances.specs.Distances.{ttl_fit}
use Rattle.matching.specs.declared.Features.{Features}
use Rattle.matching.specs.declared.Tolerated.{Tolerated}
use Rattle.matching.specs.declared.SignatureFit.{SignatureFit}
use Rattle.matching.specs.declared.SignatureFit.TheVariants as answer
use Rattle.matching.specs.Gates.{olen_matches, mss_matches, scale_matches, layout_matches}
use Rattle.matching.specs.Tolerance.{masked_quirks, quirks_fit, judge}
use Rattle.explain.specs.declared.gates.Gates.{Gates}
use Rattle.explain.specs.declared.gates.Said.{Said}
use Rattle.explain.specs.declared.gates.Said.TheVariants as said

-- Each field by the definition of its gate. The signature's layout is a count and its entries.
unfoldable pub gates_of : Features → List ℕ → List ℕ → Signature → ℕ → List ℕ → Gates
gates_of f kinds bytes s count entries =
    record {
      version = version_matches f.version s.version;
      ttl = ttl_fit f.ttl s.ittl;
      olen = olen_matches f.olen s.olen;
      mss = mss_matches f.mss s.mss;
      wsize = window_matches f.wsize s.wsize f.multiplier;
      wscale = scale_matches f.wscale s.wscale;
      olayout = layout_matches f.count kinds bytes count entries;
      quirks = quirks_fit f.quirks (masked_quirks s.quirks s.version f.version);
      pclass = payload_matches f.pclass s.pclass;
    }

-- The same of a record's bytes and the entries of its layout, and of record i of a list.
abbrev pub gates_by : Features → List ℕ → List ℕ → List ℕ → List ℕ → Gates
gates_by f kinds bytes r entries = gates_of f kinds bytes (signature_of r) (entry_count r) entries

abbrev pub gates_at : Features → List ℕ → List ℕ → List ℕ → ℕ → Gates
gates_at f kinds bytes l i = gates_by f kinds bytes (record_at l i) (entries_of l (record_at l i))

-- "Seven gates must all hold"; then the TTL and the quirks are judged.
abbrev pub seven_hold : Gates → Bool
seven_hold g = g.version && g.olen && g.mss && g.wsize && g.wscale && g.olayout && g.pclass

abbrev pub fit_from : Gates → SignatureFit
fit_from g = cond (seven_hold g) (judge g.ttl g.quirks) answer.None

-- ---- what is said of a field

abbrev pub gate_said : Bool → Said
gate_said true = said.Holds
gate_said false = said.Fails

abbrev pub ttl_said : Option TtlFit → Said
ttl_said (Some (ttlfit.InRange hops)) = said.Holds
ttl_said (Some (ttlfit.OutOfRange hops)) = said.Tolerated
ttl_said None = said.Fails

-- Quirks hold if none had to be tolerated.
abbrev pub quirks_said : Option Tolerated → Said
quirks_said (Some q) = cond (is_empty q.added && is_empty q.missing) said.Holds said.Tolerated
quirks_said None = said.Fails

-- The nine fields, in the order of a line's.
unfoldable pub row_of : Gates → List Said
row_of g =
    gate_said g.version
    ∷ ttl_said g.ttl
    ∷ gate_said g.olen
    ∷ gate_said g.mss
    ∷ gate_said g.wsize
    ∷ gate_said g.wscale
    ∷ gate_said g.olayout
    ∷ quirks_said g.quirks
    ∷ gate_said g.pclass
    ∷ []

abbrev pub is_fails : Said → Bool
is_fails said.Holds = false
is_fails said.Tolerated = false
is_fails said.Fails = true

-- How many fields of a row fail.
abbrev pub fails : List Said → ℕ
fails row = count_by is_fails row

-- How many fields of record i of a list fail.
abbrev pub fails_at : Features → List ℕ → List ℕ → List ℕ → ℕ → ℕ
fails_at f kinds bytes l i = fails (row_of (gates_at f kinds bytes l i))
