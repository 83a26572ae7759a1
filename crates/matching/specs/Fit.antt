-- The fit of an observation to a signature (document 01, module 7).
use Rattle.std.specs.Prelude.{ℕ, Bool, cond, ◌&&◌, List, eqb}
use Rattle.observable.specs.declared.TcpObservation.{TcpObservation}
use Rattle.observable.specs.Observation.{window_multiplier}
use Rattle.ttl.specs.Ttl.{byte_of}
use Rattle.matching.specs.declared.Features.{Features}
use Rattle.sigrecord.specs.declared.Signature.{Signature}
use Rattle.sigrecord.specs.Record.{signature_of, entry_count}
use Rattle.matching.specs.declared.SignatureFit.{SignatureFit}
use Rattle.matching.specs.declared.SignatureFit.TheVariants as answer
use Rattle.distances.specs.DistanceGates.{version_matches, window_matches, payload_matches}
use Rattle.matching.specs.Gates.{olen_matches, mss_matches, scale_matches, layout_matches}
use Rattle.distances.specs.Distances.{ttl_fit}
use Rattle.matching.specs.Tolerance.{masked_quirks, quirks_fit, judge}

-- What a fit looks at in an observation, the entries of its layout apart.
unfoldable pub features_of : TcpObservation → Features
features_of o =
    record {
      version = o.version;
      ttl = byte_of o.ittl;
      olen = o.olen;
      mss = o.mss;
      wsize = o.wsize;
      multiplier = window_multiplier o;
      wscale = o.wscale;
      pclass = o.pclass;
      quirks = o.quirks;
      count = o.olayout.count;
    }

-- Six of the gates, all but the layout.
unfoldable pub scalar_gates : Features → Signature → Bool
scalar_gates f s =
    version_matches f.version s.version
    && olen_matches f.olen s.olen
    && mss_matches f.mss s.mss
    && window_matches f.wsize s.wsize f.multiplier
    && scale_matches f.wscale s.wscale
    && payload_matches f.pclass s.pclass

-- A record passes the gates: the six, and the count of its layout's entries, which the layout gate asks first.
unfoldable pub passes : Features → List ℕ → Bool
passes f r = eqb f.count (entry_count r) && scalar_gates f (signature_of r)

-- The TTL and the quirks, judged together.
unfoldable pub tolerance_of : Features → Signature → SignatureFit
tolerance_of f s = judge (ttl_fit f.ttl s.ittl) (quirks_fit f.quirks (masked_quirks s.quirks s.version f.version))

-- "Seven gates must all hold"; then the TTL and the quirks are judged. The signature's layout is a count and its entries.
unfoldable pub fit_of : Features → List ℕ → List ℕ → Signature → ℕ → List ℕ → SignatureFit
fit_of f kinds bytes s count entries =
    cond (scalar_gates f s && layout_matches f.count kinds bytes count entries)
    (tolerance_of f s)
    answer.None
