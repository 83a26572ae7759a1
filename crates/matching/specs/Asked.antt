-- The gates of a record as a search asks them, in two steps: count and scale, which reject most records, then the others. Together they are
-- those of `passes`.
use Rattle.std.specs.Prelude.{ℕ, Bool, ◌&&◌, List, eqb, Option}
use Rattle.sigrecord.specs.Record.{signature_of, entry_count}
use Rattle.distances.specs.DistanceGates.{version_matches, window_matches, payload_matches}
use Rattle.matching.specs.declared.Features.{Features}
use Rattle.matching.specs.Gates.{olen_matches, mss_matches, scale_matches}

unfoldable pub count_and_scale_match : ℕ → Option ℕ → List ℕ → Bool
count_and_scale_match count wscale r = eqb count (entry_count r) && scale_matches wscale (signature_of r).wscale

unfoldable pub other_gates_match : Features → List ℕ → Bool
other_gates_match f r =
    mss_matches f.mss (signature_of r).mss
    && window_matches f.wsize (signature_of r).wsize f.multiplier
    && olen_matches f.olen (signature_of r).olen
    && payload_matches f.pclass (signature_of r).pclass
    && version_matches f.version (signature_of r).version
