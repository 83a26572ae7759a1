-- The gates that a search asks in two steps are those of `passes`.
use mathlib.Core.Path.{◌≡◌, refl}
use mathlib.Core.Bool.{Bool, true, false, ◌&&◌}
use mathlib.Core.List.{List}
use Prim.Native.Nat.{ℕ}
use lib.Dec.{eqb}
use Rattle.basis.proofs.Tests.{and_false, and_true}
use Rattle.matching.specs.declared.Features.{Features}
use Rattle.sigrecord.specs.Record.{signature_of, entry_count}
use Rattle.distances.specs.DistanceGates.{version_matches, window_matches, payload_matches}
use Rattle.matching.specs.Gates.{olen_matches, mss_matches, scale_matches}
use Rattle.matching.specs.Fit.{scalar_gates, passes}
use Rattle.matching.specs.Asked.{count_and_scale_match, other_gates_match}

-- By their letters: count, scale, MSS, window, option length, payload, version.
in_two_steps : (c s m w o p v : Bool) → c && (v && o && m && w && s && p) ≡ c && s && (m && w && o && p && v)
in_two_steps false s m w o p v = refl
in_two_steps true false m w o p v = simp (and_false)
in_two_steps true true false w o p v = simp (and_false)
in_two_steps true true true false o p v = simp (and_false)
in_two_steps true true true true false p v = simp (and_false)
in_two_steps true true true true true false v = simp (and_false)
in_two_steps true true true true true true v = simp (and_true)

pub passes_in_two_steps
    : (f : Features) (r : List ℕ) → passes f r ≡ count_and_scale_match f.count f.wscale r && other_gates_match f r
unfolding passes scalar_gates count_and_scale_match other_gates_match
passes_in_two_steps f r =
    let s = signature_of r in
    in_two_steps (eqb f.count (entry_count r)) (scale_matches f.wscale s.wscale) (mss_matches f.mss s.mss)
    (window_matches f.wsize s.wsize f.multiplier)
    (olen_matches f.olen s.olen)
    (payload_matches f.pclass s.pclass)
    (version_matches f.version s.version)
