-- Laws of the fit: what three answers mean.
use Rattle.std.specs.Prelude.{Option, Some, None}
use mathlib.Core.Path.{◌≡◌, refl}
use mathlib.Core.Bool.{Bool, true, false, cond, ◌&&◌}
use mathlib.Core.List.{List}
use Prim.Native.Nat.{ℕ}
use native.Mathlib.Omega.{arith}
use Rattle.quirks.specs.Quirks.{is_empty}
use Rattle.matching.specs.declared.Features.{Features}
use Rattle.sigrecord.specs.declared.Signature.{Signature}
use Rattle.matching.specs.declared.SignatureFit.TheVariants as answer
use Rattle.matching.specs.declared.Tolerated.{Tolerated}
use Rattle.distances.specs.declared.TtlFit.{TtlFit}
use Rattle.distances.specs.declared.TtlFit.TheVariants as ttlfit
use Rattle.matching.specs.Gates.{layout_matches}
use Rattle.distances.specs.Distances.{ttl_fit}
use Rattle.matching.specs.Tolerance.{masked_quirks, quirks_fit, judge_in_range, judge}
use Rattle.matching.specs.Fit.{scalar_gates, tolerance_of, fit_of}

-- Nothing was tolerated: the TTL is in range, and no quirk is added or missing.
pub data Untolerated : Option TtlFit → Option Tolerated → Type 0 where
  nothing_tolerated
      : {d : ℕ} {q : Tolerated}
      → is_empty q.added ≡ true
      → is_empty q.missing ≡ true
      → Untolerated (Some (ttlfit.InRange d)) (Some q)

in_range_exact : (q : Tolerated) → judge_in_range q ≡ answer.Exact → (is_empty q.added ≡ true) × (is_empty q.missing ≡ true)
unfolding judge_in_range
in_range_exact q = by_tests (is_empty q.added) (is_empty q.missing)
  where
    by_tests
        : (a m : Bool)
        → cond (a && m) answer.Exact (answer.Fuzzy (record { hops = None; added = q.added; missing = q.missing })) ≡ answer.Exact
        → (a ≡ true) × (m ≡ true)
    by_tests true true e = (refl, refl)
    by_tests true false e = let z : ◌≡◌ {A = ℕ} 0 1 = cc in absurd (omega arith)
    by_tests false true e = let z : ◌≡◌ {A = ℕ} 0 1 = cc in absurd (omega arith)
    by_tests false false e = let z : ◌≡◌ {A = ℕ} 0 1 = cc in absurd (omega arith)

-- Exact means that nothing was tolerated.
pub exact_untolerated : (t : Option TtlFit) (q : Option Tolerated) → judge t q ≡ answer.Exact → Untolerated t q
unfolding judge
exact_untolerated None q e = let z : ◌≡◌ {A = ℕ} 0 1 = cc in absurd (omega arith)
exact_untolerated (Some (ttlfit.InRange d)) None e = let z : ◌≡◌ {A = ℕ} 0 1 = cc in absurd (omega arith)
exact_untolerated (Some (ttlfit.InRange d)) (Some q) e =
    let both = in_range_exact q e in nothing_tolerated both.0 both.1
exact_untolerated (Some (ttlfit.OutOfRange d)) None e = let z : ◌≡◌ {A = ℕ} 0 1 = cc in absurd (omega arith)
exact_untolerated (Some (ttlfit.OutOfRange d)) (Some q) e = let z : ◌≡◌ {A = ℕ} 0 1 = cc in absurd (omega arith)

-- Nothing tolerated is exact.
pub untolerated_exact : {t : Option TtlFit} {q : Option Tolerated} → Untolerated t q → judge t q ≡ answer.Exact
unfolding judge judge_in_range
untolerated_exact (nothing_tolerated added missing) = rw (added, missing)

-- An exact fit passes the gates, and nothing was tolerated.
pub exact_fit
    : (f : Features) (kinds bytes : List ℕ) (s : Signature) (count : ℕ) (entries : List ℕ)
    → fit_of f kinds bytes s count entries ≡ answer.Exact
    → Untolerated (ttl_fit f.ttl s.ittl) (quirks_fit f.quirks (masked_quirks s.quirks s.version f.version))
unfolding fit_of tolerance_of
exact_fit f kinds bytes s count entries = by_gates (scalar_gates f s && layout_matches f.count kinds bytes count entries)
  where
    by_gates
        : (t : Bool)
        → cond t (tolerance_of f s) answer.None ≡ answer.Exact
        → Untolerated (ttl_fit f.ttl s.ittl) (quirks_fit f.quirks (masked_quirks s.quirks s.version f.version))
    by_gates true e = exact_untolerated _ _ e
    by_gates false e = let z : ◌≡◌ {A = ℕ} 0 1 = cc in absurd (omega arith)
