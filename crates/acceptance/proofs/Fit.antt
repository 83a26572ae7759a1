-- One record: exact exactly when nothing is tolerated, fuzzy exactly when something is, with its reason.
use Rattle.std.specs.Prelude.{Option, Some, None}
use mathlib.Core.Path.{◌≡◌, refl}
use mathlib.Core.Bool.{Bool, true, false, cond, ◌&&◌}
use mathlib.Core.List.{List}
use Prim.Native.Nat.{ℕ}
use native.Mathlib.Omega.{arith}
use Rattle.basis.proofs.Tests.{and_left, and_right}
use Rattle.quirks.specs.Quirks.{is_empty}
use Rattle.distances.specs.declared.TtlFit.{TtlFit}
use Rattle.distances.specs.declared.TtlFit.TheVariants as ttlfit
use Rattle.matching.specs.declared.Features.{Features}
use Rattle.matching.specs.declared.FuzzyReason.{FuzzyReason}
use Rattle.sigrecord.specs.declared.Signature.{Signature}
use Rattle.matching.specs.declared.SignatureFit.TheVariants as fit
use Rattle.matching.specs.declared.Tolerated.{Tolerated}
use Rattle.matching.specs.Gates.{layout_matches}
use Rattle.matching.specs.Tolerance.{judge_in_range, judge}
use Rattle.matching.specs.Fit.{scalar_gates, tolerance_of, fit_of}
use Rattle.matching.proofs.Laws.{Untolerated, exact_untolerated, untolerated_exact}
use Rattle.acceptance.specs.Honesty.{NothingTolerated, FitsExactly, ToleratedWith, FitsFuzzily}
use Rattle.acceptance.proofs.Fails.{and_false}

as_nothing : {t : Option TtlFit} {q : Option Tolerated} → Untolerated t q → NothingTolerated t q
as_nothing (Untolerated.nothing_tolerated a m) = NothingTolerated.nothing_tolerated a m

as_untolerated : {t : Option TtlFit} {q : Option Tolerated} → NothingTolerated t q → Untolerated t q
as_untolerated (NothingTolerated.nothing_tolerated a m) = Untolerated.nothing_tolerated a m

-- What is fuzzy with the TTL in range has a quirk added or missing.
in_range_fuzzy
    : (d : ℕ) (q : Tolerated) (r : FuzzyReason)
    → judge_in_range q ≡ fit.Fuzzy r
    → ToleratedWith (Some (ttlfit.InRange d)) (Some q) r
unfolding judge_in_range
in_range_fuzzy d q r = by_tests (is_empty q.added) (is_empty q.missing) refl refl
  where
    by_tests
        : (a m : Bool)
        → is_empty q.added ≡ a
        → is_empty q.missing ≡ m
        → cond (a && m) fit.Exact (fit.Fuzzy (record { hops = None; added = q.added; missing = q.missing })) ≡ fit.Fuzzy r
        → ToleratedWith (Some (ttlfit.InRange d)) (Some q) r
    by_tests true true ea em e = let z : ◌≡◌ {A = ℕ} 0 1 = cc in absurd (omega arith)
    by_tests true false ea em e =
        let same : record { hops = None; added = q.added; missing = q.missing } ≡ r = cc in
        rw (← same) (ToleratedWith.a_missing em)
    by_tests false m ea em e =
        let same : record { hops = None; added = q.added; missing = q.missing } ≡ r = cc in
        rw (← same) (ToleratedWith.an_added ea)

fuzzy_tolerated : (t : Option TtlFit) (q : Option Tolerated) (r : FuzzyReason) → judge t q ≡ fit.Fuzzy r → ToleratedWith t q r
unfolding judge
fuzzy_tolerated None q r e = let z : ◌≡◌ {A = ℕ} 0 1 = cc in absurd (omega arith)
fuzzy_tolerated (Some (ttlfit.InRange d)) None r e = let z : ◌≡◌ {A = ℕ} 0 1 = cc in absurd (omega arith)
fuzzy_tolerated (Some (ttlfit.InRange d)) (Some q) r e = in_range_fuzzy d q r e
fuzzy_tolerated (Some (ttlfit.OutOfRange d)) None r e = let z : ◌≡◌ {A = ℕ} 0 1 = cc in absurd (omega arith)
fuzzy_tolerated (Some (ttlfit.OutOfRange d)) (Some q) r e =
    let same : record { hops = Some d; added = q.added; missing = q.missing } ≡ r = cc in
    rw (← same) ToleratedWith.out_of_range

tolerated_fuzzy : {t : Option TtlFit} {q : Option Tolerated} {r : FuzzyReason} → ToleratedWith t q r → judge t q ≡ fit.Fuzzy r
unfolding judge judge_in_range
tolerated_fuzzy ToleratedWith.out_of_range = refl
tolerated_fuzzy (ToleratedWith.an_added a) = rw a
tolerated_fuzzy (ToleratedWith.a_missing m) = rw (m, and_false)

module _ (f : Features) (kinds bytes : List ℕ) (s : Signature) (count : ℕ) (entries : List ℕ) where
  pub exact_to : fit_of f kinds bytes s count entries ≡ fit.Exact → FitsExactly f kinds bytes s count entries
  unfolding fit_of tolerance_of
  exact_to = by_gates (scalar_gates f s && layout_matches f.count kinds bytes count entries) refl
    where
      by_gates
          : (t : Bool)
          → scalar_gates f s && layout_matches f.count kinds bytes count entries ≡ t
          → cond t (tolerance_of f s) fit.None ≡ fit.Exact
          → FitsExactly f kinds bytes s count entries
      by_gates true gates e =
          record {
            gates = and_left (scalar_gates f s) (layout_matches f.count kinds bytes count entries) gates;
            layout = and_right (scalar_gates f s) (layout_matches f.count kinds bytes count entries) gates;
            untolerated = as_nothing (exact_untolerated _ _ e);
          }
      by_gates false gates e = let z : ◌≡◌ {A = ℕ} 0 1 = cc in absurd (omega arith)

  pub exact_from : FitsExactly f kinds bytes s count entries → fit_of f kinds bytes s count entries ≡ fit.Exact
  unfolding fit_of tolerance_of
  exact_from x = rw (x.gates, x.layout) (untolerated_exact (as_untolerated x.untolerated))

  pub fuzzy_to
      : (r : FuzzyReason) → fit_of f kinds bytes s count entries ≡ fit.Fuzzy r → FitsFuzzily f kinds bytes s count entries r
  unfolding fit_of tolerance_of
  fuzzy_to r = by_gates (scalar_gates f s && layout_matches f.count kinds bytes count entries) refl
    where
      by_gates
          : (t : Bool)
          → scalar_gates f s && layout_matches f.count kinds bytes count entries ≡ t
          → cond t (tolerance_of f s) fit.None ≡ fit.Fuzzy r
          → FitsFuzzily f kinds bytes s count entries r
      by_gates true gates e =
          record {
            gates = and_left (scalar_gates f s) (layout_matches f.count kinds bytes count entries) gates;
            layout = and_right (scalar_gates f s) (layout_matches f.count kinds bytes count entries) gates;
            tolerated = fuzzy_tolerated _ _ r e;
          }
      by_gates false gates e = let z : ◌≡◌ {A = ℕ} 0 1 = cc in absurd (omega arith)

  pub fuzzy_from
      : (r : FuzzyReason) → FitsFuzzily f kinds bytes s count entries r → fit_of f kinds bytes s count entries ≡ fit.Fuzzy r
  unfolding fit_of tolerance_of
  fuzzy_from r x = rw (x.gates, x.layout) (tolerated_fuzzy x.tolerated)
