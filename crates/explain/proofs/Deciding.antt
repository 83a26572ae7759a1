-- The nine fields decide the fit: it is what they give together, and it is none exactly if one of them fails.
use Rattle.std.specs.Prelude.{Option, Some, None, Ok}
use Prim.Native.Nat.{ℕ, ◌+◌, ◌<◌}
use mathlib.Core.Path.{◌≡◌, refl, sym, ◌∙◌, ap}
use mathlib.Core.Bool.{Bool, true, false, cond, not, ◌&&◌}
use mathlib.Core.List.{List, [], ◌∷◌}
use native.Mathlib.Omega.{arith}
use lib.Dec.{eqb}
use Rattle.std.proofs.lemmas.List.Sums.{sum_by-cons}
use borrow.Author.Tests.{ne_eqb, lt-ltb}
use Rattle.basis.proofs.Tests.{and_false}
use Rattle.quirks.specs.Quirks.{is_empty}
use Rattle.sigrecord.specs.declared.Signature.{Signature}
use Rattle.siglist.specs.List.{record_count, check_list}
use Rattle.siglist.proofs.FirstBad.{each_good, good_fits}
use Rattle.distances.specs.declared.TtlFit.{TtlFit}
use Rattle.distances.specs.declared.TtlFit.TheVariants as ttlfit
use Rattle.distances.specs.DistanceGates.{version_matches, window_matches, payload_matches}
use Rattle.matching.specs.declared.Features.{Features}
use Rattle.matching.specs.declared.FuzzyReason.{FuzzyReason}
use Rattle.matching.specs.declared.Tolerated.{Tolerated}
use Rattle.matching.specs.declared.SignatureFit.{SignatureFit}
use Rattle.matching.specs.declared.SignatureFit.TheVariants as answer
use Rattle.matching.specs.Gates.{olen_matches, mss_matches, scale_matches, layout_matches}
use Rattle.matching.specs.Tolerance.{judge, judge_in_range}
use Rattle.matching.specs.Fit.{scalar_gates, tolerance_of, fit_of}
use Rattle.found.specs.Rank.{is_none}
use Rattle.search.specs.Search.{fit_at}
use Rattle.explain.specs.declared.gates.Gates.{Gates}
use Rattle.explain.specs.declared.gates.Said.{Said}
use Rattle.explain.specs.declared.gates.Said.TheVariants as said
use Rattle.explain.specs.Gating.{gates_of, gates_at, fit_from, gate_said, ttl_said, quirks_said, row_of, is_fails, fails}

-- ---- the fit

last_two : (x p l : Bool) → (x && p) && l ≡ (x && l) && p
last_two false p l = refl
last_two true true true = refl
last_two true true false = refl
last_two true false true = refl
last_two true false false = refl

pub fit_by_gates
    : (f : Features) (kinds bytes : List ℕ) (s : Signature) (count : ℕ) (entries : List ℕ)
    → fit_of f kinds bytes s count entries ≡ fit_from (gates_of f kinds bytes s count entries)
unfolding fit_of scalar_gates tolerance_of gates_of
fit_by_gates f kinds bytes s count entries =
    ap (λ (t : Bool). cond t (tolerance_of f s) answer.None)
    (last_two
    (version_matches f.version s.version
    && olen_matches f.olen s.olen
    && mss_matches f.mss s.mss
    && window_matches f.wsize s.wsize f.multiplier
    && scale_matches f.wscale s.wscale)
    (payload_matches f.pclass s.pclass)
    (layout_matches f.count kinds bytes count entries))

-- How a search takes record i of a list that passed its check.
pub searched_by_gates
    : (f : Features) (kinds bytes l : List ℕ) (i : ℕ) → check_list l ≡ Ok tt → i < record_count l
    → fit_at f kinds bytes l i ≡ fit_from (gates_at f kinds bytes l i)
unfolding fit_at
searched_by_gates f kinds bytes l i good inside =
    rw (good_fits l good, lt-ltb i (record_count l) inside, each_good l i good inside) (fit_by_gates f kinds bytes _ _ _)

-- ---- none fails

none_fails : List Said → Bool
none_fails [] = true
none_fails (c ∷ cs) = not (is_fails c) && none_fails cs

none_counted : (row : List Said) → eqb (fails row) 0 ≡ none_fails row
unfolding none_fails
none_counted [] = refl
none_counted (c ∷ cs) =
    ap (λ (n : ℕ). eqb n 0) (sum_by-cons (λ (x : Said). cond (is_fails x) 1 0) c cs) ∙ by (is_fails c) (none_counted cs)
  where
    by : (t : Bool) → eqb (fails cs) 0 ≡ none_fails cs → eqb (cond t 1 0 + fails cs) 0 ≡ not t && none_fails cs
    by true rest = ne_eqb (1 + fails cs) 0 (λ e. omega (arith, e))
    by false rest = let same : 0 + fails cs ≡ fails cs = omega arith in ap (λ (n : ℕ). eqb n 0) same ∙ rest

exact_or_fuzzy
    : (e : Bool) (r : FuzzyReason)
    → not (is_fails (cond e said.Holds said.Tolerated)) && true ≡ not (is_none (cond e answer.Exact (answer.Fuzzy r)))
exact_or_fuzzy true r = refl
exact_or_fuzzy false r = refl

tolerated : (e : Bool) → not (is_fails (cond e said.Holds said.Tolerated)) && true ≡ true
tolerated true = refl
tolerated false = refl

judged
    : (t : Option TtlFit) (q : Option Tolerated)
    → not (is_fails (ttl_said t)) && (not (is_fails (quirks_said q)) && true) ≡ not (is_none (judge t q))
unfolding judge judge_in_range
judged None q = refl
judged (Some (ttlfit.InRange d)) None = refl
judged (Some (ttlfit.InRange d)) (Some q) = exact_or_fuzzy (is_empty q.added && is_empty q.missing) _
judged (Some (ttlfit.OutOfRange d)) None = refl
judged (Some (ttlfit.OutOfRange d)) (Some q) = tolerated (is_empty q.added && is_empty q.missing)

module _ (t : Option TtlFit) (q : Option Tolerated) where
  T : Bool
  T = not (is_fails (ttl_said t))

  Q : Bool
  Q = not (is_fails (quirks_said q))

  by_fields
      : (v o m w s l p : Bool)
      → none_fails
      (gate_said v ∷ ttl_said t ∷ gate_said o ∷ gate_said m ∷ gate_said w ∷ gate_said s ∷ gate_said l ∷ quirks_said q ∷ gate_said p ∷ [])
      ≡ not (is_none (cond (v && o && m && w && s && l && p) (judge t q) answer.None))
  unfolding none_fails T Q
  by_fields false o m w s l p = refl
  by_fields true false m w s l p = and_false T
  by_fields true true false w s l p = and_false T
  by_fields true true true false s l p = and_false T
  by_fields true true true true false l p = and_false T
  by_fields true true true true true false p = and_false T
  by_fields true true true true true true false = ap (λ (b : Bool). T && b) (and_false Q) ∙ and_false T
  by_fields true true true true true true true = judged t q

none_fails_of : (g : Gates) → eqb (fails (row_of g)) 0 ≡ not (is_none (fit_from g))
unfolding row_of
none_fails_of g =
    none_counted (row_of g)
    ∙ by_fields g.ttl g.quirks g.version g.olen g.mss g.wsize g.wscale g.olayout g.pclass

pub none_fails_lem
    : (f : Features) (kinds bytes : List ℕ) (s : Signature) (count : ℕ) (entries : List ℕ)
    → eqb (fails (row_of (gates_of f kinds bytes s count entries))) 0 ≡ not (is_none (fit_of f kinds bytes s count entries))
none_fails_lem f kinds bytes s count entries =
    none_fails_of (gates_of f kinds bytes s count entries)
    ∙ ap (λ (x : SignatureFit). not (is_none x)) (sym (fit_by_gates f kinds bytes s count entries))
