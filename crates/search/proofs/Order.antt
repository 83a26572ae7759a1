-- What a search finds: the first specific exact record in list order; else the first generic exact one; else the first fuzzy one of
-- either kind, with its reason; else none.
use mathlib.Core.Path.{◌≡◌, refl, sym, ◌∙◌}
use mathlib.Core.Bool.{Bool, true, false}
use mathlib.Core.List.{List}
use Prim.Native.Nat.{ℕ, ◌<◌, ◌≤◌}
use native.Mathlib.Omega.{arith}
use lib.ListN.{length, get_or}
use borrow.Author.Tests.{lt-ltb}
use Rattle.observable.specs.declared.TcpObservation.{TcpObservation}
use Rattle.matching.specs.declared.Features.{Features}
use Rattle.matching.specs.declared.FuzzyReason.{FuzzyReason}
use Rattle.matching.specs.declared.SignatureFit.{SignatureFit}
use Rattle.matching.specs.declared.SignatureFit.TheVariants as fit
use Rattle.matching.specs.Fit.{features_of}
use Rattle.found.specs.declared.Hit.{Hit}
use Rattle.found.specs.declared.Found.{Found}
use Rattle.found.specs.declared.Found.TheVariants as found
use Rattle.found.specs.Least.{unranked, Place, nowhere, prefer, first_least}
use Rattle.found.specs.Rank.{found_of, exact_rank, rank_of}
use Rattle.found.proofs.Rank.{exact_first}
use Rattle.found.proofs.Least.{Least, stays, first, least}
use Rattle.sigrecord.specs.Record.{is_generic}
use Rattle.siglist.specs.List.{record_count, record_at}
use Rattle.search.specs.Search.{fit_at, hit_at, candidate_at, rank_at, found_at, search_row, search_over, search_all}
use Rattle.search.proofs.Rows.{at_start, one_record}

-- What ranks after fuzzy does not fit.
after_fuzzy : (hit : Hit) (x : SignatureFit) → 2 < rank_of (found_of hit x) → x ≡ fit.None
unfolding found_of
after_fuzzy hit fit.None h = refl
after_fuzzy hit fit.Exact h = absurd (omega (arith, exact_first hit.generic))
after_fuzzy hit (fit.Fuzzy r) h = absurd (omega arith)

module _ (f : Features) (kinds bytes l : List ℕ) where
  -- The fit of the record at a place of a row of record numbers, and whether it is generic.
  abbrev fit_of_place : List ℕ → ℕ → SignatureFit
  fit_of_place is k = fit_at f kinds bytes l (get_or is k 0)

  abbrev kind_of_place : List ℕ → ℕ → Bool
  kind_of_place is k = is_generic (record_at l (get_or is k 0))

  -- No record of a row is exact; none is specific and exact.
  abbrev NoneExact : List ℕ → ℕ → Type 0
  NoneExact is n = (k : ℕ) → k < n → fit_of_place is k ≡ fit.Exact → ⊥

  abbrev NoneSpecific : List ℕ → ℕ → Type 0
  NoneSpecific is n = (k : ℕ) → k < n → fit_of_place is k ≡ fit.Exact → kind_of_place is k ≡ false → ⊥

  -- The four outcomes of a row.
  pub data Outcome (is : List ℕ) : Found → Type 0 where
    first_specific
        : (k : ℕ)
        → k < length is
        → fit_of_place is k ≡ fit.Exact
        → kind_of_place is k ≡ false
        → NoneSpecific is k
        → Outcome is (found.Exact (hit_at l (get_or is k 0)))
    first_generic
        : (k : ℕ)
        → k < length is
        → fit_of_place is k ≡ fit.Exact
        → kind_of_place is k ≡ true
        → NoneExact is k
        → NoneSpecific is (length is)
        → Outcome is (found.Exact (hit_at l (get_or is k 0)))
    first_fuzzy
        : (k : ℕ) (reason : FuzzyReason)
        → k < length is
        → fit_of_place is k ≡ fit.Fuzzy reason
        → ((j : ℕ) → j < k → fit_of_place is j ≡ fit.None)
        → NoneExact is (length is)
        → Outcome is (found.Fuzzy (hit_at l (get_or is k 0)) reason)
    none : ((k : ℕ) → k < length is → fit_of_place is k ≡ fit.None) → Outcome is found.None

  -- The search of a row of record numbers has one of the four outcomes.
  pub outcome : (is : List ℕ) → Outcome is (search_row f kinds bytes l is)
  unfolding search_row first_least found_at rank_at candidate_at found_of
  outcome is = by_place (least (rank_at f kinds bytes l) nowhere is)
    where
      rank : ℕ → ℕ
      rank k = rank_at f kinds bytes l (get_or is k 0)

      -- What is exact ranks by its kind.
      exact_rank_lem : (k : ℕ) → fit_of_place is k ≡ fit.Exact → rank k ≡ exact_rank (kind_of_place is k)
      exact_rank_lem k e = rw e

      by_kind
          : (k : ℕ) (generic : Bool)
          → kind_of_place is k ≡ generic
          → fit_of_place is k ≡ fit.Exact
          → k < length is
          → ((j : ℕ) → j < k → exact_rank generic < rank j)
          → ((j : ℕ) → j < length is → exact_rank generic ≤ rank j)
          → Outcome is (found.Exact (hit_at l (get_or is k 0)))
      by_kind k false kind e inside before all =
          first_specific k inside e kind (λ j h x s. let z = rw (exact_rank_lem j x, s) at (before j h) in omega arith)
      by_kind k true kind e inside before all =
          first_generic k inside e kind
          (λ j h x. let z = rw (exact_rank_lem j x) at (before j h) in omega (arith, exact_first (kind_of_place is j)))
          (λ j h x s. let z = rw (exact_rank_lem j x, s) at (all j h) in omega arith)

      by_fit
          : (k : ℕ) (x : SignatureFit)
          → fit_of_place is k ≡ x
          → k < length is
          → rank k < unranked
          → ((j : ℕ) → j < k → rank k < rank j)
          → ((j : ℕ) → j < length is → rank k ≤ rank j)
          → Outcome is (candidate_at f kinds bytes l (get_or is k 0))
      by_fit k fit.None e inside less before all = absurd (let z = rw e at less in omega arith)
      by_fit k fit.Exact e inside less before all =
          rw e
          (by_kind k (kind_of_place is k) refl e inside (λ j h. rw (← exact_rank_lem k e) (before j h))
          (λ j h. rw (← exact_rank_lem k e) (all j h)))
      by_fit k (fit.Fuzzy r) e inside less before all =
          rw e
          (first_fuzzy k r inside e
          (λ j h. after_fuzzy (hit_at l (get_or is j 0)) (fit_of_place is j) (rw e at (before j h)))
          (λ j h x. let z = rw (e, exact_rank_lem j x) at (all j h) in omega (arith, exact_first (kind_of_place is j))))

      by_place : {p : Place} → Least (rank_at f kinds bytes l) nowhere is p → Outcome is (found_at f kinds bytes l p)
      by_place (stays all) =
          none (λ k h. after_fuzzy (hit_at l (get_or is k 0)) (fit_of_place is k) (let z = all k h in omega arith))
      by_place (first k inside less before all) = by_fit k (fit_of_place is k) refl inside less before all

-- Before none, anything is preferred.
before_none : (x : Found) → prefer rank_of found.None x ≡ x
unfolding prefer
before_none found.None = refl
before_none (found.Exact hit) = rw (lt-ltb (exact_rank hit.generic) unranked (omega (arith, exact_first hit.generic)))
before_none (found.Fuzzy hit reason) = refl

-- "a single fit is the search of a list of one record"
pub single
    : (o : TcpObservation) (l : List ℕ)
    → record_count l ≡ 1
    → search_all o l ≡ candidate_at (features_of o) o.olayout.kinds o.olayout.bytes l 0
unfolding search_all search_over
single o l one =
    rw one
    (sym (one_record (features_of o) o.olayout.kinds o.olayout.bytes l 0)
    ∙ rw (← at_start (features_of o) o.olayout.kinds o.olayout.bytes l) (before_none _))
