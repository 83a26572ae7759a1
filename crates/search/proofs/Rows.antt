-- Laws of the search of a row, in the terms of a loop over the records: what is held is the search of the records passed.
use mathlib.Core.Path.{◌≡◌, refl, sym, ◌∙◌, ap}
use mathlib.Core.Bool.{false}
use mathlib.Core.List.{List, ◌++◌}
use mathlib.Core.Logic.{◌⊎◌, inl, inr}
use Prim.Native.Nat.{ℕ, ◌+◌, ◌<◌, ◌≤◌}
use native.Mathlib.Omega.{arith}
use lib.ListN.{get_or}
use Rattle.matching.specs.declared.Features.{Features}
use Rattle.matching.specs.declared.SignatureFit.TheVariants as fit
use Rattle.found.specs.declared.Found.{Found}
use Rattle.found.specs.declared.Found.TheVariants as found
use Rattle.found.specs.Least.{unranked, Place, nowhere, at, rank_there, prefer, least_from, first_least, numbers_from}
use Rattle.found.specs.Examined.{examined_of}
use Rattle.found.specs.Rank.{found_of, rank_of}
use Rattle.found.proofs.Examined.{ended_there}
use Rattle.found.proofs.Least as least
use Rattle.found.proofs.Rank.{exact_first}
use Rattle.siglist.specs.declared.Areas.{Areas}
use Rattle.siglist.specs.List.{list_fits, AreasFit}
use Rattle.search.specs.Next.{Next}
use Rattle.search.specs.Search.{fit_at, hit_at, candidate_at, rank_at, found_at, search_row}
use Rattle.search.proofs.Fits.{gate_fails}

-- What does not fit comes last.
last_rank : (x : Found) → rank_of x ≤ unranked
last_rank found.None = omega arith
last_rank (found.Exact hit) = omega (arith, exact_first hit.generic)
last_rank (found.Fuzzy hit reason) = omega arith

module _ (f : Features) (kinds bytes l : List ℕ) where
  -- ---- a record's rank, and that of what is read at a place

  pub no_rank : (i : ℕ) → fit_at f kinds bytes l i ≡ fit.None → rank_at f kinds bytes l i ≡ unranked
  unfolding rank_at candidate_at found_of
  no_rank i e = rw e

  pub rank_last : (i : ℕ) → rank_at f kinds bytes l i ≤ unranked
  unfolding rank_at
  rank_last i = last_rank (candidate_at f kinds bytes l i)

  rank_there_lem : (p : Place) → rank_of (found_at f kinds bytes l p) ≡ rank_there (rank_at f kinds bytes l) p
  unfolding found_at rank_at
  rank_there_lem nowhere = refl
  rank_there_lem (at i) = refl

  there_last : (p : Place) → rank_there (rank_at f kinds bytes l) p ≤ unranked
  there_last nowhere = omega arith
  there_last (at i) = rank_last i

  -- ---- records that do not fit

  pub none_there : (i : ℕ) → fit_at f kinds bytes l i ≡ fit.None → candidate_at f kinds bytes l i ≡ found.None
  unfolding candidate_at found_of
  none_there i e = rw e

  pub none_fits : ((i : ℕ) → fit_at f kinds bytes l i ≡ fit.None) → (is : List ℕ) → search_row f kinds bytes l is ≡ found.None
  unfolding search_row first_least found_at
  none_fits none is =
      ap (found_at f kinds bytes l)
      (least.unchanged (rank_at f kinds bytes l) nowhere is
      (λ k inside. let e = no_rank (get_or is k 0) (none (get_or is k 0)) in omega arith))

  no_list : list_fits l ≡ false → (i : ℕ) → fit_at f kinds bytes l i ≡ fit.None
  unfolding fit_at
  no_list e i = rw e

  pub none_found : list_fits l ≡ false → (is : List ℕ) → search_row f kinds bytes l is ≡ found.None
  none_found e is = none_fits (no_list e) is

  -- ---- other rows

  -- Over a longer row a search finds the same, or what has strictly less rank.
  pub longer_row
      : (is js : List ℕ)
      → (search_row f kinds bytes l (is ++ js) ≡ search_row f kinds bytes l is)
      ⊎ (rank_of (search_row f kinds bytes l (is ++ js)) < rank_of (search_row f kinds bytes l is))
  unfolding search_row first_least
  longer_row is js = by_place (least.longer_row (rank_at f kinds bytes l) nowhere is js)
    where
      by_place
          : {old new : Place}
          → (new ≡ old) ⊎ (rank_there (rank_at f kinds bytes l) new < rank_there (rank_at f kinds bytes l) old)
          → (found_at f kinds bytes l new ≡ found_at f kinds bytes l old)
          ⊎ (rank_of (found_at f kinds bytes l new) < rank_of (found_at f kinds bytes l old))
      by_place (inl same) = inl (ap (found_at f kinds bytes l) same)
      by_place {old} {new} (inr less) = inr (rw (rank_there_lem old, rank_there_lem new) less)

  -- Records that do not fit may be left out of a row.
  pub without
      : {is js : List ℕ}
      → least.Without (rank_at f kinds bytes l) is js
      → search_row f kinds bytes l is ≡ search_row f kinds bytes l js
  unfolding search_row first_least
  without w = ap (found_at f kinds bytes l) (least.without (rank_at f kinds bytes l) rank_last nowhere w)

  -- ---- the loop

  -- The search of the records before one.
  abbrev Passed : ℕ → Found
  Passed i = search_row f kinds bytes l (numbers_from 0 i)

  pub at_start : found.None ≡ Passed 0
  unfolding search_row first_least least_from numbers_from found_at
  at_start = refl

  pub one_record : (i : ℕ) → prefer rank_of (Passed i) (candidate_at f kinds bytes l i) ≡ Passed (i + 1)
  unfolding search_row first_least found_at
  one_record i =
      let rank = rank_at f kinds bytes l in
      sym
      (ap (found_at f kinds bytes l) (least.one_more rank i)
      ∙ least.read (rank_there rank) (least.Passed rank i) (at i) rank_of (found_at f kinds bytes l) rank_there_lem)

  -- One of rank 0 ends the search.
  ended : (i n : ℕ) → i ≤ n → rank_of (Passed i) ≡ 0 → Passed i ≡ Passed n
  unfolding search_row first_least
  ended i n within e =
      let rank = rank_at f kinds bytes l in
      sym (ap (found_at f kinds bytes l) (least.ended rank i n within (sym (rank_there_lem (least.Passed rank i)) ∙ e)))

  -- Records that fail the gates are passed over.
  pub skipped : (a : Areas) (i r : ℕ) → AreasFit l a → Next f l a.records i r → Passed i ≡ Passed r
  unfolding search_row first_least
  skipped a i r fits next =
      let rank = rank_at f kinds bytes l in
      let last = there_last (least.Passed rank i) in
      sym
      (ap (found_at f kinds bytes l)
      (least.between rank i r next.reached
      (λ k from to.
      let inside : k < a.records = omega (arith, next.within) in
      let e = no_rank k (gate_fails f kinds bytes l a k fits inside (next.between k from to)) in
      omega arith)))

  -- A candidate was judged, and one of rank 0 was found.
  pub after
      : (a : Areas) (i r : ℕ) (held new : Found)
      → AreasFit l a
      → held ≡ Passed i
      → Next f l a.records i r
      → new ≡ prefer rank_of held (candidate_at f kinds bytes l r)
      → new ≡ Passed (r + 1)
  after a i r held new fits e next step =
      step ∙ ap (λ (h : Found). prefer rank_of h (candidate_at f kinds bytes l r)) (e ∙ skipped a i r fits next) ∙ one_record r

  -- It ended the search at its position.
  pub ended_at
      : (size i : ℕ) (new : Found)
      → new ≡ candidate_at f kinds bytes l i
      → rank_of new ≡ 0
      → examined_of size new ≡ i + 1
  unfolding candidate_at
  ended_at size i new e zero = rw e (ended_there size (hit_at l i) (fit_at f kinds bytes l i) (ap rank_of (sym e) ∙ zero))

  pub first_best : (r n : ℕ) (new : Found) → r < n → new ≡ Passed (r + 1) → rank_of new ≡ 0 → new ≡ Passed n
  first_best r n new inside e zero = e ∙ ended (r + 1) n (omega arith) (ap rank_of (sym e) ∙ zero)
