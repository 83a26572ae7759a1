-- A search examines at most the records that its list has, and none of a list that does not fit.
use mathlib.Core.Path.{◌≡◌, refl}
use mathlib.Core.Bool.{Bool, true, false, cond, ◌&&◌}
use mathlib.Core.List.{List}
use Prim.Native.Nat.{ℕ, ◌+◌, ◌<◌, ◌≤◌}
use native.Mathlib.Omega.{arith}
use lib.Dec.{ltb}
use borrow.Author.Tests.{ltb-true}
use Rattle.observable.specs.declared.TcpObservation.{TcpObservation}
use Rattle.matching.specs.declared.Features.{Features}
use Rattle.matching.specs.declared.SignatureFit.{SignatureFit}
use Rattle.matching.specs.declared.SignatureFit.TheVariants as fit
use Rattle.matching.specs.Fit.{features_of}
use Rattle.found.specs.declared.Found.TheVariants as found
use Rattle.found.specs.Examined.{examined_of, searched_in}
use Rattle.found.specs.Least.{Place, nowhere, at, numbers_from}
use Rattle.found.specs.Rank.{found_of}
use Rattle.sigrecord.specs.Record.{is_generic}
use Rattle.siglist.specs.List.{record_count, size_of, list_fits, record_at, record_good}
use Rattle.search.specs.Search.{fit_at, hit_at, candidate_at, found_at, search_row, search_over, search_all, searched}
use Rattle.search.proofs.Rows.{none_found}

module _ (f : Features) (kinds bytes l : List ℕ) where
  -- What fits is one of them.
  pub in_list : (i : ℕ) → (fit_at f kinds bytes l i ≡ fit.None → ⊥) → i < size_of l
  unfolding fit_at
  in_list i fits = by_tests (list_fits l) (ltb i (record_count l)) _ refl fits
    where
      by_tests
          : (t u : Bool) (x : SignatureFit)
          → ltb i (record_count l) ≡ u
          → (cond (t && u && record_good l i) x fit.None ≡ fit.None → ⊥)
          → i < cond t (record_count l) 0
      by_tests true true x e some = ltb-true i (record_count l) e
      by_tests true false x e some = absurd (some refl)
      by_tests false u x e some = absurd (some refl)

  one : (i : ℕ) → examined_of (size_of l) (candidate_at f kinds bytes l i) ≤ size_of l
  unfolding candidate_at found_of
  one i = by_fit (fit_at f kinds bytes l i) refl
    where
      by_kind : (generic : Bool) → i < size_of l → cond generic (size_of l) (i + 1) ≤ size_of l
      by_kind true inside = omega arith
      by_kind false inside = omega arith

      by_fit : (x : SignatureFit) → fit_at f kinds bytes l i ≡ x → examined_of (size_of l) (found_of (hit_at l i) x) ≤ size_of l
      by_fit fit.None e = omega arith
      by_fit (fit.Fuzzy reason) e = omega arith
      by_fit fit.Exact e = by_kind (is_generic (record_at l i)) (in_list i (λ none. let z : ◌≡◌ {A = ℕ} 0 1 = cc in omega arith))

  there : (p : Place) → examined_of (size_of l) (found_at f kinds bytes l p) ≤ size_of l
  unfolding found_at
  there nowhere = omega arith
  there (at i) = one i

pub none_examined : (o : TcpObservation) (l : List ℕ) → list_fits l ≡ false → searched o l ≡ searched_in 0 found.None
unfolding searched search_all search_over
none_examined o l e = rw (none_found (features_of o) o.olayout.kinds o.olayout.bytes l e (numbers_from 0 (record_count l)), e)

pub within : (o : TcpObservation) (l : List ℕ) → (searched o l).examined ≤ size_of l
unfolding searched search_all search_over search_row
within o l = there (features_of o) o.olayout.kinds o.olayout.bytes l _
