-- Refusals of a search, in document 01's order: "a search [meets] 11, then 9, then 10".
use Rattle.std.specs.Prelude.{Result, Ok, Err}
use mathlib.Core.Path.{◌≡◌, refl}
use mathlib.Core.Bool.{Bool, true, false, cond}
use mathlib.Core.List.{List}
use Prim.Native.Nat.{ℕ}
use lib.Dec.{ltb}
use Rattle.observable.specs.declared.TcpObservation.{TcpObservation}
use Rattle.refusals.specs.declared.Refusal.TheVariants as refusal
use Rattle.refusals.specs.Refusals.{number}
use Rattle.refusals.specs.declared.ListRefusal.{ListRefusal}
use Rattle.siglist.specs.List.{check_list, list_refusal}
use Rattle.found.specs.declared.Searched.{Searched}
use Rattle.search.specs.declared.SearchRefusal.{SearchRefusal}
use Rattle.search.specs.declared.SearchRefusal.TheVariants as answer
use Rattle.search.specs.Search.{after_list_check, search_list, search_refusal}

-- A search is refused by 11 where the layout is too long, else as its list is.
by_list : (a : Result (Unit {0}) ListRefusal) (o : TcpObservation) (l : List ℕ) → search_refusal (after_list_check a o l) ≡ list_refusal a
unfolding search_refusal list_refusal
by_list (Ok tt) o l = refl
by_list (Err r) o l = refl

pub search_order
    : (o : TcpObservation) (l : List ℕ)
    → search_refusal (search_list o l) ≡ cond (ltb 40 o.olayout.count) (number refusal.LayoutTooLong) (list_refusal (check_list l))
unfolding search_list search_refusal
search_order o l = by_count (ltb 40 o.olayout.count)
  where
    by_count
        : (t : Bool)
        → search_refusal (cond {A = (Result Searched SearchRefusal)} t (Err answer.LayoutTooLong) (after_list_check (check_list l) o l))
        ≡ cond t (number refusal.LayoutTooLong) (list_refusal (check_list l))
    by_count true = refl
    by_count false = by_list (check_list l) o l
