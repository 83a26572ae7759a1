-- The list of a bundle that passed its check did so too.
use Rattle.std.specs.Prelude.{Result, Ok, Err}
use Prim.Native.Nat.{ℕ}
use mathlib.Core.Path.{◌≡◌, refl}
use mathlib.Core.Bool.{Bool, true, false, cond}
use mathlib.Core.List.{List}
use native.Mathlib.Omega.{arith}
use Rattle.refusals.specs.declared.ListRefusal.{ListRefusal}
use Rattle.siglist.specs.List.{check_list}
use Rattle.bundle.specs.declared.BundleRefusal.{BundleRefusal}
use Rattle.bundle.specs.declared.BundleRefusal.TheVariants as refused
use Rattle.bundle.specs.Bundle.{list_of, bundle_fits, of_list, check_bundle}

pub good_list_lem : (b : List ℕ) → check_bundle b ≡ Ok tt → check_list (list_of b) ≡ Ok tt
unfolding check_bundle
good_list_lem b e = by_fit (bundle_fits b) e
  where
    of_list_lem : (x : Result (Unit {0}) ListRefusal) → of_list x ≡ Ok tt → x ≡ Ok tt
    of_list_lem (Ok tt) e = refl
    of_list_lem (Err r) e = let z : ◌≡◌ {A = ℕ} 0 1 = cc in absurd (omega arith)

    by_fit
        : (t : Bool) → cond {A = Result (Unit {0}) BundleRefusal} t (of_list (check_list (list_of b))) (Err refused.DoesNotFit) ≡ Ok tt
        → check_list (list_of b) ≡ Ok tt
    by_fit true e = of_list_lem (check_list (list_of b)) e
    by_fit false e = let z : ◌≡◌ {A = ℕ} 0 1 = cc in absurd (omega arith)
