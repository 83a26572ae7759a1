-- The refusals of bundles.
use Rattle.std.specs.Prelude.{Result, Ok, Err}
use mathlib.Core.Path.{◌≡◌, refl, ap}
use mathlib.Core.Bool.{Bool, true, false, cond}
use mathlib.Core.List.{List, [], ◌∷◌}
use Prim.Native.Nat.{ℕ, ◌<◌}
use native.Mathlib.Omega.{arith}
use lib.ListN.{length}
use Rattle.refusals.specs.declared.ListRefusal.{ListRefusal}
use Rattle.siglist.specs.List.{check_list, list_refusal}
use Rattle.bundle.specs.declared.BundleRefusal.{BundleRefusal}
use Rattle.bundle.specs.declared.BundleRefusal.TheVariants as bundle_check
use Rattle.bundle.specs.Bundle.{packet_count, list_of, bundle_fits, of_list, check_bundle, bundle_refusal}
use Rattle.flow.specs.declared.Mode.{Mode}
use Rattle.bundle.specs.Answers.{after_bundle_check, bundle_answer}
use Rattle.bundle.proofs.Packets.{good_fits}
use Rattle.bundle.proofs.BundleOrder.{Unfit, unfit, fit_not_unfit, bundle_order, all_answered}
use Rattle.acceptance.specs.Refusals.{First, ListRow, BundleRow}

module _ (b : List ℕ) where
  as_row : Unfit b → BundleRow b 12
  as_row (Unfit.over h) = BundleRow.over_65535 h
  as_row (Unfit.header h) = BundleRow.header h
  as_row (Unfit.list_area h) = BundleRow.list_area h
  as_row (Unfit.offset h) = BundleRow.offset h
  as_row (Unfit.a_packet p) = BundleRow.a_packet p.packet p.counted p.past

  no_list_row : ListRow (list_of b) 12 → ⊥
  no_list_row = elim [ ]

  as_unfit : BundleRow b 12 → Unfit b
  as_unfit (BundleRow.over_65535 h) = Unfit.over h
  as_unfit (BundleRow.header h) = Unfit.header h
  as_unfit (BundleRow.list_area h) = Unfit.list_area h
  as_unfit (BundleRow.offset h) = Unfit.offset h
  as_unfit (BundleRow.a_packet i counted past) = Unfit.a_packet (record { packet = i; counted = counted; past = past })
  as_unfit (BundleRow.of_list_lem r) = absurd (no_list_row r)

  nine : BundleRow b 9 → ListRow (list_of b) 9
  nine (BundleRow.of_list_lem r) = r

  ten : BundleRow b 10 → ListRow (list_of b) 10
  ten (BundleRow.of_list_lem r) = r

  as_list : {n : ℕ} → First (ListRow (list_of b)) (9 ∷ 10 ∷ []) n → First (BundleRow b) (9 ∷ 10 ∷ []) n
  as_list (First.here r) = First.here (BundleRow.of_list_lem r)
  as_list (First.later d (First.here r)) = First.later (λ s. d (nine s)) (First.here (BundleRow.of_list_lem r))
  as_list (First.later d (First.later e First.none)) = First.later (λ s. d (nine s)) (First.later (λ s. e (ten s)) First.none)

  pub bundle_row
      : First (ListRow (list_of b)) (9 ∷ 10 ∷ []) (list_refusal (check_list (list_of b)))
      → First (BundleRow b) (12 ∷ 9 ∷ 10 ∷ []) (bundle_refusal (check_bundle b))
  bundle_row of_list_lem = rw (bundle_order b) (by_fit (bundle_fits b) refl)
    where
      by_fit : (t : Bool) → bundle_fits b ≡ t → First (BundleRow b) (12 ∷ 9 ∷ 10 ∷ []) (cond t (list_refusal (check_list (list_of b))) 12)
      by_fit true e = First.later (λ r. fit_not_unfit b e (as_unfit r)) (as_list of_list_lem)
      by_fit false e = First.here (as_row (unfit b e))

  of_refused : (a : Result (Unit {0}) ListRefusal) (r : ListRefusal) → of_list a ≡ Err (bundle_check.List r) → a ≡ Err r
  of_refused (Ok tt) r e = let z : ◌≡◌ {A = ℕ} 0 1 = cc in absurd (omega arith)
  of_refused (Err s) r e = let same : s ≡ r = cc in ap Err same

  pub refused_of_list : (r : ListRefusal) → check_bundle b ≡ Err (bundle_check.List r) → check_list (list_of b) ≡ Err r
  unfolding check_bundle
  refused_of_list r = by_fit (bundle_fits b)
    where
      by_fit
          : (t : Bool)
          → cond {A = (Result (Unit {0}) BundleRefusal)} t (of_list (check_list (list_of b))) (Err bundle_check.DoesNotFit)
          ≡ Err (bundle_check.List r)
          → check_list (list_of b) ≡ Err r
      by_fit true e = of_refused (check_list (list_of b)) r e
      by_fit false e = let z : ◌≡◌ {A = ℕ} 0 1 = cc in absurd (omega arith)

  pub none_beside : (mode : Mode) → 0 < bundle_refusal (check_bundle b) → (bundle_answer mode b).answers ≡ []
  unfolding bundle_answer bundle_refusal
  none_beside mode = by_check (check_bundle b)
    where
      by_check : (c : Result (Unit {0}) BundleRefusal) → 0 < bundle_refusal c → (after_bundle_check mode c b).answers ≡ []
      by_check (Ok tt) h = absurd (omega arith)
      by_check (Err bundle_check.DoesNotFit) h = refl
      by_check (Err (bundle_check.List r)) h = refl

  pub answered : (mode : Mode) → check_bundle b ≡ (Ok tt) → length (bundle_answer mode b).answers ≡ packet_count b
  unfolding bundle_answer
  answered mode good = rw good (all_answered mode b (good_fits b good))
