-- How many records a search examined, by the list's records alone.
use Rattle.std.specs.Prelude.{Result, Ok, Err}
use mathlib.Core.Path.{◌≡◌, refl, ap}
use mathlib.Core.Bool.{Bool, true, false, cond}
use mathlib.Core.List.{List}
use Prim.Native.Nat.{ℕ, ◌+◌, ◌<◌}
use Rattle.flow.specs.declared.Kind.TheVariants as kind
use native.Mathlib.Omega.{arith}
use Rattle.observable.specs.declared.TcpObservation.{TcpObservation}
use Rattle.matching.specs.Fit.{features_of}
use Rattle.refusals.specs.declared.ListRefusal.TheVariants as why
use Rattle.refusals.specs.declared.ListRefusal.{ListRefusal}
use Rattle.siglist.specs.List.{record_count, size_of, list_fits, check_list}
use Rattle.found.specs.declared.Hit.{Hit}
use Rattle.found.specs.declared.Found.{Found}
use Rattle.found.specs.declared.Found.TheVariants as found
use Rattle.found.specs.Examined.{examined_of}
use Rattle.search.specs.Search.{searched}
use Rattle.search.proofs.Examined.{in_list, within}
use Rattle.packet_answer.specs.declared.PacketAnswer.TheVariants as packet
use Rattle.gateway.specs.Parts.{GatewayAnswer, found_parts, searched_parts, packet_parts, refused_list, parts_of, gateway_in}
use Rattle.acceptance.specs.Outcome.{SpecificExact, Outcome}
use Rattle.acceptance.specs.Honesty.{checked_answer}
use Rattle.acceptance.specs.HowLong.{Examined, ended_by, none_ended_it, ByOutcome, count_of, HowLong}
use Rattle.acceptance.proofs.Outcome.{exact_none, level, is_specific, found_outcome, of_kind_specific, of_kind_generic, not_refused}

module _ (o : TcpObservation) (l : List ℕ) where
  -- A record that fits is one of those that the list has, and those are no more than its header counts.
  sized : (i : ℕ) → SpecificExact o l i → i < size_of l
  sized i x = in_list (features_of o) o.olayout.kinds o.olayout.bytes l i (exact_none x.exact)

  counted : (i : ℕ) → i < size_of l → i < record_count l
  counted i = by_test (list_fits l)
    where
      by_test : (t : Bool) → i < cond t (record_count l) 0 → i < record_count l
      by_test true inside = inside
      by_test false inside = absurd (omega arith)

  by_kind
      : (hit : Hit) (generic : Bool)
      → hit.generic ≡ generic
      → Outcome o l (found.Exact hit)
      → Examined o l (cond generic (size_of l) (hit.number + 1))
  by_kind hit false kind out =
      let a = of_kind_specific o l hit kind out in
      ended_by (sized hit.number (is_specific o l a)) (is_specific o l a) a.first
  by_kind hit true kind out = none_ended_it (λ i inside. (of_kind_generic o l hit kind out).no_specific i (counted i inside))

  -- The count of what is found is the number by the list's records.
  by_outcome : (x : Found) → Outcome o l x → Examined o l (examined_of (size_of l) x)
  by_outcome (found.Exact hit) out = by_kind hit hit.generic refl out
  by_outcome (found.Fuzzy hit reason) out = none_ended_it (λ i inside x. out.none_exact i (counted i inside) x.exact)
  by_outcome found.None out = none_ended_it (λ i inside x. exact_none x.exact (out i (counted i inside)))

  is_examined : Examined o l (searched o l).examined
  unfolding searched
  is_examined = by_outcome (searched o l).found (found_outcome o l)

  -- There is one such number.
  one : {m n : ℕ} → Examined o l m → Examined o l n → m ≡ n
  one (ended_by {i = i} a x before) (ended_by {i = j} b y before') =
      ap (λ (n : ℕ). n + 1) (level i j (λ less. before' i less x) (λ less. before j less y))
  one (ended_by {i = i} a x before) (none_ended_it none) = absurd (none i a x)
  one (none_ended_it none) (ended_by {i = j} b y before) = absurd (none j b y)
  one (none_ended_it none) (none_ended_it none') = refl

  outcomes : ByOutcome o l
  unfolding searched
  outcomes =
      record {
        specific = λ hit e kind. rw (e, kind);
        generic = λ hit e kind. rw (e, kind);
        fuzzy = λ hit reason e. rw e;
        none = λ e. rw e;
      }

-- A list that is good fits.
good_size : (l : List ℕ) → check_list l ≡ (Ok tt) → size_of l ≡ record_count l
unfolding check_list
good_size l = by_test (list_fits l) _
  where
    by_test
        : (t : Bool) (a : Result (Unit {0}) ListRefusal)
        → cond t a (Err why.DoesNotFit) ≡ (Ok tt)
        → cond t (record_count l) 0 ≡ record_count l
    by_test true a e = refl
    by_test false a e = let z : ◌≡◌ {A = ℕ} 0 1 = cc in absurd (omega arith)

-- ---- the struct that a gateway gets

found_count : (kind n : ℕ) (f : Found) → (found_parts kind f n).examined ≡ n
found_count kind n found.None = refl
found_count kind n (found.Exact hit) = refl
found_count kind n (found.Fuzzy hit reason) = refl

count_of_lem : (a : GatewayAnswer) → (parts_of a).examined ≡ count_of a
unfolding packet_parts searched_parts refused_list
count_of_lem (GatewayAnswer.answered (Ok (packet.Opening kind.Syn s))) = found_count 1 s.examined s.found
count_of_lem (GatewayAnswer.answered (Ok (packet.Opening kind.SynAck s))) = found_count 2 s.examined s.found
count_of_lem (GatewayAnswer.answered (Ok packet.Nothing)) = refl
count_of_lem (GatewayAnswer.answered (Err r)) = refl
count_of_lem (GatewayAnswer.list_refused_lem r) = refl

pub how_long_lem : HowLong
how_long_lem =
    record {
      examined = λ o l n. (λ e. rw (← e) (is_examined o l), λ x. one o l (is_examined o l) x);
      by_outcome = outcomes;
      at_most = within;
      search = not_refused;
      size = good_size;
      field = λ mode p peer l. count_of_lem (gateway_in mode p peer l);
      checked_field = λ mode p peer l. count_of_lem (GatewayAnswer.answered (checked_answer mode p peer l));
    }
