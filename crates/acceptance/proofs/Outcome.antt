-- A search has one outcome, and no other: what its answer says of the records of its list.
use Rattle.std.specs.Prelude.{Result, Ok, Err}
use mathlib.Core.Path.{◌≡◌, refl, sym, ◌∙◌, ap}
use mathlib.Core.Bool.{Bool, true, false, cond, false≢true}
use mathlib.Core.List.{List}
use mathlib.Core.Logic.{◌↔◌, inl, inr}
use Prim.Native.Nat.{ℕ, ◌<◌}
use native.Mathlib.Decide.{dec_le}
use native.Mathlib.Omega.{arith}
use lib.Dec.{ltb}
use lib.ListN.{length, get_or}
use Rattle.observable.specs.declared.TcpObservation.{TcpObservation}
use Rattle.matching.specs.declared.FuzzyReason.{FuzzyReason}
use Rattle.matching.specs.declared.SignatureFit.{SignatureFit}
use Rattle.matching.specs.declared.SignatureFit.TheVariants as fit
use Rattle.matching.specs.Fit.{features_of}
use Rattle.refusals.specs.declared.ListRefusal.{ListRefusal}
use Rattle.sigrecord.specs.Record.{label_of, is_generic}
use Rattle.siglist.specs.List.{record_count, record_at, check_list}
use Rattle.found.specs.declared.Hit.{Hit}
use Rattle.found.specs.declared.Found.{Found}
use Rattle.found.specs.declared.Found.TheVariants as found
use Rattle.found.specs.declared.Searched.{Searched}
use Rattle.search.specs.declared.SearchRefusal.{SearchRefusal}
use Rattle.search.specs.declared.SearchRefusal.TheVariants as answer
use Rattle.found.specs.Least.{numbers_from}
use Rattle.found.proofs.Least.{numbers_length, numbers_at}
use Rattle.search.specs.Search.{hit_at, search_over, search_all, searched, after_list_check, search_list}
use Rattle.search.proofs.Order as order
use Rattle.acceptance.specs.Outcome.{fit_of_record, SpecificExact, Named, FirstSpecific, FirstGeneric, Outcome, FourOutcomes}

-- ---- two outcomes are one

-- What fits is not none.
pub exact_none : {x : SignatureFit} → x ≡ fit.Exact → x ≡ fit.None → ⊥
exact_none e f = let z : ◌≡◌ {A = ℕ} 0 1 = cc in omega arith

pub fuzzy_none : {x : SignatureFit} {r : FuzzyReason} → x ≡ fit.Fuzzy r → x ≡ fit.None → ⊥
fuzzy_none e f = let z : ◌≡◌ {A = ℕ} 0 1 = cc in omega arith

one_reason : {x : SignatureFit} {r s : FuzzyReason} → x ≡ fit.Fuzzy r → x ≡ fit.Fuzzy s → r ≡ s
one_reason e f = cc

-- Of two numbers neither is the less.
pub level : (m n : ℕ) → (m < n → ⊥) → (n < m → ⊥) → m ≡ n
level m n before after =
    elim (dec_le m n) [
      | yes h ↦ elim (dec_le n m) [ yes k ↦ omega arith | no k ↦ absurd (before (omega arith)) ]
      | no h ↦ absurd (after (omega arith))
    ]

-- A record is named by its number, and its own label and kind.
same_hit : (g h : Hit) → g.label ≡ h.label → g.number ≡ h.number → g.generic ≡ h.generic → g ≡ h
same_hit g h a b c = rw (a, b, c)

one_hit : (l : List ℕ) (g h : Hit) → g.number ≡ h.number → Named l g → Named l h → g ≡ h
one_hit l g h e m n =
    same_hit g h (m.own_label ∙ ap (λ (i : ℕ). label_of (record_at l i)) e ∙ sym n.own_label) e
    (m.own_kind ∙ ap (λ (i : ℕ). is_generic (record_at l i)) e ∙ sym n.own_kind)

module _ (o : TcpObservation) (l : List ℕ) where
  -- The record that a search names first of the specific ones is specific and exact.
  pub is_specific : {hit : Hit} → FirstSpecific o l hit → SpecificExact o l hit.number
  is_specific a = record { exact = a.exact; specific = sym a.named.own_kind ∙ a.specific }

  -- No two answers have their outcomes together.
  one_exact : (g h : Hit) → Outcome o l (found.Exact g) → Outcome o l (found.Exact h) → g ≡ h
  one_exact g h (inl a) (inl b) =
      one_hit l g h
      (level g.number h.number (λ less. b.first g.number less (is_specific a))
      (λ less. a.first h.number less (is_specific b)))
      a.named
      b.named
  one_exact g h (inl a) (inr b) = absurd (b.no_specific g.number a.named.in_list (is_specific a))
  one_exact g h (inr a) (inl b) = absurd (a.no_specific h.number b.named.in_list (is_specific b))
  one_exact g h (inr a) (inr b) =
      one_hit l g h
      (level g.number h.number (λ less. b.first g.number less a.exact) (λ less. a.first h.number less b.exact))
      a.named
      b.named

  -- What is found to be exact is an exact record of the list.
  record ExactThere (hit : Hit) : Type 0 where
    in_list : hit.number < record_count l
    exact : fit_of_record o l hit.number ≡ fit.Exact

  exact_there : (hit : Hit) → Outcome o l (found.Exact hit) → ExactThere hit
  exact_there hit (inl a) = record { in_list = a.named.in_list; exact = a.exact }
  exact_there hit (inr a) = record { in_list = a.named.in_list; exact = a.exact }

  one_outcome : (x y : Found) → Outcome o l x → Outcome o l y → x ≡ y
  one_outcome (found.Exact g) (found.Exact h) a b = ap found.Exact (one_exact g h a b)
  one_outcome (found.Exact g) (found.Fuzzy h r) a b =
      let e = exact_there g a in absurd (b.none_exact g.number e.in_list e.exact)
  one_outcome (found.Exact g) found.None a b =
      let e = exact_there g a in absurd (exact_none e.exact (b g.number e.in_list))
  one_outcome (found.Fuzzy g r) (found.Exact h) a b =
      let e = exact_there h b in absurd (a.none_exact h.number e.in_list e.exact)
  one_outcome (found.Fuzzy g r) (found.Fuzzy h s) a b =
      let number : g.number ≡ h.number =
      level g.number h.number
      (λ less. fuzzy_none a.fuzzy (b.first g.number less))
      (λ less. fuzzy_none b.fuzzy (a.first h.number less)) in
      same_fuzzy g h r s (one_hit l g h number a.named b.named)
      (one_reason a.fuzzy (ap (fit_of_record o l) number ∙ b.fuzzy))
    where
      same_fuzzy : (g h : Hit) (r s : FuzzyReason) → g ≡ h → r ≡ s → found.Fuzzy g r ≡ found.Fuzzy h s
      same_fuzzy g h r s e f = rw (e, f)
  one_outcome (found.Fuzzy g r) found.None a b = absurd (fuzzy_none a.fuzzy (b g.number a.named.in_list))
  one_outcome found.None (found.Exact h) a b =
      let e = exact_there h b in absurd (exact_none e.exact (a h.number e.in_list))
  one_outcome found.None (found.Fuzzy h s) a b = absurd (fuzzy_none b.fuzzy (a h.number b.named.in_list))
  one_outcome found.None found.None a b = refl

  -- ---- the search's outcome

  places : List ℕ
  places = numbers_from 0 (record_count l)

  -- A record at a place of the row is the record of that number.
  here : (k : ℕ) → k < length places → get_or places k 0 ≡ k
  unfolding places
  here k h = numbers_at 0 (record_count l) k (omega (arith, numbers_length 0 (record_count l))) ∙ omega arith

  few : length places ≡ record_count l
  unfolding places
  few = numbers_length 0 (record_count l)

  fit_here : (k : ℕ) → k < length places → fit_of_record o l (get_or places k 0) ≡ fit_of_record o l k
  fit_here k h = ap (fit_of_record o l) (here k h)

  kind_here : (k : ℕ) → k < length places → is_generic (record_at l (get_or places k 0)) ≡ is_generic (record_at l k)
  kind_here k h = ap (λ (i : ℕ). is_generic (record_at l i)) (here k h)

  named_here : (k : ℕ) → k < record_count l → Named l (hit_at l k)
  named_here k inside = record { in_list = inside; own_label = refl; own_kind = refl }

  as_outcome : {x : Found} → order.Outcome (features_of o) o.olayout.kinds o.olayout.bytes l places x → Outcome o l x
  as_outcome (order.Outcome.first_specific k h e kind before) =
      let size = few in
      rw (here k h)
      (inl
      (record {
        named = named_here k (omega arith);
        specific = sym (kind_here k h) ∙ kind;
        exact = sym (fit_here k h) ∙ e;
        first = λ j b x. before j b (fit_here j (omega arith) ∙ x.exact) (kind_here j (omega arith) ∙ x.specific);
      }))
  as_outcome (order.Outcome.first_generic k h e kind before specific) =
      let size = few in
      rw (here k h)
      (inr
      (record {
        named = named_here k (omega arith);
        generic = sym (kind_here k h) ∙ kind;
        exact = sym (fit_here k h) ∙ e;
        first = λ j b x. before j b (fit_here j (omega arith) ∙ x);
        no_specific = λ j b x. specific j (omega arith) (fit_here j (omega arith) ∙ x.exact) (kind_here j (omega arith) ∙ x.specific);
      }))
  as_outcome (order.Outcome.first_fuzzy k r h e before exact) =
      let size = few in
      rw (here k h)
      (record {
        named = named_here k (omega arith);
        fuzzy = sym (fit_here k h) ∙ e;
        first = λ j b. sym (fit_here j (omega arith)) ∙ before j b;
        none_exact = λ j b x. exact j (omega arith) (fit_here j (omega arith) ∙ x);
      })
  as_outcome (order.Outcome.none before) = let size = few in λ i b. sym (fit_here i (omega arith)) ∙ before i (omega arith)

  pub found_outcome : Outcome o l (searched o l).found
  unfolding searched search_all search_over places
  found_outcome = as_outcome (order.outcome (features_of o) o.olayout.kinds o.olayout.bytes l places)

  -- A search answers so exactly when its list's records are so.
  pub answered : (x : Found) → ((searched o l).found ≡ x) ↔ Outcome o l x
  answered x = (λ e. rw (← e) found_outcome, λ so. one_outcome (searched o l).found x found_outcome so)

  pub of_kind_specific : (hit : Hit) → hit.generic ≡ false → Outcome o l (found.Exact hit) → FirstSpecific o l hit
  of_kind_specific hit kind (inl a) = a
  of_kind_specific hit kind (inr a) = absurd (false≢true (sym kind ∙ a.generic))

  pub of_kind_generic : (hit : Hit) → hit.generic ≡ true → Outcome o l (found.Exact hit) → FirstGeneric o l hit
  of_kind_generic hit kind (inl a) = absurd (false≢true (sym a.specific ∙ kind))
  of_kind_generic hit kind (inr a) = a

  pub four_outcomes : FourOutcomes o l
  four_outcomes =
      record {
        specific = λ hit. (
          λ both. of_kind_specific hit both.1 ((answered (found.Exact hit)).0 both.0),
          λ a. ((answered (found.Exact hit)).1 (inl a), a.specific),
        );
        generic = λ hit. (
          λ both. of_kind_generic hit both.1 ((answered (found.Exact hit)).0 both.0),
          λ a. ((answered (found.Exact hit)).1 (inr a), a.generic),
        );
        fuzzy = λ hit reason. answered (found.Fuzzy hit reason);
        none = answered found.None;
      }

  -- What is not refused is the search of the list.
  after_found : (a : Result (Unit {0}) ListRefusal) (s : Searched) → after_list_check a o l ≡ Ok s → s ≡ searched o l
  after_found (Ok tt) s e = cc
  after_found (Err r) s e = let z : ◌≡◌ {A = ℕ} 0 1 = cc in absurd (omega arith)

  pub not_refused : (s : Searched) → search_list o l ≡ Ok s → s ≡ searched o l
  unfolding search_list
  not_refused s = by_count (ltb 40 o.olayout.count)
    where
      by_count
          : (t : Bool)
          → cond {A = (Result Searched SearchRefusal)} t (Err answer.LayoutTooLong) (after_list_check (check_list l) o l) ≡ Ok s
          → s ≡ searched o l
      by_count true e = let z : ◌≡◌ {A = ℕ} 0 1 = cc in absurd (omega arith)
      by_count false e = after_found (check_list l) s e

  pub search_outcome : (s : Searched) → search_list o l ≡ Ok s → Outcome o l s.found
  search_outcome s e = rw (not_refused s e) found_outcome
