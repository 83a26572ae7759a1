-- The refusals of option strings, lists and searches, and all of them together with those of packets and bundles.
use Rattle.std.specs.Prelude.{Result, Ok, Err}
use mathlib.Core.Path.{◌≡◌, refl, ap}
use mathlib.Core.Bool.{Bool, true, false, cond, ◌&&◌, false≢true}
use mathlib.Core.List.{List, [], ◌∷◌}
use mathlib.Core.Logic.{◌↔◌}
use Prim.Native.Nat.{ℕ, ◌+◌, ◌*◌}
use native.Mathlib.Omega.{arith}
use lib.Dec.{leb, ltb}
use lib.ListN.{length}
use borrow.Author.Tests.{ltb-true, ltb-false, leb-false, lt-leb}
use Rattle.observable.specs.declared.TcpObservation.{TcpObservation}
use Rattle.refusals.specs.declared.OptionsTooLong.{OptionsTooLong}
use Rattle.syn_options.specs.Walk.{too_long, parse_options_raw, options_refusal}
use Rattle.syn_options.proofs.Entries.{refused_over_forty}
use Rattle.refusals.specs.declared.ListRefusal.{ListRefusal}
use Rattle.refusals.specs.declared.ListRefusal.TheVariants as why
use Rattle.siglist.specs.List.{record_count, records_offset, layout_count, layout_offset, list_fits, check_list, list_refusal}
use Rattle.siglist.proofs.FirstBad.{does_not_fit, Checked, first_bad_named}
use Rattle.found.specs.declared.Searched.{Searched}
use Rattle.search.specs.declared.SearchRefusal.{SearchRefusal}
use Rattle.search.specs.declared.SearchRefusal.TheVariants as search_answer
use Rattle.search.specs.Search.{after_list_check, search_list, search_refusal}
use Rattle.search.proofs.SearchOrder.{search_order}
use Rattle.acceptance.specs.Refusals.{First, OptionsRow, FirstBad, ListRow, SearchRow, Refusals}
use Rattle.bundle.specs.Bundle.{list_of}
use Rattle.acceptance.proofs.BadRecord.{bad_of, good_not_bad, record_bad}
use Rattle.acceptance.proofs.BundleRefusals.{bundle_row, refused_of_list, none_beside, answered}
use Rattle.acceptance.proofs.Fails.{and_false}
use Rattle.acceptance.proofs.First.{by_test, exactly}
use Rattle.acceptance.proofs.PacketGives.{packet_gives, packet_answers}
use Rattle.acceptance.proofs.PacketRefusals.{packet_first, plain_first}

-- ---- option strings

options_first : (s : List ℕ) (n : ℕ) → (options_refusal (parse_options_raw s) ≡ n) ↔ First (OptionsRow s) (8 ∷ []) n
options_first s =
    exactly
    (rw (refused_over_forty s)
    (by_test (ltb 40 (length s)) (λ e. OptionsRow.over_40 (ltb-true 40 (length s) e)) short (λ e. First.none)))
  where
    short : ltb 40 (length s) ≡ false → OptionsRow s 8 → ⊥
    short e (OptionsRow.over_40 h) = let few = ltb-false 40 (length s) e in omega arith

options_give : (s : List ℕ) (e : OptionsTooLong) → parse_options_raw s ≡ Err e → parse_options_raw s ≡ Err too_long
options_give s _ e = e

-- ---- lists

module _ (l : List ℕ) where
  -- The test of the header and the areas is the row.
  fits_not : list_fits l ≡ false → ListRow l 9
  unfolding list_fits
  fits_not = by_tests (leb 8 (length l)) (leb (records_offset l + 24 * record_count l) (length l)) refl refl
    where
      by_tests
          : (h r : Bool)
          → leb 8 (length l) ≡ h
          → leb (records_offset l + 24 * record_count l) (length l) ≡ r
          → h && r && leb (layout_offset l + 2 * layout_count l) (length l) ≡ false
          → ListRow l 9
      by_tests false r eh er e = ListRow.header (leb-false 8 (length l) eh)
      by_tests true false eh er e = ListRow.records (leb-false (records_offset l + 24 * record_count l) (length l) er)
      by_tests true true eh er e = ListRow.entries (leb-false (layout_offset l + 2 * layout_count l) (length l) e)

  fits : list_fits l ≡ true → ListRow l 9 → ⊥
  unfolding list_fits
  fits e (ListRow.header h) = false≢true (rw (lt-leb 8 (length l) h) at e)
  fits e (ListRow.records h) = false≢true (rw (lt-leb (records_offset l + 24 * record_count l) (length l) h, and_false) at e)
  fits e (ListRow.entries h) = false≢true (rw (lt-leb (layout_offset l + 2 * layout_count l) (length l) h, and_false) at e)

  -- A list that fits: all records are good, or the first bad one is named.
  records_first : {a : Result (Unit {0}) ListRefusal} → Checked l 0 (record_count l) a → First (ListRow l) (10 ∷ []) (list_refusal a)
  unfolding list_refusal
  records_first (Checked.all_good good) = First.later no_bad First.none
    where
      no_bad : ListRow l 10 → ⊥
      no_bad (ListRow.bad_record_lem i h bad) = good_not_bad l i (good i (omega arith) (omega arith)) bad
  records_first (Checked.first_bad_lem k h j bad before) = First.here (ListRow.bad_record_lem k (omega arith) (bad_of l k bad))

  list_row : First (ListRow l) (9 ∷ 10 ∷ []) (list_refusal (check_list l))
  unfolding list_refusal
  list_row = by_fit (list_fits l) refl
    where
      by_fit : (t : Bool) → list_fits l ≡ t → First (ListRow l) (9 ∷ 10 ∷ []) (list_refusal (check_list l))
      by_fit true e = First.later (fits e) (records_first (first_bad_named l e))
      by_fit false e = rw (does_not_fit l e) (First.here (fits_not e))

  -- The index of refusal 10.
  named_bad : {a : Result (Unit {0}) ListRefusal} (i : ℕ) → Checked l 0 (record_count l) a → a ≡ Err (why.BadRecord i) → FirstBad l i
  named_bad i (Checked.all_good good) e = let z : ◌≡◌ {A = ℕ} 0 1 = cc in absurd (omega arith)
  named_bad i (Checked.first_bad_lem k h j bad before) e =
      let same : k ≡ i = cc in
      rw (← same)
      (record { within = omega arith; bad = bad_of l k bad; before = λ m b. good_not_bad l m (before m (omega arith) b) })

  list_gives : (i : ℕ) → check_list l ≡ Err (why.BadRecord i) → FirstBad l i
  list_gives i e = by_fit (list_fits l) refl
    where
      by_fit : (t : Bool) → list_fits l ≡ t → FirstBad l i
      by_fit true fit = named_bad i (first_bad_named l fit) e
      by_fit false fit = let other = does_not_fit l fit in let z : ◌≡◌ {A = ℕ} 0 1 = cc in absurd (omega arith)

-- ---- searches

module _ (o : TcpObservation) (l : List ℕ) where
  -- Rows 9 and 10 of a search are those of its list.
  nine : SearchRow o l 9 → ListRow l 9
  nine (SearchRow.of_list_lem r) = r

  ten : SearchRow o l 10 → ListRow l 10
  ten (SearchRow.of_list_lem r) = r

  as_list : {n : ℕ} → First (ListRow l) (9 ∷ 10 ∷ []) n → First (SearchRow o l) (9 ∷ 10 ∷ []) n
  as_list (First.here r) = First.here (SearchRow.of_list_lem r)
  as_list (First.later d (First.here r)) = First.later (λ s. d (nine s)) (First.here (SearchRow.of_list_lem r))
  as_list (First.later d (First.later e First.none)) = First.later (λ s. d (nine s)) (First.later (λ s. e (ten s)) First.none)

  few : ltb 40 o.olayout.count ≡ false → SearchRow o l 11 → ⊥
  few e (SearchRow.layout_over_40 h) = let most = ltb-false 40 o.olayout.count e in omega arith
  few e (SearchRow.of_list_lem r) = of_no_list r
    where
      of_no_list : ListRow l 11 → ⊥
      of_no_list = elim [ ]

  search_row_lem : First (SearchRow o l) (11 ∷ 9 ∷ 10 ∷ []) (search_refusal (search_list o l))
  search_row_lem =
      rw (search_order o l)
      (by_test (ltb 40 o.olayout.count) (λ e. SearchRow.layout_over_40 (ltb-true 40 o.olayout.count e)) few (λ e.
      as_list (list_row l)))

  after_refused : (a : Result (Unit {0}) ListRefusal) (r : ListRefusal) → after_list_check a o l ≡ Err (search_answer.List r) → a ≡ Err r
  after_refused (Ok tt) r e = let z : ◌≡◌ {A = ℕ} 0 1 = cc in absurd (omega arith)
  after_refused (Err s) r e = let same : s ≡ r = cc in ap Err same

  search_gives : (i : ℕ) → search_list o l ≡ Err (search_answer.List (why.BadRecord i)) → FirstBad l i
  unfolding search_list
  search_gives i = by_count (ltb 40 o.olayout.count)
    where
      by_count
          : (t : Bool)
          → cond {A = (Result Searched SearchRefusal)} t (Err search_answer.LayoutTooLong) (after_list_check (check_list l) o l)
          ≡ Err (search_answer.List (why.BadRecord i))
          → FirstBad l i
      by_count true e = let z : ◌≡◌ {A = ℕ} 0 1 = cc in absurd (omega arith)
      by_count false e = list_gives l i (after_refused (check_list l) (why.BadRecord i) e)

pub refusals : Refusals
refusals =
    record {
      packet = packet_first;
      packet_gives = packet_gives;
      packet_answers = packet_answers;
      plain_packet_lem = plain_first;
      options = options_first;
      options_give = options_give;
      record_bad = record_bad;
      list = λ l. exactly (list_row l);
      list_gives = list_gives;
      search = λ o l. exactly (search_row_lem o l);
      search_gives = search_gives;
      bundle = λ b. exactly (bundle_row b (list_row (list_of b)));
      bundle_gives = λ b i e. list_gives (list_of b) i (refused_of_list b (why.BadRecord i) e);
      bundle_refused = λ mode b. none_beside b mode;
      bundle_answered = λ mode b. answered b mode;
    }
