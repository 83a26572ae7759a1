-- Demand 2: the theorems of the crates, collected, and what the table of values shuts out.
use Rattle.std.specs.Prelude.{Option, None, Ok, Err, Some, Result}
use mathlib.Core.Path.{◌≡◌, refl, sym, ◌∙◌, ap}
use mathlib.Core.Bool.{Bool, true, false, cond}
use mathlib.Core.List.{List, []}
use Prim.Native.Nat.{ℕ, ◌+◌, ◌<◌}
use native.Mathlib.Omega.{arith}
use lib.Dec.{eqb}
use borrow.Author.Tests.{lt-ltb, le-ltb}
use Rattle.basis.specs.Bytes.{be16, be32, any_nonzero}
use Rattle.quirks.specs.Quirks.{add_if, with, bit_of, place_of}
use Rattle.quirks.specs.Named.{empty, from_quirks}
use Rattle.window_size.specs.declared.WindowMultiplier.{WindowMultiplier}
use Rattle.window_size.specs.Multiplier.{multiplier_of}
use Rattle.window_size.proofs.First.{exactly_if, the_first}
use Rattle.observable.specs.declared.TcpObservation.{TcpObservation}
use Rattle.observable.specs.Observation.{empty_layout, empty_observation}
use Rattle.one_option.specs.Options.{asked, runs_past, options_after}
use Rattle.one_option.specs.See.{later_mss, later_scale, trailing_nonzero, excessive_scaling, own_timestamp_zero, peer_timestamp_nonzero}
use Rattle.one_option.specs.See.{later_quirks, see_option}
use Rattle.syn_options.specs.Walk.{entry_byte, put_entry, walk_from, walk_of}
use Rattle.refusals.specs.declared.PacketRefusal.TheVariants as refusal
use Rattle.refusals.specs.declared.ListRefusal.TheVariants as why
use Rattle.ip.specs.Ip.{read_ip}
use Rattle.flow.specs.declared.Kind.TheVariants as kind
use Rattle.flow.specs.declared.Reading.{Reading}
use Rattle.flow.specs.Reading.{read_packet, kind_read, observation_read}
use Rattle.refusals.specs.declared.PacketRefusal.{PacketRefusal}
use Rattle.matching.specs.declared.SignatureFit.{SignatureFit}
use Rattle.matching.specs.declared.SignatureFit.TheVariants as fit
use Rattle.matching.specs.Fit.{features_of, fit_of}
use Rattle.sigrecord.specs.Record.{signature_of, entry_count}
use Rattle.siglist.specs.List.{record_count, list_fits, record_at, entries_of, record_good, check_list}
use Rattle.siglist.proofs.FirstBad.{does_not_fit, each_good}
use Rattle.found.specs.declared.Hit.{Hit}
use Rattle.found.specs.declared.Found.{Found}
use Rattle.found.specs.declared.Found.TheVariants as found
use Rattle.found.specs.Examined.{examined_of, searched_in}
use Rattle.search.specs.declared.SearchRefusal.TheVariants as answer
use Rattle.found.specs.Rank.{found_of}
use Rattle.search.specs.Search.{fit_at, hit_at, candidate_at, searched, search_list}
use Rattle.search.proofs.Order.{single}
use Rattle.acceptance.specs.Values.{packet_a, example_list, the_record, after}
use Rattle.acceptance.specs.Demand2.{MultiplierTheorem, of_one, SingleFit, ShutOut, Demand2}
use Rattle.acceptance.proofs.Observation.{the_observation}
use Rattle.acceptance.proofs.Values.{same_found, values}

-- ---- the multiplier

either_way : (t : Bool) (m : Option WindowMultiplier) → cond t m m ≡ m
either_way true m = refl
either_way false m = refl

multiplier_theorem : MultiplierTheorem
unfolding multiplier_of
multiplier_theorem =
    record {
      given_exactly_if = exactly_if;
      over_the_first = the_first;
      window_0 = λ own headers stamped version peer. refl;
      mss_absent = λ window headers stamped version peer. either_way (eqb window 0) None;
      mss_under_100 = λ window own headers stamped version peer h.
          rw (lt-ltb own 100 h) (either_way (eqb window 0) None);
    }

-- ---- the single fit

of_one_lem : (hit : Hit) (x : SignatureFit) → found_of hit x ≡ of_one hit x
unfolding found_of
of_one_lem hit fit.None = refl
of_one_lem hit fit.Exact = refl
of_one_lem hit (fit.Fuzzy r) = refl

-- Of one record one is examined.
one_examined : (hit : Hit) (x : SignatureFit) → hit.number ≡ 0 → examined_of 1 (of_one hit x) ≡ 1
one_examined hit fit.None first = refl
one_examined hit (fit.Fuzzy r) first = refl
one_examined hit fit.Exact first = by_kind hit.generic
  where
    by_kind : (generic : Bool) → cond generic 1 (hit.number + 1) ≡ 1
    by_kind true = refl
    by_kind false = omega (arith, first)

one_answer
    : (hit : Hit) (x : SignatureFit) (y : Found)
    → hit.number ≡ 0
    → y ≡ found_of hit x
    → Ok (searched_in 1 y) ≡ after 1 (of_one hit x)
one_answer hit x y first e = rw (e, of_one_lem hit x, one_examined hit x first)

module _ (l : List ℕ) (good : check_list l ≡ (Ok tt)) where
  -- A good list fits, and its records are good.
  fits : list_fits l ≡ true
  fits = by_test (list_fits l) refl
    where
      by_test : (t : Bool) → list_fits l ≡ t → t ≡ true
      by_test true e = refl
      by_test false e = let other = does_not_fit l e in let z : ◌≡◌ {A = ℕ} 0 1 = cc in absurd (omega arith)

  record_good_lem : (j : ℕ) → j < record_count l → record_good l j ≡ true
  record_good_lem j h = each_good l j good h

single_fit : SingleFit
unfolding search_list searched candidate_at fit_at
single_fit o l few good one =
    rw (le-ltb 40 o.olayout.count few, good, fits l good, one)
    (one_answer (hit_at l 0)
    (fit_of (features_of o) o.olayout.kinds o.olayout.bytes (signature_of (record_at l 0)) (entry_count (record_at l 0))
    (entries_of l (record_at l 0)))
    _
    refl
    (single o l one ∙ rw (fits l good, lt-ltb 0 (record_count l) (omega arith), record_good_lem l good 0 (omega arith))))

-- ---- what is shut out

answer_a : kind_read (read_packet packet_a None) ≡ Ok (Some kind.Syn)
answer_a = ap (λ (x : Result Reading PacketRefusal). (kind_read x)) values.packet.packet_a_lem

window_a : (observation_read (read_packet packet_a None)).wsize ≡ 5840
window_a = ap (λ (x : Result Reading PacketRefusal). (observation_read x).wsize) values.packet.packet_a_lem

answer_of_nothing : kind_read (read_packet [] None) ≡ Err refusal.Version
unfolding read_packet read_ip
answer_of_nothing = refl

nothing_fits : search_list empty_observation [] ≡ Err (answer.List why.DoesNotFit)
unfolding search_list check_list list_fits empty_observation empty_layout be16
nothing_fits = refl

shut_out : ShutOut
unfolding empty_observation walk_of walk_from options_after asked runs_past put_entry entry_byte see_option later_mss later_scale
    later_quirks trailing_nonzero excessive_scaling own_timestamp_zero peer_timestamp_nonzero any_nonzero add_if with bit_of place_of
    empty from_quirks be16 be32
shut_out =
    record {
      refuses_all = λ h.
          let e = h packet_a in
          let a = answer_a in
          let r = e.1 in
          let z : ◌≡◌ {A = ℕ} 0 1 = cc in
          omega arith;
      none_always = λ h.
          let same = same_found _ _ _ _ (sym values.search.exact ∙ (h packet_a).1) in
          let z : ◌≡◌ {A = ℕ} 0 1 = cc in
          omega arith;
      untouched = λ h.
          let e : ◌≡◌ {A = ℕ} 5840 0 = sym window_a ∙ ap (λ (o : TcpObservation). o.wsize) (h packet_a) in
          omega arith;
      second_mss = refl;
      constant_reader = λ c h.
          let e : (Ok (Some kind.Syn)) ≡ Err refusal.Version =
          sym answer_a ∙ ap (λ (x : Result Reading PacketRefusal). (kind_read x)) (h packet_a None ∙ sym (h [] None)) ∙ answer_of_nothing in
          let z : ◌≡◌ {A = ℕ} 0 1 = cc in
          omega arith;
      constant_search = λ c h.
          let e : after 1 (found.Exact the_record) ≡ Err (answer.List why.DoesNotFit) =
          sym values.search.exact
          ∙ h (observation_read (read_packet packet_a None)) example_list
          ∙ sym (h empty_observation [])
          ∙ nothing_fits in
          let z : ◌≡◌ {A = ℕ} 0 1 = cc in
          omega arith;
    }

pub demand2 : Demand2
demand2 =
    record { multiplier = multiplier_theorem; observation = the_observation; single = single_fit; values = values; shut_out = shut_out }
