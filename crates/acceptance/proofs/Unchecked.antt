-- What the functions that do not refuse answer.
use Rattle.std.specs.Prelude.{Result, Ok, Err}
use mathlib.Core.Path.{◌≡◌, refl, sym, ◌∙◌, ap}
use mathlib.Core.Bool.{Bool, true, false, cond, ◌&&◌}
use mathlib.Core.List.{List, [], ◌∷◌}
use Prim.Native.Nat.{ℕ, ◌<◌, ◌≤◌}
use native.Mathlib.Omega.{arith}
use lib.Dec.{eqb, ltb, leb}
use lib.ListN.{length}
use lib.Seq.{take-take}
use borrow.Author.Tests.{le-ltb, ne_eqb, leb-true}
use Rattle.basis.proofs.Tests.{and_left, and_right, and_false}
use Rattle.syn_options.specs.Walk.{walk_of, parse_options_raw}
use Rattle.syn_options.specs.Stops.{walk_options, read_options}
use Rattle.matching.specs.Gates.{layout_matches}
use Rattle.matching.specs.declared.Features.{Features}
use Rattle.matching.specs.declared.SignatureFit.TheVariants as fit
use Rattle.matching.specs.Fit.{features_of, fit_of}
use Rattle.sigrecord.specs.Record.{entry_count}
use Rattle.sigrecord.specs.WellFormed.{scalars_good}
use Rattle.refusals.specs.declared.ListRefusal.{ListRefusal}
use Rattle.refusals.specs.declared.ListRefusal.TheVariants as why
use Rattle.siglist.specs.List.{record_count, size_of, record_at, list_fits, layout_lies, record_good, check_list}
use Rattle.siglist.proofs.FirstBad.{Checked, first_bad_named}
use Rattle.found.specs.declared.Searched.{Searched}
use Rattle.found.specs.Examined.{searched_in}
use Rattle.found.specs.Least.{numbers_from}
use Rattle.found.proofs.Least.{Without, end, stays_in, left_out}
use Rattle.search.specs.Search.{fit_at, rank_at, search_over, search_all, searched, search_list}
use Rattle.search.proofs.Examined.{none_examined}
use Rattle.search.proofs.Rows.{no_rank, none_fits, without}
use Rattle.flow.specs.Modes.{read_in}
use Rattle.flow.specs.declared.Kind.TheVariants as kind
use Rattle.flow.specs.Reading.{observation_read}
use Rattle.packet_answer.specs.declared.PacketAnswer.TheVariants as packet
use Rattle.bundle.specs.Bundle.{packet_count, check_bundle}
use Rattle.bundle.specs.Answers.{answer_at, packet_lies, packet_at_in, start_of}
use Rattle.bundle.proofs.Packets.{good_fits, fits_lies, packets_within, start_first}
use Rattle.bundle.proofs.BundleOrder.{each_within}
use Rattle.gateway.specs.Parts.{refused_list, gateway_in, list_parts}
use Rattle.acceptance.specs.Unchecked.{good_ones, SearchUnchecked, PacketUnchecked, BundleUnchecked, OptionsUnchecked, Unchecked}
use Rattle.acceptance.proofs.Honesty.{honesty}

-- ---- a record that is not well formed

module _ (f : Features) (kinds bytes l : List ℕ) where
  bad_fits_not : (i : ℕ) → record_good l i ≡ false → fit_at f kinds bytes l i ≡ fit.None
  unfolding fit_at
  bad_fits_not i e = simp (e, and_false)

  -- The bad records of a row may be left out.
  good_ones_lem : (is : List ℕ) → Without (rank_at f kinds bytes l) (good_ones l is) is
  unfolding good_ones
  good_ones_lem [] = end
  good_ones_lem (i ∷ is) = by_test (record_good l i) refl (good_ones_lem is)
    where
      by_test
          : (t : Bool)
          → record_good l i ≡ t
          → Without (rank_at f kinds bytes l) (good_ones l is) is
          → Without (rank_at f kinds bytes l) (cond t (i ∷ good_ones l is) (good_ones l is)) (i ∷ is)
      by_test true e rest = stays_in rest
      by_test false e rest = left_out (no_rank f kinds bytes l i (bad_fits_not i e)) rest

-- ---- an observation with too long a layout

few_entries : (l : List ℕ) (i : ℕ) → record_good l i ≡ true → entry_count (record_at l i) ≤ 40
unfolding record_good layout_lies
few_entries l i good =
    leb-true (entry_count (record_at l i)) 40
    (and_left (leb (entry_count (record_at l i)) 40) _
    (and_left _ _ (and_right (scalars_good (record_at l i)) _ good)))

either_none : (t : Bool) → cond t fit.None fit.None ≡ fit.None
either_none true = refl
either_none false = refl

module _ (f : Features) (kinds bytes l : List ℕ) (long : 40 < f.count) where
  other_count : (i : ℕ) → record_good l i ≡ true → eqb f.count (entry_count (record_at l i)) ≡ false
  other_count i good =
      let few = few_entries l i good in
      ne_eqb f.count (entry_count (record_at l i)) (λ (e : f.count ≡ entry_count (record_at l i)). omega arith)

  long_fits_not : (i : ℕ) → fit_at f kinds bytes l i ≡ fit.None
  unfolding fit_at fit_of layout_matches
  long_fits_not i = by_test (record_good l i) refl
    where
      by_test : (t : Bool) → record_good l i ≡ t → fit_at f kinds bytes l i ≡ fit.None
      by_test false e = bad_fits_not f kinds bytes l i e
      by_test true e = simp (other_count i e, and_false) (either_none (list_fits l && ltb i (record_count l) && record_good l i))

-- ---- a list that does not fit

never_unfit : {l : List ℕ} {a : Result (Unit {0}) ListRefusal} → Checked l 0 (record_count l) a → a ≡ Err why.DoesNotFit → ⊥
never_unfit (Checked.all_good all) e = let z : ◌≡◌ {A = ℕ} 0 1 = cc in omega arith
never_unfit (Checked.first_bad_lem k b u bad before) e = let z : ◌≡◌ {A = ℕ} 0 1 = cc in omega arith

unfit : (l : List ℕ) → check_list l ≡ Err why.DoesNotFit → list_fits l ≡ false
unfit l e = by_test (list_fits l) refl
  where
    by_test : (t : Bool) → list_fits l ≡ t → t ≡ false
    by_test true fits = absurd (never_unfit (first_bad_named l fits) e)
    by_test false fits = refl

good_outcome : (a : Result (Unit {0}) ListRefusal) → (list_parts a).outcome ≡ 0 → a ≡ (Ok tt)
unfolding list_parts refused_list
good_outcome (Ok tt) e = refl
good_outcome (Err r) e = absurd (omega arith)

-- ---- the statements

search_unchecked : SearchUnchecked
unfolding searched search_all search_over search_list check_list features_of
search_unchecked =
    record {
      same = λ o l few good. rw (le-ltb 40 o.olayout.count few, good);
      bad_record_lem = λ o l.
          ap (searched_in (size_of l))
          (sym
          (without (features_of o) o.olayout.kinds o.olayout.bytes l
          (good_ones_lem (features_of o) o.olayout.kinds o.olayout.bytes l (numbers_from 0 (record_count l)))));
      does_not_fit = λ o l e. none_examined o l (unfit l e);
      layout_too_long = λ o l long.
          ap (searched_in (size_of l))
          (none_fits (features_of o) o.olayout.kinds o.olayout.bytes l
          (long_fits_not (features_of o) o.olayout.kinds o.olayout.bytes l long) (numbers_from 0 (record_count l)));
    }

packet_unchecked : PacketUnchecked
unfolding gateway_in list_parts
packet_unchecked =
    record {
      same = λ mode p peer l good. rw good;
      same_struct = λ mode p peer l good. rw good;
      checked = λ l. (good_outcome (check_list l), λ good. rw good);
      checked_good = λ l good. rw good;
      syn = λ mode p peer l e.
          honesty.syn_answer mode p peer l e ∙ ap (λ (s : Searched). Ok (packet.Opening kind.Syn s))
          (search_unchecked.bad_record_lem (observation_read (read_in mode p peer)) l);
      syn_ack = λ mode p peer l e.
          honesty.syn_ack_answer mode p peer l e ∙ ap (λ (s : Searched). Ok (packet.Opening kind.SynAck s))
          (search_unchecked.bad_record_lem (observation_read (read_in mode p peer)) l);
      syn_unfit = λ mode p peer l e unfits.
          honesty.syn_answer mode p peer l e ∙ ap (λ (s : Searched). Ok (packet.Opening kind.Syn s))
          (search_unchecked.does_not_fit (observation_read (read_in mode p peer)) l unfits);
      syn_ack_unfit = λ mode p peer l e unfits.
          honesty.syn_ack_answer mode p peer l e
          ∙ ap (λ (s : Searched). Ok (packet.Opening kind.SynAck s))
          (search_unchecked.does_not_fit (observation_read (read_in mode p peer)) l unfits);
    }

good_lies : (b : List ℕ) (i : ℕ) → check_bundle b ≡ (Ok tt) → i < packet_count b → packet_lies b (start_of b i) ≡ true
unfolding packet_lies
good_lies b i good inside =
    let fits = good_fits b good in
    rw (
      fits_lies b fits,
      each_within b (packet_count b) 0 i (rw (start_first b) (packets_within b fits)) (omega arith) (omega arith),
    )

bundle_unchecked : BundleUnchecked
unfolding packet_at_in answer_at start_of
bundle_unchecked =
    record {
      same = λ mode b i good inside. rw (good_lies b i good inside);
      lies = λ mode b at e. rw e;
      lies_not = λ mode b at e. rw e;
    }

options_unchecked : OptionsUnchecked
unfolding parse_options_raw walk_of walk_options read_options
options_unchecked =
    record {
      same = λ s few. rw (le-ltb 40 (length s) few);
      over_40 = λ stop syn q s. rw (take-take 40 40 s (omega arith));
      walk_same = λ stop syn q s few. rw (le-ltb 40 (length s) few);
      walk_over_40 = λ stop syn q s. rw (take-take 40 40 s (omega arith));
    }

pub unchecked : Unchecked
unchecked = record { search = search_unchecked; packet = packet_unchecked; bundle = bundle_unchecked; options = options_unchecked }
