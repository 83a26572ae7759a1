-- Generic lines come last: a list without them answers as document 01 says, and the cases of two records.
use mathlib.Core.Path.{◌≡◌, refl, sym, ◌∙◌, ap}
use mathlib.Core.Bool.{false, false≢true}
use mathlib.Core.List.{List}
use mathlib.Core.Logic.{inl, inr}
use Prim.Native.Nat.{ℕ, ◌<◌}
use native.Mathlib.Omega.{arith}
use lib.Dec.{eqb}
use Rattle.observable.specs.declared.TcpObservation.{TcpObservation}
use Rattle.sigrecord.specs.Record.{is_generic}
use Rattle.siglist.specs.List.{record_count, record_at}
use Rattle.found.specs.declared.Hit.{Hit}
use Rattle.found.specs.declared.Found.TheVariants as found
use Rattle.acceptance.specs.Outcome.{Named, FirstSpecific, Outcome}
use Rattle.acceptance.specs.Refusals.{BadRecord}
use Rattle.acceptance.specs.GenericLast.{AllSpecific, BadBefore, FirstExact, AsBefore, KindValues, GenericLast}
use Rattle.acceptance.proofs.Outcome.{answered}
use Rattle.basis.specs.Bytes.{be16, be32, any_nonzero}
use Rattle.basis.specs.Digits.{digit}
use Rattle.basis.specs.Tests.{all_below}
use Rattle.quirks.specs.Quirks.{place_of, bit_of, holds, contains, is_empty, with, add_if, difference}
use Rattle.quirks.specs.Named.{from_quirks, display_order, empty, fuzzy_deletable, fuzzy_addable, mask_when_obs_v4, mask_when_obs_v6}
use Rattle.quirks.specs.Named.{seventeen}
use Rattle.ttl.specs.Ttl.{initial_of, guess_of, reading_of}
use Rattle.window_size.specs.Divisors.{twelve, divides}
use Rattle.window_size.specs.Multiplier.{first_multiple, multiplier_of}
use Rattle.ip_options.specs.IpOptions.{ipv4_option_length}
use Rattle.observable.specs.Observation.{holds_kind, own_timestamp_nonzero, window_multiplier}
use Rattle.one_option.specs.Options.{asked, runs_past, options_after}
use Rattle.one_option.specs.See.{later_mss, later_scale, trailing_nonzero, excessive_scaling, own_timestamp_zero, peer_timestamp_nonzero}
use Rattle.one_option.specs.See.{later_quirks, see_option}
use Rattle.syn_options.specs.Walk.{entry_byte, put_entry, walk_from, walk_of}
use Rattle.ip.specs.Ip.{ipv4_quirks, ipv4_facts, read_ipv4, read_ip}
use Rattle.tcp_header.specs.Flags.{masked_type, flags_invalid, is_syn_type}
use Rattle.flow.specs.Tcp.{quirks_of_headers, payload_class, observation_of, observation_from, read_tcp}
use Rattle.tcp_header.specs.HeaderQuirks.{header_quirks}
use Rattle.flow.specs.Reading.{read_packet}
use Rattle.distances.specs.DistanceGates.{version_matches, window_matches, payload_matches}
use Rattle.distances.specs.Distances.{ttl_fit}
use Rattle.sigrecord.specs.Layout.{entry_good, entries_good}
use Rattle.matching.specs.Gates.{olen_matches, mss_matches, scale_matches, entries_match, layout_matches}
use Rattle.matching.specs.Tolerance.{masked_quirks, quirks_fit, judge_in_range, judge}
use Rattle.matching.specs.Fit.{features_of, scalar_gates, tolerance_of, fit_of}
use Rattle.sigrecord.specs.Record.{version_of, ttl_of, mss_of, scale_of, window_of, payload_of, signature_of}
use Rattle.sigrecord.specs.WellFormed.{version_good, ttl_good, presence_good, window_good, payload_good, quirks_good, scalars_good}
use Rattle.siglist.specs.List.{list_fits, layout_lies, record_good, records_from, check_list}
use Rattle.found.specs.Least.{prefer, least_from, first_least, numbers_from}
use Rattle.found.specs.Rank.{found_of}
use Rattle.search.specs.Search.{fit_at, candidate_at, rank_at, found_at, search_row, search_over, search_all, searched, search_list}

module _ (l : List ℕ) (all : AllSpecific l) where
  no_generic : (i : ℕ) → i < record_count l → is_generic (record_at l i) ≡ false
  no_generic i inside = ap (λ (b : ℕ). eqb b 1) (all i inside)

  is_specific : (hit : Hit) → Named l hit → hit.generic ≡ false
  is_specific hit named = named.own_kind ∙ no_generic hit.number named.in_list

  as_bad : (i : ℕ) → i < record_count l → BadBefore l i → BadRecord l i
  as_bad i inside (inl bad) = bad
  as_bad i inside (inr positive) = absurd (let e = all i inside in omega arith)

  module _ (o : TcpObservation) (hit : Hit) where
    to_first : FirstSpecific o l hit → FirstExact o l hit
    to_first a =
        record {
          named = a.named;
          exact = a.exact;
          first = λ j less x.
              a.first j less (record { exact = x; specific = no_generic j (let inside = a.named.in_list in omega arith) });
        }

    exact_before : Outcome o l (found.Exact hit) → FirstExact o l hit
    exact_before (inl a) = to_first a
    exact_before (inr a) = absurd (false≢true (sym (is_specific hit a.named) ∙ a.generic))

    from_first : FirstExact o l hit → FirstSpecific o l hit
    from_first a =
        record {
          named = a.named;
          specific = is_specific hit a.named;
          exact = a.exact;
          first = λ j less x. a.first j less x.exact;
        }

  pub as_before : AsBefore l
  as_before =
      record {
        bad = λ i inside. (inl, as_bad i inside);
        exact = λ o hit. (
          λ e. exact_before o hit ((answered o l (found.Exact hit)).0 e),
          λ a. (answered o l (found.Exact hit)).1 (inl (from_first o hit a)),
        );
        fuzzy = λ o hit reason. answered o l (found.Fuzzy hit reason);
        none = λ o. answered o l found.None;
        specific = is_specific;
      }

kind_values : KindValues
unfolding read_packet read_ip read_ipv4 ipv4_facts ipv4_quirks ipv4_option_length reading_of guess_of initial_of read_tcp flags_invalid
    masked_type is_syn_type observation_from observation_of quirks_of_headers header_quirks payload_class walk_of walk_from options_after
    asked runs_past put_entry entry_byte see_option later_mss later_scale later_quirks trailing_nonzero excessive_scaling
    own_timestamp_zero peer_timestamp_nonzero any_nonzero add_if with bit_of place_of empty from_quirks be16 be32 check_list list_fits
    records_from record_good layout_lies scalars_good version_good ttl_good presence_good window_good payload_good quirks_good entry_good
    entries_good all_below is_empty difference seventeen display_order search_list searched search_all search_over search_row found_at
    first_least least_from prefer numbers_from rank_at candidate_at found_of fit_at features_of window_multiplier own_timestamp_nonzero
    holds_kind contains holds digit multiplier_of first_multiple twelve divides signature_of version_of ttl_of mss_of scale_of window_of
    payload_of fit_of scalar_gates version_matches olen_matches mss_matches window_matches scale_matches payload_matches layout_matches
    entries_match tolerance_of ttl_fit quirks_fit masked_quirks mask_when_obs_v4 mask_when_obs_v6 fuzzy_deletable fuzzy_addable judge
    judge_in_range
kind_values =
    record {
      first_specific = refl;
      specific_behind_generic = refl;
      first_generic = refl;
      generic_behind_fuzzy = refl;
      first_fuzzy_generic = refl;
      no_records = refl;
      byte_21_of_2 = refl;
    }

pub generic_last_lem : GenericLast
generic_last_lem = record { as_before = as_before; values = kind_values }
