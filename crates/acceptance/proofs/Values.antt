-- The table of values, every case computed.
use mathlib.Core.Path.{◌≡◌, refl, ap}
use Prim.Native.Nat.{ℕ}
use Rattle.basis.specs.Bytes.{be16, be32, any_nonzero}
use Rattle.basis.specs.Digits.{digit}
use Rattle.basis.specs.Tests.{all_below}
use Rattle.quirks.specs.Quirks.{place_of, bit_of, holds, contains, is_empty, with, add_if, difference}
use Rattle.quirks.specs.Named.{from_quirks, display_order, empty, fuzzy_deletable, fuzzy_addable, mask_when_obs_v4, mask_when_obs_v6}
use Rattle.quirks.specs.Named.{seventeen}
use Rattle.ttl.specs.Ttl.{initial_of, guess_of, reading_of}
use Rattle.window_size.specs.Divisors.{twelve, divides}
use Rattle.window_size.specs.Multiplier.{first_multiple, multiplier_of}
use Rattle.ip_options.specs.IpOptions.{ipv4_option_length}
use Rattle.observable.specs.Observation.{holds_kind, own_timestamp_nonzero, window_multiplier}
use Rattle.one_option.specs.Options.{asked, runs_past, options_after}
use Rattle.one_option.specs.See.{later_mss, later_scale, trailing_nonzero, excessive_scaling, own_timestamp_zero, peer_timestamp_nonzero}
use Rattle.one_option.specs.See.{later_quirks, see_option}
use Rattle.syn_options.specs.Walk.{entry_byte, put_entry, walk_from, walk_of, parse_options_raw}
use Rattle.ip.specs.Ip.{ipv4_quirks, ipv4_facts, read_ipv4, read_ip}
use Rattle.tcp_header.specs.Flags.{masked_type, flags_invalid, is_syn_type}
use Rattle.flow.specs.Tcp.{quirks_of_headers, payload_class, observation_of, observation_from, read_tcp}
use Rattle.tcp_header.specs.HeaderQuirks.{header_quirks}
use Rattle.flow.specs.Modes.{read_in}
use Rattle.flow.specs.Reading.{read_packet, refusal_of}
use Rattle.distances.specs.DistanceGates.{version_matches, window_matches, payload_matches}
use Rattle.distances.specs.Distances.{ttl_fit}
use Rattle.sigrecord.specs.Layout.{entry_good, entries_good}
use Rattle.matching.specs.Gates.{olen_matches, mss_matches, scale_matches, entries_match, layout_matches}
use Rattle.matching.specs.Tolerance.{masked_quirks, quirks_fit, judge_in_range, judge}
use Rattle.matching.specs.Fit.{features_of, scalar_gates, tolerance_of, fit_of}
use Rattle.sigrecord.specs.Record.{version_of, ttl_of, mss_of, scale_of, window_of, payload_of, signature_of}
use Rattle.sigrecord.specs.WellFormed.{version_good, ttl_good, presence_good, window_good, payload_good, quirks_good, scalars_good}
use Rattle.siglist.specs.List.{list_fits, layout_lies, record_good, records_from, check_list}
use Rattle.found.specs.declared.Found.{Found}
use Rattle.found.specs.declared.Searched.{Searched}
use Rattle.found.specs.Least.{prefer, least_from, first_least, numbers_from}
use Rattle.found.specs.Rank.{found_of}
use Rattle.search.specs.Search.{fit_at, candidate_at, rank_at, found_at, search_row, search_over, search_all, searched, search_list}
use Rattle.packet_answer.specs.Packet.{peer_of, answer_in}
use Rattle.bundle.specs.Bundle.{packet_end, packet_fits, packets_fit, list_lies, bundle_fits, check_bundle}
use Rattle.bundle.specs.Answers.{answer_at, packet_lies, answers_from, bundle_answer}
use Rattle.text.specs.Decimal.{width, decimal}
use Rattle.report.specs.Text.{found_text, answer_text, line_of, head_line, refused_line}
use Rattle.report.specs.Pages.{lines_of, output_in}
use Rattle.acceptance.specs.Values.{QuirkValues, TtlValues, WindowValues, OptionValues, PacketValues, FitValues, ThreeAnswers, after}
use Rattle.acceptance.specs.Values.{WholeExample, Values}

quirk_values : QuirkValues
unfolding seventeen from_quirks display_order with bit_of place_of
quirk_values = record { seventeen_quirks = refl; union = refl }

ttl_values : TtlValues
unfolding reading_of guess_of initial_of
ttl_values =
    record {
      ttl_0 = refl;
      ttl_1 = refl;
      ttl_33 = refl;
      ttl_65 = refl;
      ttl_97 = refl;
      ttl_224 = refl;
      ttl_2 = refl;
      ttl_34 = refl;
      ttl_98 = refl;
      ttl_225 = refl;
    }

window_values : WindowValues
unfolding multiplier_of first_multiple twelve divides
window_values =
    record {
      four_of_mss = refl;
      one_of_mtu = refl;
      mss_under_100 = refl;
      two_of_peer = refl;
      zero_passed_over = refl;
    }

option_values : OptionValues
unfolding walk_of parse_options_raw walk_from options_after asked runs_past put_entry entry_byte see_option later_mss later_scale
    later_quirks trailing_nonzero excessive_scaling own_timestamp_zero peer_timestamp_nonzero any_nonzero add_if with bit_of place_of
    contains holds digit empty from_quirks be16 be32
option_values =
    record {
      scale_15 = refl;
      scale_14 = refl;
      eol_count = refl;
      eol_kind = refl;
      eol_left = refl;
      eol_trailing = refl;
      cut_mss_count = refl;
      cut_mss_kind = refl;
      cut_mss_number = refl;
      raw_cut_mss_answer = refl;
      raw_cut_mss_count = refl;
      raw_cut_mss_malformed = refl;
    }

packet_values : PacketValues
unfolding read_packet read_ip read_ipv4 ipv4_facts ipv4_quirks ipv4_option_length reading_of guess_of initial_of read_tcp flags_invalid
    masked_type is_syn_type observation_from observation_of quirks_of_headers header_quirks payload_class walk_of walk_from options_after
    asked runs_past put_entry entry_byte see_option later_mss later_scale later_quirks trailing_nonzero excessive_scaling
    own_timestamp_zero peer_timestamp_nonzero any_nonzero add_if with bit_of place_of empty from_quirks be16 be32 refusal_of
packet_values = record { packet_a_lem = refl; packet_c = refl }

fit_values : FitValues
unfolding ttl_fit window_matches
fit_values =
    record {
      ttl_29 = refl;
      ttl_28 = refl;
      ttl_65 = refl;
      bad_65 = refl;
      bad_0 = refl;
      starts_at_255 = refl;
      modulus_8 = refl;
      modulus_0 = refl;
    }

three_answers : ThreeAnswers
unfolding read_packet read_ip read_ipv4 ipv4_facts ipv4_quirks ipv4_option_length reading_of guess_of initial_of read_tcp flags_invalid
    masked_type is_syn_type observation_from observation_of quirks_of_headers header_quirks payload_class walk_of walk_from options_after
    asked runs_past put_entry entry_byte see_option later_mss later_scale later_quirks trailing_nonzero excessive_scaling
    own_timestamp_zero peer_timestamp_nonzero any_nonzero add_if with bit_of place_of empty from_quirks be16 be32 check_list list_fits
    records_from record_good layout_lies scalars_good version_good ttl_good presence_good window_good payload_good quirks_good entry_good
    entries_good all_below is_empty difference seventeen display_order search_list searched search_all search_over search_row found_at
    first_least least_from prefer numbers_from rank_at candidate_at found_of fit_at features_of window_multiplier own_timestamp_nonzero
    holds_kind contains holds digit multiplier_of first_multiple twelve divides signature_of version_of ttl_of mss_of scale_of window_of
    payload_of fit_of scalar_gates version_matches olen_matches mss_matches window_matches scale_matches payload_matches layout_matches
    entries_match tolerance_of ttl_fit quirks_fit masked_quirks mask_when_obs_v4 mask_when_obs_v6 fuzzy_deletable fuzzy_addable judge
    judge_in_range
three_answers = record { list_good = refl; exact = refl; fuzzy = refl; none = refl }

whole_example : WholeExample
unfolding read_in read_ip read_ipv4 ipv4_facts ipv4_quirks ipv4_option_length reading_of guess_of initial_of read_tcp flags_invalid
    masked_type is_syn_type observation_from observation_of quirks_of_headers header_quirks payload_class walk_of walk_from options_after
    asked runs_past put_entry entry_byte see_option later_mss later_scale later_quirks trailing_nonzero excessive_scaling
    own_timestamp_zero peer_timestamp_nonzero any_nonzero add_if with bit_of place_of empty from_quirks be16 be32 check_list list_fits
    records_from record_good layout_lies scalars_good version_good ttl_good presence_good window_good payload_good quirks_good entry_good
    entries_good all_below is_empty difference seventeen display_order search_list searched search_all search_over search_row found_at
    first_least least_from prefer numbers_from rank_at candidate_at found_of fit_at features_of window_multiplier own_timestamp_nonzero
    holds_kind contains holds digit multiplier_of first_multiple twelve divides signature_of version_of ttl_of mss_of scale_of window_of
    payload_of fit_of scalar_gates version_matches olen_matches mss_matches window_matches scale_matches payload_matches layout_matches
    entries_match tolerance_of ttl_fit quirks_fit masked_quirks mask_when_obs_v4 mask_when_obs_v6 fuzzy_deletable fuzzy_addable judge
    judge_in_range output_in bundle_answer check_bundle bundle_fits packets_fit packet_fits packet_end peer_of answers_from packet_lies
    list_lies answer_at answer_in lines_of line_of answer_text found_text head_line refused_line decimal width
whole_example = record { lines = refl }

-- What a search found is told by its answer, whatever the counts.
pub same_found : (m n : ℕ) (x y : Found) → after m x ≡ after n y → x ≡ y
same_found m n x y e =
    let same : ◌≡◌ {A = Searched} (record { found = x; examined = m }) (record { found = y; examined = n }) = cc in
    ap (λ (s : Searched). s.found) same

pub values : Values
values =
    record {
      quirks = quirk_values;
      ttl = ttl_values;
      window = window_values;
      options = option_values;
      packet = packet_values;
      fit = fit_values;
      search = three_answers;
      whole = whole_example;
    }
