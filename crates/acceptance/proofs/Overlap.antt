-- The two bundles, computed.
use mathlib.Core.Path.{refl}
use native.Mathlib.Omega.{arith}
use Rattle.basis.specs.Bytes.{be16, be32, any_nonzero}
use Rattle.basis.specs.Digits.{digit}
use Rattle.basis.specs.Tests.{all_below}
use Rattle.quirks.specs.Quirks.{place_of, bit_of, holds, contains, is_empty, with, add_if, difference}
use Rattle.quirks.specs.Named.{from_quirks, display_order, empty, fuzzy_deletable, fuzzy_addable, mask_when_obs_v4, mask_when_obs_v6}
use Rattle.quirks.specs.Named.{seventeen}
use Rattle.ttl.specs.Ttl.{initial_of, guess_of, reading_of}
use Rattle.window_size.specs.Divisors.{twelve, divides}
use Rattle.window_size.specs.Multiplier.{first_multiple, multiplier_of}
use Rattle.ip_options.specs.IpOptions.{ipv4_option_length}
use Rattle.observable.specs.Observation.{holds_kind, own_timestamp_nonzero, window_multiplier}
use Rattle.one_option.specs.Options.{asked, runs_past, options_after}
use Rattle.one_option.specs.See.{later_mss, later_scale, trailing_nonzero, excessive_scaling, own_timestamp_zero, peer_timestamp_nonzero}
use Rattle.one_option.specs.See.{later_quirks, see_option}
use Rattle.syn_options.specs.Walk.{entry_byte, put_entry, walk_from, walk_of}
use Rattle.ip.specs.Ip.{ipv4_quirks, ipv4_facts, read_ipv4, read_ip}
use Rattle.tcp_header.specs.Flags.{masked_type, flags_invalid, is_syn_type}
use Rattle.flow.specs.Tcp.{quirks_of_headers, payload_class, observation_of, observation_from, read_tcp}
use Rattle.tcp_header.specs.HeaderQuirks.{header_quirks}
use Rattle.flow.specs.Modes.{read_in}
use Rattle.distances.specs.DistanceGates.{version_matches, window_matches, payload_matches}
use Rattle.distances.specs.Distances.{ttl_fit}
use Rattle.sigrecord.specs.Layout.{entry_good, entries_good}
use Rattle.matching.specs.Gates.{olen_matches, mss_matches, scale_matches, entries_match, layout_matches}
use Rattle.matching.specs.Tolerance.{masked_quirks, quirks_fit, judge_in_range, judge}
use Rattle.matching.specs.Fit.{features_of, scalar_gates, tolerance_of, fit_of}
use Rattle.sigrecord.specs.Record.{version_of, ttl_of, mss_of, scale_of, window_of, payload_of, signature_of}
use Rattle.sigrecord.specs.WellFormed.{version_good, ttl_good, presence_good, window_good, payload_good, quirks_good, scalars_good}
use Rattle.siglist.specs.List.{list_fits, layout_lies, record_good, records_from, check_list}
use Rattle.found.specs.Least.{prefer, least_from, first_least, numbers_from}
use Rattle.found.specs.Rank.{found_of}
use Rattle.search.specs.Search.{fit_at, candidate_at, rank_at, found_at, search_row, search_over, search_all, searched, search_list}
use Rattle.packet_answer.specs.Packet.{peer_of, answer_in}
use Rattle.bundle.specs.Bundle.{packet_end, packet_fits, packets_fit, list_lies, bundle_fits, check_bundle}
use Rattle.bundle.specs.Answers.{answer_at, packet_lies, answers_from, bundle_answer}
use Rattle.text.specs.Decimal.{width, decimal}
use Rattle.report.specs.Text.{found_text, answer_text, line_of, head_line, refused_line}
use Rattle.report.specs.Pages.{lines_of, output_in}
use Rattle.alike.specs.Free.{FreeIpv4, ItemBy, FreePacket}
use Rattle.alike.proofs.Exact.{free_byte}
use Rattle.acceptance.specs.Values.{packet_a}
use Rattle.acceptance.specs.Overlap.{Overlap}

pub overlap : Overlap
unfolding read_in read_ip read_ipv4 ipv4_facts ipv4_quirks ipv4_option_length reading_of guess_of initial_of read_tcp flags_invalid
    masked_type is_syn_type observation_from observation_of quirks_of_headers header_quirks payload_class walk_of walk_from options_after
    asked runs_past put_entry entry_byte see_option later_mss later_scale later_quirks trailing_nonzero excessive_scaling
    own_timestamp_zero peer_timestamp_nonzero any_nonzero add_if with bit_of place_of empty from_quirks be16 be32 check_list list_fits
    records_from record_good layout_lies scalars_good version_good ttl_good presence_good window_good payload_good quirks_good entry_good
    entries_good all_below is_empty difference seventeen display_order search_list searched search_all search_over search_row found_at
    first_least least_from prefer numbers_from rank_at candidate_at found_of fit_at features_of window_multiplier own_timestamp_nonzero
    holds_kind contains holds digit multiplier_of first_multiple twelve divides signature_of version_of ttl_of mss_of scale_of window_of
    payload_of fit_of scalar_gates version_matches olen_matches mss_matches window_matches scale_matches payload_matches layout_matches
    entries_match tolerance_of ttl_fit quirks_fit masked_quirks mask_when_obs_v4 mask_when_obs_v6 fuzzy_deletable fuzzy_addable judge
    judge_in_range output_in bundle_answer check_bundle bundle_fits packets_fit packet_fits packet_end peer_of answers_from packet_lies
    list_lies answer_at answer_in lines_of line_of answer_text found_text head_line refused_line decimal width
overlap =
    record {
      alike = free_byte packet_a 12 1 (FreePacket.header (ItemBy.four refl FreeIpv4.addresses)) (omega arith) (omega arith);
      one = refl;
      other = refl;
    }
