-- What is not free changes the answer: each pair is read, and one number of the two readings compared.
use Rattle.std.specs.Prelude.{None, Result}
use mathlib.Core.Path.{◌≡◌, refl, sym, ◌∙◌, ap}
use mathlib.Core.Bool.{false, true≢false}
use mathlib.Core.List.{List}
use Prim.Native.Nat.{ℕ}
use native.Mathlib.Omega.{arith}
use lib.Dec.{eqb}
use lib.ListN.{set}
use borrow.Author.Tests.{eq-eqb}
use Rattle.basis.specs.Bytes.{byte_at, be16, be32, any_nonzero}
use Rattle.basis.specs.Digits.{digit}
use Rattle.basis.specs.Tests.{all_below}
use Rattle.quirks.specs.Quirks.{place_of, bit_of, holds, contains, is_empty, bits_of, with, add_if, difference}
use Rattle.quirks.specs.Named.{from_quirks, display_order, empty, fuzzy_deletable, fuzzy_addable, mask_when_obs_v4, mask_when_obs_v6}
use Rattle.quirks.specs.Named.{seventeen}
use Rattle.ttl.specs.Ttl.{initial_of, guess_of, reading_of, byte_of}
use Rattle.window_size.specs.Divisors.{twelve, divides, peer_size}
use Rattle.window_size.specs.Multiplier.{first_multiple, multiplier_of}
use Rattle.ip_options.specs.IpOptions.{ipv4_option_length, ipv6_extension_length}
use Rattle.observable.specs.Observation.{holds_kind, own_timestamp_nonzero, window_multiplier}
use Rattle.one_option.specs.Options.{asked, runs_past, options_after}
use Rattle.one_option.specs.See.{later_mss, later_scale, trailing_nonzero, excessive_scaling, own_timestamp_zero, peer_timestamp_nonzero}
use Rattle.one_option.specs.See.{later_quirks, see_option}
use Rattle.syn_options.specs.Walk.{entry_byte, put_entry, walk_from, walk_of}
use Rattle.ip.specs.Ip.{ipv4_quirks, ipv4_facts, read_ipv4, ipv6_quirks, ipv6_facts, read_ipv6, read_ip}
use Rattle.flow.specs.declared.Reading.{Reading}
use Rattle.tcp_header.specs.Flags.{masked_type, flags_invalid, is_syn_type, is_syn_ack_type}
use Rattle.flow.specs.Tcp.{quirks_of_headers, payload_class, observation_of, observation_from, known_peer, read_tcp}
use Rattle.tcp_header.specs.HeaderQuirks.{header_quirks}
use Rattle.flow.specs.Modes.{plain_mode, read_in}
use Rattle.flow.specs.Reading.{read_packet, refusal_of, observation_read}
use Rattle.refusals.specs.declared.PacketRefusal.{PacketRefusal}
use Rattle.distances.specs.DistanceGates.{version_matches, window_matches, payload_matches}
use Rattle.distances.specs.Distances.{ttl_fit}
use Rattle.sigrecord.specs.Layout.{entry_good, entries_good}
use Rattle.matching.specs.Gates.{olen_matches, mss_matches, scale_matches, entries_match, layout_matches}
use Rattle.matching.specs.Tolerance.{masked_quirks, quirks_fit, judge_in_range, judge}
use Rattle.matching.specs.Fit.{features_of, scalar_gates, tolerance_of, fit_of}
use Rattle.sigrecord.specs.Record.{version_of, ttl_of, mss_of, scale_of, window_of, payload_of, signature_of}
use Rattle.sigrecord.specs.WellFormed.{version_good, ttl_good, presence_good, window_good, payload_good, quirks_good, scalars_good}
use Rattle.siglist.specs.List.{list_fits, layout_lies, record_good, records_from, check_list}
use Rattle.found.specs.declared.Found.{Found}
use Rattle.found.specs.declared.Found.TheVariants as found
use Rattle.found.specs.Least.{prefer, least_from, first_least, numbers_from}
use Rattle.found.specs.Rank.{found_of}
use Rattle.search.specs.Search.{fit_at, candidate_at, rank_at, found_at, search_row, search_over, search_all, searched, search_list}
use Rattle.alike.proofs.Packets.{read_alike}
use Rattle.acceptance.specs.Values.{packet_a, example_list, the_record, after}
use Rattle.acceptance.specs.NotFree.{ReadApart, AnsweredApart, stamped, over_ipv6, no_length, no_length_ipv6, NotFree}
use Rattle.acceptance.proofs.Values.{same_found, values}

-- Two readings of which one number differs.
told_apart
    : (f : Result Reading PacketRefusal → ℕ) (p q : List ℕ)
    → eqb (f (read_packet p None)) (f (read_packet q None)) ≡ false
    → ReadApart p q
told_apart f p q differs same =
    true≢false (sym (eq-eqb (f (read_packet p None)) (f (read_packet q None)) (ap f same)) ∙ differs)

-- The numbers that are compared.
abbrev refused : Result Reading PacketRefusal → ℕ
refused r = refusal_of r

abbrev quirk_bits : Result Reading PacketRefusal → ℕ
quirk_bits r = bits_of (observation_read r).quirks

abbrev ttl_byte : Result Reading PacketRefusal → ℕ
ttl_byte r = byte_of (observation_read r).ittl

abbrev mss_number : Result Reading PacketRefusal → ℕ
mss_number r = peer_size (observation_read r).mss

abbrev window_number : Result Reading PacketRefusal → ℕ
window_number r = (observation_read r).wsize

abbrev headers : Result Reading PacketRefusal → ℕ
headers r = (observation_read r).tot_hdr

abbrev service : Result Reading PacketRefusal → ℕ
service r = (observation_read r).tos

abbrev first_kind : Result Reading PacketRefusal → ℕ
first_kind r = byte_at (observation_read r).olayout.kinds 0

-- An answer that is another than packet A's.
not_exact
    : (p : List ℕ) (x : Found)
    → search_list (observation_read (read_packet p None)) example_list ≡ after 1 x
    → (found.Exact the_record ≡ x → ⊥)
    → AnsweredApart packet_a p
not_exact p x other differs same = differs (same_found _ _ _ _ (sym values.search.exact ∙ same ∙ other))

-- With another kind of option packet A does not fit.
other_kind : search_list (observation_read (read_packet (set packet_a 40 3) None)) example_list ≡ after 1 found.None
unfolding read_packet read_ip read_ipv4 ipv4_facts ipv4_quirks ipv4_option_length reading_of guess_of initial_of read_tcp flags_invalid
    masked_type is_syn_type observation_from observation_of quirks_of_headers header_quirks payload_class walk_of walk_from options_after
    asked runs_past put_entry entry_byte see_option later_mss later_scale later_quirks trailing_nonzero excessive_scaling
    own_timestamp_zero peer_timestamp_nonzero any_nonzero add_if with bit_of place_of empty from_quirks be16 be32 check_list list_fits
    records_from record_good layout_lies scalars_good version_good ttl_good presence_good window_good payload_good quirks_good entry_good
    entries_good all_below is_empty difference seventeen display_order search_list searched search_all search_over search_row found_at
    first_least least_from prefer numbers_from rank_at candidate_at found_of fit_at features_of window_multiplier own_timestamp_nonzero
    holds_kind contains holds digit multiplier_of first_multiple twelve divides signature_of version_of ttl_of mss_of scale_of window_of
    payload_of fit_of scalar_gates version_matches olen_matches mss_matches window_matches scale_matches payload_matches layout_matches
    entries_match tolerance_of ttl_fit quirks_fit masked_quirks mask_when_obs_v4 mask_when_obs_v6 fuzzy_deletable fuzzy_addable judge
    judge_in_range
other_kind = refl

pub not_free : NotFree
unfolding read_packet read_in read_ip read_ipv4 ipv4_facts ipv4_quirks ipv4_option_length read_ipv6 ipv6_facts ipv6_quirks
    ipv6_extension_length reading_of guess_of initial_of read_tcp flags_invalid masked_type is_syn_type is_syn_ack_type known_peer
    observation_from observation_of quirks_of_headers header_quirks payload_class walk_of walk_from options_after asked runs_past
    put_entry entry_byte see_option later_mss later_scale later_quirks trailing_nonzero excessive_scaling own_timestamp_zero
    peer_timestamp_nonzero any_nonzero add_if with bit_of place_of empty from_quirks be16 be32 refusal_of
not_free =
    record {
      apart = λ p q differs a. differs (read_alike plain_mode p q None a);
      ttl = not_exact (set packet_a 8 0x1c) _ values.search.fuzzy (λ e. let z : ◌≡◌ {A = ℕ} 0 1 = cc in omega arith);
      window = not_exact (set packet_a 34 0x17) _ values.search.none (λ e. let z : ◌≡◌ {A = ℕ} 0 1 = cc in omega arith);
      kind = not_exact (set packet_a 40 3) _ other_kind (λ e. let z : ◌≡◌ {A = ℕ} 0 1 = cc in omega arith);
      own_stamp = told_apart quirk_bits stamped (set stamped 47 0) refl;
      peer_stamp = told_apart quirk_bits stamped (set stamped 51 1) refl;
      version = told_apart refused packet_a (set packet_a 0 0x65) refl;
      ihl = told_apart refused packet_a (set packet_a 0 0x46) refl;
      service_high = told_apart service packet_a (set packet_a 1 4) refl;
      service_low = told_apart quirk_bits packet_a (set packet_a 1 1) refl;
      total_length = told_apart mss_number packet_a (set packet_a 3 0x2b) refl;
      total_length_high = told_apart refused no_length (set no_length 2 1) refl;
      identification = told_apart quirk_bits packet_a (set packet_a 5 1) refl;
      flags = told_apart quirk_bits packet_a (set packet_a 6 0) refl;
      fragment_offset = told_apart refused packet_a (set packet_a 7 1) refl;
      ttl_byte = told_apart ttl_byte packet_a (set packet_a 8 0x41) refl;
      protocol = told_apart refused packet_a (set packet_a 9 17) refl;
      sequence = told_apart quirk_bits packet_a (set packet_a 27 0) refl;
      acknowledgment = told_apart quirk_bits packet_a (set packet_a 31 1) refl;
      data_offset = told_apart headers packet_a (set packet_a 32 0x50) refl;
      control = told_apart quirk_bits packet_a (set packet_a 33 0x12) refl;
      window_high = told_apart window_number packet_a (set packet_a 34 0x17) refl;
      window_low = told_apart window_number packet_a (set packet_a 35 0xd1) refl;
      urgent_pointer = told_apart quirk_bits packet_a (set packet_a 39 1) refl;
      option_kind = told_apart first_kind packet_a (set packet_a 40 3) refl;
      option_length = told_apart mss_number packet_a (set packet_a 41 3) refl;
      option_high = told_apart mss_number packet_a (set packet_a 42 4) refl;
      option_low = told_apart mss_number packet_a (set packet_a 43 0xb5) refl;
      traffic_class_high = told_apart service over_ipv6 (set over_ipv6 0 0x61) refl;
      traffic_class = told_apart quirk_bits over_ipv6 (set over_ipv6 1 0x10) refl;
      flow_label = told_apart quirk_bits over_ipv6 (set over_ipv6 3 1) refl;
      payload_length = told_apart refused over_ipv6 (set over_ipv6 5 19) refl;
      payload_length_high = told_apart refused no_length_ipv6 (set no_length_ipv6 4 1) refl;
      next_header = told_apart refused over_ipv6 (set over_ipv6 6 17) refl;
      hop_limit = told_apart ttl_byte over_ipv6 (set over_ipv6 7 0x41) refl;
    }
