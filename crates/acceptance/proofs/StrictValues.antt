-- The values of the strict mode, computed.
use mathlib.Core.Path.{refl}
use Rattle.basis.specs.Bytes.{be16, be32, any_nonzero}
use Rattle.quirks.specs.Quirks.{place_of, bit_of, with, add_if}
use Rattle.quirks.specs.Named.{empty, from_quirks}
use Rattle.one_option.specs.Options.{asked, runs_past, short_length, options_after}
use Rattle.one_option.specs.See.{later_mss, later_scale, trailing_nonzero, excessive_scaling, own_timestamp_zero, peer_timestamp_nonzero}
use Rattle.one_option.specs.See.{later_quirks, see_option}
use Rattle.syn_options.specs.Walk.{entry_byte, put_entry, walk_from, walk_of}
use Rattle.syn_options.specs.Places.{first_from}
use Rattle.syn_options.specs.Stops.{stops_before, walk_up_to, came_to, walk_to, walk_options}
use Rattle.ip.specs.Ip.{ipv4_facts, ipv4_quirks, read_ipv4, ipv6_facts, ipv6_quirks, read_ipv6, read_ip}
use Rattle.tcp_header.specs.Flags.{masked_type, flags_invalid, is_syn_type, is_syn_ack_type}
use Rattle.tcp_header.specs.HeaderQuirks.{header_quirks}
use Rattle.flow.specs.Tcp.{quirks_of_headers, observation_of, observation_from, read_tcp}
use Rattle.flow.specs.Strict.{contradicts_itself, strict_observation, read_tcp_by, read_tcp_strict}
use Rattle.flow.specs.Modes.{read_in}
use Rattle.flow.specs.Reading.{read_packet, refusal_of}
use Rattle.acceptance.specs.Modes.{StrictValues, DamageValues}

pub strict_values : StrictValues
unfolding read_packet read_in read_ip read_ipv4 ipv4_facts ipv4_quirks read_ipv6 ipv6_facts ipv6_quirks read_tcp read_tcp_by
    read_tcp_strict contradicts_itself flags_invalid masked_type is_syn_type is_syn_ack_type strict_observation observation_from
    observation_of quirks_of_headers header_quirks walk_options walk_to walk_up_to walk_of walk_from put_entry entry_byte see_option
    later_mss later_scale later_quirks trailing_nonzero excessive_scaling own_timestamp_zero peer_timestamp_nonzero add_if with bit_of
    place_of options_after asked runs_past short_length stops_before first_from came_to empty from_quirks be16 be32 any_nonzero refusal_of
strict_values =
    record {
      offset_4 = refl;
      offset_5 = refl;
      as_long = refl;
      word_longer = refl;
      six_word_longer = refl;
      behind_length = refl;
      cut = refl;
      cut_plain = refl;
      an_ack = refl;
      an_ack_plain = refl;
      no_flag = refl;
      no_flag_plain = refl;
      short_part = refl;
    }

pub damage_values : DamageValues
unfolding read_packet read_in read_ip read_ipv4 ipv4_facts ipv4_quirks read_tcp read_tcp_by read_tcp_strict contradicts_itself
    flags_invalid masked_type is_syn_type is_syn_ack_type strict_observation observation_from observation_of quirks_of_headers
    header_quirks walk_options walk_to walk_up_to walk_of walk_from put_entry entry_byte see_option later_mss later_scale later_quirks
    trailing_nonzero excessive_scaling own_timestamp_zero peer_timestamp_nonzero add_if with bit_of place_of options_after asked runs_past
    short_length stops_before first_from came_to empty from_quirks be16 be32 any_nonzero
damage_values =
    record {
      length_0 = refl;
      length_0_bits = refl;
      past_the_end = refl;
      before_it = refl;
      no_end = refl;
      no_end_plain = refl;
      behind_end = refl;
      an_ack = refl;
    }
