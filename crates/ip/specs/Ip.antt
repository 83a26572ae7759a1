-- The IP stage: from a packet to the facts of its IP header and the place of its TCP part, or a refusal 1 to 6.
use Rattle.std.specs.Prelude.{ℕ, ◌*◌, ◌/◌, ◌%◌, cond, not, ◌&&◌, ◌||◌, List, eqb, ltb, length, Result, Ok, Err}
use Rattle.basis.specs.Bytes.{part}
use Rattle.quirks.specs.declared.Quirk.TheVariants as quirk
use Rattle.quirks.specs.declared.QuirkSet.{QuirkSet}
use Rattle.quirks.specs.Quirks.{add_if}
use Rattle.quirks.specs.Named.{empty}
use Rattle.rfc.specs.Rfc791 as v4
use Rattle.rfc.specs.Rfc8200 as v6
use Rattle.tcp.specs.declared.IpVersion.TheVariants as version
use Rattle.ttl.specs.Ttl.{reading_of}
use Rattle.ip_options.specs.IpOptions.{ipv4_option_length, ipv6_extension_length}
use Rattle.ip.specs.declared.IpFacts.{IpFacts}
use Rattle.refusals.specs.declared.PacketRefusal.{PacketRefusal}
use Rattle.refusals.specs.declared.PacketRefusal.TheVariants as refusal
use Rattle.refusals.specs.Refusals.{Verdict, packet_refused}

-- ---- IPv4

-- The quirks of an IPv4 header (document 01, module 6; flow.rs), by its ECN bits, its reserved flag, Don't Fragment and its identification:
-- ecn; 0+ (a must-be-zero bit is set); df; id+ (df, and an identification); id- (neither).
unfoldable pub ipv4_quirks : ℕ → ℕ → ℕ → ℕ → QuirkSet
ipv4_quirks ecn reserved df identification =
    add_if (eqb df 0 && eqb identification 0) quirk.ZeroID
    (add_if (eqb df 1 && not (eqb identification 0)) quirk.NonZeroID
    (add_if (eqb df 1) quirk.Df
    (add_if (eqb reserved 1) quirk.MustBeZero
    (add_if (not (eqb ecn 0)) quirk.Ecn
    empty))))

-- The facts of an IPv4 header, with the start and the end of the TCP part.
unfoldable pub ipv4_facts : List ℕ → ℕ → ℕ → IpFacts
ipv4_facts p start end =
    record {
      version = version.V4;
      ittl = reading_of (v4.ttl p);
      tos = v4.dscp p;
      olen = ipv4_option_length p;
      header_bytes = 4 * v4.ihl p;
      quirks = ipv4_quirks (v4.ecn p) (v4.reserved_flag p) (v4.dont_fragment p) (v4.identification p);
      start = start;
      end = end;
    }

-- Refusals 2 to 6 for IPv4, in their order.
unfoldable pub read_ipv4 : List ℕ → Result IpFacts PacketRefusal
read_ipv4 p =
    cond (ltb (length p) 20) (Err refusal.TooShort)
    (cond (ltb (v4.ihl p) 5) (Err refusal.HeaderLength)
    (cond (not (eqb (v4.protocol p) 6)) (Err refusal.UnsupportedProtocol)
    (cond (ltb 0 (v4.fragment_offset p) || eqb (v4.more_fragments p) 1) (Err refusal.Fragment)
    (cond (ltb (length (part (v4.data_start p) (v4.data_end p) p)) 20) (Err refusal.TcpTooShort)
    (Ok (ipv4_facts p (v4.data_start p) (v4.data_end p)))))))

-- ---- IPv6

-- The quirks of an IPv6 header (the same), by its flow label and the ECN bits of its traffic class.
unfoldable pub ipv6_quirks : ℕ → ℕ → QuirkSet
ipv6_quirks flow_label ecn = add_if (not (eqb ecn 0)) quirk.Ecn (add_if (not (eqb flow_label 0)) quirk.FlowID empty)

-- The facts of an IPv6 header, with the end of the TCP part, which starts after its forty bytes.
unfoldable pub ipv6_facts : List ℕ → ℕ → IpFacts
ipv6_facts p end =
    record {
      version = version.V6;
      ittl = reading_of (v6.hop_limit p);
      tos = v6.traffic_class p / 4;
      olen = ipv6_extension_length p;
      header_bytes = 40;
      quirks = ipv6_quirks (v6.flow_label p) (v6.traffic_class p % 4);
      start = 40;
      end = end;
    }

-- Refusals 2, 4 and 6 for IPv6, in their order.
unfoldable pub read_ipv6 : List ℕ → Result IpFacts PacketRefusal
read_ipv6 p =
    cond (ltb (length p) 40) (Err refusal.TooShort)
    (cond (not (eqb (v6.next_header p) 6)) (Err refusal.UnsupportedProtocol)
    (cond (ltb (length (v6.payload p)) 20) (Err refusal.TcpTooShort)
    (Ok (ipv6_facts p (v6.payload_end p)))))

-- ---- either

-- An IP stage gives the facts of a packet's IP header and the place of its TCP part, or a refusal.
abbrev pub IpStage : Type 0
IpStage = List ℕ → Result IpFacts PacketRefusal

-- Refusal 1: "packet empty, or top nibble of byte 0 not 4 or 6"; else the stage of the packet's version.
abbrev pub by_version : IpStage → IpStage → IpStage
by_version four six p =
    cond (eqb (length p) 0) (Err refusal.Version)
    (cond (eqb (v4.version p) 4) (four p)
    (cond (eqb (v4.version p) 6) (six p)
    (Err refusal.Version)))

unfoldable pub read_ip : List ℕ → Result IpFacts PacketRefusal
read_ip p = by_version read_ipv4 read_ipv6 p

-- Which refusal of the table the answer is, if any.
abbrev pub ip_verdict : Result IpFacts PacketRefusal → Verdict
ip_verdict (Err r) = packet_refused r
ip_verdict (Ok f) = Verdict.accepted
