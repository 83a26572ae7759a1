-- The TCP stage: from the facts of the IP header, the TCP part and the peer's MSS to an observation, "nothing", or refusal 7.
use Rattle.std.specs.Prelude.{ℕ, ◌+◌, ◌*◌, min, Bool, true, false, cond, List, eqb, Option, Some, None, Result, Ok, Err}
use Rattle.quirks.specs.declared.QuirkSet.{QuirkSet}
use Rattle.rfc.specs.Rfc9293 as tcp
use Rattle.tcp.specs.declared.PayloadSize.{PayloadSize}
use Rattle.tcp.specs.declared.PayloadSize.TheVariants as payload
use Rattle.observable.specs.declared.TcpObservation.{TcpObservation}
use Rattle.syn_options.specs.Walk.{Walked, walk_of}
use Rattle.ip.specs.declared.IpFacts.{IpFacts}
use Rattle.flow.specs.declared.Kind.TheVariants as kind
use Rattle.flow.specs.declared.Reading.{Reading}
use Rattle.flow.specs.declared.Reading.TheVariants as reading
use Rattle.refusals.specs.declared.PacketRefusal.{PacketRefusal}
use Rattle.refusals.specs.declared.PacketRefusal.TheVariants as refusal
use Rattle.tcp_header.specs.Flags.{flags_invalid, is_syn_type, is_syn_ack_type}
use Rattle.tcp_header.specs.HeaderQuirks.{header_quirks}

-- The quirks that both headers of a packet show.
unfoldable pub quirks_of_headers : List ℕ → QuirkSet → QuirkSet
quirks_of_headers t q = header_quirks (tcp.control t) (tcp.sequence t) (tcp.acknowledgment t) (tcp.urgent_pointer t) q

-- "its class says only whether it is empty"
unfoldable pub payload_class : List ℕ → PayloadSize
payload_class t = cond (eqb (tcp.payload_size t) 0) payload.Zero payload.NonZero

-- The observation: the IP facts, the walk over the options, the window, and the peer's MSS.
unfoldable pub observation_of : IpFacts → List ℕ → Walked → Option ℕ → TcpObservation
observation_of f t w peer =
    record {
      version = f.version;
      ittl = f.ittl;
      olen = f.olen;
      mss = w.seen.mss;
      wsize = tcp.window t;
      tot_hdr = min (f.header_bytes + 4 * tcp.data_offset t) 65535;
      wscale = w.seen.wscale;
      olayout = w.olayout;
      quirks = w.seen.quirks;
      pclass = payload_class t;
      peer_mss = peer;
      tos = f.tos;
    }

-- The walk goes on after clipping (`stop` is false); only a SYN shows the peer's timestamp.
unfoldable pub observation_from : IpFacts → List ℕ → Bool → Option ℕ → TcpObservation
observation_from f t syn peer = observation_of f t (walk_of false syn (quirks_of_headers t f.quirks) (tcp.options t)) peer

-- "A zero peer MSS counts as absent."
unfoldable pub known_peer : Option ℕ → Option ℕ
known_peer None = None
known_peer (Some n) = cond (eqb n 0) None (Some n)

-- "only a SYN+ACK's observation takes [the peer's MSS]; a SYN's has none"
unfoldable pub read_tcp : IpFacts → List ℕ → Option ℕ → Result Reading PacketRefusal
read_tcp f t peer =
    cond (flags_invalid (tcp.control t))
    (Err (refusal.InvalidTcpFlags (tcp.control t)))
    (cond (is_syn_type (tcp.control t))
    (Ok (reading.Opening kind.Syn (observation_from f t true None)))
    (cond (is_syn_ack_type (tcp.control t))
    (Ok (reading.Opening kind.SynAck (observation_from f t false (known_peer peer))))
    (Ok reading.Nothing)))
