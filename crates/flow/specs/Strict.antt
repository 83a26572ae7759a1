-- The strict TCP stage (document 02, Wish 2: "TCP headers that contradict themselves"; Wish 5: options that are damaged).
use Rattle.std.specs.Prelude.{ℕ, ◌*◌, Bool, true, false, cond, ◌||◌, List, ltb, length, Option, None, Result, Ok, Err}
use Rattle.rfc.specs.Rfc9293 as tcp
use Rattle.observable.specs.declared.TcpObservation.{TcpObservation}
use Rattle.syn_options.specs.Stops.{damage, walked_of, walk_options}
use Rattle.ip.specs.declared.IpFacts.{IpFacts}
use Rattle.refusals.specs.declared.PacketRefusal.{PacketRefusal}
use Rattle.refusals.specs.declared.PacketRefusal.TheVariants as refusal
use Rattle.tcp_header.specs.Flags.{flags_invalid, is_syn_type, is_syn_ack_type}
use Rattle.flow.specs.declared.Kind.TheVariants as kind
use Rattle.flow.specs.declared.Reading.{Reading}
use Rattle.flow.specs.declared.Reading.TheVariants as reading
use Rattle.flow.specs.Tcp.{quirks_of_headers, observation_of, known_peer}

-- "data offset is under 5 or 4 x data offset exceeds the TCP part"
unfoldable pub contradicts_itself : List ℕ → Bool
contradicts_itself t = ltb (tcp.data_offset t) 5 || ltb (length t) (4 * tcp.data_offset t)

-- The observation of the strict entry. Its walk "stops before the first such option, shows `OptBad` and goes on with what it has": what
-- the walk says ends there; all else, payload class and `tot_hdr` among it, is by the header as in document 01.
unfoldable pub strict_observation : IpFacts → List ℕ → Bool → Option ℕ → TcpObservation
strict_observation f t syn peer =
    observation_of f t (walked_of (walk_options damage syn (quirks_of_headers t f.quirks) (tcp.options t))) peer

-- Document 01's TCP stage (`read_tcp`) with an observation of one's own in place of its `observation_from f t`.
unfoldable pub read_tcp_by : (Bool → Option ℕ → TcpObservation) → List ℕ → Option ℕ → Result Reading PacketRefusal
read_tcp_by observe t peer =
    cond (flags_invalid (tcp.control t))
    (Err (refusal.InvalidTcpFlags (tcp.control t)))
    (cond (is_syn_type (tcp.control t))
    (Ok (reading.Opening kind.Syn (observe true None)))
    (cond (is_syn_ack_type (tcp.control t))
    (Ok (reading.Opening kind.SynAck (observe false (known_peer peer))))
    (Ok reading.Nothing)))

-- "Refusals: 14, after 6 and before 7, exactly when" the header contradicts itself.
unfoldable pub read_tcp_strict : IpFacts → List ℕ → Option ℕ → Result Reading PacketRefusal
read_tcp_strict f t peer = cond (contradicts_itself t) (Err refusal.DataOffset) (read_tcp_by (strict_observation f t) t peer)
