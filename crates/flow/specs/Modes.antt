-- A mode says which two stages read a packet: the field `strict` chooses the TCP stage; the IP stage is document 01's in every mode.
use Rattle.std.specs.Prelude.{ℕ, ◌%◌, Bool, true, false, cond, List, eqb, Option, Result}
use Rattle.ip.specs.Ip.{read_ip}
use Rattle.flow.specs.declared.Mode.{Mode}
use Rattle.flow.specs.declared.Reading.{Reading}
use Rattle.observable.specs.declared.TcpObservation.{TcpObservation}
use Rattle.syn_options.specs.declared.StopBefore.{StopBefore}
use Rattle.ip.specs.declared.IpFacts.{IpFacts}
use Rattle.refusals.specs.declared.PacketRefusal.{PacketRefusal}
use Rattle.flow.specs.Tcp.{observation_from, read_tcp}
use Rattle.flow.specs.Strict.{strict_observation, read_tcp_strict}
use Rattle.flow.specs.Reading.{TcpStage, read_by}

-- "a strict entry beside the present one" (document 02, Wish 2).
abbrev pub tcp_stage : Mode → TcpStage
tcp_stage mode f t peer = cond mode.strict (read_tcp_strict f t peer) (read_tcp f t peer)

-- What a mode observes of a SYN or SYN+ACK, and the options that its walk stops before (document 02, Wish 5): all damaged ones, or none.
unfoldable pub observation_in : Mode → IpFacts → List ℕ → Bool → Option ℕ → TcpObservation
observation_in mode f t syn peer = cond mode.strict (strict_observation f t syn peer) (observation_from f t syn peer)

abbrev pub stop_of : Mode → StopBefore
stop_of mode = record { past = mode.strict; short = mode.strict }

-- The reader of a mode.
unfoldable pub read_in : Mode → List ℕ → Option ℕ → Result Reading PacketRefusal
read_in mode p peer = read_by read_ip (tcp_stage mode) p peer

-- The present entry, and the strict one.
abbrev pub plain_mode : Mode
plain_mode = record { strict = false }

abbrev pub strict_mode : Mode
strict_mode = record { strict = true }

-- A mode as one number: bit 0 is strict; the other bits mean nothing, so that every number is a mode.
abbrev pub mode_of : ℕ → Mode
mode_of bits = record { strict = eqb (bits % 2) 1 }
