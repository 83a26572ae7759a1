-- Alike TCP parts are read alike.
use Rattle.std.specs.Prelude.{Option, None}
use mathlib.Core.Path.{◌≡◌}
use mathlib.Core.Bool.{Bool, true, false}
use mathlib.Core.List.{List}
use Prim.Native.Nat.{ℕ}
use native.Mathlib.Omega.{arith}
use Rattle.quirks.specs.declared.QuirkSet.{QuirkSet}
use Rattle.rfc.specs.Rfc9293 as tcp
use Rattle.syn_options.specs.Walk.{Walked}
use Rattle.syn_options.specs.Stops.{walked_of, walk_options}
use Rattle.ip.specs.declared.IpFacts.{IpFacts}
use Rattle.flow.specs.Tcp.{quirks_of_headers, payload_class, observation_of, known_peer}
use Rattle.tcp_header.specs.HeaderQuirks.{header_quirks}
use Rattle.flow.specs.declared.Mode.{Mode}
use Rattle.flow.specs.Strict.{contradicts_itself, read_tcp_by}
use Rattle.flow.specs.Modes.{stop_of, tcp_stage, observation_in}
use Rattle.flow.proofs.Stage.{stage_by}
use Rattle.flow.proofs.Walks.{observed_walk}
use Rattle.alike.specs.Tcp.{AlikeTcp}
use Rattle.alike.specs.Stages.{KeepsTcp}
use Rattle.alike.proofs.Places.{be16_agree}
use Rattle.alike.proofs.Walks.{one_walk_alike}

module _ (f : IpFacts) (t u : List ℕ) (peer : Option ℕ) (a : AlikeTcp t u) where
  -- Both headers show the same quirks.
  quirks_alike : (q : QuirkSet) → quirks_of_headers t q ≡ quirks_of_headers u q
  unfolding quirks_of_headers header_quirks
  quirks_alike q = rw (a.control 13 (omega arith) (omega arith), a.sequence, a.acknowledgment, a.urgent_pointer)

  -- Window, header size and payload class are the same.
  rest_alike : (w : Walked) (peer : Option ℕ) → observation_of f t w peer ≡ observation_of f u w peer
  unfolding observation_of payload_class
  rest_alike w peer = rw (be16_agree 14 t u a.window, a.data_offset, a.same_length)

  -- In every mode the same is observed.
  observed_alike : (mode : Mode) (syn : Bool) (peer : Option ℕ) → observation_in mode f t syn peer ≡ observation_in mode f u syn peer
  observed_alike mode syn peer =
      rw (
        ← observed_walk mode f t syn peer,
        ← observed_walk mode f u syn peer,
        quirks_alike f.quirks,
        one_walk_alike (tcp.options t) (tcp.options u) a.options (stop_of mode) syn (quirks_of_headers u f.quirks),
      )
      (rest_alike (walked_of (walk_options (stop_of mode) syn (quirks_of_headers u f.quirks) (tcp.options u))) peer)

  -- Both contradict themselves or neither does.
  aside_alike : contradicts_itself t ≡ contradicts_itself u
  unfolding contradicts_itself
  aside_alike = rw (a.data_offset, a.same_length)

  stage_alike : (mode : Mode) → read_tcp_by (observation_in mode f t) t peer ≡ read_tcp_by (observation_in mode f u) u peer
  unfolding read_tcp_by
  stage_alike mode =
      rw (a.control 13 (omega arith) (omega arith), observed_alike mode true None, observed_alike mode false (known_peer peer))

-- Two alike TCP parts give one reading, for every byte string, whatever its bytes, in every mode.
pub tcp_alike : (mode : Mode) → KeepsTcp (tcp_stage mode)
tcp_alike mode f t u peer a =
    rw (stage_by mode f t peer, stage_by mode f u peer, aside_alike f t u peer a, stage_alike f t u peer a mode)
