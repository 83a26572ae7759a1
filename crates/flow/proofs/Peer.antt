-- Reading with a peer is reading without, with the peer put in; and what follows of the readings that take none.
use Rattle.std.specs.Prelude.{Option, Some, None, Result, Ok, Err}
use mathlib.Core.Path.{◌≡◌, refl, sym, ◌∙◌, ap}
use mathlib.Core.Bool.{Bool, true, false, cond, ◌&&◌}
use mathlib.Core.List.{List}
use Prim.Native.Nat.{ℕ}
use Rattle.rfc.specs.Rfc9293.{control}
use Rattle.observable.specs.declared.TcpObservation.{TcpObservation}
use Rattle.observable.specs.Observation.{empty_observation}
use Rattle.flow.specs.declared.Kind.TheVariants as kind
use Rattle.ip.specs.declared.IpFacts.{IpFacts}
use Rattle.refusals.specs.declared.PacketRefusal.{PacketRefusal}
use Rattle.ip.specs.Ip.{IpStage, read_ip}
use Rattle.flow.specs.declared.Mode.{Mode}
use Rattle.flow.specs.declared.Reading.{Reading}
use Rattle.flow.specs.declared.Reading.TheVariants as reading
use Rattle.tcp_header.specs.Flags.{flags_invalid, is_syn_type, is_syn_ack_type}
use Rattle.flow.specs.Tcp.{observation_of, observation_from, known_peer}
use Rattle.flow.specs.Reading.{TcpStage, tcp_part, after_ip, read_by, read_packet, kind_read, observation_read}
use Rattle.flow.specs.Strict.{contradicts_itself, strict_observation, read_tcp_by}
use Rattle.flow.specs.Modes.{plain_mode, tcp_stage, observation_in, read_in}
use Rattle.flow.specs.Peer.{peer_beside, put_peer, with_peer, TakesPeer}
use Rattle.flow.proofs.Stage.{stage_by}

-- Whichever way the three tests of the TCP stage go.
by_tests
    : (peer : Option ℕ) (bad syn ack : Bool) (a b c d e : Result Reading PacketRefusal)
    → a ≡ with_peer peer a
    → b ≡ with_peer peer b
    → c ≡ with_peer peer d
    → e ≡ with_peer peer e
    → cond bad a (cond syn b (cond ack c e)) ≡ with_peer peer (cond bad a (cond syn b (cond ack d e)))
by_tests peer true syn ack a b c d e w x y z = w
by_tests peer false true ack a b c d e w x y z = x
by_tests peer false false true a b c d e w x y z = y
by_tests peer false false false a b c d e w x y z = z

-- A way to observe that puts the peer's MSS into the observation and uses it for nothing else.
abbrev PutsPeer : (Bool → Option ℕ → TcpObservation) → Type 0
PutsPeer observe = (syn : Bool) (peer other : Option ℕ) → observe syn peer ≡ put_peer peer (observe syn other)

by_peer : (observe : Bool → Option ℕ → TcpObservation) (t : List ℕ) (peer : Option ℕ) → PutsPeer observe
    → read_tcp_by observe t peer ≡ with_peer peer (read_tcp_by observe t None)
unfolding read_tcp_by with_peer peer_beside empty_observation
by_peer observe t peer puts =
    by_tests peer (flags_invalid (control t)) (is_syn_type (control t)) (is_syn_ack_type (control t)) _ _ _ _ _ refl
    (ap (λ (o : TcpObservation). Ok (reading.Opening kind.Syn o)) (puts true None None))
    (ap (λ (o : TcpObservation). Ok (reading.Opening kind.SynAck o)) (puts false (known_peer peer) (known_peer None)))
    refl

puts_peer : (mode : Mode) (f : IpFacts) (t : List ℕ) → PutsPeer (observation_in mode f t)
unfolding observation_in strict_observation observation_from observation_of
puts_peer mode f t syn peer other = by_strict mode.strict
  where
    by_strict
        : (strict : Bool)
        → cond strict (strict_observation f t syn peer) (observation_from f t syn peer)
        ≡ put_peer peer (cond strict (strict_observation f t syn other) (observation_from f t syn other))
    by_strict true = refl
    by_strict false = refl

-- Whether the header is set aside or not, in any mode.
in_mode
    : (peer : Option ℕ) (aside : Bool) (a b c : Result Reading PacketRefusal)
    → a ≡ with_peer peer a
    → b ≡ with_peer peer c
    → cond aside a b ≡ with_peer peer (cond aside a c)
in_mode peer true a b c x y = x
in_mode peer false a b c x y = y

pub takes_peer_in : (mode : Mode) → TakesPeer (tcp_stage mode)
unfolding with_peer peer_beside empty_observation
takes_peer_in mode f t peer =
    rw (stage_by mode f t peer, stage_by mode f t None)
    (in_mode peer (mode.strict && contradicts_itself t) _ _ _ refl (by_peer (observation_in mode f t) t peer (puts_peer mode f t)))

module _ (stage : IpStage) (tcp : TcpStage) (takes : TakesPeer tcp) where
  after_ip_lem
      : (r : Result IpFacts PacketRefusal) (p : List ℕ) (peer : Option ℕ)
      → after_ip tcp r p peer ≡ with_peer peer (after_ip tcp r p None)
  unfolding with_peer peer_beside empty_observation
  after_ip_lem (Err r) p peer = refl
  after_ip_lem (Ok f) p peer = takes f (tcp_part f p) peer

  -- For any two stages.
  pub by_stages : (p : List ℕ) (peer : Option ℕ) → read_by stage tcp p peer ≡ with_peer peer (read_by stage tcp p None)
  by_stages p peer = after_ip_lem (stage p) p peer

pub with_peer_in : (mode : Mode) (p : List ℕ) (peer : Option ℕ) → read_in mode p peer ≡ with_peer peer (read_in mode p None)
unfolding read_in
with_peer_in mode = by_stages read_ip (tcp_stage mode) (takes_peer_in mode)

pub with_peer_lem : (p : List ℕ) (peer : Option ℕ) → read_packet p peer ≡ with_peer peer (read_packet p None)
unfolding read_packet read_in
with_peer_lem = with_peer_in plain_mode

-- What stands in an observation is what its kind takes, and the peer changes no kind.
beside
    : (peer : Option ℕ) (r : Result Reading PacketRefusal)
    → (observation_read (with_peer peer r)).peer_mss ≡ peer_beside (kind_read (with_peer peer r)) peer
unfolding with_peer peer_beside empty_observation
beside peer (Ok (reading.Opening k o)) = refl
beside peer (Ok reading.Nothing) = refl
beside peer (Err r) = refl

kept : (peer : Option ℕ) (r : Result Reading PacketRefusal) → kind_read (with_peer peer r) ≡ kind_read r
unfolding with_peer
kept peer (Ok (reading.Opening k o)) = refl
kept peer (Ok reading.Nothing) = refl
kept peer (Err r) = refl

no_synack
    : (peer other : Option ℕ) (r : Result Reading PacketRefusal)
    → (kind_read r ≡ Ok (Some kind.SynAck) → ⊥)
    → with_peer peer r ≡ with_peer other r
unfolding with_peer peer_beside
no_synack peer other (Ok (reading.Opening kind.Syn o)) h = refl
no_synack peer other (Ok (reading.Opening kind.SynAck o)) h = absurd (h refl)
no_synack peer other (Ok reading.Nothing) h = refl
no_synack peer other (Err r) h = refl

module _ (p : List ℕ) (peer : Option ℕ) where
  -- What stands in the observation is what the kind takes.
  pub peer_beside_lem : (observation_read (read_packet p peer)).peer_mss ≡ peer_beside (kind_read (read_packet p peer)) peer
  peer_beside_lem = rw (with_peer_lem p peer) (beside peer (read_packet p None))

  -- A reading that is no SYN+ACK is the same whatever the peer's MSS.
  pub peer_only_synack
      : (other : Option ℕ) → (kind_read (read_packet p peer) ≡ Ok (Some kind.SynAck) → ⊥) → read_packet p peer ≡ read_packet p other
  peer_only_synack other no-synack =
      with_peer_lem p peer
      ∙ no_synack peer other (read_packet p None)
      (λ e. no-synack (ap kind_read (with_peer_lem p peer) ∙ kept peer (read_packet p None) ∙ e))
      ∙ sym (with_peer_lem p other)
