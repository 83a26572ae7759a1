-- What a packet's refusal gives: nothing, but for 7 the flags byte; and which answer a packet gets that is not refused.
use Rattle.std.specs.Prelude.{Option, Result, Err}
use mathlib.Core.Path.{◌≡◌, refl, sym}
use mathlib.Core.Bool.{Bool, true, false, cond, ◌&&◌}
use mathlib.Core.List.{List}
use Prim.Native.Nat.{ℕ, ◌<◌}
use native.Mathlib.Omega.{arith}
use borrow.Author.Tests.{eqb-true, eqb-false}
use Rattle.rfc.specs.Rfc791 as v4
use Rattle.rfc.specs.Rfc9293 as tcp
use Rattle.observable.specs.declared.TcpObservation.{TcpObservation}
use Rattle.ip.specs.declared.IpFacts.{IpFacts}
use Rattle.refusals.specs.declared.PacketRefusal.{PacketRefusal}
use Rattle.refusals.specs.declared.PacketRefusal.TheVariants as refusal
use Rattle.refusals.specs.declared.Refusal.TheVariants as table
use Rattle.refusals.proofs.Back.{numbered}
use Rattle.ip.specs.Ip.{ipv4_facts, ipv6_facts}
use Rattle.ip.proofs.Ip.{Given, given}
use Rattle.flow.specs.declared.Reading.{Reading}
use Rattle.tcp_header.specs.Flags.{masked_type, flags_invalid, is_syn_type, is_syn_ack_type}
use Rattle.flow.specs.declared.Mode.{Mode}
use Rattle.flow.specs.Strict.{contradicts_itself, read_tcp_by}
use Rattle.flow.specs.Modes.{tcp_stage, observation_in, read_in}
use Rattle.flow.proofs.Stage.{stage_by}
use Rattle.flow.specs.Reading.{tcp_part, after_ip, refusal_of}
use Rattle.acceptance.specs.Refusals.{FlagsByte, Refused, Gives, Answered}

module _ (p : List ℕ) where
  -- A reading that is no refusal, or one with what it may give.
  data ReadingGives : Result Reading PacketRefusal → Type 0 where
    answered : {x : Result Reading PacketRefusal} → Answered p x → ReadingGives x
    refusing : {r : PacketRefusal} → Refused p r → ReadingGives (Err r)

  pick
      : (t : Bool) {a b : Result Reading PacketRefusal}
      → (t ≡ true → ReadingGives a)
      → (t ≡ false → ReadingGives b)
      → ReadingGives (cond t a b)
  pick true x y = x refl
  pick false x y = y refl

  tcp_gives
      : (observe : Bool → Option ℕ → TcpObservation) (f : IpFacts) (peer : Option ℕ)
      → FlagsByte p (tcp.control (tcp_part f p))
      → ReadingGives (read_tcp_by observe (tcp_part f p) peer)
  unfolding read_tcp_by is_syn_type is_syn_ack_type
  tcp_gives observe f peer byte =
      let flags = tcp.control (tcp_part f p) in
      pick (flags_invalid flags) (λ e. refusing (Refused.flags_byte byte)) (λ e.
      pick (is_syn_type flags) (λ e. answered (Answered.syn byte (eqb-true (masked_type flags) 2 e))) (λ other.
      pick (is_syn_ack_type flags) (λ e. answered (Answered.syn_ack byte (eqb-true (masked_type flags) 18 e))) (λ e.
      answered (Answered.neither byte (eqb-false (masked_type flags) 2 other) (eqb-false (masked_type flags) 18 e)))))

  -- 14 gives nothing.
  stage_gives
      : (mode : Mode) (f : IpFacts) (peer : Option ℕ)
      → FlagsByte p (tcp.control (tcp_part f p))
      → ReadingGives (tcp_stage mode f (tcp_part f p) peer)
  stage_gives mode f peer byte =
      rw (stage_by mode f (tcp_part f p) peer)
      (pick (mode.strict && contradicts_itself (tcp_part f p))
      (λ e. refusing (Refused.nothing_more {r = refusal.DataOffset} (λ seven. omega arith)))
      (λ e. tcp_gives (observation_in mode f (tcp_part f p)) f peer byte))

  after_gives
      : (mode : Mode) (peer : Option ℕ) {n : ℕ} {r : Result IpFacts PacketRefusal}
      → v4.version p ≡ n
      → Given p n r
      → ReadingGives (after_ip (tcp_stage mode) r p peer)
  unfolding ipv4_facts ipv6_facts
  after_gives mode peer v (Given.refused {r = r} small) = refusing (Refused.nothing_more {r = r} (λ seven. omega arith))
  after_gives mode peer v (Given.four long words) = stage_gives mode _ peer (FlagsByte.of4 v)
  after_gives mode peer v (Given.six long) = stage_gives mode _ peer (FlagsByte.of6 v)

  no_refusal : {x : Result Reading PacketRefusal} → Answered p x → refusal_of x ≡ 0
  unfolding refusal_of
  no_refusal (Answered.syn b e) = refl
  no_refusal (Answered.syn_ack b e) = refl
  no_refusal (Answered.neither b e g) = refl

  when_refused
      : (mode : Mode) (peer : Option ℕ) {x : Result Reading PacketRefusal}
      → ReadingGives x
      → x ≡ read_in mode p peer
      → 0 < refusal_of x
      → Gives mode p peer
  when_refused mode peer (answered a) same h = let none = no_refusal a in absurd (omega arith)
  when_refused mode peer (refusing {r} also) same h = record { why = r; reading = sym same; also = also }

  when_not : {x : Result Reading PacketRefusal} → ReadingGives x → refusal_of x ≡ 0 → Answered p x
  unfolding refusal_of
  when_not (answered a) e = a
  when_not (refusing {r} also) e = let some = (numbered (table.Packet r)).0 in absurd (omega arith)

pub packet_gives : (mode : Mode) (p : List ℕ) (peer : Option ℕ) → 0 < refusal_of (read_in mode p peer) → Gives mode p peer
unfolding read_in
packet_gives mode p peer h = when_refused p mode peer (after_gives p mode peer refl (given p)) refl h

pub packet_answers : (mode : Mode) (p : List ℕ) (peer : Option ℕ) → refusal_of (read_in mode p peer) ≡ 0
    → Answered p (read_in mode p peer)
unfolding read_in
packet_answers mode p peer e = when_not p (after_gives p mode peer refl (given p)) e
