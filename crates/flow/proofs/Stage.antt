-- The TCP stage of a mode, by what the code tests.
use Rattle.std.specs.Prelude.{Option, None, Result, Ok, Err}
use mathlib.Core.Path.{◌≡◌, refl, sym, ◌∙◌, ap}
use mathlib.Core.Bool.{Bool, true, false, cond, ◌&&◌, ◌||◌}
use mathlib.Core.List.{List}
use Prim.Native.Nat.{ℕ, ◌*◌, ◌<◌, ◌≤◌}
use native.Mathlib.Omega.{arith}
use lib.Dec.{ltb, eqb}
use lib.ListN.{length}
use borrow.Author.Tests.{lt-ltb, le-ltb, ltb-true, ltb-false, ne_eqb}
use Rattle.rfc.specs.Rfc9293.{control, data_offset}
use Rattle.ip.specs.declared.IpFacts.{IpFacts}
use Rattle.ip.specs.Ip.{read_ip}
use Rattle.ip.proofs.Ip.{tcp_part_lies}
use Rattle.basis.proofs.Bytes.{part_length}
use Rattle.observable.specs.declared.TcpObservation.{TcpObservation}
use Rattle.refusals.specs.declared.PacketRefusal.{PacketRefusal}
use Rattle.refusals.specs.declared.PacketRefusal.TheVariants as refusal
use Rattle.flow.specs.declared.Kind.TheVariants as kind
use Rattle.flow.specs.declared.Mode.{Mode}
use Rattle.flow.specs.declared.Reading.{Reading}
use Rattle.flow.specs.declared.Reading.TheVariants as reading
use Rattle.tcp_header.specs.Flags.{masked_type, flags_invalid, is_syn_type, is_syn_ack_type}
use Rattle.flow.specs.Tcp.{read_tcp, known_peer, observation_from}
use Rattle.flow.specs.Strict.{contradicts_itself, strict_observation, read_tcp_by, read_tcp_strict}
use Rattle.flow.specs.Reading.{tcp_part}
use Rattle.flow.specs.Modes.{tcp_stage, observation_in, read_in}
use Rattle.tcp_header.proofs.Flags.{opening_valid}
use Rattle.flow.proofs.Opening.{neither_first, neither_second}

-- ---- the part

-- What the IP stage hands on holds a header.
pub part_long : (p : List ℕ) (f : IpFacts) → read_ip p ≡ Ok f → 20 ≤ length (tcp_part f p)
part_long p f e = let lies = tcp_part_lies p f e in rw (part_length _ _ _ lies.1) (omega arith)

-- ---- the mode's choice

-- The plain stage, and the stage of a mode, by what they observe.
pub plain_by : (f : IpFacts) (t : List ℕ) (peer : Option ℕ) → read_tcp f t peer ≡ read_tcp_by (observation_from f t) t peer
unfolding read_tcp read_tcp_by
plain_by f t peer = refl

pub stage_by
    : (mode : Mode) (f : IpFacts) (t : List ℕ) (peer : Option ℕ)
    → tcp_stage mode f t peer
    ≡ cond (mode.strict && contradicts_itself t) (Err refusal.DataOffset) (read_tcp_by (observation_in mode f t) t peer)
unfolding read_tcp_strict observation_in
stage_by mode f t peer = rw (plain_by f t peer) (by_tests mode.strict (contradicts_itself t))
  where
    by_tests
        : (strict aside : Bool)
        → cond strict (cond aside (Err refusal.DataOffset) (read_tcp_by (strict_observation f t) t peer))
        (read_tcp_by (observation_from f t) t peer)
        ≡ cond (strict && aside) (Err refusal.DataOffset)
        (read_tcp_by (λ (syn : Bool) (m : Option ℕ). cond strict (strict_observation f t syn m) (observation_from f t syn m)) t peer)
    by_tests true true = refl
    by_tests true false = refl
    by_tests false aside = refl

-- Five words are twenty bytes.
in_words : (n : ℕ) → ltb (4 * n) 20 ≡ ltb n 5
in_words n = by_test (ltb n 5) refl
  where
    by_test : (t : Bool) → ltb n 5 ≡ t → ltb (4 * n) 20 ≡ t
    by_test true e = let few = ltb-true n 5 e in lt-ltb (4 * n) 20 (omega arith)
    by_test false e = let many = ltb-false n 5 e in le-ltb (4 * n) 20 (omega arith)

module _
    (mode : Mode) (p : List ℕ) (f : IpFacts) (peer : Option ℕ) (header : ℕ)
    (handed : read_ip p ≡ Ok f) (says : header ≡ 4 * data_offset (tcp_part f p))
  where
    -- What the code tests of a header of so many bytes.
    abbrev is_aside : Bool
    is_aside = mode.strict && (ltb header 20 || ltb (length (tcp_part f p)) header)

    by_mode : read_in mode p peer
        ≡ cond is_aside (Err refusal.DataOffset) (read_tcp_by (observation_in mode f (tcp_part f p)) (tcp_part f p) peer)
    unfolding read_in contradicts_itself
    by_mode = rw (handed, says, in_words (data_offset (tcp_part f p))) (stage_by mode f (tcp_part f p) peer)

    pub refused_14 : is_aside ≡ true → read_in mode p peer ≡ Err refusal.DataOffset
    refused_14 aside = rw (by_mode, aside)

    pub read_on : is_aside ≡ false → read_in mode p peer ≡ read_tcp_by (observation_in mode f (tcp_part f p)) (tcp_part f p) peer
    read_on kept = rw (by_mode, kept)

-- ---- what is read on

module _ (observe : Bool → Option ℕ → TcpObservation) (t : List ℕ) (peer : Option ℕ) where
  abbrev is_syn : Bool
  is_syn = eqb (masked_type (control t)) 2

  abbrev is_syn_ack : Bool
  is_syn_ack = eqb (masked_type (control t)) 18

  pub syn_read
      : control t < 256
      → masked_type (control t) ≡ 2
      → Ok (reading.Opening kind.Syn (observe true None)) ≡ read_tcp_by observe t peer
  unfolding read_tcp_by is_syn_type
  syn_read byte syn = rw (opening_valid (control t) byte (rw syn refl), syn)

  pub syn_ack_read
      : control t < 256
      → (masked_type (control t) ≡ 2 → ⊥)
      → is_syn || is_syn_ack ≡ true
      → Ok (reading.Opening kind.SynAck (observe false (known_peer peer))) ≡ read_tcp_by observe t peer
  unfolding read_tcp_by is_syn_type is_syn_ack_type
  syn_ack_read byte no-syn one =
      let none = ne_eqb (masked_type (control t)) 2 no-syn in
      rw (opening_valid (control t) byte one, none, ap (λ (b : Bool). b || is_syn_ack) (sym none) ∙ one)

  pub nothing_read
      : flags_invalid (control t) ≡ false
      → is_syn || is_syn_ack ≡ false
      → ◌≡◌ {A = Result Reading PacketRefusal} (Ok reading.Nothing) (read_tcp_by observe t peer)
  unfolding read_tcp_by is_syn_type is_syn_ack_type
  nothing_read sound neither = rw (sound, neither_first is_syn is_syn_ack neither, neither_second is_syn is_syn_ack neither)

  pub refused_7 : flags_invalid (control t) ≡ true → Err (refusal.InvalidTcpFlags (control t)) ≡ read_tcp_by observe t peer
  unfolding read_tcp_by
  refused_7 bad = rw bad
