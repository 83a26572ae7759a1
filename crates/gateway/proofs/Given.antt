-- The numbers that a packet's refusal gives fit their bytes: the flags of refusal 7 are a byte of the packet.
use Rattle.std.specs.Prelude.{Option, Result, Ok, Err}
use mathlib.Core.Bool.{Bool, true, false, cond, ◌&&◌}
use mathlib.Core.List.{List, [], ◌∷◌}
use Prim.Native.Nat.{ℕ, zero, suc, ◌+◌, ◌*◌, ◌-◌, ◌<◌}
use native.Mathlib.Omega.{arith}
use lib.ListN.{take, drop}
use lib.Seq.{get_or-drop}
use Rattle.basis.specs.Bytes.{byte_at, AllBytes, be16, part}
use Rattle.rfc.specs.Rfc9293.{control}
use Rattle.observable.specs.declared.TcpObservation.{TcpObservation}
use Rattle.ip.specs.declared.IpFacts.{IpFacts}
use Rattle.refusals.specs.declared.PacketRefusal.{PacketRefusal}
use Rattle.refusals.specs.declared.PacketRefusal.TheVariants as refusal
use Rattle.refusals.specs.Refusals.{packet_number, packet_value}
use Rattle.ip.proofs.Ip.{Given, given}
use Rattle.flow.specs.declared.Reading.{Reading}
use Rattle.tcp_header.specs.Flags.{flags_invalid, is_syn_type, is_syn_ack_type}
use Rattle.flow.specs.declared.Mode.{Mode}
use Rattle.flow.specs.Strict.{contradicts_itself, read_tcp_by}
use Rattle.flow.specs.Modes.{tcp_stage, observation_in, read_in}
use Rattle.flow.proofs.Stage.{stage_by}
use Rattle.flow.specs.Reading.{tcp_part, after_ip}

-- ---- byte strings

-- The first so many bytes of a string, and what is left after them.
take_bytes : (n : ℕ) (s : List ℕ) → AllBytes s → AllBytes (take n s)
take_bytes zero s h i = omega arith
take_bytes (suc n) [] h i = omega arith
take_bytes (suc n) (x ∷ xs) h zero = h zero
take_bytes (suc n) (x ∷ xs) h (suc i) = take_bytes n xs (λ j. h (suc j)) i

drop_bytes : (n : ℕ) (s : List ℕ) → AllBytes s → AllBytes (drop n s)
drop_bytes n s h i = rw (get_or-drop n s i 0) (h (n + i))

-- A part of a byte string is one.
pub part_bytes : (start end : ℕ) (s : List ℕ) → AllBytes s → AllBytes (part start end s)
part_bytes start end s h = take_bytes (end - start) (drop start s) (drop_bytes start s h)

-- A number of two bytes.
pub two_bytes : (s : List ℕ) (i : ℕ) → AllBytes s → be16 s i < 65536
unfolding be16
two_bytes s i h = pair (byte_at s i) (byte_at s (i + 1)) (h i) (h (i + 1))
  where
    pair : (a b : ℕ) → a < 256 → b < 256 → a * 256 + b < 65536
    pair a b ha hb = omega arith

-- ---- the IP stage

-- No refusal of the IP stage gives a number beside its own.
small_fits : (r : PacketRefusal) → packet_number r < 7 → packet_value r < 256
small_fits refusal.Version small = omega arith
small_fits refusal.TooShort small = omega arith
small_fits refusal.HeaderLength small = omega arith
small_fits refusal.UnsupportedProtocol small = omega arith
small_fits refusal.Fragment small = omega arith
small_fits refusal.TcpTooShort small = omega arith
small_fits (refusal.InvalidTcpFlags flags) small = absurd (omega arith)
small_fits refusal.DataOffset small = omega arith
small_fits refusal.ExtensionHeaders small = omega arith

-- ---- the TCP stage

-- Of the answers to a packet, only a refusal gives a number.
abbrev pub RefusedFits : Result Reading PacketRefusal → Type 0
RefusedFits (Ok r) = Unit {0}
RefusedFits (Err r) = packet_value r < 256

-- A reading's refusal, if it is one, fits.
record ReadingFits (r : Result Reading PacketRefusal) : Type 0 where
  reads : RefusedFits r

-- Whichever way a test goes.
either : (t : Bool) {x y : Result Reading PacketRefusal} → ReadingFits x → ReadingFits y → ReadingFits (cond t x y)
either true hx hy = hx
either false hx hy = hy

-- The flags of refusal 7 are a byte of the TCP part, whatever is observed.
flags_fit
    : (observe : Bool → Option ℕ → TcpObservation) (t : List ℕ) (peer : Option ℕ) → AllBytes t → ReadingFits (read_tcp_by observe t peer)
unfolding read_tcp_by
flags_fit observe t peer h =
    either (flags_invalid (control t)) (record { reads = h 13 })
    (either (is_syn_type (control t)) (record { reads = tt })
    (either (is_syn_ack_type (control t)) (record { reads = tt }) (record { reads = tt })))

-- Refusal 14 gives nothing.
tcp_fits : (mode : Mode) (f : IpFacts) (t : List ℕ) (peer : Option ℕ) → AllBytes t → ReadingFits (tcp_stage mode f t peer)
tcp_fits mode f t peer h =
    rw (stage_by mode f t peer)
    (either (mode.strict && contradicts_itself t) (record { reads = omega arith }) (flags_fit (observation_in mode f t) t peer h))

module _ (mode : Mode) (p : List ℕ) (peer : Option ℕ) (h : AllBytes p) where
  -- The TCP part is a part of the packet.
  of_part : (f : IpFacts) → ReadingFits (tcp_stage mode f (tcp_part f p) peer)
  of_part f = tcp_fits mode f (tcp_part f p) peer (part_bytes f.start f.end p h)

  after_ip_lem : {n : ℕ} {r : Result IpFacts PacketRefusal} → Given p n r → ReadingFits (after_ip (tcp_stage mode) r p peer)
  after_ip_lem (Given.refused {r = r} small) = record { reads = small_fits r small }
  after_ip_lem (Given.four long words) = of_part _
  after_ip_lem (Given.six long) = of_part _

  -- The refusal of a packet fits, in any mode.
  pub reading_fits : RefusedFits (read_in mode p peer)
  unfolding read_in
  reading_fits = (after_ip_lem (given p)).reads
