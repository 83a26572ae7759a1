-- Document 01's reader, and what is answered by it, are those of the plain mode.
use Rattle.std.specs.Prelude.{Option}
use mathlib.Core.Path.{◌≡◌, refl}
use mathlib.Core.List.{List}
use Prim.Native.Nat.{ℕ}
use Rattle.flow.specs.Modes.{plain_mode, read_in}
use Rattle.flow.specs.Reading.{read_packet}
use Rattle.packet_answer.specs.Packet.{answer_of, answer_in}
use Rattle.gateway.specs.Parts.{gateway_answer, gateway_in}
use Rattle.gateway.specs.Lines.{packet_line_in, raw_line}

pub plain_answer : (p : List ℕ) (peer : Option ℕ) (l : List ℕ) → answer_in plain_mode p peer l ≡ answer_of p peer l
unfolding answer_in answer_of read_in read_packet
plain_answer p peer l = refl

pub plain_gateway : (p : List ℕ) (peer : ℕ) (l : List ℕ) → gateway_in plain_mode p peer l ≡ gateway_answer p peer l
unfolding gateway_in gateway_answer answer_in answer_of read_in read_packet
plain_gateway p peer l = refl

pub plain_line : (p : List ℕ) (peer room : ℕ) → packet_line_in plain_mode p peer room ≡ raw_line p peer room
unfolding packet_line_in raw_line read_in read_packet
plain_line p peer room = refl
