-- The lines that a gateway in C or Rust gets (document 02, Wish 7): what the struct beside a line says is true of the line, in a buffer of
-- any size. What is answered and written is the promise of `gateway`, `raw_line`, `raw_line_in` and `record_parts`
-- (`gateway/specs/Lines.antt`). `GatewayLines` is the statement.
use Rattle.std.specs.Prelude.{◌≡◌, List, ℕ}
use Rattle.basis.specs.Bytes.{AllBytes}
use Rattle.flow.specs.declared.Mode.{Mode}
use Rattle.flow.specs.Modes.{plain_mode}
use Rattle.gateway.specs.Lines.{packet_line_in, raw_line, record_parts}
use Rattle.gateway.specs.LineTold.{LineTold}
use Rattle.alike.specs.Packets.{Alike}

pub record GatewayLines : Type 0 where
  -- "answer the length": `value` is all of it, of every packet in every mode and of every record; nothing is written beside another
  -- answer; a buffer of 432 or 434 bytes never meets 15; every other field is 0.
  pub packet_told
      : (mode : Mode) (p : List ℕ) (peer room : ℕ) → AllBytes p → LineTold 432 room (packet_line_in mode p peer room)
  pub record_told : (l : List ℕ) (i room : ℕ) → AllBytes l → LineTold 434 room (record_parts l i room)
  -- The function without a mode is the one of the plain mode.
  pub plain : (p : List ℕ) (peer room : ℕ) → raw_line p peer room ≡ packet_line_in plain_mode p peer room
  -- C3: packets that differ only in free bytes have the same line.
  pub alike
      : (mode : Mode) (p q : List ℕ) (peer room : ℕ) → Alike p q → packet_line_in mode p peer room ≡ packet_line_in mode q peer room
