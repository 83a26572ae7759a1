use Rattle.text.proofs.Writing.{both}
use Rattle.packet_line.specs.PacketLine.{packet_line}
use Rattle.packet_line.proofs.put_packet.Goals as goal

-- The answer's words, a blank, what was seen and the line's end, one behind the other.
pub returns : goal.returns
unfolding packet_line
returns c =
    both _ _ _ _ _ _ _ _ c.put_answer-blank.ensures
    (both _ _ _ _ _ _ _ _ c.put_byte-next.ensures (both _ _ _ _ _ _ _ _ c.put_raw-behind.ensures c.put_byte.ensures))
