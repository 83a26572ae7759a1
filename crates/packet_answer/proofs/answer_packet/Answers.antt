-- `packet_answer::answer_packet` meets its contract.
use Rattle.flow.specs.Reading.{read_packet}
use Rattle.flow.specs.Modes.{read_in}
use Rattle.packet_answer.specs.Packet.{answer_of, answer_in}
use Rattle.packet_answer.proofs.answer_packet.Goals as goal

pub returns : goal.returns
unfolding answer_of answer_in read_packet read_in
returns c = c.answer_packet_in.ensures
