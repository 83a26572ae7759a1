-- Signatures as text: each theorem in its place.
use Rattle.signature_line.specs.LineReader.{read_line}
use Rattle.signature_line.proofs.Accepted.{accepted, one_meaning, refused_exactly, nothing_beside}
use Rattle.written_line.proofs.EveryRecord.{every_record}
use Rattle.signature_line.proofs.WellFormed.{well_formed}
use Rattle.acceptance.specs.TextLines.{TextLines}
use Rattle.signature_line.proofs.LineValues.{line_values}

pub text_lines_lem : TextLines
text_lines_lem =
    record {
      accepted = accepted;
      one_meaning = one_meaning;
      well_formed = well_formed;
      every_record = every_record;
      refused = refused_exactly;
      refusal_gives = λ s. nothing_beside (read_line s);
      values = line_values;
    }
