-- What is read of a signature line, as a struct of numbers.
use Rattle.std.specs.Prelude.{ℕ, List, replicate, Result, Ok, Err}
use Rattle.refusals.specs.declared.Refusal.TheVariants as refusal
use Rattle.refusals.specs.Refusals.{number}
use Rattle.signature_line.specs.declared.BadLine.{BadLine}
use Rattle.signature_line.specs.declared.SignatureRead.{SignatureRead}
use Rattle.signature_line.specs.LineReader.{read_line}
use Rattle.witness.specs.declared.PlainLine.{PlainLine}

-- Beside a refusal and its offset all else is 0.
unfoldable pub plain_line : Result SignatureRead BadLine → PlainLine
plain_line (Ok r) =
    record {
      count = r.layout.count;
      offset = 0;
      refusal = 0;
      raw = r.raw;
      kinds = r.layout.kinds;
      bytes = r.layout.bytes;
    }
plain_line (Err bad) =
    record {
      count = 0;
      offset = bad.offset;
      refusal = number (refusal.BadLine bad.offset);
      raw = replicate 24 0;
      kinds = replicate 40 0;
      bytes = replicate 40 0;
    }

unfoldable pub line_read : List ℕ → PlainLine
line_read s = plain_line (read_line s)
