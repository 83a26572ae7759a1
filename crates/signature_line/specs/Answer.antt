-- What reading a line gives: a record and its layout, or refusal 13 with its offset (document 02, Wish 1).
use Rattle.std.specs.Prelude.{ℕ, Result, Ok, Err}
use Rattle.refusals.specs.declared.Refusal.TheVariants as refusal
use Rattle.refusals.specs.Refusals.{Verdict}
use Rattle.signature_line.specs.declared.BadLine.{BadLine}
use Rattle.signature_line.specs.declared.SignatureRead.{SignatureRead}
use Rattle.signature_line.specs.Meaning.{LineMeaning}

-- Refused at this place, whatever would have been read.
abbrev pub bad_at : {A : Type 0} → ℕ → Result A BadLine
bad_at at = Err (record { offset = at })

abbrev pub refused_at : ℕ → Result SignatureRead BadLine
refused_at = bad_at

-- A record and a layout that were read.
abbrev pub read_of : LineMeaning → Result SignatureRead BadLine
read_of m = Ok (record { raw = m.raw; layout = m.layout })

-- Which refusal of the table an answer is, if any.
abbrev pub line_verdict : Result SignatureRead BadLine → Verdict
line_verdict (Ok read) = Verdict.accepted
line_verdict (Err bad) = Verdict.refused (refusal.BadLine bad.offset)
