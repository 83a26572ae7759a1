-- The reading of a signature line of the keeper's file, as readings put together. That it accepts exactly the grammar, and refuses exactly
-- where no line goes on, is proved (proofs/Accepted.antt).
use Rattle.std.specs.Prelude.{ℕ, ◌+◌, cond, List, [], drop, replicate, Result, Ok, Err}
use Rattle.grammar.specs.Reading.{Read, then_read}
use Rattle.grammar.specs.States.{table_read}
use Rattle.grammar.specs.Table.{Said}
use Rattle.signature_line.specs.declared.BadLine.{BadLine}
use Rattle.signature_line.specs.declared.SignatureRead.{SignatureRead}
use Rattle.signature_line.specs.Answer.{refused_at, read_of}
use Rattle.signature_line.specs.LineReader.{read_line}
use Rattle.signature_line.specs.Meaning.{LineMeaning, layout_of}
use Rattle.keeper_file.specs.KeptLine.{blank, label, mark, kind_and_label}

-- label " " [ "g " ]
unfoldable pub head_read : List ℕ → Read (Said × Said)
head_read = then_read (table_read label) blank (table_read mark)

-- What was read; of a line that is refused, an empty record and an empty layout.
abbrev pub meaning_read : Result SignatureRead BadLine → LineMeaning
meaning_read (Ok r) = record { raw = r.raw; layout = r.layout }
meaning_read (Err bad) = record { raw = replicate 24 0; layout = layout_of [] }

-- What was read of a line that starts at a place, with the kind and the label that stand before it; nothing but the offset of one that is
-- refused.
abbrev pub kept_by : Result SignatureRead BadLine → ℕ → ℕ → ℕ → Result SignatureRead BadLine
kept_by (Ok r) at kind number = read_of (record { raw = kind_and_label kind number r.raw; layout = r.layout })
kept_by (Err bad) at kind number = refused_at (at + bad.offset)

unfoldable pub kept_behind : ℕ → ℕ → ℕ → Result SignatureRead BadLine → Result SignatureRead BadLine
kept_behind at kind number r = kept_by r at kind number

unfoldable pub read_kept : List ℕ → Result SignatureRead BadLine
read_kept s =
    let head = head_read s in
    cond head.good
    (kept_behind head.count head.value.1.form head.value.0.number (read_line (drop head.count s)))
    (refused_at head.count)
