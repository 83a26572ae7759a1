-- What the passes over the signature lines of a file give, and the parts of its list.
use Rattle.std.specs.Prelude.{ℕ, ◌+◌, cond, List, [], ◌∷◌, ltb, map, Result, Ok}
use Rattle.text.specs.Written.{Lined}
use Rattle.refusals.specs.declared.Refusal.TheVariants as refusal
use Rattle.signature_line.specs.Meaning.{LineMeaning}
use Rattle.keeper_file.specs.declared.Counts.{Counts}
use Rattle.keeper_file.specs.declared.LineRefusal.{LineRefusal}
use Rattle.keeper_file.specs.Compiling.{refused, bad_or, most_signatures, most_entries, list_into}
use Rattle.keeper_file.specs.KeptReader.{meaning_read}
use Rattle.keeper_file.specs.ListText.{entries_text, records_text, list_text}
use Rattle.list_compiler.specs.declared.lines.Line.{Line}
use Rattle.list_compiler.specs.FileLines.{file_lines}

-- The first that is bad.
unfoldable pub check_of : List Line → Result (Unit {0}) LineRefusal
check_of [] = Ok tt
check_of (line ∷ lines) = bad_or line.read line.number (check_of lines)

-- So many signatures and entries, and those of these lines.
unfoldable pub tally_of : ℕ → ℕ → List Line → Result Counts LineRefusal
tally_of signatures entries [] = Ok (record { signatures = signatures; entries = entries })
tally_of signatures entries (line ∷ lines) =
    let more = entries + (meaning_read line.read).layout.count in
    cond (ltb most_signatures (signatures + 1)) (refused line.number refusal.TooManySignatures)
    (cond (ltb most_entries more) (refused line.number refusal.TooManyEntries)
    (tally_of (signatures + 1) more lines))

-- What they mean.
abbrev pub meanings_of : List Line → List LineMeaning
meanings_of = map (λ (line : Line). meaning_read line.read)

-- ---- of a file

abbrev pub file_check : List ℕ → Result (Unit {0}) LineRefusal
file_check file = check_of (file_lines file)

abbrev pub file_tally : List ℕ → Result Counts LineRefusal
file_tally file = tally_of 0 0 (file_lines file)

abbrev pub file_meanings : List ℕ → List LineMeaning
file_meanings file = meanings_of (file_lines file)

abbrev pub file_entries : List ℕ → List ℕ
file_entries file = entries_text (file_meanings file)

abbrev pub file_records : List ℕ → List ℕ
file_records file = records_text 0 (file_meanings file)

-- Refusal 15, or the list.
abbrev pub file_into : List ℕ → ℕ → Lined (Result ℕ LineRefusal)
file_into file = list_into (list_text (file_meanings file))
