-- What compiling a keeper's file into a buffer of so many bytes answers, and the list that is written, in the order of the tests.
use Rattle.std.specs.Prelude.{ℕ, ◌+◌, cond, List, [], ◌∷◌, ltb, length, Result, Ok, Err}
use Rattle.text.specs.Written.{Lined}
use Rattle.refusals.specs.declared.Refusal.{Refusal}
use Rattle.refusals.specs.declared.Refusal.TheVariants as refusal
use Rattle.refusals.specs.Refusals.{Verdict}
use Rattle.signature_line.specs.declared.BadLine.{BadLine}
use Rattle.signature_line.specs.declared.SignatureRead.{SignatureRead}
use Rattle.signature_line.specs.Meaning.{LineMeaning}
use Rattle.keeper_file.specs.declared.Counts.{Counts}
use Rattle.keeper_file.specs.declared.LineRefusal.{LineRefusal}
use Rattle.keeper_file.specs.KeptReader.{read_kept, meaning_read}
use Rattle.keeper_file.specs.Lines.{Numbered, signature_lines}
use Rattle.keeper_file.specs.ListText.{list_text}

-- "Refusals give line number (from 1) and offset in it": what is refused, and with which line.
abbrev pub refused : {A : Type 0} → ℕ → Refusal → Result A LineRefusal
refused k r = Err (record { line = k; refusal = r })

-- ---- "the first bad line"

abbrev pub bad_or : Result SignatureRead BadLine → ℕ → Result (Unit {0}) LineRefusal → Result (Unit {0}) LineRefusal
bad_or (Ok read) k rest = rest
bad_or (Err bad) k rest = refused k (refusal.BadLine bad.offset)

unfoldable pub first_bad : List Numbered → Result (Unit {0}) LineRefusal
first_bad [] = Ok tt
first_bad (line ∷ lines) = bad_or (read_kept line.text) line.number (first_bad lines)

-- ---- "more signatures or entries than a header can count"

-- The header counts records in two bytes; the records lie behind the entries, at an offset of two bytes: 8 and 2 for each entry.
abbrev pub most_signatures : ℕ
most_signatures = 65535

abbrev pub most_entries : ℕ
most_entries = 32763

-- What the lines mean, in their order.
unfoldable pub meanings : List Numbered → List LineMeaning
meanings [] = []
meanings (line ∷ lines) = meaning_read (read_kept line.text) ∷ meanings lines

-- So many signatures and entries, and those of these lines.
unfoldable pub tallied_from : ℕ → ℕ → List Numbered → Result Counts LineRefusal
tallied_from signatures entries [] = Ok (record { signatures = signatures; entries = entries })
tallied_from signatures entries (line ∷ lines) =
    let more = entries + (meaning_read (read_kept line.text)).layout.count in
    cond (ltb most_signatures (signatures + 1)) (refused line.number refusal.TooManySignatures)
    (cond (ltb most_entries more) (refused line.number refusal.TooManyEntries)
    (tallied_from (signatures + 1) more lines))

-- ---- the answer

-- "nothing written"
unfoldable pub refusing_line : ℕ → Refusal → Lined (Result ℕ LineRefusal)
refusing_line k r = record { answer = refused k r; line = [] }

-- "a buffer that is too short, last": no line is at fault.
unfoldable pub list_into : List ℕ → ℕ → Lined (Result ℕ LineRefusal)
list_into list room =
    cond (ltb room (length list)) (refusing_line 0 refusal.BufferTooShort)
    (record { answer = Ok (length list); line = list })

abbrev pub tallied_into : Result Counts LineRefusal → List ℕ → ℕ → Lined (Result ℕ LineRefusal)
tallied_into (Err r) list room = refusing_line r.line r.refusal
tallied_into (Ok counts) list room = list_into list room

abbrev pub checked_into : Result (Unit {0}) LineRefusal → List Numbered → ℕ → Lined (Result ℕ LineRefusal)
checked_into (Err r) lines room = refusing_line r.line r.refusal
checked_into (Ok tt) lines room = tallied_into (tallied_from 0 0 lines) (list_text (meanings lines)) room

unfoldable pub compile_file : List ℕ → ℕ → Lined (Result ℕ LineRefusal)
compile_file file room = checked_into (first_bad (signature_lines file)) (signature_lines file) room

-- Which refusal of the table an answer is, if any.
abbrev pub compiled_verdict : Result ℕ LineRefusal → Verdict
compiled_verdict (Ok n) = Verdict.accepted
compiled_verdict (Err r) = Verdict.refused r.refusal
