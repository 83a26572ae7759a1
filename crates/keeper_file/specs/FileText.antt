-- The way back: a signature list as a keeper's file.
use Rattle.std.specs.Prelude.{ℕ, zero, suc, ◌+◌, cond, List, [], ◌∷◌, ◌++◌, Result, Ok, Err}
use Rattle.basis.specs.Ascii.{ascii}
use Rattle.text.specs.Decimal.{newline, decimal}
use Rattle.text.specs.Written.{Lined}
use Rattle.refusals.specs.declared.Refusal.TheVariants as refusal
use Rattle.sigrecord.specs.Record.{label_of, is_generic}
use Rattle.refusals.specs.declared.ListRefusal.{ListRefusal}
use Rattle.siglist.specs.List.{record_count, record_at, check_list}
use Rattle.refusals.specs.declared.Refusal.{Refusal}
use Rattle.written_line.specs.LineText.{record_text}
use Rattle.written_line.specs.Writing.{refusing, line_into}
use Rattle.keeper_file.specs.KeptLine.{blank}

-- label " " [ "g " ], of a record
unfoldable pub head_text : List ℕ → List ℕ
head_text r = decimal (label_of r) ++ blank ∷ cond (is_generic r) (ascii "g ") []

-- Record i of a list as a signature line of a file, without a line end.
unfoldable pub kept_text : List ℕ → ℕ → List ℕ
kept_text l i = head_text (record_at l i) ++ record_text l i

-- So many records from one on, a line each.
unfoldable pub file_from : List ℕ → ℕ → ℕ → List ℕ
file_from l i zero = []
file_from l i (suc n) = kept_text l i ++ newline ++ file_from l (i + 1) n

unfoldable pub file_text : List ℕ → List ℕ
file_text l = file_from l 0 (record_count l)

-- Refusals 9 and 10 of the list, then 15.
abbrev pub file_of : Result (Unit {0}) ListRefusal → List ℕ → ℕ → Lined (Result ℕ Refusal)
file_of (Err r) l room = refusing (refusal.List r)
file_of (Ok tt) l room = line_into (file_text l) room

unfoldable pub write_file : List ℕ → ℕ → Lined (Result ℕ Refusal)
write_file l room = file_of (check_list l) l room
