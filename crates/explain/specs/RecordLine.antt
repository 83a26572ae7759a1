-- The line of a record below a packet's: which it is, how its fields meet the packet's observation, and its signature line.
use Rattle.std.specs.Prelude.{ℕ, cond, List, [], ◌∷◌, ◌++◌}
use Rattle.text.specs.Decimal.{decimal, newline}
use Rattle.sigrecord.specs.Record.{label_of, is_generic}
use Rattle.siglist.specs.List.{record_at}
use Rattle.file_writer.specs.Shown.{listed_text}
use Rattle.explain.specs.declared.gates.Gates.{Gates}
use Rattle.explain.specs.Gating.{row_of}
use Rattle.explain.specs.GateText.{gates_text}

-- "  record "
abbrev pub record_word : List ℕ
record_word = 32 ∷ 32 ∷ 114 ∷ 101 ∷ 99 ∷ 111 ∷ 114 ∷ 100 ∷ 32 ∷ []

-- " label "
abbrev pub label_word : List ℕ
label_word = 32 ∷ 108 ∷ 97 ∷ 98 ∷ 101 ∷ 108 ∷ 32 ∷ []

-- " generic"
abbrev pub generic_word : List ℕ
generic_word = 32 ∷ 103 ∷ 101 ∷ 110 ∷ 101 ∷ 114 ∷ 105 ∷ 99 ∷ []

-- " line="
abbrev pub line_word : List ℕ
line_word = 32 ∷ 108 ∷ 105 ∷ 110 ∷ 101 ∷ 61 ∷ []

-- A record's number in its list, its label, and whether it is generic.
unfoldable pub which_text : ℕ → List ℕ → List ℕ
which_text i r = record_word ++ (decimal i ++ (label_word ++ (decimal (label_of r) ++ cond (is_generic r) generic_word [])))

-- The line of record i, of which these are the gates.
unfoldable pub explained_line : Gates → List ℕ → ℕ → List ℕ
explained_line gates l i = which_text i (record_at l i) ++ (gates_text (row_of gates) ++ (line_word ++ (listed_text l i ++ newline)))
