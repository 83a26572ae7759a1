-- The head of a signature line of the keeper's file, and the line with it, are read exactly.
use Prim.Native.Nat.{ℕ}
use mathlib.Core.Path.{◌≡◌, refl}
use mathlib.Core.Bool.{Bool, ◌||◌}
use mathlib.Core.List.{List, [], ◌∷◌, ◌++◌}
use lib.Dec.{eqb}
use Rattle.basis.specs.Tests.{all_below}
use Rattle.grammar.specs.Language.{Join}
use Rattle.grammar.specs.Reading.{Read, join_read, then_read}
use Rattle.grammar.specs.States.{done, table_read}
use Rattle.grammar.specs.Table.{Said, Choice}
use Rattle.grammar.proofs.Apart.{all_apart}
use Rattle.grammar.proofs.Fields.{is_not, Words, then_field, join_field}
use Rattle.grammar.proofs.Join.{Outside}
use Rattle.grammar.proofs.Numerals.{any_lives}
use Rattle.grammar.proofs.Reading.{Field}
use Rattle.grammar.proofs.Tables.{table_field, table_empty}
use Rattle.grammar.proofs.WordBytes.{rows_within, rows_outside, table_within, table_outside}
use Rattle.signature_line.specs.Line.{LineSays}
use Rattle.signature_line.specs.LineReader.{fields_read}
use Rattle.signature_line.specs.Meaning.{Fields}
use Rattle.signature_line.specs.Words.{version}
use Rattle.signature_line.proofs.Line.{line_field}
use Rattle.keeper_file.specs.KeptLine.{blank, label, mark, HeadSays, KeptSays}
use Rattle.keeper_file.specs.KeptReader.{head_read}

-- ---- the tables

label_field : Field (Choice label) (table_read label)
unfolding label all_apart
label_field = table_field label (any_lives _, tt) refl refl

mark_field : Field (Choice mark) (table_read mark)
unfolding mark all_apart
mark_field = table_field mark tt refl refl

label_words : Words (is_not blank) (Choice label)
unfolding label rows_within all_below
label_words = table_within (is_not blank) label refl

-- ---- a mark is of the bytes g and blank, and a line begins with neither

abbrev of_mark : ℕ → Bool
of_mark b = eqb b 103 || eqb b 32

mark_words : Words of_mark (Choice mark)
unfolding mark rows_within
mark_words = table_within of_mark mark refl

version_outside : (w : List ℕ) (v : Said) → Choice version w v → Outside of_mark w
unfolding version rows_outside
version_outside = table_outside of_mark version refl

version_empty : (v : Said) → Choice version [] v → ⊥
unfolding version done
version_empty = table_empty version refl

line_outside : (w : List ℕ) (f : Fields) → LineSays w f → Outside of_mark w
unfolding LineSays
line_outside w f l = begins l.1.left l.1.right l.1.splits l.0.0 l.1.first
  where
    begins : (x y : List ℕ) → w ≡ x ++ y → (v : Said) → Choice version x v → Outside of_mark w
    begins [] y e v c = absurd (version_empty v c)
    begins (b ∷ x) y e v c = rw e (version_outside (b ∷ x) v c)

-- ---- the head, and the whole

pub head_field : Field HeadSays head_read
unfolding head_read
head_field = then_field (Choice label) blank (Choice mark) (table_read label) (table_read mark) label_words label_field mark_field

-- A label, a blank, a mark and a line.
abbrev pub kept_read : List ℕ → Read (Said × (Said × Fields))
kept_read = then_read (table_read label) blank (join_read (table_read mark) fields_read)

pub kept_field : Field KeptSays kept_read
kept_field =
    then_field (Choice label) blank (Join (Choice mark) LineSays) (table_read label) (join_read (table_read mark) fields_read)
    label_words label_field
    (join_field (Choice mark) LineSays of_mark (table_read mark) fields_read mark_words line_outside mark_field line_field)
