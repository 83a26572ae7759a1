-- "a line in written form" (document 02, Wish 7), by its shape: a line of the grammar of Wish 1 in which no number has a leading zero and
-- the quirks stand strictly rising in display order. No writer is named here.
use Rattle.std.specs.Prelude.{◌≡◌, true, List, [], ◌∷◌, ◌⊎◌, ℕ}
use Rattle.quirks.specs.declared.Quirk.{Quirk}
use Rattle.quirks.specs.Named.{display_order}
use Rattle.quirks.specs.Quirks.{bit_of}
use Rattle.grammar.specs.LeadingZero.{no_leading_zero}
use Rattle.grammar.specs.Table.{Said}
use Rattle.signature_line.specs.Line.{LineSays}
use Rattle.signature_line.specs.Meaning.{Fields}

-- Words that stand strictly rising in a row of quirks: each is one of those behind the quirk of the word before it.
abbrev pub RisingIn : List Quirk → List Said → Type 0
RisingIn qs [] = Unit
RisingIn [] (v ∷ vs) = ⊥
RisingIn (q ∷ qs) (v ∷ vs) = ((v.form ≡ bit_of q) × RisingIn qs vs) ⊎ RisingIn qs (v ∷ vs)

pub record WrittenForm (s : List ℕ) : Type 0 where
  pub fields : Fields
  pub says : LineSays s fields
  pub plain : no_leading_zero s ≡ true
  pub rising : RisingIn display_order fields.quirks
