-- The bytes of a signature line of a keeper's file: none is below 32, so no line end stands in it; and it begins with a digit.
use Prim.Native.Nat.{ℕ}
use mathlib.Core.Path.{◌≡◌, refl}
use mathlib.Core.Bool.{Bool, true, false}
use mathlib.Core.List.{List, [], ◌∷◌, ◌++◌}
use native.Mathlib.Omega.{arith}
use lib.Dec.{leb, ltb}
use borrow.Author.Tests.{ltb-true, ne_eqb}
use Rattle.basis.specs.Tests.{all_below}
use Rattle.basis.proofs.Tests.{and_right}
use Rattle.grammar.specs.Language.{Behind, Then, Join}
use Rattle.grammar.specs.LeadingZero.{is_digit}
use Rattle.grammar.specs.States.{done}
use Rattle.grammar.specs.Table.{Said, Choice}
use Rattle.grammar.proofs.Fields.{Words, join_words, behind_words, listed_words, any_listed_words}
use Rattle.grammar.proofs.Join.{Within, inside}
use Rattle.grammar.proofs.Tables.{table_empty}
use Rattle.grammar.proofs.WordBytes.{rows_within, table_within}
use Rattle.signature_line.specs.Line.{colon, comma, TtlText, LayoutText, QuirksText, AfterScale, AfterOlen, LineSays}
use Rattle.signature_line.specs.Words.{version, bare_byte, ttl_form, mss, window, scale, entry, quirk_word, payload}
use Rattle.keeper_file.specs.KeptLine.{blank, label, mark, KeptSays}
use Rattle.keeper_file.specs.Lines.{passed_over}

-- Neither a line feed nor a carriage return.
abbrev pub visible : ℕ → Bool
visible b = leb 32 b

-- ---- the tables

version_words : Words visible (Choice version)
unfolding version rows_within
version_words = table_within visible version refl

byte_words : Words visible (Choice bare_byte)
unfolding bare_byte rows_within all_below
byte_words = table_within visible bare_byte refl

form_words : Words visible (Choice ttl_form)
unfolding ttl_form rows_within all_below
form_words = table_within visible ttl_form refl

mss_words : Words visible (Choice mss)
unfolding mss rows_within all_below
mss_words = table_within visible mss refl

window_words : Words visible (Choice window)
unfolding window rows_within all_below
window_words = table_within visible window refl

scale_words : Words visible (Choice scale)
unfolding scale rows_within all_below
scale_words = table_within visible scale refl

entry_words : Words visible (Choice entry)
unfolding entry rows_within all_below
entry_words = table_within visible entry refl

quirk_words : Words visible (Choice quirk_word)
unfolding quirk_word rows_within
quirk_words = table_within visible quirk_word refl

payload_words : Words visible (Choice payload)
unfolding payload rows_within
payload_words = table_within visible payload refl

label_words : Words visible (Choice label)
unfolding label rows_within all_below
label_words = table_within visible label refl

mark_words : Words visible (Choice mark)
unfolding mark rows_within
mark_words = table_within visible mark refl

-- ---- the line

-- A word, a colon or another such byte, a word.
then_words
    : {A B : Type 0} (F : List ℕ → A → Type 0) (c : ℕ) (G : List ℕ → B → Type 0) → visible c ≡ true → Words visible F
    → Words visible G
    → Words visible (Then F c G)
then_words F c G e f g = join_words visible F (Behind c G) f (behind_words visible c e G g)

layout_words : Words visible LayoutText
layout_words = listed_words visible comma refl (Choice entry) entry_words 39

quirks_words : Words visible QuirksText
quirks_words = any_listed_words visible comma refl (Choice quirk_word) quirk_words

after_scale : Words visible AfterScale
after_scale =
    then_words LayoutText colon (Then QuirksText colon (Choice payload)) refl layout_words
    (then_words QuirksText colon (Choice payload) refl quirks_words payload_words)

after_olen : Words visible AfterOlen
after_olen =
    then_words (Choice mss) colon (Then (Choice window) comma (Then (Choice scale) colon AfterScale)) refl mss_words
    (then_words (Choice window) comma (Then (Choice scale) colon AfterScale) refl window_words
    (then_words (Choice scale) colon AfterScale refl scale_words after_scale))

line_words : Words visible LineSays
unfolding LineSays
line_words w f l =
    then_words (Choice version) colon (Then TtlText colon (Then (Choice bare_byte) colon AfterOlen)) refl version_words
    (then_words TtlText colon (Then (Choice bare_byte) colon AfterOlen) refl
    (join_words visible (Choice bare_byte) (Choice ttl_form) byte_words form_words)
    (then_words (Choice bare_byte) colon AfterOlen refl byte_words after_olen))
    w l.0 l.1

pub kept_words : Words visible KeptSays
kept_words =
    then_words (Choice label) blank (Join (Choice mark) LineSays) refl label_words
    (join_words visible (Choice mark) LineSays mark_words line_words)

-- ---- what it begins with

label_digits : Words is_digit (Choice label)
unfolding label rows_within all_below
label_digits = table_within is_digit label refl

label_empty : (v : Said) → Choice label [] v → ⊥
unfolding label done
label_empty = table_empty label refl

-- A line that begins with a digit is not empty, and no comment.
pub kept_not_passed : (w : List ℕ) (v : _) → KeptSays w v → passed_over w ≡ false
kept_not_passed w v k = begins k.left k.right k.splits k.first
  where
    begins : (x y : List ℕ) → w ≡ x ++ y → Choice label x v.0 → passed_over w ≡ false
    begins [] y e c = absurd (label_empty v.0 c)
    begins (b ∷ x) y e c = rw e (by (label_digits (b ∷ x) v.0 c))
      where
        by : Within is_digit (b ∷ x) → passed_over (b ∷ x ++ y) ≡ false
        by (inside d rest) =
            let small = ltb-true b 58 (and_right (leb 48 b) (ltb b 58) d) in
            ne_eqb b 59 (λ (same : b ≡ 59). omega arith)
