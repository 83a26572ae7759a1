-- A kind without a name is written by its number; a decimal is short; a scale is written as an MSS is.
use mathlib.Core.Path.{◌≡◌, refl}
use Prim.Native.Nat.{ℕ, ◌≤◌}
use native.Mathlib.Omega.{arith}
use lib.ListN.{length, length-append}
use borrow.Author.Tests.{ne_eqb, lt-leb}
use Rattle.std.specs.Prelude.{Option, Some, None}
use Rattle.display.specs.declared.word.Word.{Word}
use Rattle.display.specs.Words.{number_text, word_text}
use Rattle.grammar.specs.Spelling.{spelt}
use Rattle.grammar.specs.Table.{said}
use Rattle.signature_line.specs.Words.{unnamed, mss, scale}
use Rattle.text.specs.Decimal.{decimal}
use Rattle.text.proofs.Decimal.{decimal_length}
use Rattle.written_line.specs.Signature.{entry_said, mss_said, scale_said}

-- What the last arm of a `match` on a kind is told: it is none of those with a name.
abbrev pub NotNamed : ℕ → Type 0
NotNamed k =
    ((((((Unit {0} × (k ≡ 0 → ⊥)) × (k ≡ 1 → ⊥)) × (k ≡ 2 → ⊥)) × (k ≡ 3 → ⊥)) × (k ≡ 4 → ⊥)) × (k ≡ 5 → ⊥)) × (k ≡ 8 → ⊥)

pub not_named : (kind byte : ℕ) → NotNamed kind → entry_said kind byte ≡ said 6 kind
unfolding entry_said unnamed
not_named kind byte h =
    let none = h.0.0.0.0.0.0.1 in
    let over0 : 1 ≤ kind = omega (arith, none) in
    let over1 : 2 ≤ kind = omega (arith, over0, h.0.0.0.0.0.1) in
    let over2 : 3 ≤ kind = omega (arith, over1, h.0.0.0.0.1) in
    let over3 : 4 ≤ kind = omega (arith, over2, h.0.0.0.1) in
    let over4 : 5 ≤ kind = omega (arith, over3, h.0.0.1) in
    rw (ne_eqb kind 0 none, lt-leb kind 5 (omega (arith, over4, h.0.1)), ne_eqb kind 8 h.1)

-- Every decimal has at most five digits.
pub at_most_five : (n length-of : ℕ) → length-of ≡ length (decimal n) → length-of ≤ 5
at_most_five n k e = omega (arith, decimal_length n)

pub as_mss : (scale_is : Option ℕ) → spelt scale (scale_said scale_is) ≡ spelt mss (mss_said scale_is)
unfolding spelt scale mss
as_mss None = refl
as_mss (Some n) = refl

-- A word's length, by its fields.
number_few : (n : Option ℕ) → length (number_text n) ≤ 5
number_few None = omega arith
number_few (Some n) = decimal_length n

pub word_few : (w : Word) → length (word_text w) ≤ 11
word_few w = omega (arith, w.few, number_few w.number, length-append w.letters.now (number_text w.number))
