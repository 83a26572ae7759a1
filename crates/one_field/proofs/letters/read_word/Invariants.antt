-- `one_field::letters::read_word` meets its contract.
use mathlib.Core.Path.{◌≡◌}
use lib.ListN.{drop}
use Rattle.one_field.specs.Places.{word_at}
use Rattle.one_field.proofs.letters.read_word.Given as goal

abbrev pub invariant-loop-byte : goal.invariant-loop-byte
invariant-loop-byte g l = word_at (drop l.byte-index l.word) l.form l.s l.at ≡ word_at l.word l.form l.s l.from
