use Rattle.grammar.specs.Spelling.{spelt}
use Rattle.signature_line.specs.Words.{bare_byte}
use native.Mathlib.Omega.{arith}
use lib.ListN.{length-append}
use Rattle.display.proofs.Laws.{at_most_five, word_few}
use Rattle.display.proofs.lengths.ttl_length.Goals as goal

pub returns : goal.returns
unfolding spelt bare_byte
returns c =
    rw (← c.observed_ttl.ensures, ← c.from.ensures, ← c.ttl_form.ensures, length-append)
    (omega (arith, c.decimal_length.ensures, c.length.ensures))

pub overflow_add-result : goal.overflow_add-result
overflow_add-result c = omega (arith, at_most_five _ _ c.decimal_length.ensures, word_few c.ttl_form.result, c.length.ensures)
