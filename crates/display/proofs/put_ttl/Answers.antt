use Rattle.grammar.specs.Spelling.{spelt}
use Rattle.signature_line.specs.Words.{bare_byte}
use Rattle.text.proofs.Writing.{both}
use Rattle.display.proofs.put_ttl.Goals as goal

pub returns : goal.returns
unfolding spelt bare_byte
returns c =
    rw (← c.observed_ttl.ensures, ← c.from.ensures, ← c.ttl_form.ensures)
    (both _ _ _ _ _ _ _ _ c.put_decimal-form.ensures c.put.ensures)
