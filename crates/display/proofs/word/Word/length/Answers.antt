use native.Mathlib.Omega.{arith}
use Rattle.display.proofs.Laws.{at_most_five}
use Rattle.display.proofs.word.Word.length.Goals as goal

pub overflow_add-result : goal.overflow_add-result
overflow_add-result c = omega (arith, c.args.self.few, at_most_five _ _ c.decimal_length.ensures)
