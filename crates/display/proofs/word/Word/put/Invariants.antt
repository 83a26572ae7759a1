use lib.ListN.{take}
use Rattle.text.specs.Written.{Put}
use Rattle.display.proofs.word.Word.put.Given as goal

abbrev pub invariant-loop-letter : goal.invariant-loop-letter
invariant-loop-letter l = Put l.initial.buffer l.at (take l.letter-index l.self.letters.now) l.behind l.buffer
