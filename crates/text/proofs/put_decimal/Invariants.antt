-- `text::put_decimal` meets its contract.
use lib.ListN.{take}
use Rattle.text.specs.Written.{Put}
use Rattle.text.proofs.Decimal.{front}
use Rattle.text.proofs.put_decimal.Given as goal

abbrev pub invariant-loop-unit : goal.invariant-loop-unit
invariant-loop-unit l = Put l.initial.buffer l.initial.next (front l.n (take l.unit-index l.unit-items)) l.next l.buffer
