use Rattle.bundle.specs.Bundle.{packets_fit}
use Prim.Native.Nat.{◌-◌}
use mathlib.Core.Path.{◌≡◌}
use Rattle.bundle.proofs.packets_fit.Given as goal

abbrev pub invariant-loop : goal.invariant-loop
invariant-loop l = packets_fit l.bundle l.at (l.count - l.counter) ≡ packets_fit l.bundle l.offset l.count
