use mathlib.Core.Path.{◌≡◌}
use mathlib.Core.List.{List}
use Prim.Native.Nat.{ℕ}
use lib.ListN.{length, take}
use Rattle.text.specs.Written.{Put}
use Rattle.signature_line.specs.OneRecord.{alternating}
use Rattle.list_compiler.proofs.Lists.{entries_from}
use Rattle.list_compiler.proofs.pieces.put_entries.Given as goal

abbrev pub invariant-loop-i : goal.invariant-loop-i
invariant-loop-i l = (length l.buffer ≡ length l.initial.buffer)
    × ((n : ℕ) (b : List ℕ)
    → Put l.buffer l.next (entries_from l.layout.kinds l.layout.bytes l.layout.count l.i) n b
    → Put l.initial.buffer l.at (alternating (take l.layout.count l.layout.kinds) (take l.layout.count l.layout.bytes)) n b)
