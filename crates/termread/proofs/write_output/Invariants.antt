use Rattle.std.proofs.Common.{length, ◌*◌, ◌≤◌, ◌≡◌}
use Rattle.termread.specs.Reached.{Reached}
use Rattle.termread.proofs.Laws.{Left}
use Rattle.termread.proofs.write_output.Given as goal

abbrev pub invariant-loop : goal.invariant-loop
invariant-loop g l =
    (length l.page ≡ 4096) × (l.progress.filled ≤ 4096) × (l.taken ≤ 4096 * l.counter) × Reached l.taken
    × Left l.bundle l.longer l.taken l.page l.progress
