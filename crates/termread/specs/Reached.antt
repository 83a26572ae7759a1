-- How far standard output took the output. `Reached` is shut: no other file can look into it, so a place is reached by `none_yet` and
-- `took` alone. Nothing proves these two of the machine: they are what the calls of `write` mean here. The gate asks that `took` stands in
-- the proof of the one function that calls `write` on standard output, `none_yet` in that of the one that begins, and neither anywhere
-- else. A write does not use a `Reached` up, so it does not say that nothing is written twice from one place.
use Rattle.std.specs.Prelude.{ℕ, ◌+◌, Result}
use Rattle.std.specs.declared.io.Error.{Error}
use Rattle.termread.specs.Moved.{clamp_len}

-- So many bytes of the output were taken.
pub Reached : ℕ → Type 0
Reached taken = Unit {0}

-- Before the first write none was.
pub none_yet : Reached 0
unfolding Reached
none_yet = tt

-- A write at a place that was reached, of so many bytes, answered `got`: it took as many as that says, none if it is an error.
pub took : (taken size : ℕ) (got : Result ℕ Error) → Reached taken → Reached (taken + clamp_len got size)
unfolding Reached
took taken size got reached = tt
