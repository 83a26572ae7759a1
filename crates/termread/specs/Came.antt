-- How the reading of standard input went. `Came` and `ReadSaid` are shut: no other file can look into them, so they are had by
-- `nothing_came` and `read_said` alone. Nothing proves these two of the machine: they are what the calls of `read` mean here. The gate
-- asks that `read_said` stands in the proof of the one function that calls `read`, `nothing_came` in that of the one that begins, and
-- neither anywhere else. That the bytes in the buffer are those that were sent is not said; nor, since a read does not use a `Came` up,
-- that no read is made twice at one place.
use Rattle.std.specs.Prelude.{◌≡◌, Bool, true, false, ℕ, ◌+◌, ◌≤◌, Result, Ok, Err}
use Rattle.std.specs.declared.io.Error.{Error}
use Rattle.termread.specs.Moved.{Moved, clamp_len}
use Rattle.termread.specs.declared.Ending.{Ending}
use Rattle.termread.specs.declared.Ending.TheVariants.{Whole, Longer, Failed}

-- So many bytes of the input came.
pub Came : ℕ → Type 0
Came count = Unit {0}

-- A read behind so many bytes, which asked for one at least, answered this.
pub ReadSaid : ℕ → Result ℕ Error → Type 0
ReadSaid count got = Unit {0}

-- What is known of a read behind so many bytes that asked for `size`: `read` answers an error, or how many came.
pub record ReadAt (count size : ℕ) (got : Result ℕ Error) : Type 0 where
  pub moved : Moved size got
  pub said : ReadSaid count got
  pub came : Came (count + clamp_len got size)

-- Before the first read none came.
pub nothing_came : Came 0
unfolding Came
nothing_came = tt

-- A read that asked for `size` bytes, one at least, behind those that came, answered `got`.
pub read_said : (count size : ℕ) (got : Result ℕ Error) → Came count → 1 ≤ size → Moved size got → ReadAt count size got
unfolding Came ReadSaid
read_said count size got came some moved = record { moved = moved; said = tt; came = tt }

-- Only a read that failed is made again.
abbrev pub AgainAt : Result ℕ Error → Bool → Type 0
AgainAt (Ok k) again = again ≡ false
AgainAt (Err e) again = Unit {0}

-- What an ending means where so many bytes came into a buffer of that size: the next read answered the input's end (0), a byte more than
-- the buffer holds (1), or a failure (an error).
abbrev pub EndsAs : Ending → ℕ → ℕ → Type 0
EndsAs Whole count size = ReadSaid count (Ok 0)
EndsAs Longer count size = (count ≡ size) × ReadSaid count (Ok 1)
EndsAs Failed count size = (e : Error) × ReadSaid count (Err e)

-- What is known of an input that was read into a buffer of that size.
pub record InputCame (count : ℕ) (ending : Ending) (size : ℕ) : Type 0 where
  pub within : count ≤ size
  pub came : Came count
  pub ends : EndsAs ending count size

-- Of so many bytes answers are given: as of the whole input only where a read answered its end behind them, as of a longer one only where
-- they are the 65,535 that a bundle may have and a read behind them answered a byte more.
abbrev pub InputEnds : Bool → ℕ → Type 0
InputEnds false count = EndsAs Whole count 65535
InputEnds true count = EndsAs Longer count 65535
