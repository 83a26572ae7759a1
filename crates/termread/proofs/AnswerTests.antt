-- What an answer of `read` or `write` tells.
use Rattle.std.proofs.Common.{◌≡◌, ℕ, ◌≤◌, ◌<◌, ◌-◌, List, length, take, drop, length-drop, arith, subst, Result, Ok, Err}
use Rattle.std.proofs.Math.Seq.{take_all}
use Rattle.std.specs.declared.io.Error.{Error}
use Rattle.std.specs.Io.{ReadsAtMost}
use Rattle.termread.specs.Moved.{Moved}

-- What `read` promises is what is known of an answer.
pub moved_of : (got : Result ℕ Error) (read : List ℕ) (size : ℕ) → length read ≡ size → ReadsAtMost got read → Moved size got
moved_of (Ok n) read size same h = subst (λ (k : ℕ). n ≤ k) same h.0
moved_of (Err e) read size same h = tt

-- Behind what came there is room for a byte.
pub room : (buffer : List ℕ) (count : ℕ) → count < length buffer → 1 ≤ length (take (length buffer - count) (drop count buffer))
room buffer count more =
    rw (take_all (length buffer - count) (drop count buffer) (omega (arith, length-drop count buffer)))
    (omega (arith, more, length-drop count buffer))
