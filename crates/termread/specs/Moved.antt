-- What a call of `read` or `write` may answer that is handed so many bytes, and how many it then moved.
use Rattle.std.specs.Prelude.{ℕ, ◌≤◌, min, Result, Ok, Err}
use Rattle.std.specs.declared.io.Error.{Error}

-- An error, or how many bytes it moved, at most so many.
abbrev pub Moved : ℕ → Result ℕ Error → Type 0
Moved n (Ok k) = k ≤ n
Moved n (Err e) = Unit {0}

-- As many as the answer says, brought into `0..=most`: none if it is an error.
abbrev pub clamp_len : Result ℕ Error → ℕ → ℕ
clamp_len (Ok k) most = min k most
clamp_len (Err e) most = 0
