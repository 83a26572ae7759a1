-- A number as a row of binary digits.
use Rattle.std.specs.Prelude.{ℕ, ◌/◌, ◌%◌, ◌^◌}

-- The binary digit at a place, 0 or 1; place 0 is the lowest.
unfoldable pub digit : ℕ → ℕ → ℕ
digit n k = n / 2 ^ k % 2
