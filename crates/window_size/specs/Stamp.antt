-- When the own timestamp may decide a multiplier.
use Rattle.std.specs.Prelude.{ℕ, ◌-◌, Bool, false, not, ◌&&◌, ltb, Option, Some, None}
use Rattle.window_size.specs.Divisors.{divides}

-- Of the twelve only the second asks for it: the MSS less 12, after the MSS itself.
unfoldable pub stamp_may_decide : ℕ → Option ℕ → Bool
stamp_may_decide window None = false
stamp_may_decide window (Some own) = not (ltb own 100) && not (divides own window) && divides (own - 12) window
