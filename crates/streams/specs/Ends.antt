-- What is told of an input's end, whatever the system answered.
use Rattle.std.specs.Prelude.{◌≡◌, Bool, true}
use Rattle.streams.specs.declared.Ending.{Ending}
use Rattle.streams.specs.declared.Ending.TheVariants as ending

-- An input is said to go on only where the buffer is full.
abbrev pub LongerIfFull : Bool → Ending → Type 0
LongerIfFull full ending.Whole = Unit {0}
LongerIfFull full ending.Longer = full ≡ true
LongerIfFull full ending.Failed = Unit {0}
