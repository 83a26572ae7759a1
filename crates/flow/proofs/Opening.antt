-- Neither of two tests.
use mathlib.Core.Path.{◌≡◌, refl}
use mathlib.Core.Bool.{Bool, true, false, ◌||◌, true≢false}

pub neither_first : (s a : Bool) → s || a ≡ false → s ≡ false
neither_first true a e = absurd (true≢false e)
neither_first false a e = refl

pub neither_second : (s a : Bool) → s || a ≡ false → a ≡ false
neither_second true a e = absurd (true≢false e)
neither_second false true e = absurd (true≢false e)
neither_second false false e = refl
