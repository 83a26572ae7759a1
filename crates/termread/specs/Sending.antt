-- What the program hands to standard output.
use Rattle.std.specs.Prelude.{◌≡◌, Bool, true, false, List, ℕ, zero, suc, Result, Ok, Err, length, take, drop}
use Rattle.std.specs.declared.io.Error.{Error}

-- A text is what follows in an output of which so many bytes were taken.
abbrev pub Follows : List ℕ → ℕ → List ℕ → Type 0
Follows output taken text = text ≡ take (length text) (drop taken output)

-- Whether the output is cut at what a write of a text answered: not where bytes were taken; where none was; where it failed the error
-- tells.
abbrev pub CutAt : Result ℕ Error → Bool → Type 0
CutAt (Ok zero) cut = cut ≡ true
CutAt (Ok (suc k)) cut = cut ≡ false
CutAt (Err e) cut = Unit {0}
