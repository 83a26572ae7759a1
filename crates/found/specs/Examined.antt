-- How long a search was (document 02, Wish 6): "how many records it examined. That is the position of the specific exact record that ended
-- it, counted from one, or the size of the list if none did."
use Rattle.std.specs.Prelude.{ℕ, ◌+◌, cond}
use Rattle.found.specs.declared.Found.{Found}
use Rattle.found.specs.declared.Found.TheVariants as found
use Rattle.found.specs.declared.Searched.{Searched}

-- Of a list of this size, by what was found in it. A record's number is counted from 0.
abbrev pub examined_of : ℕ → Found → ℕ
examined_of size (found.Exact hit) = cond hit.generic size (hit.number + 1)
examined_of size (found.Fuzzy hit reason) = size
examined_of size found.None = size

-- What a search of a list of this size answers.
abbrev pub searched_in : ℕ → Found → Searched
searched_in size found = record { found = found; examined = examined_of size found }
