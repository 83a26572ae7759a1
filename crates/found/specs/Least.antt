-- The first number of least rank in a row of numbers, for any rank: the less the better.
use Rattle.std.specs.Prelude.{ℕ, zero, suc, ◌+◌, cond, List, [], ◌∷◌, ltb}

-- What has no rank comes last, and is never found: every rank is less.
abbrev pub unranked : ℕ
unranked = 255

-- Where the least is: at a number of the row, or nowhere, if no number has a rank.
pub data Place : Type 0 where
  nowhere : Place
  at : ℕ → Place

abbrev pub rank_there : (ℕ → ℕ) → Place → ℕ
rank_there rank nowhere = unranked
rank_there rank (at i) = rank i

-- The earlier of two, unless the later has strictly less rank.
unfoldable pub prefer : {A : Type 0} → (A → ℕ) → A → A → A
prefer rank held other = cond (ltb (rank other) (rank held)) other held

-- The first of least rank among the place held and the numbers of a row.
unfoldable pub least_from : (ℕ → ℕ) → Place → List ℕ → Place
least_from rank held [] = held
least_from rank held (i ∷ is) = least_from rank (prefer (rank_there rank) held (at i)) is

-- The first number of least rank in a row.
unfoldable pub first_least : (ℕ → ℕ) → List ℕ → Place
first_least rank is = least_from rank nowhere is

-- So many numbers from this one on.
unfoldable pub numbers_from : ℕ → ℕ → List ℕ
numbers_from i zero = []
numbers_from i (suc n) = i ∷ numbers_from (i + 1) n
