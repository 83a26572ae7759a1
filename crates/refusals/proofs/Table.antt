-- The table by its numbers: `every_refusal` lists the refusals in the order of the paper's, 1 to 23, then those of a keeper's file, and
-- leaves none out.
use mathlib.Core.Path.{◌≡◌, refl}
use mathlib.Core.List.{List, [], ◌∷◌}
use Prim.Native.Nat.{ℕ}
use Rattle.refusals.specs.declared.Refusal.{Refusal}
use Rattle.refusals.specs.Refusals.{number, every_refusal}

abbrev numbers_of : List Refusal → List ℕ
numbers_of [] = []
numbers_of (r ∷ rest) = number r ∷ numbers_of rest

pub in_order
    : (value : ℕ)
    → numbers_of (every_refusal value)
    ≡ 1 ∷ 2 ∷ 3 ∷ 4 ∷ 5 ∷ 6 ∷ 7 ∷ 8 ∷ 9 ∷ 10 ∷ 11 ∷ 12 ∷ 13 ∷ 14 ∷ 15 ∷ 16 ∷ 17 ∷ 18 ∷ 19 ∷ 20 ∷ 21 ∷ 22 ∷ 23 ∷ 24 ∷ 25 ∷ []
in_order value = refl
