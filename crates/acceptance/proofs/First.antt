-- Laws of the first row that holds: by a test of each row in order; and there is one first row only.
use mathlib.Core.Path.{◌≡◌, refl, subst}
use mathlib.Core.Bool.{Bool, true, false, cond}
use mathlib.Core.List.{List, [], ◌∷◌, ◌++◌}
use mathlib.Core.Logic.{◌↔◌}
use Prim.Native.Nat.{ℕ, ◌<◌}
use Rattle.acceptance.specs.Refusals.{First}

-- A row that its test decides, before rows whose first is known.
pub by_test
    : {Row : ℕ → Type 0} {rest : List ℕ} {m n : ℕ} (t : Bool)
    → (t ≡ true → Row m)
    → (t ≡ false → Row m → ⊥)
    → (t ≡ false → First Row rest n)
    → First Row (m ∷ rest) (cond t m n)
by_test true holds fails rest = First.here (holds refl)
by_test false holds fails rest = First.later (fails refl) (rest refl)

pub only_first : {Row : ℕ → Type 0} {order : List ℕ} {m n : ℕ} → First Row order m → First Row order n → m ≡ n
only_first (First.here r) (First.here s) = refl
only_first (First.here r) (First.later d g) = absurd (d r)
only_first (First.later d f) (First.here s) = absurd (d s)
only_first (First.later d f) (First.later e g) = only_first f g
only_first First.none First.none = refl

-- The number of a first row is below what all numbers of the order are below, and 0 too.
abbrev pub AllBelow : ℕ → List ℕ → Type 0
AllBelow k [] = 0 < k
AllBelow k (m ∷ rest) = (m < k) × AllBelow k rest

pub first_below : {Row : ℕ → Type 0} {n : ℕ} (k : ℕ) (order : List ℕ) → AllBelow k order → First Row order n → n < k
first_below k [] few First.none = few
first_below k (m ∷ rest) few (First.here r) = few.0
first_below k (m ∷ rest) few (First.later fails first) = first_below k rest few.1 first

-- A row that never holds can be left out.
pub left_out
    : {Row : ℕ → Type 0} {n : ℕ} (m : ℕ) (before rest : List ℕ)
    → (Row m → ⊥)
    → First Row (before ++ m ∷ rest) n
    → First Row (before ++ rest) n
left_out m [] rest never (First.here r) = absurd (never r)
left_out m [] rest never (First.later fails first) = first
left_out m (k ∷ before) rest never (First.here r) = First.here r
left_out m (k ∷ before) rest never (First.later fails first) = First.later fails (left_out m before rest never first)

-- A number that is the first row's is given exactly when a row is first.
pub exactly
    : {Row : ℕ → Type 0} {order : List ℕ} {k : ℕ} → First Row order k → (n : ℕ) → (k ≡ n) ↔ First Row order n
exactly {Row} {order} f n = (λ e. subst (First Row order) e f, λ g. only_first f g)
