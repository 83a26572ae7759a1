-- What a reading gives, and readings put together. The grammar does not use them.
use Rattle.std.specs.Prelude.{ℕ, zero, suc, ◌+◌, Bool, true, false, cond, ◌&&◌, List, [], ◌∷◌, eqb, length, drop}
use Rattle.grammar.specs.Language.{cons}

-- How many bytes were read, whether they have a meaning, and the meaning; beside no meaning the value says nothing.
pub record Read (A : Type 0) : Type 0 where
  pub count : ℕ
  pub good : Bool
  pub value : A

-- One byte more was read.
abbrev pub later : {A : Type 0} → Read A → Read A
later x = record { count = suc x.count; good = x.good; value = x.value }

abbrev pub behind_read : {A : Type 0} → ℕ → (List ℕ → Read A) → List ℕ → Read A
behind_read c g [] = record { count = 0; good = false; value = (g []).value }
behind_read c g (b ∷ bs) = cond (eqb b c) (later (g bs)) (record { count = 0; good = false; value = (g []).value })

abbrev pub both : {A B : Type 0} → Read A → Read B → B → Read (A × B)
both x y d =
    cond x.good
    (record { count = x.count + y.count; good = y.good; value = (x.value, y.value) })
    (record { count = x.count; good = false; value = (x.value, d) })

abbrev pub join_read : {A B : Type 0} → (List ℕ → Read A) → (List ℕ → Read B) → List ℕ → Read (A × B)
join_read f g s = both (f s) (g (drop (f s).count s)) (g []).value

abbrev pub then_read : {A B : Type 0} → (List ℕ → Read A) → ℕ → (List ℕ → Read B) → List ℕ → Read (A × B)
then_read f c g = join_read f (behind_read c g)

abbrev pub map_read : {A B : Type 0} → (A → B) → Read A → Read B
map_read f x = record { count = x.count; good = x.good; value = f x.value }

abbrev pub optional_read : {A : Type 0} → A → Read A → Read A
optional_read d x = cond (eqb x.count 0) (record { count = 0; good = true; value = d }) x

abbrev pub more_read : {A : Type 0} → (List ℕ → Read A) → ℕ → ℕ → List ℕ → Read (List A)
more_read f c zero s = record { count = 0; good = true; value = [] }
more_read f c (suc n) s = optional_read [] (behind_read c (λ (r : List ℕ). map_read cons (join_read f (more_read f c n) r)) s)

-- A row, nothing or at most so many more than one; and one of any number.
abbrev pub listed_read : {A : Type 0} → (List ℕ → Read A) → ℕ → ℕ → List ℕ → Read (List A)
listed_read f c n s = optional_read [] (map_read cons (join_read f (more_read f c n) s))

abbrev pub any_listed_read : {A : Type 0} → (List ℕ → Read A) → ℕ → List ℕ → Read (List A)
any_listed_read f c s = optional_read [] (map_read cons (join_read f (λ (r : List ℕ). more_read f c (length r) r) s))

-- What is said of a whole string: its meaning, or the place where it is refused.
pub data Judgement (A : Type 0) : Type 0 where
  means : A → Judgement A
  refused : ℕ → Judgement A

-- Of a string that was read so far: it means something if what was read does and nothing is left.
abbrev pub judgement : {A : Type 0} → List ℕ → Read A → Judgement A
judgement s x = cond (x.good && eqb x.count (length s)) (means x.value) (refused x.count)
