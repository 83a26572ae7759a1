-- Laws of a row of fields: one turn of the loops over it, and their ends.
use Prim.Native.Nat.{ℕ, ◌+◌, ◌<◌, ◌≤◌}
use mathlib.Core.Path.{◌≡◌, refl, sym, ◌∙◌, ap, subst}
use mathlib.Core.Bool.{Bool, true, false, not, cond, ◌||◌}
use mathlib.Core.List.{List, [], ◌∷◌, ◌++◌}
use native.Mathlib.Numerals.{add-one}
use lib.ListN.{length, drop, get_or, drop_of_length-le}
use lib.Seq.{drop-cons}
use denote.Enum.Bare.{sameb}
use Rattle.text.specs.Written.{Put}
use Rattle.text.proofs.Writing.{both}
use Rattle.explain.specs.declared.gates.Said.{Said}
use Rattle.explain.specs.declared.gates.Said.TheVariants as said
use Rattle.explain.specs.contracts.gates.Said.{the_type}
use Rattle.explain.specs.GateText.{dash, same, shown_name, names_from}

-- What the derived `==` of two says.
pub same_lem : (x y : Said) → sameb the_type x y ≡ same x y
same_lem said.Holds said.Holds = refl
same_lem said.Holds said.Tolerated = refl
same_lem said.Holds said.Fails = refl
same_lem said.Tolerated said.Holds = refl
same_lem said.Tolerated said.Tolerated = refl
same_lem said.Tolerated said.Fails = refl
same_lem said.Fails said.Holds = refl
same_lem said.Fails said.Tolerated = refl
same_lem said.Fails said.Fails = refl

module _
    (row : List Said) (k : ℕ) (inside : k < length row) (d what : Said) (any shown : Bool)
    (said-is : shown ≡ same (get_or row k d) what)
  where
    names_turn : names_from what any k (drop k row) ≡ shown_name any shown k ++ names_from what (any || shown) (k + 1) (drop (k + 1) row)
    unfolding names_from
    names_turn =
        rw said-is
        (ap (names_from what any k) (drop-cons row k d inside)
        ∙ ap (λ (j : ℕ). names_from what any k (get_or row k d ∷ drop j row)) (sym (add-one k)))

    -- A name that is shown, and those behind it.
    pub names_put
        : (b b' b'' : List ℕ) (at next n : ℕ)
        → Put b at (shown_name any shown k) next b'
        → Put b' next (names_from what (any || shown) (k + 1) (drop (k + 1) row)) n b''
        → Put b at (names_from what any k (drop k row)) n b''
    names_put b b' b'' at next n one more =
        subst (λ (s : List ℕ). Put b at s n b'') (sym names_turn) (both b b' b'' _ _ at next n one more)

pub names_end
    : (row : List Said) (k : ℕ) (what : Said) (any : Bool) → length row ≤ k
    → cond (not any) dash [] ≡ names_from what any k (drop k row)
unfolding names_from
names_end row k what true past = sym (ap (names_from what true k) (drop_of_length-le row past))
names_end row k what false past = sym (ap (names_from what false k) (drop_of_length-le row past))
