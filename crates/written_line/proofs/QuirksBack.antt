-- Quirks that stand strictly rising in display order are those that are written of the set of their bits.
use Prim.Native.Nat.{ℕ}
use mathlib.Core.Path.{◌≡◌, refl, sym, ◌∙◌}
use mathlib.Core.Logic.{◌≢◌, inl, inr}
use mathlib.Core.Bool.{Bool, true, not, ◌&&◌, false≢true}
use mathlib.Core.List.{List, [], ◌∷◌}
use native.Mathlib.Omega.{arith}
use lib.Bits.{bit_or}
use lib.Dec.{eqb}
use borrow.Author.Tests.{eq-eqb}
use Rattle.basis.specs.Digits.{digit}
use Rattle.basis.proofs.Digits.{digit_lt, digit_of_zero, digit_or, digit_power_same, digit_power_other}
use Rattle.basis.proofs.Tests.{and_left, and_right}
use Rattle.quirks.specs.declared.Quirk.{Quirk}
use Rattle.quirks.specs.Quirks.{bit_of, set_of, place_of, holds, contains}
use Rattle.quirks.specs.Named.{display_order}
use Rattle.grammar.specs.Table.{Said}
use Rattle.signature_line.specs.Meaning.{union_from}
use Rattle.signature_line.proofs.FieldsGood.{Each}
use Rattle.written_line.specs.Signature.{chosen}
use Rattle.written_line.specs.WrittenForm.{RisingIn}

-- ---- places

-- No quirk of a row has its bit at the place; no two of a row have the same place.
abbrev other_places : ℕ → List Quirk → Bool
other_places k [] = true
other_places k (q ∷ qs) = not (eqb (place_of q) k) && other_places k qs

abbrev places_apart : List Quirk → Bool
places_apart [] = true
places_apart (q ∷ qs) = other_places (place_of q) qs && places_apart qs

display_apart : places_apart display_order ≡ true
unfolding display_order place_of
display_apart = refl

bit_there : (q : Quirk) → digit (bit_of q) (place_of q) ≡ 1
unfolding bit_of
bit_there q = digit_power_same (place_of q)

bit_elsewhere : (q : Quirk) (k : ℕ) → place_of q ≢ k → digit (bit_of q) k ≡ 0
unfolding bit_of
bit_elsewhere q k other = digit_power_other (place_of q) k other

apart_from : (q : Quirk) (k : ℕ) (qs : List Quirk) → other_places k (q ∷ qs) ≡ true → place_of q ≢ k
apart_from q k qs o same = false≢true (sym (rw (eq-eqb (place_of q) k same)) ∙ and_left (not (eqb (place_of q) k)) (other_places k qs) o)

-- ---- the union's digit at a place

none_with : (n m k : ℕ) → digit n k ≡ 0 → digit m k ≡ 0 → digit (bit_or n m) k ≡ 0
none_with n m k a b = digit_or n m k ∙ rw (a, b)

union_keeps : (n k : ℕ) (vs : List Said) → digit n k ≡ 1 → digit (union_from n vs) k ≡ 1
unfolding union_from
union_keeps n k [] e = e
union_keeps n k (v ∷ vs) e =
    let low = digit_lt v.form k in
    union_keeps (bit_or n v.form) k vs (digit_or n v.form k ∙ omega arith)

union_none : (n k : ℕ) (qs : List Quirk) → other_places k qs ≡ true → (vs : List Said) → RisingIn qs vs → digit n k ≡ 0
    → digit (union_from n vs) k ≡ 0
unfolding union_from
union_none n k qs o [] r e = e
union_none n k [] o (v ∷ vs) r e = absurd r
union_none n k (q ∷ qs) o (v ∷ vs) (inl r) e =
    let here = bit_elsewhere q k (apart_from q k qs o) in
    union_none (bit_or n v.form) k qs (and_right (not (eqb (place_of q) k)) _ o) vs r.1 (none_with n v.form k e (rw r.0 here))
union_none n k (q ∷ qs) o (v ∷ vs) (inr r) e = union_none n k qs (and_right (not (eqb (place_of q) k)) _ o) (v ∷ vs) r e

-- ---- those that are chosen

-- A number has no bit of a row of quirks.
abbrev NoneAt : ℕ → List Quirk → Type 0
NoneAt n = Each (λ (q : Quirk). digit n (place_of q) ≡ 0)

none_behind : (n : ℕ) (p : Quirk) (qs : List Quirk) → other_places (place_of p) qs ≡ true → NoneAt n qs → NoneAt (bit_or n (bit_of p)) qs
none_behind n p [] o none = tt
none_behind n p (q ∷ qs) o none =
    let other = apart_from q (place_of p) qs o in (
      none_with n (bit_of p) (place_of q) none.0 (bit_elsewhere p (place_of q) (λ same. other (sym same))),
      none_behind n p qs (and_right (not (eqb (place_of q) (place_of p))) _ o) none.1,
    )

-- No word of a row has a number.
abbrev pub Bare : List Said → Type 0
Bare = Each (λ (v : Said). v.number ≡ 0)

chosen_back : (qs : List Quirk) → places_apart qs ≡ true → (n : ℕ) → NoneAt n qs → (vs : List Said) → Bare vs → RisingIn qs vs
    → chosen (set_of (union_from n vs)) qs ≡ vs
unfolding chosen contains holds union_from
chosen_back [] a n none [] bare r = refl
chosen_back [] a n none (v ∷ vs) bare r = absurd r
chosen_back (q ∷ qs) a n none [] bare r =
    let absent = union_none n (place_of q) qs (and_left _ (places_apart qs) a) [] tt none.0 in
    rw absent (chosen_back qs (and_right (other_places (place_of q) qs) _ a) n none.1 [] tt tt)
chosen_back (q ∷ qs) a n none (v ∷ vs) bare (inl r) =
    let apart = and_left _ (places_apart qs) a in
    let set : digit (bit_or n v.form) (place_of q) ≡ 1 = digit_or n v.form (place_of q) ∙ rw (r.0, none.0, bit_there q) in
    let there = union_keeps (bit_or n v.form) (place_of q) vs set in
    let behind = none_behind n q qs apart none.1 in
    let rest : chosen (set_of (union_from (bit_or n v.form) vs)) qs ≡ vs =
    rw r.0 (chosen_back qs (and_right (other_places (place_of q) qs) _ a) (bit_or n (bit_of q)) behind vs bare.1 r.1) in
    rw (there, rest, ← r.0, ← bare.0)
chosen_back (q ∷ qs) a n none (v ∷ vs) bare (inr r) =
    let absent = union_none n (place_of q) qs (and_left _ (places_apart qs) a) (v ∷ vs) r none.0 in
    rw absent (chosen_back qs (and_right (other_places (place_of q) qs) _ a) n none.1 (v ∷ vs) bare r)

none_at_all : (qs : List Quirk) → NoneAt 0 qs
none_at_all [] = tt
none_at_all (q ∷ qs) = (digit_of_zero (place_of q), none_at_all qs)

pub quirks_back : (vs : List Said) → Bare vs → RisingIn display_order vs → chosen (set_of (union_from 0 vs)) display_order ≡ vs
quirks_back = chosen_back display_order display_apart 0 (none_at_all display_order)
