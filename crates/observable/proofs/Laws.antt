-- A layout's kinds: a kind is among the first entries if it is among those that the code lends to the search.
use Rattle.std.specs.List.{list_any}
use mathlib.Core.Path.{◌≡◌, refl, sym, ◌∙◌, ap}
use mathlib.Core.Bool.{◌||◌}
use mathlib.Core.List.{List, [], ◌∷◌}
use Prim.Native.Nat.{ℕ, zero, suc, ◌-◌, ◌≤◌, min}
use native.Mathlib.Omega.{arith}
use lib.Dec.{eqb}
use lib.ListN.{length, take, drop}
use lib.Seq.{take_all}
use native.Mathlib.Decide.{dec_le}
use Rattle.observable.specs.Observation.{holds_kind}

-- The search of the entries before a count.
pub among : (kind count : ℕ) (kinds : List ℕ) → list_any (λ k. eqb k kind) (take count kinds) ≡ holds_kind kind count kinds
unfolding holds_kind
among kind zero [] = refl
among kind (suc count) [] = refl
among kind zero (k ∷ ks) = refl
among kind (suc count) (k ∷ ks) = ap (◌||◌ (eqb k kind)) (among kind count ks)

-- Of a row of at most forty.
pub among_forty
    : (kind count end : ℕ) (kinds : List ℕ)
    → length kinds ≤ 40
    → end ≡ min count 40
    → list_any (λ k. eqb k kind) (take (end - 0) (drop 0 kinds)) ≡ holds_kind kind count kinds
among_forty kind count end kinds few e =
    elim (dec_le count 40) [
      | yes h ↦ let same : end - 0 ≡ count = omega arith in rw same (among kind count kinds)
      | no h ↦
          ap (list_any (λ k. eqb k kind)) (take_all (end - 0) kinds (omega arith) ∙ sym (take_all count kinds (omega arith)))
          ∙ among kind count kinds
    ]
