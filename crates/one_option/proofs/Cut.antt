-- The options of the first bytes of a string are its options cut off there.
use mathlib.Core.Path.{◌≡◌, refl, sym, ◌∙◌, ap, ap₂}
use mathlib.Core.Bool.{Bool, true, false, cond}
use mathlib.Core.List.{List, [], ◌∷◌}
use Prim.Native.Nat.{ℕ, zero, suc, ◌-◌, ◌≤◌, min, max}
use native.Mathlib.Omega.{arith}
use native.Mathlib.Nat.{sub-zero, zero-sub, suc-sub-suc, zero-min, suc-min-suc}
use native.Mathlib.Decide.{dec_le}
use lib.Dec.{eqb}
use lib.ListN.{length, take, length-take, drop_of_length-le}
use lib.Seq.{take-nil, get_or-take}
use Rattle.basis.specs.Bytes.{byte_at}
use Rattle.one_option.specs.Options.{Opt, asked, options_after, options_of}
use Rattle.one_option.proofs.See.{opt}
use Rattle.one_option.proofs.Options.{skipped, take_clipped}

-- The options that begin in the first bytes, each cut there.
abbrev pub cut : ℕ → List Opt → List Opt
cut n [] = []
cut zero (o ∷ os) = []
cut (suc n) (o ∷ os) = opt o.kind (take n o.own) ∷ cut (n - length o.own) os

cut_at_zero : (os : List Opt) → cut 0 os ≡ []
cut_at_zero [] = refl
cut_at_zero (o ∷ os) = refl

-- ---- the options of the first bytes are the options cut

-- To skip more than there is is to skip what there is.
after_clipped : (k : ℕ) (s : List ℕ) → options_after k s ≡ options_after (min k (length s)) s
unfolding options_after
after_clipped k [] = refl
after_clipped zero (b ∷ s) = rw zero-min
after_clipped (suc k) (b ∷ s) = rw suc-min-suc (after_clipped k s)

-- Of two cuts either may come first.
take_swap : (m n : ℕ) (s : List ℕ) → take m (take n s) ≡ take n (take m s)
take_swap zero n s = sym (take-nil n)
take_swap (suc m) zero s = refl
take_swap (suc m) (suc n) [] = refl
take_swap (suc m) (suc n) (b ∷ s) = ap (◌∷◌ b) (take_swap m n s)

-- What an option asks for, as far as there is any, shows in the first bytes already.
asked_first
    : (b n : ℕ) (s : List ℕ)
    → min (asked b (take n s)) (length (take n s)) ≡ min (asked b s) (length (take n s))
unfolding asked
asked_first b zero s = omega arith
asked_first b (suc n) s = by_kind (eqb b 0) (eqb b 1)
  where
    by_kind
        : (last nop : Bool)
        → min (cond last (length (take (suc n) s)) (cond nop 0 (max (byte_at (take (suc n) s) 0) 2 - 1))) (length (take (suc n) s))
        ≡ min (cond last (length s) (cond nop 0 (max (byte_at s 0) 2 - 1))) (length (take (suc n) s))
    by_kind true nop = rw length-take (omega arith)
    by_kind false true = refl
    by_kind false false = rw (get_or-take (suc n) s 0 0 (omega arith))

module _ (b n : ℕ) (s : List ℕ) where
  -- The own bytes of the option among the first bytes, and the options after it.
  own_first : take (asked b (take n s)) (take n s) ≡ take n (take (asked b s) s)
  own_first =
      take_clipped (asked b (take n s)) (take n s)
      ∙ ap (λ (k : ℕ). take k (take n s)) (asked_first b n s)
      ∙ sym (take_clipped (asked b s) (take n s))
      ∙ take_swap (asked b s) n s

  after_first : options_after (asked b (take n s)) (take n s) ≡ options_after (asked b s) (take n s)
  after_first =
      after_clipped (asked b (take n s)) (take n s)
      ∙ ap (λ (k : ℕ). options_after k (take n s)) (asked_first b n s)
      ∙ sym (after_clipped (asked b s) (take n s))

-- To skip what there is of an option is to skip all that it asks for.
cut_clipped : (k n : ℕ) (s : List ℕ) → cut (n - k) (options_after k s) ≡ cut (n - length (take k s)) (options_after k s)
unfolding options_after
cut_clipped k n s = elim (dec_le k (length s)) [ yes h ↦ inside h | no h ↦ past h ]
  where
    inside : k ≤ length s → cut (n - k) (options_after k s) ≡ cut (n - length (take k s)) (options_after k s)
    inside h = let e : length (take k s) ≡ k = rw length-take (omega arith) in rw e

    past : (k ≤ length s → ⊥) → cut (n - k) (options_after k s) ≡ cut (n - length (take k s)) (options_after k s)
    past h =
        let none : options_after k s ≡ [] = skipped k s ∙ ap options_of (drop_of_length-le s {i = k} (omega arith)) in
        rw none

-- The options of the first bytes are the options cut there.
pub options_cut : (k n : ℕ) (s : List ℕ) → options_after k (take n s) ≡ cut (n - k) (options_after k s)
unfolding options_after
options_cut k n [] = rw take-nil
options_cut (suc k) zero (b ∷ s) = rw (zero-sub, cut_at_zero)
options_cut (suc k) (suc n) (b ∷ s) = rw suc-sub-suc (options_cut k n s)
options_cut zero zero (b ∷ s) = refl
options_cut zero (suc n) (b ∷ s) =
    rw sub-zero
    (ap₂ {C = List Opt} (λ (own : List ℕ) (rest : List Opt). opt b own ∷ rest) (own_first b n s)
    (after_first b n s ∙ options_cut (asked b s) n s ∙ cut_clipped (asked b s) n s))
