-- What is made of a reading, by whether it means something.
use Prim.Native.Nat.{ℕ, ◌+◌}
use mathlib.Core.Path.{◌≡◌, refl, ◌∙◌, ap}
use mathlib.Core.Bool.{Bool, true, false, cond}
use native.Mathlib.Omega.{arith}
use Rattle.std.specs.Prelude.{Result, Ok, Err, IsErrAnd}
use Rattle.std.proofs.lemmas.Result.{err_from_is_err_and}
use Rattle.grammar.specs.Reading.{Read}
use Rattle.signature_line.specs.declared.BadLine.{BadLine}
use Rattle.signature_line.specs.Answer.{bad_at}
use Rattle.numerals.specs.Pieces.{made, and_then}

module _ {A P : Type 0} (of : ℕ → A → P) (at : ℕ) (x : Read A) where
  pub made_good : x.good ≡ true → made of at x ≡ Ok (of (at + x.count) x.value)
  unfolding made
  made_good g = rw g

  pub made_bad : x.good ≡ false → made of at x ≡ bad_at (at + x.count)
  unfolding made
  made_bad g = rw g

  pub made_Ok : (p : P) → made of at x ≡ Ok p → (x.good ≡ true) × (p ≡ of (at + x.count) x.value)
  unfolding made
  made_Ok p e = by x.good refl e
    where
      by : (k : Bool) → x.good ≡ k → cond k (Ok (of (at + x.count) x.value)) (bad_at (at + x.count)) ≡ Ok p
          → (x.good ≡ true) × (p ≡ of (at + x.count) x.value)
      by true g q = (g, cc)
      by false g q = let z : ◌≡◌ {A = ℕ} 0 1 = cc in absurd (omega arith)

  pub made_Err : (bad : BadLine) → made of at x ≡ Err bad → (x.good ≡ false) × (bad ≡ record { offset = at + x.count })
  unfolding made
  made_Err bad e = by x.good refl e
    where
      by : (k : Bool) → x.good ≡ k → cond k (Ok (of (at + x.count) x.value)) (bad_at (at + x.count)) ≡ Err bad
          → (x.good ≡ false) × (bad ≡ record { offset = at + x.count })
      by true g q = let z : ◌≡◌ {A = ℕ} 0 1 = cc in absurd (omega arith)
      by false g q = (g, cc)

-- What is made of what was made.
pub made_map
    : {A P Q : Type 0} (p : ℕ → A → P) (of : ℕ → A → Q) (at : ℕ) (x : Read A) (G : P → Result Q BadLine)
    → ((n : ℕ) (v : A) → Ok (of n v) ≡ G (p n v)) → made of at x ≡ and_then (made p at x) G
unfolding made and_then
made_map {A} {P} {Q} p of at x G h = by x.good
  where
    by : (k : Bool) → cond k (Ok (of (at + x.count) x.value)) (bad_at (at + x.count))
        ≡ and_then (cond k (Ok (p (at + x.count) x.value)) (bad_at (at + x.count))) G
    by true = h (at + x.count) x.value
    by false = refl

-- What is read behind the same, by each of its two outcomes.
pub then_same
    : {A B : Type 0} (r : Result A BadLine) {f g : A → Result B BadLine} → ((x : A) → f x ≡ g x) → and_then r f ≡ and_then r g
unfolding and_then
then_same (Ok x) h = h x
then_same (Err bad) h = refl

-- What a `?` gives where the part was refused, and where it was read.
module _ {A B : Type 0} {r : Result A BadLine} (f : A → Result B BadLine) where
  pub err_then : {bad : BadLine} → Err bad ≡ r → Err bad ≡ and_then r f
  unfolding and_then
  err_then e = rw (← e)

  pub ok_then : {x : A} {y : Result B BadLine} → Ok x ≡ r → y ≡ f x → y ≡ and_then r f
  unfolding and_then
  ok_then e q = rw (← e) q

pub exit : {A : Type 0} {r : Result A BadLine} {bad : BadLine} → IsErrAnd r (λ e. e ≡ bad) → r ≡ Err bad
exit {A} {r} {bad} h = let p = err_from_is_err_and r h in p.1 ∙ ap Err p.2
