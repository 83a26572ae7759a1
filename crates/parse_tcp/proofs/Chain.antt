-- Parts one after the other: what is made of the whole is what is read part by part.
use Prim.Native.Nat.{ℕ, ◌+◌}
use mathlib.Core.Path.{◌≡◌, refl, ◌∙◌, ap}
use mathlib.Core.Bool.{Bool, true, false, cond}
use mathlib.Core.List.{List, []}
use native.Mathlib.Omega.{arith}
use lib.ListN.{drop}
use lib.Seq.{drop-drop}
use Rattle.std.specs.Prelude.{Result, Ok, Err}
use Rattle.grammar.specs.Reading.{Read, later, behind_read, join_read, then_read}
use Rattle.signature_line.specs.declared.BadLine.{BadLine}
use Rattle.signature_line.specs.Answer.{bad_at}
use Rattle.numerals.specs.Pieces.{made, and_then}
use Rattle.numerals.proofs.Made.{made_bad}
use Rattle.one_field.specs.Places.{behind_at}
use Rattle.parse_tcp.proofs.MoreLaws.{one_on, stays_put, behind_read_lem, behind_unread}

module _ {A P : Type 0} (of : ℕ → A → P) where
  abbrev chosen : ℕ → Bool → A → Result P BadLine
  chosen at k v = cond k (Ok (of at v)) (bad_at at)

  later_made : (at : ℕ) (x : Read A) → made of at (later x) ≡ made of (at + 1) x
  unfolding made
  later_made at x = ap (λ (i : ℕ). chosen i x.good x.value) (omega arith)

  -- The byte, then a part.
  pub behind_made
      : (c : ℕ) (g : List ℕ → Read A) (s : List ℕ) (at : ℕ)
      → made of at (behind_read c g (drop at s)) ≡ and_then (behind_at c s at) (λ i. made of i (g (drop i s)))
  unfolding and_then
  behind_made c g s at = by (behind_at c s at) refl
    where
      by : (r : Result ℕ BadLine) → behind_at c s at ≡ r
          → made of at (behind_read c g (drop at s)) ≡ and_then r (λ i. made of i (g (drop i s)))
      by (Ok p) e =
          rw (behind_read_lem c s at g e) (later_made at (g (drop p s)) ∙ ap (λ (i : ℕ). made of i (g (drop p s))) (one p e))
        where
          one : (p : ℕ) → behind_at c s at ≡ Ok p → at + 1 ≡ p
          one p e = let q = one_on c s at e in omega arith
      by (Err bad) e =
          rw (behind_unread c s at g e, stays_put c s at e)
          (made_bad of at (record { count = 0; good = false; value = (g []).value }) refl ∙ ap bad_at (omega arith))

-- A part and the next, with nothing between; and with a byte between.
module _ {A B P Q : Type 0} (f : List ℕ → Read A) (p : ℕ → A → P) (of : ℕ → A × B → Q) where
  module _ (s : List ℕ) (at : ℕ) (G : P → Result Q BadLine) where
    abbrev x : Read A
    x = f (drop at s)

    abbrev behind : A → ℕ → B → Q
    behind v i u = of i (v, u)

    pub join_made
        : (g : List ℕ → Read B) → ((i : ℕ) (v : A) → made (behind v) i (g (drop i s)) ≡ G (p i v))
        → made of at (join_read f g (drop at s)) ≡ and_then (made p at x) G
    unfolding made and_then
    join_made g h = by x.good refl
      where
        there : ℕ → Read B
        there i = g (drop i s)

        joined : (y : Read B) → made of at (record { count = x.count + y.count; good = y.good; value = (x.value, y.value) })
            ≡ made (behind x.value) (at + x.count) y
        joined y = ap (λ (i : ℕ). chosen (behind x.value) i y.good y.value) (omega arith)

        by : (k : Bool) → x.good ≡ k → made of at (join_read f g (drop at s)) ≡ and_then (made p at x) G
        by true e = rw (e, drop-drop x.count at s) (joined (there (at + x.count)) ∙ h (at + x.count) x.value)
        by false e = rw e

    pub then_made
        : (c : ℕ) (g : List ℕ → Read B)
        → ((i : ℕ) (v : A) → and_then (behind_at c s i) (λ n. made (behind v) n (g (drop n s))) ≡ G (p i v))
        → made of at (then_read f c g (drop at s)) ≡ and_then (made p at x) G
    then_made c g h = join_made (behind_read c g) (λ i v. behind_made (behind v) c g s i ∙ h i v)
