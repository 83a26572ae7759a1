-- Texts that say what they are written for, not too long and without leading zeros: a table's words, and texts put together.
use Prim.Native.Nat.{ℕ, zero, suc, ◌+◌, ◌*◌, ◌-◌, ◌≤◌}
use mathlib.Core.Path.{◌≡◌, refl}
use mathlib.Core.Logic.{inl, inr}
use mathlib.Core.Bool.{true, false}
use mathlib.Core.List.{List, [], ◌∷◌, ◌++◌}
use native.Mathlib.Nat.{suc-mul}
use native.Mathlib.Omega.{arith}
use lib.ListN.{length, length-append}
use Rattle.grammar.specs.Language.{Join, Then, Optional, More, Listed, AnyMore, AnyListed}
use Rattle.grammar.specs.LeadingZero.{is_digit, begins_with_digit, plain_behind, no_leading_zero}
use Rattle.grammar.specs.Spelling.{spelt, more_text, listed_text}
use Rattle.grammar.specs.Table.{Row, Said, Choice}
use Rattle.grammar.proofs.LeadingZero.{rows_plain, spelt_plain, plain_before, plain_behind_lem, plain_between}
use Rattle.grammar.proofs.Spelling.{Fits, rows_short, spelt_says, spelt_short}
use Rattle.signature_line.proofs.FieldsGood.{Each}

-- A word that means this, of at most so many bytes, without leading zeros.
pub record Spelled {A : Type 0} (L : List ℕ → A → Type 0) (v : A) (w : List ℕ) (most : ℕ) : Type 0 where
  pub says : L w v
  pub short : length w ≤ most
  pub plain : no_leading_zero w ≡ true

pub table_spelled
    : (most : ℕ) (rows : List Row) → rows_short most rows ≡ true → rows_plain rows ≡ true → (v : Said) → Fits rows v
    → Spelled (Choice rows) v (spelt rows v) most
table_spelled most rows s p v h =
    record { says = spelt_says rows v h; short = spelt_short most rows s v h; plain = spelt_plain rows p v h }

-- ---- fields put together

module _ {A B : Type 0} {F : List ℕ → A → Type 0} {G : List ℕ → B → Type 0} {a : A} {b : B} {x y : List ℕ} {m n : ℕ} where
  pub join_spelled : begins_with_digit y ≡ false → Spelled F a x m → Spelled G b y n → Spelled (Join F G) (a, b) (x ++ y) (m + n)
  join_spelled e f g =
      record {
        says = record { left = x; right = y; splits = refl; first = f.says; second = g.says };
        short = simp length-append (omega (arith, f.short, g.short));
        plain = plain_before x y e f.plain g.plain;
      }

  pub then_spelled
      : (c : ℕ) → is_digit c ≡ false → Spelled F a x m → Spelled G b y n → Spelled (Then F c G) (a, b) (x ++ c ∷ y) (m + suc n)
  then_spelled c e f g =
      record {
        says = record { left = x; right = c ∷ y; splits = refl; first = f.says; second = (refl, g.says) };
        short = simp length-append (omega (arith, f.short, g.short));
        plain = plain_between c x y e f.plain g.plain;
      }

-- ---- rows of fields, and a byte between

-- Each of a row has such a word.
abbrev pub EachSpelled : {A : Type 0} → (List ℕ → A → Type 0) → (A → List ℕ) → ℕ → List A → Type 0
EachSpelled {A} F text most = Each (λ (v : A). Spelled F v (text v) most)

module _ {A : Type 0} (F : List ℕ → A → Type 0) (text : A → List ℕ) (c most : ℕ) (between : is_digit c ≡ false) where
  no_digit_more : (vs : List A) → begins_with_digit (more_text text c vs) ≡ false
  no_digit_more [] = refl
  no_digit_more (v ∷ vs) = between

  more_spelled
      : (n : ℕ) (vs : List A) → EachSpelled F text most vs → length vs ≤ n
      → Spelled (More F c n) vs (more_text text c vs) (length vs * suc most)
  unfolding plain_behind
  more_spelled zero [] all h = record { says = (refl, refl); short = omega arith; plain = refl }
  more_spelled (suc n) [] all h = record { says = inl (refl, refl); short = omega arith; plain = refl }
  more_spelled zero (v ∷ vs) all h = absurd (omega arith)
  more_spelled (suc n) (v ∷ vs) all h =
      let rest = more_spelled n vs all.1 (omega arith) in
      let both = join_spelled (no_digit_more vs) all.0 rest in
      record {
        says = inr (refl, ((v, vs), both.says, refl));
        short = omega (arith, both.short, suc-mul (length vs) (suc most));
        plain = plain_behind_lem c (text v ++ more_text text c vs) between both.plain;
      }

  -- Nothing, or one and at most so many more; and any number. The byte stands before all but one.
  pub listed_spelled
      : (n : ℕ) (vs : List A) → EachSpelled F text most vs → length vs ≤ suc n
      → Spelled (Optional [] (Listed F c n)) vs (listed_text text c vs) (length vs * suc most - 1)
  unfolding plain_behind
  listed_spelled n [] all h = record { says = inl (refl, refl); short = omega arith; plain = refl }
  listed_spelled n (v ∷ vs) all h =
      let both = join_spelled (no_digit_more vs) all.0 (more_spelled n vs all.1 (omega arith)) in
      record {
        says = inr ((v, vs), both.says, refl);
        short = omega (arith, both.short, suc-mul (length vs) (suc most));
        plain = both.plain;
      }

  pub any_listed_spelled
      : (vs : List A) → EachSpelled F text most vs
      → Spelled (Optional [] (AnyListed F c)) vs (listed_text text c vs) (length vs * suc most - 1)
  unfolding plain_behind
  any_listed_spelled [] all = record { says = inl (refl, refl); short = omega arith; plain = refl }
  any_listed_spelled (v ∷ vs) all =
      let more = more_spelled (length vs) vs all.1 (omega arith) in
      let rest : Spelled (AnyMore F c) vs (more_text text c vs) (length vs * suc most) =
      record { says = (length vs, more.says); short = more.short; plain = more.plain } in
      let both = join_spelled (no_digit_more vs) all.0 rest in
      record {
        says = inr ((v, vs), both.says, refl);
        short = omega (arith, both.short, suc-mul (length vs) (suc most));
        plain = both.plain;
      }
