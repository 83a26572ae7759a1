-- The byte behind a part, and rows with a separator between, at a place.
use Prim.Native.Nat.{ℕ, suc, ◌+◌, ◌<◌, ◌≤◌}
use mathlib.Core.Path.{◌≡◌, refl}
use mathlib.Core.Bool.{Bool, true, false, cond, ◌&&◌}
use mathlib.Core.List.{List, [], ◌∷◌}
use native.Mathlib.Omega.{arith}
use native.Mathlib.Decide.{dec_le}
use native.Mathlib.Numerals.{add-one}
use lib.Dec.{eqb, ltb}
use lib.ListN.{length, drop, drop_of_length-le}
use lib.Seq.{drop-cons}
use borrow.Author.Tests.{ltb-true, lt-ltb, ne_eqb}
use Rattle.std.specs.Prelude.{Ok, Err}
use Rattle.basis.specs.Bytes.{byte_at}
use Rattle.basis.proofs.Tests.{and_left}
use Rattle.grammar.specs.Language.{cons}
use Rattle.grammar.specs.Reading.{Read, later, behind_read, join_read, map_read, more_read}
use Rattle.signature_line.specs.declared.BadLine.{BadLine}
use Rattle.signature_line.specs.Answer.{bad_at}
use Rattle.one_field.specs.Places.{behind_at}

module _ (c : ℕ) (s : List ℕ) (at : ℕ) where
  abbrev stands : Bool
  stands = ltb at (length s) && eqb (byte_at s at) c

  -- The byte stands there, and the place is the next; or it does not, and no line goes on.
  pub stood : (p : ℕ) → behind_at c s at ≡ Ok p → (stands ≡ true) × (p ≡ at + 1)
  unfolding behind_at
  stood p e = by stands refl e
    where
      by : (k : Bool) → stands ≡ k → cond k (Ok (at + 1)) (bad_at at) ≡ Ok p → (stands ≡ true) × (p ≡ at + 1)
      by true t q = (t, cc)
      by false t q = let z : ◌≡◌ {A = ℕ} 0 1 = cc in absurd (omega arith)

  pub missing : (bad : BadLine) → behind_at c s at ≡ Err bad → (stands ≡ false) × (bad ≡ record { offset = at })
  unfolding behind_at
  missing bad e = by stands refl e
    where
      by : (k : Bool) → stands ≡ k → cond k (Ok (at + 1)) (bad_at at) ≡ Err bad → (stands ≡ false) × (bad ≡ record { offset = at })
      by true t q = let z : ◌≡◌ {A = ℕ} 0 1 = cc in absurd (omega arith)
      by false t q = (t, cc)

  within : stands ≡ true → at < length s
  within t = ltb-true at (length s) (and_left (ltb at (length s)) (eqb (byte_at s at) c) t)

  pub inside : {p : ℕ} → behind_at c s at ≡ Ok p → at < length s
  inside {p} e = within (stood p e).0

  pub one_on : {p : ℕ} → behind_at c s at ≡ Ok p → p ≡ at + 1
  one_on {p} e = (stood p e).1

  pub stays_put : {bad : BadLine} → behind_at c s at ≡ Err bad → bad ≡ record { offset = at }
  stays_put {bad} e = (missing bad e).1

  module _ {A : Type 0} (g : List ℕ → Read A) where
    abbrev unread : Read A
    unread = record { count = 0; good = false; value = (g []).value }

    pub behind_read_lem : {p : ℕ} → behind_at c s at ≡ Ok p → behind_read c g (drop at s) ≡ later (g (drop p s))
    behind_read_lem {p} e =
        let t = stood p e in
        let h = within t.0 in
        let k : eqb (byte_at s at) c ≡ true = rw (lt-ltb at (length s) h) at t.0 in
        rw (t.1, drop-cons s at 0 h, k, add-one at) refl

    pub behind_unread : {bad : BadLine} → behind_at c s at ≡ Err bad → behind_read c g (drop at s) ≡ unread
    behind_unread {bad} e = by (dec_le (suc at) (length s))
      where
        by : Dec (suc at ≤ length s) → behind_read c g (drop at s) ≡ unread
        by (yes h) =
            let k : eqb (byte_at s at) c ≡ false = rw (lt-ltb at (length s) h) at (missing bad e).0 in
            rw (drop-cons s at 0 h, k)
        by (no h) = let out : length s ≤ at = omega arith in rw (drop_of_length-le s out)

-- ---- a row's next

module _ {A : Type 0} (f : List ℕ → Read A) (c : ℕ) (s : List ℕ) (at m : ℕ) where
  rest : List ℕ → Read (List A)
  rest r = map_read cons (join_read f (more_read f c m) r)

  pub more_ends
      : {bad : BadLine}
      → behind_at c s at ≡ Err bad
      → more_read f c (suc m) (drop at s) ≡ record { count = 0; good = true; value = [] }
  unfolding rest
  more_ends q = rw (behind_unread c s at rest q)

  module _ {p : ℕ} (q : behind_at c s at ≡ Ok p) where
    abbrev x : Read A
    x = f (drop p s)

    pub more_goes_on
        : x.good ≡ true
        → (let y = more_read f c m (drop x.count (drop p s)) in
        more_read f c (suc m) (drop at s) ≡ record { count = suc (x.count + y.count); good = y.good; value = x.value ∷ y.value })
    unfolding rest
    more_goes_on g =
        let y = more_read f c m (drop x.count (drop p s)) in
        rw (behind_read_lem c s at rest q, g, ne_eqb (suc (x.count + y.count)) 0 (λ z. omega arith))

    pub more_bad
        : x.good ≡ false
        → more_read f c (suc m) (drop at s) ≡ record { count = suc x.count; good = false; value = x.value ∷ (more_read f c m []).value }
    unfolding rest
    more_bad g = rw (behind_read_lem c s at rest q, g, ne_eqb (suc x.count) 0 (λ z. omega arith))
