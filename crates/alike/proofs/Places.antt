-- Laws of two strings place by place: their bytes, their numbers of two and four bytes, their parts.
use mathlib.Core.Path.{◌≡◌, refl, sym, ◌∙◌, ap}
use mathlib.Core.Bool.{Bool, true, false, true≢false}
use mathlib.Core.List.{List}
use Prim.Native.Nat.{ℕ, ◌+◌, ◌-◌, ◌<◌, ◌≤◌, min}
use native.Mathlib.Omega.{arith}
use native.Mathlib.Nat.{add_assoc}
use native.Mathlib.Decide.{dec_le, ℕ_discrete}
use lib.Dec.{eqb}
use lib.ListN.{length, take, drop, length-take, length-drop, get_or-eq_default}
use lib.Seq.{take_all, get_or-take, get_or-drop, ext_get_or}
use Rattle.basis.specs.Bytes.{byte_at, be16, be32, part}
use Rattle.alike.specs.Options.{Agree}
use Rattle.alike.specs.Free.{ZeroAlike, Within, DifferOnly}

-- ---- bytes

-- A place lies before another, or not.
pub up_to : {A : Type 0} (n i : ℕ) → (i < n → A) → (n ≤ i → A) → A
up_to n i before after = elim (dec_le n i) [ yes h ↦ after h | no h ↦ before (omega arith) ]

-- Strings that cannot differ at a place agree there.
pub agrees_at : (p q : List ℕ) (i : ℕ) → ((byte_at p i ≡ byte_at q i → ⊥) → ⊥) → byte_at p i ≡ byte_at q i
agrees_at p q i none = elim (ℕ_discrete (byte_at p i) (byte_at q i)) [ yes e ↦ e | no differ ↦ absurd (none differ) ]

-- Strings that differ only in items agree at a place of none.
pub agrees
    : {Item : ℕ → ℕ → Type 0} {p q : List ℕ}
    → DifferOnly Item p q
    → (i : ℕ)
    → (Within Item i → ⊥)
    → byte_at p i ≡ byte_at q i
agrees {Item} {p} {q} d i none = agrees_at p q i (λ differ. none (d.free i differ))

-- Past both ends both read as 0.
pub past_both : (i : ℕ) (p q : List ℕ) → length p ≡ length q → length p ≤ i → byte_at p i ≡ byte_at q i
past_both i p q size h = get_or-eq_default p 0 {n = i} h ∙ sym (get_or-eq_default q 0 {n = i} (omega arith))

-- ---- numbers of two and four bytes

-- Strings that agree at two bytes have the same two-byte number there.
pub be16_alike : (i : ℕ) (p q : List ℕ) → byte_at p i ≡ byte_at q i → byte_at p (i + 1) ≡ byte_at q (i + 1) → be16 p i ≡ be16 q i
unfolding be16
be16_alike i p q high low = rw (high, low)

pub be16_agree : (i : ℕ) (p q : List ℕ) → Agree i (i + 2) p q → be16 p i ≡ be16 q i
be16_agree i p q agree = be16_alike i p q (agree i (omega arith) (omega arith)) (agree (i + 1) (omega arith) (omega arith))

-- Strings that agree at four bytes have the same four-byte number there.
pub be32_agree : (i : ℕ) (p q : List ℕ) → Agree i (i + 4) p q → be32 p i ≡ be32 q i
unfolding be32
be32_agree i p q agree =
    rw (
      be16_agree i p q (λ j l u. agree j (omega arith) (omega arith)),
      be16_agree (i + 2) p q (λ j l u. agree j (omega arith) (omega arith)),
    )

-- A four-byte number in the first bytes is that of the string.
pub be32_take : (n i : ℕ) (s : List ℕ) → i + 3 < n → be32 (take n s) i ≡ be32 s i
unfolding be32 be16
be32_take n i s h =
    rw (
      get_or-take n s i 0 (omega arith),
      get_or-take n s (i + 1) 0 (omega arith),
      get_or-take n s (i + 2) 0 (omega arith),
      get_or-take n s (i + 2 + 1) 0 (omega arith),
    )

-- The four-byte number at a place that is reached in two steps.
pub be32_drop : (n i k : ℕ) (s : List ℕ) → n + i ≡ k → be32 (drop n s) i ≡ be32 s k
unfolding be32 be16
be32_drop n i k s e = simp (← e, get_or-drop, add_assoc)

-- Two numbers stay zero or stay nonzero, if they are the same unless they do.
pub zero_alike : (m n : ℕ) → ((ZeroAlike m n → ⊥) → m ≡ n) → ZeroAlike m n
zero_alike m n f = by (eqb m 0) (eqb n 0) refl refl
  where
    by : (x y : Bool) → eqb m 0 ≡ x → eqb n 0 ≡ y → ZeroAlike m n
    by true true e g = e ∙ sym g
    by false false e g = e ∙ sym g
    by true false e g = ap (λ (k : ℕ). eqb k 0) (f (λ z. true≢false (sym e ∙ z ∙ g)))
    by false true e g = ap (λ (k : ℕ). eqb k 0) (f (λ z. true≢false (sym g ∙ sym z ∙ e)))

-- ---- parts

-- Strings of one length have parts of one length.
pub take_alike : (n : ℕ) (p q : List ℕ) → length p ≡ length q → length (take n p) ≡ length (take n q)
take_alike n p q same = simp (length-take, same)

pub drop_alike : (n : ℕ) (p q : List ℕ) → length p ≡ length q → length (drop n p) ≡ length (drop n q)
drop_alike n p q same = simp (length-drop, same)

pub part_alike : (from to : ℕ) (p q : List ℕ) → length p ≡ length q → length (part from to p) ≡ length (part from to q)
part_alike from to p q same = take_alike (to - from) (drop from p) (drop from q) (drop_alike from p q same)

pub length_part : (from to : ℕ) (s : List ℕ) → length (part from to s) ≡ min (to - from) (length s - from)
length_part from to s = rw (length-take, length-drop)

-- A byte of a part is the string's.
pub part_byte : (from to i : ℕ) (s : List ℕ) → from + i < to → byte_at (part from to s) i ≡ byte_at s (from + i)
part_byte from to i s h = get_or-take (to - from) (drop from s) i 0 (omega arith) ∙ get_or-drop from s i 0

-- The first bytes agree where the strings do.
pub take_byte
    : (n : ℕ) (p q : List ℕ) (i : ℕ) → (i < n → byte_at p i ≡ byte_at q i) → byte_at (take n p) i ≡ byte_at (take n q) i
take_byte n p q i e = elim (dec_le n i) [ yes h ↦ past p h ∙ sym (past q h) | no h ↦ within (omega arith) ]
  where
    past : (s : List ℕ) → n ≤ i → byte_at (take n s) i ≡ 0
    past s h = get_or-eq_default (take n s) 0 {n = i} (rw length-take (omega arith))

    within : i < n → byte_at (take n p) i ≡ byte_at (take n q) i
    within h = get_or-take n p i 0 h ∙ e h ∙ sym (get_or-take n q i 0 h)

-- The bytes after some agree where the strings do.
pub drop_byte : (n : ℕ) (p q : List ℕ) (i : ℕ) → byte_at p (n + i) ≡ byte_at q (n + i) → byte_at (drop n p) i ≡ byte_at (drop n q) i
drop_byte n p q i e = get_or-drop n p i 0 ∙ e ∙ sym (get_or-drop n q i 0)

-- Strings that agree at the first places begin alike.
pub take_same : (n : ℕ) (p q : List ℕ) → length p ≡ length q → Agree 0 n p q → take n p ≡ take n q
take_same n p q same agree =
    ext_get_or 0 (take n p) (take n q) (take_alike n p q same) (λ i b. take_byte n p q i (agree i (omega arith)))

-- Strings that agree in a part have the same part.
pub part_same : (from to : ℕ) (p q : List ℕ) → length p ≡ length q → Agree from to p q → part from to p ≡ part from to q
part_same from to p q same agree =
    take_same (to - from) (drop from p) (drop from q) (drop_alike from p q same)
    (λ i l u. drop_byte from p q i (agree (from + i) (omega arith) (omega arith)))

-- Two parts differ at a place only if the strings do, at a place of both parts.
module _ (from to : ℕ) (p q : List ℕ) (same : length p ≡ length q) (i : ℕ)
    (differ : byte_at (part from to p) i ≡ byte_at (part from to q) i → ⊥) where
  pub part_within : from + i < to
  part_within =
      elim (dec_le to (from + i)) [
        | yes past ↦ absurd (differ (past_both i (part from to p) (part from to q) (part_alike from to p q same)
            (rw (length_part from to p) (omega arith))))
        | no h ↦ omega arith
      ]

  pub part_differ : byte_at p (from + i) ≡ byte_at q (from + i) → ⊥
  part_differ e = differ (part_byte from to i p part_within ∙ e ∙ sym (part_byte from to i q part_within))

-- A part that ends where the string does is one that ends past it.
pub clipped : (from to : ℕ) (s : List ℕ) → part from (min to (length s)) s ≡ part from to s
clipped from to s = elim (dec_le to (length s)) [ yes h ↦ inside h | no h ↦ past h ]
  where
    inside : to ≤ length s → part from (min to (length s)) s ≡ part from to s
    inside h = let e : min to (length s) ≡ to = omega arith in rw e

    past : (to ≤ length s → ⊥) → part from (min to (length s)) s ≡ part from to s
    past h =
        let size = length-drop from s in
        rw (take_all (min to (length s) - from) (drop from s) (omega arith), take_all (to - from) (drop from s) (omega arith))
