-- Laws of bits in bytes: the code's tests of the flags are the definitions'.
use mathlib.Core.Path.{◌≡◌, refl, sym}
use mathlib.Core.Bool.{Bool, true, false, cond, not, ◌||◌, beq, false≢true}
use Prim.Native.Nat.{ℕ, ◌+◌, ◌*◌, ◌/◌, ◌%◌, ◌<◌}
use lib.Dec.{eqb}
use borrow.Author.Tests.{eqb-true, not-true}
use Rattle.basis.specs.Tests.{all_below}
use Rattle.basis.proofs.Tests.{below}
use Rattle.tcp_header.specs.Flags.{masked_type, flags_invalid}

-- One computed test over all bytes.
every_type : all_below (λ (flags : ℕ). eqb (flags % 8 + flags / 16 % 2 * 16) (masked_type flags)) 256 ≡ true
unfolding all_below masked_type
every_type = refl

pub masked_type_lem : (flags : ℕ) → flags < 256 → flags % 8 + flags / 16 % 2 * 16 ≡ masked_type flags
masked_type_lem flags h =
    eqb-true _ (masked_type flags) (below (λ (f : ℕ). eqb (f % 8 + f / 16 % 2 * 16) (masked_type f)) 256 every_type flags h)

-- Valid by the type.
unfoldable pub valid_by_type : ℕ → Bool
valid_by_type t = eqb t 1 || eqb t 2 || eqb t 4 || eqb t 16 || eqb t 17 || eqb t 18 || eqb t 20

beq_same : (a b : Bool) → beq a b ≡ true → a ≡ b
beq_same true true e = refl
beq_same true false e = sym e
beq_same false true e = e
beq_same false false e = refl

-- One computed test over all flags bytes.
every_flags : all_below (λ (flags : ℕ). beq (valid_by_type (masked_type flags)) (not (flags_invalid flags))) 256 ≡ true
unfolding all_below valid_by_type flags_invalid masked_type
every_flags = refl

pub valid_flags : (flags : ℕ) → flags < 256 → valid_by_type (masked_type flags) ≡ not (flags_invalid flags)
valid_flags flags h =
    beq_same (valid_by_type (masked_type flags)) (not (flags_invalid flags))
    (below (λ (f : ℕ). beq (valid_by_type (masked_type f)) (not (flags_invalid f))) 256 every_flags flags h)

-- The flags of a SYN and of a SYN+ACK are valid.
opens_soundly : ℕ → Bool
opens_soundly flags = cond (eqb (masked_type flags) 2 || eqb (masked_type flags) 18) (not (flags_invalid flags)) true

every_opening : all_below opens_soundly 256 ≡ true
unfolding all_below opens_soundly flags_invalid masked_type
every_opening = refl

implied : (a b : Bool) → cond a b true ≡ true → a ≡ true → b ≡ true
implied true b h e = h
implied false b h e = absurd (false≢true e)

pub opening_valid
    : (flags : ℕ) → flags < 256 → eqb (masked_type flags) 2 || eqb (masked_type flags) 18 ≡ true → flags_invalid flags ≡ false
unfolding opens_soundly
opening_valid flags h e =
    not-true (flags_invalid flags)
    (implied (eqb (masked_type flags) 2 || eqb (masked_type flags) 18) (not (flags_invalid flags))
    (below opens_soundly 256 every_opening flags h) e)
