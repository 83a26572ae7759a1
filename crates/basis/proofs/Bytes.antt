-- Laws of byte strings: one turn of a loop over a string, and its end; the length of a part.
use mathlib.Core.Path.{◌≡◌}
use mathlib.Core.Bool.{true, false}
use mathlib.Core.List.{List}
use Prim.Native.Nat.{ℕ, ◌+◌, ◌-◌, ◌<◌, ◌≤◌}
use native.Mathlib.Omega.{arith}
use native.Mathlib.Numerals.{add-one}
use lib.ListN.{length, take, drop, length-take, length-drop, drop_of_length-le}
use lib.Seq.{drop-cons, take_all}
use borrow.Author.Tests.{eq-eqb, ne_eqb}
use Rattle.basis.specs.Bytes.{byte_at, part, any_nonzero}

-- What is left of a string from a place on, as a part lent to a call has it.
pub rest_of : (s : List ℕ) (i : ℕ) → take (length s - i) (drop i s) ≡ drop i s
rest_of s i = take_all (length s - i) (drop i s) (simp length-drop (omega arith))

-- A part that ends within the string is as long as its ends are apart.
pub part_length : (start end : ℕ) (s : List ℕ) → end ≤ length s → length (part start end s) ≡ end - start
part_length start end s h = simp (length-take, length-drop) (omega arith)

module _ (s : List ℕ) (i : ℕ) (inside : i < length s) where
  pub nonzero_here : (byte_at s i ≡ 0 → ⊥) → any_nonzero (drop i s) ≡ true
  unfolding any_nonzero
  nonzero_here d = rw (drop-cons s i 0 inside, ne_eqb (byte_at s i) 0 d)

  pub zero_here : byte_at s i ≡ 0 → any_nonzero (drop (i + 1) s) ≡ any_nonzero (drop i s)
  unfolding any_nonzero
  zero_here e = rw (drop-cons s i 0 inside, eq-eqb (byte_at s i) 0 e, add-one)

pub nonzero_end : (s : List ℕ) (i : ℕ) → length s ≤ i → any_nonzero (drop i s) ≡ false
unfolding any_nonzero
nonzero_end s i h = rw (drop_of_length-le s h)
