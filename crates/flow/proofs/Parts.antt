-- A law of the parts of a packet: the options as the code lends them.
use mathlib.Core.Path.{◌≡◌, ap}
use mathlib.Core.List.{List}
use Prim.Native.Nat.{ℕ, ◌-◌, max}
use native.Mathlib.Omega.{arith}
use lib.ListN.{take, drop}
use Rattle.basis.specs.Bytes.{part}

-- The end may be raised to the start: the part is empty both ways.
pub part_raised : (start end : ℕ) (s : List ℕ) → part start (max start end) s ≡ part start end s
part_raised start end s = ap (λ (n : ℕ). take n (drop start s)) same
  where
    same : max start end - start ≡ end - start
    same = omega arith
