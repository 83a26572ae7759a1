-- Where the own timestamp does not decide, the multiplier is the same with it and without.
use Rattle.std.specs.Prelude.{Option, Some, None}
use mathlib.Core.Path.{◌≡◌, refl, sym, ap}
use mathlib.Core.Bool.{Bool, true, false, cond, not, ◌&&◌, false≢true}
use Prim.Native.Nat.{ℕ, ◌-◌}
use lib.Dec.{eqb, ltb}
use Rattle.basis.proofs.Tests.{and_false}
use Rattle.tcp.specs.declared.IpVersion.{IpVersion}
use Rattle.window_size.specs.Divisors.{divides, is_v6, peer_size, twelve}
use Rattle.window_size.specs.Multiplier.{first_multiple, multiplier_of}
use Rattle.window_size.specs.Stamp.{stamp_may_decide}

-- Where the first test holds or the second does not, it is no matter whether the second applies.
second_idle
    : {A : Type 0} (first second s t : Bool) (x y z : A)
    → not first && second ≡ false
    → cond first x (cond (s && second) y z) ≡ cond first x (cond (t && second) y z)
second_idle true second s t x y z idle = refl
second_idle false true s t x y z idle = absurd (false≢true (sym idle))
second_idle false false s t x y z idle = rw (and_false s, and_false t)

row_idle
    : (window own headers : ℕ) (s t v6 : Bool) (peer : ℕ)
    → not (divides own window) && divides (own - 12) window ≡ false
    → first_multiple window (twelve own headers s v6 peer) ≡ first_multiple window (twelve own headers t v6 peer)
unfolding first_multiple twelve
row_idle window own headers s t v6 peer idle = second_idle (divides own window) (divides (own - 12) window) s t _ _ _ idle

pub stamp_idle
    : (window : ℕ) (own : Option ℕ) (headers : ℕ) (s t : Bool) (version : IpVersion) (peer : Option ℕ)
    → stamp_may_decide window own ≡ false
    → multiplier_of window own headers s version peer ≡ multiplier_of window own headers t version peer
unfolding multiplier_of stamp_may_decide
stamp_idle window None headers s t version peer idle = refl
stamp_idle window (Some own) headers s t version peer idle = ap (cond (eqb window 0) None) (by_size (ltb own 100) idle)
  where
    by_size
        : (small : Bool)
        → not small && not (divides own window) && divides (own - 12) window ≡ false
        → cond small None (first_multiple window (twelve own headers s (is_v6 version) (peer_size peer)))
        ≡ cond small None (first_multiple window (twelve own headers t (is_v6 version) (peer_size peer)))
    by_size true idle = refl
    by_size false idle = row_idle window own headers s t (is_v6 version) (peer_size peer) idle
