-- The walk takes the first forty bytes of an option string, or those before a place. A cut of the options keeps all that the walk looks
-- at. So no bound on the data offset is asked for.
use mathlib.Core.List.{List}
use Prim.Native.Nat.{ℕ, zero, suc, ◌+◌, ◌-◌, ◌<◌, min}
use native.Mathlib.Omega.{arith}
use native.Mathlib.Nat.{sub-zero}
use lib.ListN.{length, take, length-take}
use Rattle.basis.specs.Bytes.{be32}
use Rattle.one_option.specs.Options.{Opt, options_of}
use Rattle.one_option.proofs.Cut.{cut, options_cut}
use Rattle.alike.specs.Free.{ZeroAlike}
use Rattle.alike.proofs.Places.{be32_take, take_alike, take_byte}
use Rattle.alike.proofs.Options.{LikeStamps, LikeRow}

module _ (n : ℕ) (s t : List ℕ) (a : LikeStamps s t) where
  -- A half that is whole in the first bytes is whole.
  half
      : (i : ℕ)
      → i + 3 < min n (length s)
      → (i + 3 < length s → ZeroAlike (be32 s i) (be32 t i))
      → ZeroAlike (be32 (take n s) i) (be32 (take n t) i)
  half i h whole = rw (be32_take n i s (omega arith), be32_take n i t (omega arith)) (whole (omega arith))

  -- A timestamps option cut, and a row of options cut.
  cut_stamps : LikeStamps (take n s) (take n t)
  cut_stamps =
      record {
        same_length = take_alike n s t a.same_length;
        length_byte = take_byte n s t 0 (λ h. a.length_byte);
        own_stamp = λ h. half 1 (rw length-take at h) a.own_stamp;
        peer_stamp = λ h. half 5 (rw length-take at h) a.peer_stamp;
      }

cut_like : (n : ℕ) {os ps : List Opt} → LikeRow os ps → LikeRow (cut n os) (cut n ps)
cut_like n LikeRow.none = LikeRow.none
cut_like zero (LikeRow.same r) = LikeRow.none
cut_like (suc n) (LikeRow.same {o} r) = LikeRow.same (cut_like (n - length o.own) r)
cut_like zero (LikeRow.stamps a r) = LikeRow.none
cut_like (suc n) (LikeRow.stamps {s} {t} {os} {ps} a r) =
    let rest : LikeRow (cut (n - length s) os) (cut (n - length t) ps) = rw a.same_length (cut_like (n - length t) r) in
    LikeRow.stamps (cut_stamps n s t a) rest

-- The first bytes of two strings whose options are alike.
pub first_like
    : (n : ℕ) (s t : List ℕ)
    → LikeRow (options_of s) (options_of t)
    → LikeRow (options_of (take n s)) (options_of (take n t))
first_like n s t r = rw (options_cut 0 n s, options_cut 0 n t, sub-zero) (cut_like n r)
