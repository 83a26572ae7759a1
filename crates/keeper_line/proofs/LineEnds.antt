-- Where a line ends, in the expressions that the code makes.
use Prim.Native.Nat.{ℕ, suc, ◌+◌, ◌-◌, ◌<◌, ◌≤◌}
use mathlib.Core.Path.{◌≡◌}
use mathlib.Core.Bool.{Bool, true, false, cond, ◌&&◌}
use mathlib.Core.List.{List, [], ◌∷◌}
use native.Mathlib.Omega.{arith}
use native.Mathlib.Decide.{dec_le}
use native.Mathlib.Numerals.{add-one}
use lib.Dec.{eqb, ltb}
use lib.ListN.{length, drop, length-drop, drop_of_length-le}
use lib.Seq.{drop-cons}
use borrow.Author.Tests.{le-ltb, eq-eqb, ne_eqb}
use Rattle.basis.specs.Bytes.{byte_at}
use Rattle.keeper_file.specs.Lines.{line_feed, carriage_return}
use Rattle.keeper_line.specs.Places.{to_feed, feed_at, text_end}

-- ---- the line feed, one byte at a time

module _ (s : List ℕ) (i : ℕ) where
  pub feed_here : i < length s → byte_at s i ≡ line_feed → i ≡ feed_at s i
  unfolding to_feed
  feed_here h e = rw (drop-cons s i 0 h, eq-eqb (byte_at s i) line_feed e) (omega arith)

  pub feed_turn : i < length s → (byte_at s i ≡ line_feed → ⊥) → feed_at s (i + 1) ≡ feed_at s i
  unfolding to_feed
  feed_turn h d = rw (drop-cons s i 0 h, ne_eqb (byte_at s i) line_feed d, add-one i) (omega arith)

  pub feed_past : length s ≤ i → i ≡ feed_at s i
  unfolding to_feed
  feed_past h = rw (drop_of_length-le s h) (omega arith)

-- ---- bounds

to_feed_lem : (t : List ℕ) → to_feed t ≤ length t
unfolding to_feed
to_feed_lem [] = omega arith
to_feed_lem (b ∷ t) = by (eqb b line_feed) (to_feed_lem t)
  where
    by : (k : Bool) → to_feed t ≤ length t → cond k 0 (suc (to_feed t)) ≤ suc (length t)
    by true h = omega arith
    by false h = omega arith

module _ (s : List ℕ) (at : ℕ) where
  pub feed_within : at ≤ length s → feed_at s at ≤ length s
  feed_within h = omega (arith, to_feed_lem (drop at s), length-drop at s)

  module _ (feed : ℕ) where
    pub end_before : text_end s at feed ≤ feed
    unfolding text_end
    end_before = by (ltb feed (length s) && ltb at feed && eqb (byte_at s (feed - 1)) carriage_return)
      where
        by : (k : Bool) → cond k (feed - 1) feed ≤ feed
        by true = omega arith
        by false = omega arith

    pub end_behind : at ≤ feed → at ≤ text_end s at feed
    unfolding text_end
    end_behind h = by (dec_le (suc at) feed)
      where
        by_test : (k : Bool) → at < feed → at ≤ cond k (feed - 1) feed
        by_test true l = omega arith
        by_test false l = omega arith

        by
            : Dec (suc at ≤ feed)
            → at ≤ cond (ltb feed (length s) && ltb at feed && eqb (byte_at s (feed - 1)) carriage_return) (feed - 1) feed
        by (yes l) = by_test (ltb feed (length s) && ltb at feed && eqb (byte_at s (feed - 1)) carriage_return) l
        by (no l) = rw (le-ltb at feed (omega arith)) (none (ltb feed (length s)))
          where
            none : (k : Bool) → at ≤ cond (k && false && eqb (byte_at s (feed - 1)) carriage_return) (feed - 1) feed
            none true = h
            none false = h
