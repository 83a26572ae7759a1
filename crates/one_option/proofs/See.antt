-- What one option shows, kind by kind, in terms of its own bytes.
use Rattle.std.specs.Prelude.{Option, Some}
use mathlib.Core.Path.{◌≡◌, refl}
use mathlib.Core.Bool.{Bool, true, false, not, ◌&&◌}
use mathlib.Core.List.{List}
use Prim.Native.Nat.{ℕ, suc, ◌+◌, ◌*◌, ◌<◌, ◌≤◌}
use native.Mathlib.Omega.{arith}
use lib.Dec.{eqb, leb, ltb}
use lib.ListN.{length, drop, length-drop}
use lib.Seq.{get_or-drop}
use borrow.Author.Tests.{le-leb, lt-leb, eq-eqb, ne_eqb}
use Rattle.basis.specs.Bytes.{byte_at, be16, be32, any_nonzero}
use Rattle.quirks.specs.declared.Quirk.TheVariants as quirk
use Rattle.quirks.specs.declared.QuirkSet.{QuirkSet}
use Rattle.quirks.specs.Quirks.{add_if}
use Rattle.one_option.specs.declared.Seen.{Seen}
use Rattle.one_option.specs.Options.{Opt}
use Rattle.one_option.specs.See.{later_mss, later_scale, trailing_nonzero, excessive_scaling, own_timestamp_zero}
use Rattle.one_option.specs.See.{peer_timestamp_nonzero, later_quirks, see_option}

-- An option of a kind with these own bytes.
abbrev pub opt : ℕ → List ℕ → Opt
opt kind own = record { kind = kind; own = own }

-- The data is one byte shorter than the own bytes, which begin with the length byte.
data_short : (own : List ℕ) (n : ℕ) → length own ≤ suc n → leb (suc n) (length (drop 1 own)) ≡ false
data_short own n h = lt-leb (suc n) (length (drop 1 own)) (simp length-drop (omega arith))

data_enough : (own : List ℕ) (n : ℕ) → n < length own → leb n (length (drop 1 own)) ≡ true
data_enough own n h = le-leb n (length (drop 1 own)) (simp length-drop (omega arith))

module _ (syn : Bool) (s : Seen) (own : List ℕ) where
  pub other_kind
      : (kind : ℕ)
      → (kind ≡ 0 → ⊥)
      → (kind ≡ 2 → ⊥)
      → (kind ≡ 3 → ⊥)
      → (kind ≡ 8 → ⊥)
      → see_option syn s (opt kind own) ≡ s
  unfolding see_option later_mss later_scale trailing_nonzero excessive_scaling own_timestamp_zero peer_timestamp_nonzero later_quirks
      add_if
  other_kind kind n0 n2 n3 n8 = simp (ne_eqb kind 0 n0, ne_eqb kind 2 n2, ne_eqb kind 3 n3, ne_eqb kind 8 n8)

  pub end_of_options
      : see_option syn s (opt 0 own)
      ≡ record { mss = s.mss; wscale = s.wscale; quirks = add_if (any_nonzero own) quirk.TrailinigNonZero s.quirks }
  unfolding see_option later_mss later_scale trailing_nonzero excessive_scaling own_timestamp_zero peer_timestamp_nonzero later_quirks
      add_if
  end_of_options = refl

  pub mss_short : length own ≤ 2 → see_option syn s (opt 2 own) ≡ s
  unfolding see_option later_mss later_scale trailing_nonzero excessive_scaling own_timestamp_zero peer_timestamp_nonzero later_quirks
      add_if
  mss_short h = simp (data_short own 1 h)

  pub mss_enough
      : 2 < length own
      → see_option syn s (opt 2 own)
      ≡ record { mss = Some (byte_at own 1 * 256 + byte_at own 2); wscale = s.wscale; quirks = s.quirks }
  unfolding see_option later_mss later_scale trailing_nonzero excessive_scaling own_timestamp_zero peer_timestamp_nonzero later_quirks
      add_if be16
  mss_enough h = simp (data_enough own 2 h, get_or-drop)

  pub scale_short : length own ≤ 1 → see_option syn s (opt 3 own) ≡ s
  unfolding see_option later_mss later_scale trailing_nonzero excessive_scaling own_timestamp_zero peer_timestamp_nonzero later_quirks
      add_if
  scale_short h = simp (data_short own 0 h)

  pub scale_enough
      : 1 < length own
      → see_option syn s (opt 3 own)
      ≡ record {
        mss = s.mss;
        wscale = Some (byte_at own 1);
        quirks = add_if (ltb 14 (byte_at own 1)) quirk.ExcessiveWindowScaling s.quirks;
      }
  unfolding see_option later_mss later_scale trailing_nonzero excessive_scaling own_timestamp_zero peer_timestamp_nonzero later_quirks
      add_if
  scale_enough h = simp (data_enough own 1 h, get_or-drop)

  pub stamps_none : length own ≤ 4 → see_option syn s (opt 8 own) ≡ s
  unfolding see_option later_mss later_scale trailing_nonzero excessive_scaling own_timestamp_zero peer_timestamp_nonzero later_quirks
      add_if
  stamps_none h = simp (data_short own 3 h, data_short own 7 (omega arith))

  pub stamps_own
      : 4 < length own
      → length own ≤ 8
      → see_option syn s (opt 8 own)
      ≡ record {
        mss = s.mss;
        wscale = s.wscale;
        quirks = add_if (eqb (be32 own 1) 0) quirk.OwnTimestampZero s.quirks;
      }
  unfolding see_option later_mss later_scale trailing_nonzero excessive_scaling own_timestamp_zero peer_timestamp_nonzero later_quirks
      add_if be32 be16
  stamps_own h k = simp (data_enough own 4 h, data_short own 7 k, get_or-drop)

  pub stamps_both
      : 8 < length own
      → see_option syn s (opt 8 own)
      ≡ record {
        mss = s.mss;
        wscale = s.wscale;
        quirks =
            add_if (syn && not (eqb (be32 own 5) 0)) quirk.PeerTimestampNonZero
            (add_if (eqb (be32 own 1) 0) quirk.OwnTimestampZero s.quirks);
      }
  unfolding see_option later_mss later_scale trailing_nonzero excessive_scaling own_timestamp_zero peer_timestamp_nonzero later_quirks
      add_if be32 be16
  stamps_both h = simp (data_enough own 4 (omega arith), data_enough own 8 h, get_or-drop)

-- ---- field by field

module _ (syn : Bool) (q : QuirkSet) (own : List ℕ) where
  pub other_quirks : (kind : ℕ) → (kind ≡ 0 → ⊥) → (kind ≡ 3 → ⊥) → (kind ≡ 8 → ⊥) → later_quirks syn q (opt kind own) ≡ q
  unfolding trailing_nonzero excessive_scaling own_timestamp_zero peer_timestamp_nonzero later_quirks add_if
  other_quirks kind n0 n3 n8 = simp (ne_eqb kind 0 n0, ne_eqb kind 3 n3, ne_eqb kind 8 n8)

  pub last_quirks
      : (kind : ℕ) → kind ≡ 0 → later_quirks syn q (opt kind own) ≡ add_if (any_nonzero own) quirk.TrailinigNonZero q
  unfolding trailing_nonzero excessive_scaling own_timestamp_zero peer_timestamp_nonzero later_quirks add_if
  last_quirks kind e = rw e

  pub short_scaling : length own ≤ 1 → later_quirks syn q (opt 3 own) ≡ q
  unfolding trailing_nonzero excessive_scaling own_timestamp_zero peer_timestamp_nonzero later_quirks add_if
  short_scaling h = simp (data_short own 0 h)

  pub enough_scaling
      : 1 < length own
      → later_quirks syn q (opt 3 own) ≡ add_if (ltb 14 (byte_at own 1)) quirk.ExcessiveWindowScaling q
  unfolding trailing_nonzero excessive_scaling own_timestamp_zero peer_timestamp_nonzero later_quirks add_if
  enough_scaling h = simp (data_enough own 1 h, get_or-drop)

  pub no_stamps : length own ≤ 4 → later_quirks syn q (opt 8 own) ≡ q
  unfolding trailing_nonzero excessive_scaling own_timestamp_zero peer_timestamp_nonzero later_quirks add_if
  no_stamps h = simp (data_short own 3 h, data_short own 7 (omega arith))

  pub own_stamp
      : 4 < length own
      → length own ≤ 8
      → later_quirks syn q (opt 8 own) ≡ add_if (eqb (be16 own 1 * 65536 + be16 own 3) 0) quirk.OwnTimestampZero q
  unfolding trailing_nonzero excessive_scaling own_timestamp_zero peer_timestamp_nonzero later_quirks add_if be32 be16
  own_stamp h k = simp (data_enough own 4 h, data_short own 7 k, get_or-drop)

  pub both_stamps
      : 8 < length own
      → later_quirks syn q (opt 8 own)
      ≡ add_if (syn && not (eqb (be16 own 5 * 65536 + be16 own 7) 0)) quirk.PeerTimestampNonZero
      (add_if (eqb (be16 own 1 * 65536 + be16 own 3) 0) quirk.OwnTimestampZero q)
  unfolding trailing_nonzero excessive_scaling own_timestamp_zero peer_timestamp_nonzero later_quirks add_if be32 be16
  both_stamps h = simp (data_enough own 4 (omega arith), data_enough own 8 h, get_or-drop)

module _ (m : Option ℕ) (kind : ℕ) (own : List ℕ) where
  pub no_mss : (kind ≡ 2 → ⊥) → later_mss m (opt kind own) ≡ m
  unfolding later_mss
  no_mss n = rw (ne_eqb kind 2 n)

  pub short_mss : kind ≡ 2 → length own ≤ 2 → later_mss m (opt kind own) ≡ m
  unfolding later_mss
  short_mss e h = rw (eq-eqb kind 2 e, data_short own 1 h)

  pub enough_mss : kind ≡ 2 → 2 < length own → later_mss m (opt kind own) ≡ Some (be16 own 1)
  unfolding later_mss be16
  enough_mss e h = simp (eq-eqb kind 2 e, data_enough own 2 h, get_or-drop)

module _ (w : Option ℕ) (kind : ℕ) (own : List ℕ) where
  pub no_scale : (kind ≡ 3 → ⊥) → later_scale w (opt kind own) ≡ w
  unfolding later_scale
  no_scale n = rw (ne_eqb kind 3 n)

  pub short_scale : kind ≡ 3 → length own ≤ 1 → later_scale w (opt kind own) ≡ w
  unfolding later_scale
  short_scale e h = rw (eq-eqb kind 3 e, data_short own 0 h)

  pub enough_scale : kind ≡ 3 → 1 < length own → later_scale w (opt kind own) ≡ Some (byte_at own 1)
  unfolding later_scale
  enough_scale e h = simp (eq-eqb kind 3 e, data_enough own 1 h, get_or-drop)
