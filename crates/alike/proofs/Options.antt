-- Alike rows of options are walked alike, and damaged at the same places: of a timestamps option the walk looks at its size, its length
-- byte, and whether each half is zero.
use mathlib.Core.Path.{◌≡◌, refl, sym, ◌∙◌}
use mathlib.Core.Bool.{Bool}
use mathlib.Core.List.{List, [], ◌∷◌}
use Prim.Native.Nat.{ℕ, ◌+◌, ◌<◌, ◌≤◌}
use native.Mathlib.Omega.{arith}
use native.Mathlib.Decide.{dec_le}
use lib.ListN.{length}
use Rattle.basis.specs.Bytes.{byte_at, be32}
use Rattle.one_option.specs.declared.Seen.{Seen}
use Rattle.one_option.specs.Options.{Opt, asked, runs_past, short_length}
use Rattle.one_option.specs.See.{see_option}
use Rattle.syn_options.specs.declared.StopBefore.{StopBefore}
use Rattle.syn_options.specs.Places.{size_of, first_from}
use Rattle.syn_options.specs.Stops.{stops_before}
use Rattle.syn_options.specs.Walk.{Walked, entry_byte, put_entry, put_option, walk_from}
use Rattle.one_option.proofs.See.{opt, stamps_none, stamps_own, stamps_both}
use Rattle.alike.specs.Free.{ZeroAlike}
use Rattle.alike.specs.Options.{AlikeStamps, AlikeOption, AlikeRow}

-- All that the walk looks at in the own bytes of a timestamps option: less than `AlikeStamps` asks, so that it outlives a cut.
pub record LikeStamps (s t : List ℕ) : Type 0 where
  pub same_length : length s ≡ length t
  pub length_byte : byte_at s 0 ≡ byte_at t 0
  pub own_stamp : 4 < length s → ZeroAlike (be32 s 1) (be32 t 1)
  pub peer_stamp : 8 < length s → ZeroAlike (be32 s 5) (be32 t 5)

-- Two rows of options, option by option the same or both timestamps.
pub data LikeRow : List Opt → List Opt → Type 0 where
  none : LikeRow [] []
  same : {o : Opt} {os ps : List Opt} → LikeRow os ps → LikeRow (o ∷ os) (o ∷ ps)
  stamps : {s t : List ℕ} {os ps : List Opt} → LikeStamps s t → LikeRow os ps → LikeRow (opt 8 s ∷ os) (opt 8 t ∷ ps)

-- Alike in the sense of the statement is alike in this sense.
pub like_stamps : {s t : List ℕ} → AlikeStamps s t → LikeStamps s t
like_stamps a =
    record {
      same_length = a.same_length;
      length_byte = a.length_byte 0 (omega arith) (omega arith);
      own_stamp = a.own_stamp;
      peer_stamp = a.peer_stamp;
    }

pub like_row : {os ps : List Opt} → AlikeRow os ps → LikeRow os ps
like_row AlikeRow.none = none
like_row (AlikeRow.more AlikeOption.same r) = same (like_row r)
like_row (AlikeRow.more (AlikeOption.stamps a) r) = stamps (like_stamps a) (like_row r)

module _ (s t : List ℕ) (a : LikeStamps s t) where
  -- It shows the same quirks, and neither MSS nor scale.
  see_alike : (syn : Bool) (seen : Seen) → see_option syn seen (opt 8 s) ≡ see_option syn seen (opt 8 t)
  see_alike syn seen =
      elim (dec_le (length s) 4) [ yes h ↦ neither h | no h ↦ elim (dec_le (length s) 8) [ yes k ↦ own h k | no k ↦ both k ] ]
    where
      neither : length s ≤ 4 → see_option syn seen (opt 8 s) ≡ see_option syn seen (opt 8 t)
      neither h = stamps_none syn seen s h ∙ sym (stamps_none syn seen t (omega arith))

      own : (length s ≤ 4 → ⊥) → length s ≤ 8 → see_option syn seen (opt 8 s) ≡ see_option syn seen (opt 8 t)
      own h k =
          rw (
            stamps_own syn seen s (omega arith) k,
            stamps_own syn seen t (omega arith) (omega arith),
            a.own_stamp (omega arith),
          )

      both : (length s ≤ 8 → ⊥) → see_option syn seen (opt 8 s) ≡ see_option syn seen (opt 8 t)
      both k =
          rw (
            stamps_both syn seen s (omega arith),
            stamps_both syn seen t (omega arith),
            a.own_stamp (omega arith),
            a.peer_stamp (omega arith),
          )

  -- It runs past the end on both sides or on neither.
  past_alike : runs_past (opt 8 s) ≡ runs_past (opt 8 t)
  unfolding runs_past asked
  past_alike = rw (a.same_length, a.length_byte)

  -- Its length is short on both sides or on neither.
  short_alike : short_length (opt 8 s) ≡ short_length (opt 8 t)
  unfolding short_length
  short_alike = rw (a.same_length, a.length_byte)

  -- It adds the same to a walk.
  put_alike : (syn : Bool) (w : Walked) → put_option syn w (opt 8 s) ≡ put_option syn w (opt 8 t)
  unfolding put_entry entry_byte
  put_alike syn w = rw (see_alike syn w.seen)

-- Rows alike in this sense are walked alike.
pub walk_like
    : {os ps : List Opt} (stop syn : Bool) (w : Walked) → LikeRow os ps → walk_from stop syn w os ≡ walk_from stop syn w ps
unfolding walk_from
walk_like stop syn w none = refl
walk_like stop syn w (same {o} {os} {ps} r) = rw (walk_like stop syn (put_option syn w o) r)
walk_like stop syn w (stamps {s} {t} {os} {ps} a r) =
    rw (past_alike s t a, put_alike s t a syn w, walk_like stop syn (put_option syn w (opt 8 t)) r)

-- ---- places

-- A test that sees of a timestamps option only what the walk looks at.
abbrev SeesAlike : (Opt → Bool) → Type 0
SeesAlike test = (s t : List ℕ) → LikeStamps s t → test (opt 8 s) ≡ test (opt 8 t)

first_alike
    : (test : Opt → Bool) → SeesAlike test → (at : ℕ) {os ps : List Opt} → LikeRow os ps → first_from test at os ≡ first_from test at ps
unfolding first_from
first_alike test sees at none = refl
first_alike test sees at (same {o} r) = rw (first_alike test sees (at + size_of o) r)
first_alike test sees at (stamps {s} {t} {os} {ps} a r) =
    rw (sees s t a, a.same_length, first_alike test sees (at + size_of (opt 8 t)) r)

-- Rows alike in this sense have their first damaged options at the same places, and a walk stops at the same place.
module _ {os ps : List Opt} (at : ℕ) (r : LikeRow os ps) where
  pub past_place : first_from runs_past at os ≡ first_from runs_past at ps
  past_place = first_alike runs_past past_alike at r

  pub short_place : first_from short_length at os ≡ first_from short_length at ps
  short_place = first_alike short_length short_alike at r

  pub stop_place : (stop : StopBefore) → first_from (stops_before stop) at os ≡ first_from (stops_before stop) at ps
  unfolding stops_before
  stop_place stop = first_alike (stops_before stop) (λ s t a. rw (past_alike s t a, short_alike s t a)) at r
