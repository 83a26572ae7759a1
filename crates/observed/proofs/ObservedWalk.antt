-- A walk over options of bytes gives numbers such as their types hold, and entries such as a record may have.
use Rattle.std.specs.Prelude.{Option, Some, None}
use mathlib.Core.Path.{◌≡◌, refl, ◌∙◌}
use mathlib.Core.Bool.{Bool, true, false, cond, ◌&&◌, ◌||◌}
use mathlib.Core.List.{List, [], ◌∷◌}
use Prim.Native.Nat.{ℕ, zero, suc, ◌+◌, ◌-◌, ◌^◌, ◌<◌, ◌≤◌}
use native.Mathlib.Decide.{dec_le, ℕ_discrete}
use native.Mathlib.Omega.{arith}
use lib.Bits.{or_lt}
use lib.Dec.{eqb, leb}
use lib.ListN.{length, take, drop, replicate, set, length-set, length-take}
use lib.Seq.{get_or-drop, get_or-set_same, get_or-set_other, set_out}
use Rattle.basis.specs.Bytes.{byte_at, AllBytes, be16, part}
use Rattle.tcp.specs.declared.Layout.{Layout}
use Rattle.quirks.specs.declared.Quirk.{Quirk}
use Rattle.quirks.specs.declared.Quirk.TheVariants as quirk
use Rattle.quirks.specs.declared.QuirkSet.{QuirkSet}
use Rattle.quirks.specs.Quirks.{bit_of, bits_of, with, add_if}
use Rattle.quirks.proofs.Within.{bit_small}
use Rattle.sigrecord.specs.Layout.{entry_good}
use Rattle.one_option.specs.Options.{Opt, data_of, asked, options_after, options_of}
use Rattle.one_option.specs.See.{later_mss, later_scale, later_quirks, see_option}
use Rattle.syn_options.specs.Walk.{Walked, entry_byte, put_entry, put_option, walk_from, start_walk, walk_of}
use Rattle.syn_options.specs.Stops.{walk_up_to}
use Rattle.syn_options.proofs.Entries.{zero_row}
use Rattle.signature_line.proofs.FieldsGood.{Each}
use Rattle.written_line.specs.Numbers.{MssHeld, ScaleHeld}

-- ---- bytes of a part

pub all_take : (n : ℕ) (s : List ℕ) → AllBytes s → AllBytes (take n s)
all_take zero s all i = omega arith
all_take (suc n) [] all i = omega arith
all_take (suc n) (b ∷ s) all zero = all 0
all_take (suc n) (b ∷ s) all (suc i) = all_take n s (λ k. all (suc k)) i

all_drop : (n : ℕ) (s : List ℕ) → AllBytes s → AllBytes (drop n s)
all_drop n s all i = rw (get_or-drop n s i 0) (all (n + i))

pub all_part : (start end : ℕ) (s : List ℕ) → AllBytes s → AllBytes (part start end s)
all_part start end s all = all_take (end - start) (drop start s) (all_drop start s all)

all_set : (s : List ℕ) (i a : ℕ) → a < 256 → AllBytes s → AllBytes (set s i a)
all_set [] i a byte all k = all k
all_set (b ∷ s) zero a byte all zero = byte
all_set (b ∷ s) zero a byte all (suc k) = all (suc k)
all_set (b ∷ s) (suc i) a byte all zero = all 0
all_set (b ∷ s) (suc i) a byte all (suc k) = all_set s i a byte (λ j. all (suc j)) k

pub word_of : (s : List ℕ) (i : ℕ) → AllBytes s → be16 s i < 65536
unfolding be16
word_of s i all = let high = all i in let low = all (i + 1) in omega arith

-- ---- the options of a string

record OptHeld (o : Opt) : Type 0 where
  kind : o.kind < 256
  own : AllBytes o.own
  few : length o.own < 256

options_held : (skip : ℕ) (s : List ℕ) → length s < 256 → AllBytes s → Each OptHeld (options_after skip s)
unfolding options_after
options_held skip [] few all = tt
options_held (suc skip) (b ∷ rest) few all = options_held skip rest (omega arith) (λ i. all (suc i))
options_held zero (b ∷ rest) few all =
    let own : AllBytes rest = λ i. all (suc i) in (
      record { kind = all 0; own = all_take (asked b rest) rest own; few = omega (arith, length-take (asked b rest) rest) },
      options_held (asked b rest) rest (omega arith) own,
    )

-- ---- one entry

pub record RowsHeld (l : Layout) : Type 0 where
  pub kinds : AllBytes l.kinds
  pub bytes : AllBytes l.bytes
  pub kinds_whole : length l.kinds ≡ 40
  pub bytes_whole : length l.bytes ≡ 40
  pub good : (i : ℕ) → entry_good (byte_at l.kinds i) (byte_at l.bytes i) ≡ true

entry_byte_lem : (kind left : ℕ) → left < 256 → entry_byte kind left < 256
unfolding entry_byte
entry_byte_lem kind left few = by (eqb kind 0)
  where
    by : (t : Bool) → cond t left 0 < 256
    by true = few
    by false = omega arith

entry_good_lem : (kind left : ℕ) → entry_good kind (entry_byte kind left) ≡ true
unfolding entry_good entry_byte
entry_good_lem kind left = by (eqb kind 0) (eqb left 0) refl
  where
    by : (t u : Bool) → eqb left 0 ≡ u → eqb (cond t left 0) 0 || t ≡ true
    by true true e = rw e
    by true false e = rw e
    by false u e = refl

put_held : (l : Layout) (o : Opt) → OptHeld o → RowsHeld l → RowsHeld (put_entry l o)
unfolding put_entry
put_held l o h rows =
    let n = l.count in
    let byte : ℕ = entry_byte o.kind (length o.own) in
    record {
      kinds = all_set l.kinds n o.kind h.kind rows.kinds;
      bytes = all_set l.bytes n byte (entry_byte_lem o.kind (length o.own) h.few) rows.bytes;
      kinds_whole = length-set l.kinds n o.kind ∙ rows.kinds_whole;
      bytes_whole = length-set l.bytes n byte ∙ rows.bytes_whole;
      good = λ i.
          elim (ℕ_discrete i n) [
            | yes e ↦ rw e (here (dec_le 40 n))
            | no d ↦ rw (get_or-set_other l.kinds n i o.kind 0 d, get_or-set_other l.bytes n i byte 0 d) (rows.good i)
          ];
    }
  where
    here
        : Dec (40 ≤ l.count)
        → entry_good (byte_at (set l.kinds l.count o.kind) l.count)
        (byte_at (set l.bytes l.count (entry_byte o.kind (length o.own))) l.count)
        ≡ true
    here (yes out) =
        rw (
          set_out l.kinds l.count o.kind (omega (arith, rows.kinds_whole)),
          set_out l.bytes l.count (entry_byte o.kind (length o.own)) (omega (arith, rows.bytes_whole)),
        )
        (rows.good l.count)
    here (no inside) =
        rw (
          get_or-set_same l.kinds l.count o.kind 0 (omega (arith, rows.kinds_whole)),
          get_or-set_same l.bytes l.count (entry_byte o.kind (length o.own)) 0 (omega (arith, rows.bytes_whole)),
        )
        (entry_good_lem o.kind (length o.own))

-- ---- quirks of 32 bits

abbrev pub Small : QuirkSet → Type 0
Small q = bits_of q < 2 ^ 32

small_with : (q : Quirk) (s : QuirkSet) → Small s → Small (with s q)
unfolding with
small_with q s small = or_lt 32 (bits_of s) (bit_of q) small (bit_small q)

pub small_add_if : (t : Bool) (q : Quirk) (s : QuirkSet) → Small s → Small (add_if t q s)
unfolding add_if
small_add_if true q s small = small_with q s small
small_add_if false q s small = small

-- ---- one option

mss_held : (m : Option ℕ) (o : Opt) → OptHeld o → MssHeld m → MssHeld (later_mss m o)
unfolding later_mss
mss_held m o h before = by (eqb o.kind 2 && leb 2 (length (data_of o)))
  where
    by : (t : Bool) → MssHeld (cond t (Some (be16 (data_of o) 0)) m)
    by true = word_of (data_of o) 0 (all_drop 1 o.own h.own)
    by false = before

scale_held : (w : Option ℕ) (o : Opt) → OptHeld o → ScaleHeld w → ScaleHeld (later_scale w o)
unfolding later_scale
scale_held w o h before = by (eqb o.kind 3 && leb 1 (length (data_of o)))
  where
    by : (t : Bool) → ScaleHeld (cond t (Some (byte_at (data_of o) 0)) w)
    by true = all_drop 1 o.own h.own 0
    by false = before

quirks_small_lem : (syn : Bool) (q : QuirkSet) (o : Opt) → Small q → Small (later_quirks syn q o)
unfolding later_quirks
quirks_small_lem syn q o small = small_add_if _ _ _ (small_add_if _ _ _ (small_add_if _ _ _ (small_add_if _ _ _ small)))

-- ---- the walk

pub record WalkHeld (w : Walked) : Type 0 where
  pub rows : RowsHeld w.olayout
  pub mss : MssHeld w.seen.mss
  pub scale : ScaleHeld w.seen.wscale
  pub quirks : Small w.seen.quirks

put_option_held : (syn : Bool) (w : Walked) (o : Opt) → OptHeld o → WalkHeld w → WalkHeld (put_option syn w o)
unfolding see_option
put_option_held syn w o h before =
    record {
      rows = put_held w.olayout o h before.rows;
      mss = mss_held w.seen.mss o h before.mss;
      scale = scale_held w.seen.wscale o h before.scale;
      quirks = quirks_small_lem syn w.seen.quirks o before.quirks;
    }

walk_from_held : (syn : Bool) (w : Walked) (os : List Opt) → Each OptHeld os → WalkHeld w → WalkHeld (walk_from false syn w os)
unfolding walk_from
walk_from_held syn w [] all before = before
walk_from_held syn w (o ∷ os) all before =
    walk_from_held syn (put_option syn w o) os all.1 (put_option_held syn w o all.0 before)

pub no_rows : RowsHeld (record { kinds = replicate 40 0; bytes = replicate 40 0; count = 0 })
unfolding entry_good
no_rows =
    record {
      kinds = λ i. rw (zero_row i) (omega arith);
      bytes = λ i. rw (zero_row i) (omega arith);
      kinds_whole = refl;
      bytes_whole = refl;
      good = λ i. rw (zero_row i);
    }

walk_of_held : (syn : Bool) (q : QuirkSet) (s : List ℕ) → AllBytes s → Small q → WalkHeld (walk_of false syn q s)
unfolding walk_of
walk_of_held syn q s all small =
    walk_from_held syn (start_walk q) (options_of (take 40 s))
    (options_held 0 (take 40 s) (omega (arith, length-take 40 s)) (all_take 40 s all))
    (record { rows = no_rows; mss = tt; scale = tt; quirks = small })

-- Wherever it stops.
pub walk_held : (k : Option ℕ) (syn : Bool) (q : QuirkSet) (s : List ℕ) → AllBytes s → Small q → WalkHeld (walk_up_to k syn q s)
unfolding walk_up_to
walk_held None syn q s all small = walk_of_held syn q s all small
walk_held (Some k) syn q s all small =
    let w = walk_of_held syn q (take k s) (all_take k s all) small in
    record { rows = w.rows; mss = w.mss; scale = w.scale; quirks = small_with quirk.OptBad _ w.quirks }
