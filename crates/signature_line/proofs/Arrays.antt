-- Rows of bytes: padded to forty places, and of kinds and bytes in turn.
use Prim.Native.Nat.{ℕ, zero, suc, ◌+◌, ◌*◌, ◌-◌, ◌<◌, ◌≤◌}
use mathlib.Core.Path.{◌≡◌, refl, ap}
use mathlib.Core.Bool.{true}
use mathlib.Core.List.{List, [], ◌∷◌, ◌++◌}
use native.Mathlib.Omega.{arith}
use lib.ListN.{length, take, replicate, length-append, length-replicate}
use lib.Seq.{take_at}
use Rattle.basis.specs.Bytes.{byte_at}
use Rattle.sigrecord.specs.Layout.{entry_good}
use Rattle.grammar.specs.Table.{Said}
use Rattle.signature_line.specs.Meaning.{kind_said, byte_said, each, padded, layout_of}
use Rattle.signature_line.specs.OneRecord.{alternating, entries_in}
use Rattle.signature_line.proofs.FieldsGood.{Each, EntryGood}

-- ---- all are bytes

abbrev pub Bytes : List ℕ → Type 0
Bytes = Each (λ (b : ℕ). b < 256)

pub bytes_at : (s : List ℕ) → Bytes s → (i : ℕ) → byte_at s i < 256
bytes_at [] all i = omega arith
bytes_at (b ∷ s) all zero = all.0
bytes_at (b ∷ s) all (suc i) = bytes_at s all.1 i

-- ---- zeros behind

zeros_at : (n i : ℕ) → byte_at (replicate n 0) i ≡ 0
zeros_at zero i = refl
zeros_at (suc n) zero = refl
zeros_at (suc n) (suc i) = zeros_at n i

zeros_behind : (s : List ℕ) (n i : ℕ) → length s ≤ i → byte_at (s ++ replicate n 0) i ≡ 0
zeros_behind [] n i h = zeros_at n i
zeros_behind (b ∷ s) n zero h = absurd (omega arith)
zeros_behind (b ∷ s) n (suc i) h = zeros_behind s n i (omega arith)

bytes_behind : (s : List ℕ) (n : ℕ) → Bytes s → (i : ℕ) → byte_at (s ++ replicate n 0) i < 256
bytes_behind [] n all i = rw (zeros_at n i) (omega arith)
bytes_behind (b ∷ s) n all zero = all.0
bytes_behind (b ∷ s) n all (suc i) = bytes_behind s n all.1 i

-- ---- one number of each entry

pub length_each : (f : Said → ℕ) (es : List Said) → length (each f es) ≡ length es
length_each f [] = refl
length_each f (e ∷ es) = ap suc (length_each f es)

bytes_each : (f : Said → ℕ) (es : List Said) → Each (λ (e : Said). f e < 256) es → Bytes (each f es)
bytes_each f [] all = tt
bytes_each f (e ∷ es) all = (all.0, bytes_each f es all.1)

module _ (f : Said → ℕ) (es : List Said) where
  pub padded_whole : length es ≤ 40 → length (padded (each f es)) ≡ 40
  padded_whole h = simp (length-append, length-replicate, length_each) (omega arith)

  pub padded_past : (i : ℕ) → length es ≤ i → byte_at (padded (each f es)) i ≡ 0
  padded_past i h = zeros_behind (each f es) (40 - length (each f es)) i (rw (length_each f es) h)

  pub padded_bytes : Each (λ (e : Said). f e < 256) es → (i : ℕ) → byte_at (padded (each f es)) i < 256
  padded_bytes all = bytes_behind (each f es) (40 - length (each f es)) (bytes_each f es all)

  taken : take (length es) (padded (each f es)) ≡ each f es
  taken = take_at (each f es) _ (length es) (length_each f es)

-- ---- kinds and bytes in turn

abbrev pub in_turn : List Said → List ℕ
in_turn es = alternating (each kind_said es) (each byte_said es)

pub entries_in_lem : (es : List Said) → entries_in (layout_of es) ≡ in_turn es
unfolding entries_in layout_of
entries_in_lem es = rw (taken kind_said es, taken byte_said es)

pub length_in_turn : (es : List Said) → length (in_turn es) ≡ 2 * length es
length_in_turn [] = refl
length_in_turn (e ∷ es) = omega (arith, length_in_turn es)

pub good_at
    : (es : List Said) → Each EntryGood es → (i : ℕ) → i < length es
    → entry_good (byte_at (in_turn es) (2 * i)) (byte_at (in_turn es) (2 * i + 1)) ≡ true
good_at [] all i h = absurd (omega arith)
good_at (e ∷ es) all zero h = all.0.good
good_at (e ∷ es) all (suc i) h =
    let here : 2 * suc i ≡ suc (suc (2 * i)) = omega arith in
    let next : 2 * suc i + 1 ≡ suc (suc (2 * i + 1)) = omega arith in
    rw (next, here) (good_at es all.1 i (omega arith))
