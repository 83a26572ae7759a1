-- Alike option strings have one length, and differ only in free halves of timestamps options.
use mathlib.Core.Path.{◌≡◌, refl, sym, ◌∙◌, ap}
use mathlib.Core.List.{List, [], ◌∷◌}
use mathlib.Core.Logic.{◌↔◌}
use Prim.Native.Nat.{ℕ, zero, suc, ◌+◌, ◌-◌, ◌<◌, ◌≤◌, max}
use native.Mathlib.Omega.{arith}
use native.Mathlib.Decide.{dec_le}
use lib.ListN.{length, take, drop, length-take, length-drop}
use lib.Seq.{get_or-take, get_or-drop}
use Rattle.basis.specs.Bytes.{byte_at, be32}
use Rattle.one_option.specs.Options.{Opt, asked, option_of, options_after, OptionBegins}
use Rattle.one_option.proofs.Options.{skipped}
use Rattle.alike.specs.Options.{AlikeStamps, AlikeOption, AlikeRow, AlikeOptions}
use Rattle.alike.specs.Free.{ZeroAlike, Within, DifferOnly, Half, FreeStamp}
use Rattle.alike.proofs.Places.{past_both, be32_take, drop_alike}
use Rattle.alike.proofs.OptionsAlike.{asked_stamps, be32_behind, byte_on, be32_on, options_alike_by}

-- ---- one length

-- The bytes of a row of options: a kind each, and its own.
abbrev bytes_of : List Opt → ℕ
bytes_of [] = 0
bytes_of (o ∷ os) = suc (length o.own + bytes_of os)

row_bytes : {os ps : List Opt} → AlikeRow os ps → bytes_of os ≡ bytes_of ps
row_bytes AlikeRow.none = refl
row_bytes (AlikeRow.more AlikeOption.same r) = rw (row_bytes r)
row_bytes (AlikeRow.more (AlikeOption.stamps a) r) = rw (a.same_length, row_bytes r)

all_bytes : (k : ℕ) (s : List ℕ) → bytes_of (options_after k s) ≡ length s - k
unfolding options_after
all_bytes k [] = omega arith
all_bytes (suc k) (b ∷ s) = let rest = all_bytes k s in omega arith
all_bytes zero (b ∷ s) =
    let rest = all_bytes (asked b s) s in
    let own = length-take (asked b s) s in
    omega arith

pub options_length : (s t : List ℕ) → AlikeOptions s t → length s ≡ length t
options_length s t a =
    let x = all_bytes 0 s in
    let y = all_bytes 0 t in
    let same = row_bytes a in
    omega arith

-- ---- the first option of two strings

data Case (o p : Opt) : Type 0 where
  equal : o ≡ p → Case o p
  stamps : o.kind ≡ 8 → p.kind ≡ 8 → AlikeStamps o.own p.own → Case o p

first_of : {o p : Opt} {os ps : List Opt} → AlikeRow (o ∷ os) (p ∷ ps) → Case o p
first_of (AlikeRow.more AlikeOption.same r) = Case.equal refl
first_of (AlikeRow.more (AlikeOption.stamps a) r) = Case.stamps refl refl a

later_of : {o p : Opt} {os ps : List Opt} → AlikeRow (o ∷ os) (p ∷ ps) → AlikeRow os ps
later_of (AlikeRow.more a r) = r

module _ (b c : ℕ) (s t : List ℕ) (size : length s ≡ length t) (first : Case (option_of b s) (option_of c t)) where
  same_kind : b ≡ c
  same_kind = by first
    where
      by : Case (option_of b s) (option_of c t) → b ≡ c
      by (Case.equal e) = ap (λ (o : Opt). o.kind) e
      by (Case.stamps k k' a) = k ∙ sym k'

  -- Both options have as many own bytes.
  as_many : length (take (asked b s) s) ≡ length (take (asked c t) t)
  as_many = by first
    where
      by : Case (option_of b s) (option_of c t) → length (take (asked b s) s) ≡ length (take (asked c t) t)
      by (Case.equal e) = ap (λ (o : Opt). length o.own) e
      by (Case.stamps k k' a) = a.same_length

  -- The own bytes of two timestamps options differ only in free halves.
  stamps_place
      : b ≡ 8
      → AlikeStamps (take (asked b s) s) (take (asked c t) t)
      → (i : ℕ)
      → i < asked b s
      → i < length s
      → (byte_at (take (asked b s) s) i ≡ byte_at (take (asked c t) t) i → ⊥)
      → Within (FreeStamp (b ∷ s) (c ∷ t)) (suc i)
  stamps_place e a i h inside differ =
      elim (dec_le i 0) [
        | yes start ↦ absurd (differ (a.length_byte i (omega arith) (omega arith)))
        | no pos ↦ elim (dec_le i 4) [
          | yes four ↦ elim (dec_le (length (take (asked b s) s)) 4) [
            | yes cut ↦ absurd (differ (a.own_cut (omega arith) i (omega arith) (omega arith)))
            | no whole ↦ half_free Half.own (omega arith) (a.own_stamp (omega arith)) (omega arith) (omega arith)
          ]
          | no over ↦ elim (dec_le i 8) [
            | yes eight ↦ elim (dec_le (length (take (asked b s) s)) 8) [
              | yes cut ↦ absurd (differ (a.peer_cut (omega arith) i (omega arith) (omega arith)))
              | no whole ↦ half_free Half.peer (omega arith) (a.peer_stamp (omega arith)) (omega arith) (omega arith)
            ]
            | no past ↦ absurd (differ (a.beyond i (omega arith) (omega (arith, length-take (asked b s) s))))
          ]
        ]
      ]
    where
      ask : asked b s ≡ max (byte_at s 0) 2 - 1
      ask = asked_stamps b s e

      half_free
          : {k : ℕ}
          → Half (suc k)
          → k + 4 ≤ length (take (asked b s) s)
          → ZeroAlike (be32 (take (asked b s) s) k) (be32 (take (asked c t) t) k)
          → k ≤ i
          → i < k + 4
          → Within (FreeStamp (b ∷ s) (c ∷ t)) (suc i)
      half_free {k} half whole z l u =
          let x = length-take (asked b s) s in
          let y = length-take (asked c t) t in
          let many = as_many in
          let says = ask in
          let place : 0 + suc k ≡ suc k = omega arith in
          Within.lies
          (FreeStamp.half {at = 0} half OptionBegins.first e (omega arith) (omega arith)
          (rw (place, be32_behind b k s, be32_behind c k t)
          (rw (be32_take (asked b s) k s (omega arith), be32_take (asked c t) k t (omega arith)) at z)))
          (omega arith) (omega arith)

  -- The own bytes differ only in free halves.
  own_place : (i : ℕ) → i < asked b s → (byte_at s i ≡ byte_at t i → ⊥) → Within (FreeStamp (b ∷ s) (c ∷ t)) (suc i)
  own_place i h differ =
      elim (dec_le (length s) i) [ yes past ↦ absurd (differ (past_both i s t size past)) | no inside ↦ by (omega arith) first ]
    where
      own_differ : i < length s → byte_at (take (asked b s) s) i ≡ byte_at (take (asked c t) t) i → ⊥
      own_differ inside e =
          let x = length-take (asked b s) s in
          let y = length-take (asked c t) t in
          let many = as_many in
          differ (sym (get_or-take (asked b s) s i 0 h) ∙ e ∙ get_or-take (asked c t) t i 0 (omega arith))

      by : i < length s → Case (option_of b s) (option_of c t) → Within (FreeStamp (b ∷ s) (c ∷ t)) (suc i)
      by inside (Case.equal e) = absurd (own_differ inside (ap (λ (o : Opt). byte_at o.own i) e))
      by inside (Case.stamps k k' a) = stamps_place k a i h inside (own_differ inside)

  -- A free half of what follows is one of the string.
  before
      : (j : ℕ)
      → Within (FreeStamp (drop (asked b s) s) (drop (asked b s) t)) j
      → Within (FreeStamp (b ∷ s) (c ∷ t)) (suc (asked b s + j))
  before j (Within.lies (FreeStamp.half {at} {k = from} half r k w l z) after before') =
      let x = length-drop (asked b s) s in
      Within.lies
      (FreeStamp.half {at = suc (asked b s + at)} half (OptionBegins.next r)
      (sym (get_or-drop (asked b s) s at 0) ∙ k)
      (rw (byte_on b (asked b s) at 1 s) at w)
      (omega arith)
      (rw (be32_on b (asked b s) at from s, be32_on c (asked b s) at from t) at z))
      (omega arith) (omega arith)

  -- What follows the own bytes of both, if it is there, is what lies behind as many bytes.
  rest_row
      : asked b s < length s
      → AlikeRow (options_after (asked b s) s) (options_after (asked c t) t)
      → AlikeOptions (drop (asked b s) s) (drop (asked b s) t)
  rest_row inside row =
      let many = as_many in
      let x = length-take (asked b s) s in
      let y = length-take (asked c t) t in
      let same : asked c t ≡ asked b s = omega arith in
      rw (skipped (asked b s) s, same, skipped (asked b s) t) at row

-- ---- whole strings

-- Where alike option strings differ is a free half.
abbrev Differs : List ℕ → List ℕ → Type 0
Differs s t = (i : ℕ) → (byte_at s i ≡ byte_at t i → ⊥) → Within (FreeStamp s t) i

-- Of strings under a length, if it holds of those under one less.
one_longer
    : (n : ℕ)
    → ((s t : List ℕ) → length s < n → length s ≡ length t → AlikeOptions s t → Differs s t)
    → (s t : List ℕ)
    → length s < suc n
    → length s ≡ length t
    → AlikeOptions s t
    → Differs s t
unfolding options_after
one_longer n shorter [] [] h size row i differ = absurd (differ refl)
one_longer n shorter [] (c ∷ t) h size row i differ = absurd (omega arith)
one_longer n shorter (b ∷ s) [] h size row i differ = absurd (omega arith)
one_longer n shorter (b ∷ s) (c ∷ t) h size row zero differ = absurd (differ (same_kind b c s t (omega arith) (first_of row)))
one_longer n shorter (b ∷ s) (c ∷ t) h size row (suc i) differ =
    elim (dec_le (asked b s) i) [
      | yes after ↦ elim (dec_le (length s) i) [
        | yes past ↦ absurd (differ (past_both i s t (omega arith) past))
        | no inside ↦ later after (omega arith)
      ]
      | no own ↦ own_place b c s t (omega arith) (first_of row) i (omega arith) differ
    ]
  where
    later : asked b s ≤ i → i < length s → Within (FreeStamp (b ∷ s) (c ∷ t)) (suc i)
    later after inside =
        let e : asked b s + (i - asked b s) ≡ i = omega arith in
        let same : length s ≡ length t = omega arith in
        rw e at
        (before b c s t same (first_of row) (i - asked b s)
        (shorter (drop (asked b s) s) (drop (asked b s) t) (rw length-drop (omega arith)) (drop_alike (asked b s) s t same)
        (rest_row b c s t same (first_of row) (omega arith) (later_of row)) (i - asked b s)
        (λ same_byte.
        differ (rw (get_or-drop (asked b s) s (i - asked b s) 0, get_or-drop (asked b s) t (i - asked b s) 0, e) at same_byte))))

bounded : (n : ℕ) (s t : List ℕ) → length s < n → length s ≡ length t → AlikeOptions s t → Differs s t
bounded zero s t h size row = absurd (omega arith)
bounded (suc n) s t h size row = one_longer n (bounded n) s t h size row

pub options_differ : (s t : List ℕ) → AlikeOptions s t → DifferOnly (FreeStamp s t) s t
options_differ s t row =
    let size = options_length s t row in
    record { same_length = size; free = bounded (suc (length s)) s t (omega arith) size row }

-- Option strings are alike exactly if they differ only in free halves.
pub exact_options : (s t : List ℕ) → AlikeOptions s t ↔ DifferOnly (FreeStamp s t) s t
exact_options s t = (options_differ s t, options_alike_by s t)
