-- Option strings that differ only in free halves of timestamps options are alike.
use mathlib.Core.Path.{◌≡◌, ◌∙◌, ap}
use mathlib.Core.List.{List, [], ◌∷◌}
use Prim.Native.Nat.{ℕ, zero, suc, ◌+◌, ◌-◌, ◌<◌, ◌≤◌, max}
use native.Mathlib.Omega.{arith}
use native.Mathlib.Decide.{ℕ_discrete}
use lib.ListN.{length, take, drop, length-take, length-drop}
use lib.Seq.{get_or-drop}
use Rattle.basis.specs.Bytes.{byte_at, be32}
use Rattle.one_option.specs.Options.{asked, options_after, OptionBegins}
use Rattle.one_option.proofs.Options.{skipped}
use Rattle.alike.specs.Options.{AlikeStamps, AlikeOption, AlikeRow, AlikeOptions}
use Rattle.alike.specs.Free.{ZeroAlike, Within, DifferOnly, Half, FreeStamp}
use Rattle.alike.proofs.Places.{agrees, be32_agree, be32_take, be32_drop, zero_alike}
use Rattle.alike.proofs.Places.{take_alike, drop_alike, take_byte, drop_byte, take_same}

-- ---- what an option asks for, and places behind it

-- An option asks for as many bytes before strings of one length and one first byte.
asked_alike : (b : ℕ) (s t : List ℕ) → length s ≡ length t → byte_at s 0 ≡ byte_at t 0 → asked b s ≡ asked b t
unfolding asked
asked_alike b s t size first = rw (size, first)

-- A timestamps option asks for its length byte less one.
pub asked_stamps : (b : ℕ) (s : List ℕ) → b ≡ 8 → asked b s ≡ max (byte_at s 0) 2 - 1
unfolding asked
asked_stamps b s e = rw e

-- The four-byte number one place on, behind a byte.
pub be32_behind : (b i : ℕ) (s : List ℕ) → be32 (b ∷ s) (suc i) ≡ be32 s i
be32_behind b i s = rw (← be32_drop 1 i (suc i) (b ∷ s) (omega arith))

-- A place of what follows the first option, as a place of the string: the byte there, and the four-byte number.
module _ (b k n i : ℕ) (s : List ℕ) where
  pub byte_on : byte_at (drop k s) (n + i) ≡ byte_at (b ∷ s) (suc (k + n) + i)
  byte_on =
      let place : suc k + (n + i) ≡ suc (k + n) + i = omega arith in
      get_or-drop (suc k) (b ∷ s) (n + i) 0 ∙ ap (byte_at (b ∷ s)) place

  pub be32_on : be32 (drop k s) (n + i) ≡ be32 (b ∷ s) (suc (k + n) + i)
  be32_on = be32_drop (suc k) (n + i) (suc (k + n) + i) (b ∷ s) (omega arith)

-- ---- two strings that begin with a byte

module _ (b c : ℕ) (s t : List ℕ) (d : DifferOnly (FreeStamp (b ∷ s) (c ∷ t)) (b ∷ s) (c ∷ t)) where
  size : length s ≡ length t
  size = let same = d.same_length in omega arith

  -- The kind and the length byte are in no half.
  low : (i : ℕ) → i < 2 → Within (FreeStamp (b ∷ s) (c ∷ t)) i → ⊥
  low i h (Within.lies (FreeStamp.half Half.own r k w l z) after before) = omega arith
  low i h (Within.lies (FreeStamp.half Half.peer r k w l z) after before) = omega arith

  kind : b ≡ c
  kind = agrees d 0 (low 0 (omega arith))

  length_byte_lem : byte_at s 0 ≡ byte_at t 0
  length_byte_lem = agrees d 1 (low 1 (omega arith))

  asks : asked b s ≡ asked b t
  asks = asked_alike b s t size length_byte_lem

  -- A place of the first option's own bytes: they agree there, unless it is in a free half of a timestamps option.
  own_place
      : (i : ℕ)
      → i < asked b s
      → (b ≡ 8 → 6 ≤ byte_at s 0 → 5 ≤ length s → ZeroAlike (be32 s 1) (be32 t 1) → 1 ≤ i → i < 5 → ⊥)
      → (b ≡ 8 → 10 ≤ byte_at s 0 → 9 ≤ length s → ZeroAlike (be32 s 5) (be32 t 5) → 5 ≤ i → i < 9 → ⊥)
      → byte_at s i ≡ byte_at t i
  own_place i within own peer = agrees d (suc i) clash
    where
      clash : Within (FreeStamp (b ∷ s) (c ∷ t)) (suc i) → ⊥
      clash (Within.lies (FreeStamp.half Half.own OptionBegins.first k w l z) after before) =
          own k (omega arith) (omega arith) (rw (be32_behind b 1 s, be32_behind c 1 t) at z) (omega arith) (omega arith)
      clash (Within.lies (FreeStamp.half Half.peer OptionBegins.first k w l z) after before) =
          peer k (omega arith) (omega arith) (rw (be32_behind b 5 s, be32_behind c 5 t) at z) (omega arith) (omega arith)
      clash (Within.lies (FreeStamp.half half (OptionBegins.next r) k w l z) after before) = omega arith

  -- The own bytes of an option that is no timestamps option.
  own_same : (b ≡ 8 → ⊥) → take (asked b s) s ≡ take (asked b s) t
  own_same other =
      take_same (asked b s) s t size (λ i l u. own_place i u (λ e w r z x y. other e) (λ e w r z x y. other e))

  -- The own bytes of a timestamps option.
  stamps_alike : b ≡ 8 → AlikeStamps (take (asked b s) s) (take (asked b s) t)
  stamps_alike e =
      let ask = asked_stamps b s e in
      let cut = length-take (asked b s) s in
      record {
        same_length = take_alike (asked b s) s t size;
        length_byte = λ i l u.
            take_byte (asked b s) s t i (λ v. own_place i v (λ k w r z x y. omega arith) (λ k w r z x y. omega arith));
        own_stamp = λ h.
            rw (be32_take (asked b s) 1 s (omega arith), be32_take (asked b s) 1 t (omega arith))
            (zero_alike (be32 s 1) (be32 t 1) (λ other. be32_agree 1 s t (λ i l u.
            own_place i (omega arith) (λ k w r z x y. other z) (λ k w r z x y. omega arith))));
        own_cut = λ h i l u.
            take_byte (asked b s) s t i (λ v. own_place i v (λ k w r z x y. omega arith) (λ k w r z x y. omega arith));
        peer_stamp = λ h.
            rw (be32_take (asked b s) 5 s (omega arith), be32_take (asked b s) 5 t (omega arith))
            (zero_alike (be32 s 5) (be32 t 5) (λ other. be32_agree 5 s t (λ i l u.
            own_place i (omega arith) (λ k w r z x y. omega arith) (λ k w r z x y. other z))));
        peer_cut = λ h i l u.
            take_byte (asked b s) s t i (λ v. own_place i v (λ k w r z x y. omega arith) (λ k w r z x y. omega arith));
        beyond = λ i l u.
            take_byte (asked b s) s t i (λ v. own_place i v (λ k w r z x y. omega arith) (λ k w r z x y. omega arith));
      }

  -- A free half behind the first option is one of what follows it.
  behind
      : (j : ℕ)
      → Within (FreeStamp (b ∷ s) (c ∷ t)) (suc (asked b s + j))
      → Within (FreeStamp (drop (asked b s) s) (drop (asked b s) t)) j
  behind j (Within.lies (FreeStamp.half half OptionBegins.first k w l z) after before) =
      let ask = asked_stamps b s k in
      absurd (omega arith)
  behind j (Within.lies (FreeStamp.half {k = from} half (OptionBegins.next {n} r) k w l z) after before) =
      Within.lies
      (FreeStamp.half half r
      (get_or-drop (asked b s) s n 0 ∙ k)
      (rw (byte_on b (asked b s) n 1 s) w)
      (rw length-drop (omega arith))
      (rw (be32_on b (asked b s) n from s, be32_on c (asked b s) n from t) z))
      (omega arith) (omega arith)

  -- What follows the first option differs only in free halves too.
  rest_only
      : DifferOnly (FreeStamp (drop (asked b s) s) (drop (asked b s) t)) (drop (asked b s) s) (drop (asked b s) t)
  rest_only =
      record {
        same_length = drop_alike (asked b s) s t size;
        free = λ j differ. behind j (d.free (suc (asked b s + j)) (λ e. differ (drop_byte (asked b s) s t j e)));
      }

  -- One option more in front.
  one_more
      : AlikeOption (record { kind = b; own = take (asked b s) s }) (record { kind = b; own = take (asked b s) t })
      → AlikeOptions (drop (asked b s) s) (drop (asked b s) t)
      → AlikeOptions (b ∷ s) (b ∷ t)
  unfolding options_after
  one_more first rest = rw (← asks, skipped (asked b s) s, skipped (asked b s) t) (AlikeRow.more first rest)

  first_too : AlikeOptions (drop (asked b s) s) (drop (asked b s) t) → AlikeOptions (b ∷ s) (c ∷ t)
  first_too rest =
      rw (← kind)
      (elim (ℕ_discrete b 8) [
        | yes e ↦ one_more (stamps e) rest
        | no other ↦ one_more (rw (own_same other) AlikeOption.same) rest
      ])
    where
      stamps : b ≡ 8 → AlikeOption (record { kind = b; own = take (asked b s) s }) (record { kind = b; own = take (asked b s) t })
      stamps e = let a = stamps_alike e in rw e (AlikeOption.stamps (rw e at a))

-- ---- whole strings

-- Of strings under a length, if it holds of those under one less.
one_longer
    : (n : ℕ)
    → ((s t : List ℕ) → length s < n → DifferOnly (FreeStamp s t) s t → AlikeOptions s t)
    → (s t : List ℕ)
    → length s < suc n
    → DifferOnly (FreeStamp s t) s t
    → AlikeOptions s t
unfolding options_after
one_longer n shorter [] [] h d = AlikeRow.none
one_longer n shorter [] (c ∷ t) h d = let same = d.same_length in absurd (omega arith)
one_longer n shorter (b ∷ s) [] h d = let same = d.same_length in absurd (omega arith)
one_longer n shorter (b ∷ s) (c ∷ t) h d =
    first_too b c s t d (shorter (drop (asked b s) s) (drop (asked b s) t) (rw length-drop (omega arith)) (rest_only b c s t d))

bounded : (n : ℕ) (s t : List ℕ) → length s < n → DifferOnly (FreeStamp s t) s t → AlikeOptions s t
bounded zero s t h d = absurd (omega arith)
bounded (suc n) s t h d = one_longer n (bounded n) s t h d

pub options_alike_by : (s t : List ℕ) → DifferOnly (FreeStamp s t) s t → AlikeOptions s t
options_alike_by s t d = bounded (suc (length s)) s t (omega arith) d
