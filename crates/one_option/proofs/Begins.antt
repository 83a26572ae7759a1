-- Where options begin: what follows one, and which one is the last.
use mathlib.Core.Path.{◌≡◌, sym, ◌∙◌, ap}
use mathlib.Core.Bool.{true, false, true≢false}
use mathlib.Core.List.{List, [], ◌∷◌}
use Prim.Native.Nat.{ℕ, suc, ◌+◌, ◌<◌, ◌≤◌}
use native.Mathlib.Omega.{arith}
use native.Mathlib.Decide.{ℕ_discrete, dec_le}
use lib.Dec.{ltb}
use lib.ListN.{length, take, drop, length-take, drop_of_length-le}
use lib.Seq.{take-nil, get_or-take, get_or-drop, drop-drop}
use borrow.Author.Tests.{le-ltb}
use Rattle.basis.specs.Bytes.{byte_at}
use Rattle.basis.proofs.Tests.{and_false}
use Rattle.one_option.specs.Options.{asked, runs_past, short_length, option_of, option_at, OptionBegins}
use Rattle.one_option.proofs.Options.{asked_last, asked_nop, asked_sized}

-- No option begins in an empty string.
pub none_begins : {k : ℕ} (s : List ℕ) → s ≡ [] → OptionBegins k s → ⊥
none_begins s e OptionBegins.first = absurd (nonempty e)
  where
    nonempty : {b : ℕ} {rest : List ℕ} → b ∷ rest ≡ [] → ⊥
    nonempty e = let sizes = ap length e in omega arith
none_begins s e (OptionBegins.next r) = let sizes = ap length e in omega arith

-- If an option begins behind one, that one has all the bytes that it asks for.
pub followed : {k : ℕ} (n : ℕ) (rest : List ℕ) → OptionBegins k (drop n rest) → n < length rest
followed n rest r = elim (dec_le (length rest) n) [ yes h ↦ absurd (none_begins _ (drop_of_length-le rest h) r) | no h ↦ omega arith ]

module _ (b : ℕ) (rest : List ℕ) (more : asked b rest < length rest) where
  -- and so it does not run past the end,
  pub followed_sound : runs_past (option_of b rest) ≡ false
  unfolding runs_past
  followed_sound =
      let own = take (asked b rest) rest in
      let size : length own ≡ asked b rest = rw length-take (omega arith) in
      elim (ℕ_discrete b 0) [
        | yes e ↦ let all = asked_last b rest e in absurd (omega arith)
        | no n0 ↦
            elim (ℕ_discrete b 1) [
              | yes e ↦ rw (asked_nop b own e) (le-ltb (length own) 0 (omega arith))
              | no n1 ↦
                  let asks = asked_sized b rest n0 n1 in
                  let first : byte_at own 0 ≡ byte_at rest 0 = get_or-take (asked b rest) rest 0 0 (omega arith) in
                  rw (asked_sized b own n0 n1, first, ← asks, size) (le-ltb (asked b rest) (asked b rest) (omega arith))
            ]
      ]

  -- and is no end-of-options.
  pub followed_not_last : b ≡ 0 → ⊥
  followed_not_last e = let all = asked_last b rest e in omega arith

-- The option that begins behind the first, as an option of the whole string.
pub option_behind : (b k n : ℕ) (rest : List ℕ) → option_at (b ∷ rest) (suc (k + n)) ≡ option_at (drop k rest) n
option_behind b k n rest =
    let place : suc (k + n) + 1 ≡ suc (k + (n + 1)) = omega arith in
    rw (place, get_or-drop k rest n 0, drop-drop (n + 1) k rest)

-- ---- which one is the last

-- An option that runs past the end.
pub past_is_last
    : {j k : ℕ} (s : List ℕ) → OptionBegins k s → runs_past (option_at s k) ≡ true → OptionBegins j s → j ≤ k
past_is_last s OptionBegins.first past OptionBegins.first = omega arith
past_is_last (b ∷ rest) OptionBegins.first past (OptionBegins.next r) =
    absurd (true≢false (sym past ∙ followed_sound b rest (followed (asked b rest) rest r)))
past_is_last s (OptionBegins.next q) past OptionBegins.first = omega arith
past_is_last (b ∷ rest) (OptionBegins.next {n = n} q) past (OptionBegins.next {n = m} r) =
    let before = past_is_last {j = m} (drop (asked b rest) rest) q (rw (option_behind b (asked b rest) n rest) at past) r in
    omega arith

-- An end-of-options.
pub end_is_last : {j k : ℕ} (s : List ℕ) → OptionBegins k s → byte_at s k ≡ 0 → OptionBegins j s → j ≤ k
end_is_last s OptionBegins.first last OptionBegins.first = omega arith
end_is_last (b ∷ rest) OptionBegins.first last (OptionBegins.next r) =
    absurd (followed_not_last b rest (followed (asked b rest) rest r) last)
end_is_last s (OptionBegins.next q) last OptionBegins.first = omega arith
end_is_last (b ∷ rest) (OptionBegins.next {n = n} q) last (OptionBegins.next {n = m} r) =
    let before = end_is_last {j = m} (drop (asked b rest) rest) q (get_or-drop (asked b rest) rest n 0 ∙ last) r in
    omega arith

-- ---- the last byte

-- A kind byte that is the last byte, of a kind that has a length byte.
module _ (s : List ℕ) (k : ℕ) (ends : length s ≡ k + 1) (sized : 1 < byte_at s k) where
  nothing_behind : drop (k + 1) s ≡ []
  nothing_behind = drop_of_length-le s {i = k + 1} (omega arith)

  pub last_runs_past : runs_past (option_at s k) ≡ true
  unfolding runs_past
  last_runs_past =
      rw (nothing_behind, take-nil, asked_sized (byte_at s k) [] (λ e. omega arith) (λ e. omega arith))

  pub last_not_short : short_length (option_at s k) ≡ false
  unfolding short_length
  last_not_short = rw (nothing_behind, take-nil, and_false (ltb 1 (byte_at s k)))
