-- Laws of writing into a buffer: a copy in a loop, one text behind another, and a text that finds room.
use mathlib.Core.Path.{◌≡◌, refl, sym, ◌∙◌, ap, ap₂, subst}
use mathlib.Core.List.{List, [], ◌∷◌, ◌++◌, append_assoc, append-nil}
use Prim.Native.Nat.{ℕ, zero, suc, ◌+◌, ◌-◌, ◌<◌, ◌≤◌, min}
use native.Mathlib.Decide.{dec_le}
use native.Mathlib.Omega.{arith}
use native.Mathlib.Numerals.{add-one}
use native.Mathlib.Nat.{add_assoc, add-zero, sub-zero, zero-sub, suc-sub-suc}
use lib.ListN.{length, take, drop, get_or, set, length-append, length-drop, length-take, take-append-drop}
use lib.Seq.{append_snoc, set_split, paste, paste-suc, take_all, take_at, take-nil, drop_at, drop-drop, length-take-le}
use borrow.Rule.Slice.PartMut.{put_mid}
use Rattle.text.specs.Written.{written, room, PutAll, Put}

-- ---- room

pub nothing_written : (buffer : List ℕ) (at : ℕ) → written buffer at [] ≡ buffer
unfolding written
nothing_written buffer at =
    ap (λ (s : List ℕ). s ++ drop (at + 0) buffer) (append-nil (take at buffer))
    ∙ rw (add-zero at) (take-append-drop at buffer)

-- A text that finds room is written whole.
pub fits : (buffer text : List ℕ) (at : ℕ) → length text ≤ length buffer - at → room buffer at text ≡ text
unfolding room
fits buffer text at h = take_all (length buffer - at) text h

-- Behind the end nothing finds room.
pub put_nothing : (buffer text : List ℕ) (at : ℕ) → length buffer ≤ at → Put buffer at text at buffer
unfolding room
put_nothing buffer text at h =
    let none : length buffer - at ≡ 0 = omega arith in
    rw none (omega arith, sym (nothing_written buffer at))

-- So every text is put there as any other.
nowhere : (b b' t : List ℕ) (at n : ℕ) → length b ≤ at → Put b at t n b' → (n ≡ at) × (b' ≡ b)
unfolding room
nowhere b b' t at n h put =
    let none : length b - at ≡ 0 = omega arith in
    let end : n ≡ at + 0 = rw none at put.0 in
    let same : b' ≡ written b at [] = rw none at put.1 in
    (end ∙ add-zero at, same ∙ nothing_written b at)

pub any_text
    : (b b' b'' t u v : List ℕ) (at next n : ℕ) → length b ≤ at → Put b at t next b' → Put b' next u n b'' → Put b at v n b''
any_text b b' b'' t u v at next n h first second =
    let one = nowhere b b' t at next h first in
    let two = nowhere b' b'' u next n (rw (one.0, one.1) h) second in
    rw (two.0 ∙ one.0, two.1 ∙ one.1) (put_nothing b v at h)

-- Nothing is put, wherever.
pub put_none : (buffer : List ℕ) (at : ℕ) → Put buffer at [] at buffer
unfolding room
put_none buffer at =
    let none : take (length buffer - at) [] ≡ [] = take-nil {A = ℕ} (length buffer - at) in
    rw none (omega arith, sym (nothing_written buffer at))

pub put_one : (buffer : List ℕ) (at byte : ℕ) → at < length buffer → Put buffer at (byte ∷ []) (at + 1) (set buffer at byte)
unfolding written
put_one buffer at byte h =
    rw (fits buffer (byte ∷ []) at (omega arith)) (
      refl,
      set_split buffer at byte h
          ∙ sym (append_snoc (take at buffer) byte (drop (suc at) buffer))
          ∙ ap (λ (k : ℕ). take at buffer ++ (byte ∷ []) ++ drop k buffer) (sym (add-one at)),
    )

pub put_all
    : (buffer buffer' text : List ℕ) (at next : ℕ)
    → length text ≤ length buffer - at
    → Put buffer at text next buffer'
    → PutAll buffer at text next buffer'
put_all buffer buffer' text at next h = subst (λ (s : List ℕ). PutAll buffer at s next buffer') (fits buffer text at h)

pub all_put
    : (buffer buffer' text : List ℕ) (at next : ℕ)
    → length text ≤ length buffer - at
    → PutAll buffer at text next buffer'
    → Put buffer at text next buffer'
all_put buffer buffer' text at next h = subst (λ (s : List ℕ). PutAll buffer at s next buffer') (sym (fits buffer text at h))

pub part_put
    : (buffer buffer' text : List ℕ) (at next left : ℕ)
    → left ≡ length buffer - at
    → PutAll buffer at (take (left - 0) text) next buffer'
    → Put buffer at text next buffer'
unfolding room
part_put buffer buffer' text at next left e = subst (λ (k : ℕ). PutAll buffer at (take k text) next buffer') (sub-zero left ∙ e)

room_length : (buffer text : List ℕ) (at : ℕ) → length (room buffer at text) ≤ length buffer - at
unfolding room
room_length buffer text at = omega (arith, length-take (length buffer - at) text)

-- The part that finds room, copied into its place.
pub put_part
    : (buffer word copied : List ℕ) (at size : ℕ)
    → size ≡ min (length buffer - at) (length word)
    → copied ≡ take (size - 0) (drop 0 word)
    → Put buffer at word (at + size) (put_mid at (at + size - at) buffer copied)
unfolding written room
put_part buffer word copied at size e part =
    let same : copied ≡ take (length buffer - at) word =
    part ∙ elim (dec_le (length word) (length buffer - at)) [
      | yes h ↦ take_all (size - 0) word (omega arith) ∙ sym (take_all (length buffer - at) word h)
      | no h ↦ let all : size - 0 ≡ length buffer - at = omega arith in rw all
    ] in
    let text = take (length buffer - at) word in
    let end : at + (at + size - at) ≡ at + length text = omega (arith, length-take (length buffer - at) word) in (
      omega (arith, length-take (length buffer - at) word),
      rw (same, drop-drop (at + size - at) at buffer, end) (sym (append_assoc (take at buffer) text (drop (at + length text) buffer))),
    )

-- ---- a copy in a loop
pub copy_turn
    : (buffer₀ buffer word : List ℕ) (at i : ℕ)
    → at + i < length buffer₀
    → i < length word
    → buffer ≡ paste buffer₀ at word i
    → set buffer (at + i) (get_or word i 0) ≡ paste buffer₀ at word (i + 1)
copy_turn buffer₀ buffer word at i inside more e =
    ap (λ (b : List ℕ). set b (at + i) (get_or word i 0)) e
    ∙ paste-suc buffer₀ at word i 0 inside more
    ∙ ap (paste buffer₀ at word) (sym (add-one i))

pub copied : (buffer word : List ℕ) (at i : ℕ) → i ≡ length word → paste buffer at word i ≡ written buffer at word
unfolding written
copied buffer word at i all = rw (all, take_all (length word) word (omega arith))

-- ---- a text that finds room, and another behind it

-- Behind the end only nothing finds room: what holds inside, and of nothing, holds of each text that finds room.
inside_or_nothing
    : (P : List ℕ → Type 0) (buffer t : List ℕ) (at : ℕ)
    → length t ≤ length buffer - at
    → (at ≤ length buffer → P t)
    → P []
    → P t
inside_or_nothing P buffer [] at h inside nothing = nothing
inside_or_nothing P buffer (b ∷ t) at h inside nothing = inside (omega arith)

module _ (buffer t : List ℕ) (at : ℕ) (h : length t ≤ length buffer - at) where
  head_length : at ≤ length buffer → length (take at buffer ++ t) ≡ at + length t
  head_length inside = length-append (take at buffer) t ∙ ap (λ (k : ℕ). k + length t) (length-take-le at buffer inside)

  pub written_length : length (written buffer at t) ≡ length buffer
  unfolding written
  written_length =
      inside_or_nothing (λ (t : List ℕ). length (written buffer at t) ≡ length buffer) buffer t at h
      (λ inside.
      length-append (take at buffer ++ t) (drop (at + length t) buffer)
      ∙ omega (arith, head_length inside, length-drop (at + length t) buffer))
      (ap length (nothing_written buffer at))

  before : take at (written buffer at t) ≡ take at buffer
  unfolding written
  before =
      inside_or_nothing (λ (t : List ℕ). take at (written buffer at t) ≡ take at buffer) buffer t at h
      (λ inside.
      ap (take at) (append_assoc (take at buffer) t (drop (at + length t) buffer))
      ∙ take_at (take at buffer) (t ++ drop (at + length t) buffer) at (length-take-le at buffer inside))
      (ap (take at) (nothing_written buffer at))

  behind : drop (at + length t) (written buffer at t) ≡ drop (at + length t) buffer
  unfolding written
  behind =
      inside_or_nothing (λ (t : List ℕ). drop (at + length t) (written buffer at t) ≡ drop (at + length t) buffer) buffer t at h
      (λ inside. drop_at (take at buffer ++ t) (drop (at + length t) buffer) (at + length t) (head_length inside))
      (ap (drop (at + 0)) (nothing_written buffer at))

  after : (u : List ℕ) → written (written buffer at t) (at + length t) u ≡ written buffer at (t ++ u)
  unfolding written
  after u =
      inside_or_nothing (λ (t : List ℕ). written (written buffer at t) (at + length t) u ≡ written buffer at (t ++ u)) buffer t at h
      (λ inside.
      let start = take_at (take at buffer ++ t) (drop (at + length t) buffer) (at + length t) (head_length inside) in
      let rest : drop (at + length t + length u) (written buffer at t) ≡ drop (at + length t + length u) buffer =
      sym (drop-drop (length u) (at + length t) (written buffer at t))
      ∙ ap (drop (length u)) behind
      ∙ drop-drop (length u) (at + length t) buffer in
      rw (start, rest, length-append t u, append_assoc (take at buffer) t u, add_assoc))
      (rw (nothing_written buffer at, add-zero at))

-- Every other byte stays as it was: those before the place, and those behind the text.
pub others_stay : (b b' t : List ℕ) (at next : ℕ) → Put b at t next b' → (take at b' ≡ take at b) × (drop next b' ≡ drop next b)
others_stay b b' t at next put =
    let h = room_length b t at in
    rw (put.0, put.1) (before b (room b at t) at h, behind b (room b at t) at h)

take_after : (k : ℕ) (t u : List ℕ) → take k (t ++ u) ≡ take k t ++ take (k - length t) u
take_after k [] u = rw (sub-zero k, take-nil {A = ℕ} k)
take_after zero (b ∷ t) u = rw (zero-sub (length (b ∷ t)))
take_after (suc k) (b ∷ t) u = rw (suc-sub-suc k (length t)) (ap (λ (s : List ℕ). b ∷ s) (take_after k t u))

-- Of two texts finds room what does of the first, and of the second behind it.
room_after
    : (buffer t u : List ℕ) (at : ℕ)
    → room buffer at (t ++ u) ≡ room buffer at t ++ take (length buffer - (at + length (room buffer at t))) u
unfolding room
room_after buffer t u at =
    let left = length buffer - at in
    let same : left - length t ≡ length buffer - (at + length (take left t)) = omega (arith, length-take left t) in
    take_after left t u ∙ ap (λ (k : ℕ). take left t ++ take k u) same

-- One text, and another behind it.
pub all_both
    : (b b' b'' t u : List ℕ) (at next last : ℕ)
    → length t ≤ length b - at
    → PutAll b at t next b'
    → PutAll b' next u last b''
    → PutAll b at (t ++ u) last b''
all_both b b' b'' t u at next last h first second = (
  omega (arith, first.0, second.0, length-append t u),
  second.1 ∙ ap₂ (λ (s : List ℕ) (k : ℕ). written s k u) first.1 first.0 ∙ after b t at h u,
)

pub both : (b b' b'' t u : List ℕ) (at next last : ℕ) → Put b at t next b' → Put b' next u last b'' → Put b at (t ++ u) last b''
unfolding room
both b b' b'' t u at next last first second =
    let t' = room b at t in
    let within = room_length b t at in
    let kept : length b' ≡ length b = ap length first.1 ∙ written_length b t' at within in
    let same : t' ++ room b' next u ≡ room b at (t ++ u) =
    ap₂ (λ (k m : ℕ). t' ++ take (k - m) u) kept first.0 ∙ sym (room_after b t u at) in
    subst (λ (s : List ℕ). PutAll b at s last b'') same (all_both b b' b'' t' (room b' next u) at next last within first second)

-- A text that is put from within a buffer ends within it.
pub put_within : (b b' t : List ℕ) (at next : ℕ) → at ≤ length b → Put b at t next b' → next ≤ length b
unfolding room
put_within b b' t at next inside put = omega (arith, put.0, length-take (length b - at) t)
