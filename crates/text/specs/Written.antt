-- A text in a lent buffer ("bytes past it stay as they were": document 02, Wish 7).
use Rattle.std.specs.Prelude.{◌≡◌, List, ◌++◌, ℕ, ◌+◌, ◌-◌, length, take, drop}
use Rattle.std.specs.Borrow.{MutBor}

-- A buffer's bytes from a place on are written over.
unfoldable pub written : List ℕ → ℕ → List ℕ → List ℕ
written buffer at text = take at buffer ++ text ++ drop (at + length text) buffer

-- What of a text finds room from a place on.
unfoldable pub room : List ℕ → ℕ → List ℕ → List ℕ
room buffer at text = take (length buffer - at) text

-- All of a text was put at a place: the place behind it, and the buffer.
abbrev pub PutAll : List ℕ → ℕ → List ℕ → ℕ → List ℕ → Type 0
PutAll buffer at text next buffer' = (next ≡ at + length text) × (buffer' ≡ written buffer at text)

-- A text was put at a place, as much of it as finds room.
abbrev pub Put : List ℕ → ℕ → List ℕ → ℕ → List ℕ → Type 0
Put buffer at text next buffer' = PutAll buffer at (room buffer at text) next buffer'

-- The caller's buffer is left with other bytes: the same reference.
abbrev pub left_with : MutBor (List ℕ) → List ℕ → MutBor (List ℕ)
left_with buffer bytes = record { ref_ptr = buffer.ref_ptr; ghost_name = buffer.ghost_name; now = bytes }

-- ---- a line, or a refusal

-- What is answered, and the line that is written from the buffer's start on: none beside a refusal.
pub record Lined (R : Type 0) : Type 0 where
  pub answer : R
  pub line : List ℕ

-- Of a buffer of so many bytes: so it is answered, and the buffer has the line at its start; bytes past the line are as they were.
abbrev pub Writes : {R : Type 0} → List ℕ → (ℕ → Lined R) → R → List ℕ → Type 0
Writes buffer writing r buffer' =
    (r ≡ (writing (length buffer)).answer) × (buffer' ≡ written buffer 0 (writing (length buffer)).line)
