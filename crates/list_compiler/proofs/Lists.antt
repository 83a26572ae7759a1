-- The entries of a layout put one by one.
use Prim.Native.Nat.{ℕ, ◌+◌, ◌<◌, ◌≤◌}
use mathlib.Core.Path.{◌≡◌, refl, sym, ◌∙◌, ap₂}
use mathlib.Core.List.{List, [], ◌∷◌}
use native.Mathlib.Numerals.{add-one}
use native.Mathlib.Omega.{arith}
use lib.ListN.{length, take, drop, length-take, drop_of_length-le}
use lib.Seq.{drop-cons, get_or-take}
use Rattle.basis.specs.Bytes.{byte_at}
use Rattle.text.specs.Written.{Put}
use Rattle.text.proofs.Writing.{both, put_none}
use Rattle.signature_line.specs.OneRecord.{alternating}

-- The entries from one on, of so many.
unfoldable pub entries_from : List ℕ → List ℕ → ℕ → ℕ → List ℕ
entries_from kinds bytes count i = alternating (drop i (take count kinds)) (drop i (take count bytes))

pub all_entries : (kinds bytes : List ℕ) (count : ℕ) → entries_from kinds bytes count 0 ≡ alternating (take count kinds) (take count bytes)
unfolding entries_from
all_entries kinds bytes count = refl

next_byte
    : (row : List ℕ) (count i : ℕ) → i < count → count ≤ length row
    → drop i (take count row) ≡ byte_at row i ∷ drop (i + 1) (take count row)
next_byte row count i h k =
    drop-cons (take count row) i 0 (omega (arith, length-take count row))
    ∙ ap₂ (λ (b : ℕ) (j : ℕ). b ∷ drop j (take count row)) (get_or-take count row i 0 h) (sym (add-one i))

module _ (kinds bytes : List ℕ) (count i : ℕ) where
  pub no_entry : count ≤ i → (b : List ℕ) (at : ℕ) → Put b at (entries_from kinds bytes count i) at b
  unfolding entries_from
  no_entry h b at =
      rw (drop_of_length-le (take count kinds) {i = i} (omega (arith, length-take count kinds))) (put_none b at)

  pub one_entry
      : (b b₁ b₂ b₃ : List ℕ) (at at₁ at₂ at₃ : ℕ) → i < count → count ≤ length kinds → count ≤ length bytes
      → Put b at (byte_at kinds i ∷ []) at₁ b₁
      → Put b₁ at₁ (byte_at bytes i ∷ []) at₂ b₂
      → Put b₂ at₂ (entries_from kinds bytes count (i + 1)) at₃ b₃
      → Put b at (entries_from kinds bytes count i) at₃ b₃
  unfolding entries_from
  one_entry b b₁ b₂ b₃ at at₁ at₂ at₃ h k l first second third =
      rw (next_byte kinds count i h k, next_byte bytes count i h l)
      (both b b₁ b₃ (byte_at kinds i ∷ []) _ at at₁ at₃ first (both b₁ b₂ b₃ (byte_at bytes i ∷ []) _ at₁ at₂ at₃ second third))
