-- Laws of a layout's entries, kind and byte in turn: an entry at a time, and how long their words are.
use mathlib.Core.Path.{◌≡◌, refl, sym, ◌∙◌, ap, subst}
use mathlib.Core.Bool.{Bool, true, false, cond, ◌&&◌}
use mathlib.Core.List.{List, [], ◌∷◌, ◌++◌, append_assoc}
use Prim.Native.Nat.{ℕ, zero, suc, ◌+◌, ◌*◌, ◌/◌, ◌<◌, ◌≤◌}
use native.Mathlib.Omega.{arith}
use lib.Dec.{eqb, leb}
use lib.ListN.{length, take, drop, get_or, set, length-append, length-drop, length-set}
use lib.Seq.{drop-cons, take-suc-set}
use borrow.Author.Tests.{leb-true}
use Rattle.basis.proofs.Tests.{and_left, and_right}
use Rattle.text.specs.Written.{Put}
use Rattle.text.proofs.Decimal.{decimal_length}
use Rattle.grammar.specs.Spelling.{tail_text, spelt, more_text}
use Rattle.grammar.specs.Table.{Tail, nothing, numeral, Row, row, Said}
use Rattle.signature_line.specs.OneRecord.{alternating}
use Rattle.signature_line.specs.Words.{entry}
use Rattle.written_line.specs.LineText.{layout_text}
use Rattle.written_line.specs.Signature.{entry_said, entries_said}
use Rattle.line_writer.proofs.RowTexts.{row_text, word_put}

-- ---- an entry at a time

pair_turn
    : (e : List ℕ) (j : ℕ) → suc j < length e
    → entries_said (drop j e) ≡ entry_said (get_or e j 0) (get_or e (suc j) 0) ∷ entries_said (drop (suc (suc j)) e)
unfolding entries_said
pair_turn e j h =
    ap entries_said (drop-cons e j 0 (omega arith) ∙ ap (λ (s : List ℕ). get_or e j 0 ∷ s) (drop-cons e (suc j) 0 h))

entries_turn
    : (e : List ℕ) (i : ℕ) → i < length e / 2
    → entries_said (drop (2 * i) e) ≡ entry_said (get_or e (2 * i) 0) (get_or e (2 * i + 1) 0) ∷ entries_said (drop (2 * (i + 1)) e)
entries_turn e i h =
    let here : 2 * i + 1 ≡ suc (2 * i) = omega arith in
    let next : 2 * (i + 1) ≡ suc (suc (2 * i)) = omega arith in
    rw (here, next) (pair_turn e (2 * i) (omega arith))

none_said : (w : List ℕ) → length w < 2 → entries_said w ≡ []
unfolding entries_said
none_said [] h = refl
none_said (k ∷ []) h = refl
none_said (k ∷ b ∷ w) h = absurd (omega arith)

entries_end : (e : List ℕ) (i : ℕ) → length e / 2 ≤ i → entries_said (drop (2 * i) e) ≡ []
entries_end e i h = none_said (drop (2 * i) e) (omega (arith, length-drop (2 * i) e))

-- ---- how long the words are

-- Every row's word, with a number of five digits behind it, has at most so many bytes.
unfoldable pub rows_within : ℕ → List Row → Bool
rows_within most [] = true
rows_within most (row cs f t ∷ rows) = leb (length cs + 5) most && rows_within most rows

tail_within : (t : Tail) (n : ℕ) → length (tail_text t n) ≤ 5
tail_within nothing n = omega arith
tail_within (numeral max wanted) n = decimal_length n

pub spelt_within : (most : ℕ) (rows : List Row) → rows_within most rows ≡ true → (v : Said) → length (spelt rows v) ≤ most
unfolding spelt rows_within
spelt_within most [] s v = omega arith
spelt_within most (row cs f t ∷ rows) s v =
    by (eqb f v.form) (spelt_within most rows (and_right (leb (length cs + 5) most) (rows_within most rows) s) v)
  where
    by
        : (same : Bool) → length (spelt rows v) ≤ most
        → length (cond same (cs ++ tail_text t v.number) (spelt rows v)) ≤ most
    by true later =
        let here = leb-true (length cs + 5) most (and_left (leb (length cs + 5) most) (rows_within most rows) s) in
        simp length-append (omega (arith, tail_within t v.number))
    by false later = later

pub entry_within : (v : Said) → length (spelt entry v) ≤ 9
unfolding rows_within entry
entry_within = spelt_within 9 entry refl

-- The bytes of the words that are left, each with the byte before it.
unfoldable pub bytes_left : List ℕ → ℕ → ℕ
bytes_left e i = length (more_text (spelt entry) 44 (entries_said (drop (2 * i) e)))

left_turn
    : (e : List ℕ) (i : ℕ) → i < length e / 2
    → bytes_left e i ≡ 1 + length (spelt entry (entry_said (get_or e (2 * i) 0) (get_or e (2 * i + 1) 0))) + bytes_left e (i + 1)
unfolding bytes_left
left_turn e i h =
    let word = spelt entry (entry_said (get_or e (2 * i) 0) (get_or e (2 * i + 1) 0)) in
    let rest = more_text (spelt entry) 44 (entries_said (drop (2 * (i + 1)) e)) in
    rw (entries_turn e i h) (omega (arith, length-append word rest))

left_end : (e : List ℕ) (i : ℕ) → length e / 2 ≤ i → bytes_left e i ≡ 0
unfolding bytes_left
left_end e i h = rw (entries_end e i h)

-- From the start on they are the layout's, with the colon before it.
left_whole : (e : List ℕ) → 0 < length e / 2 → bytes_left e 0 ≡ length (58 ∷ layout_text (entries_said e))
unfolding bytes_left
left_whole e h = by (entries_said e) (entries_turn e 0 h)
  where
    by
        : (vs : List Said) {v : Said} {us : List Said} → vs ≡ v ∷ us
        → length (more_text (spelt entry) 44 vs) ≡ length (58 ∷ layout_text vs)
    by vs s = rw s

pub none_left : (e : List ℕ) → length e / 2 ≤ 0 → 1 ≡ length (58 ∷ layout_text (entries_said e))
none_left e h = rw (entries_end e 0 h)

-- A turn, and the end, over the bytes counted so far.
pub entry_few : (v : Said) (r : ℕ) → r ≡ length (spelt entry v) → r ≤ 9
entry_few v r e = omega (arith, entry_within v)

pub length_turn
    : (e : List ℕ) (i size r : ℕ) → i < length e / 2
    → r ≡ length (spelt entry (entry_said (get_or e (2 * i) 0) (get_or e (2 * i + 1) 0)))
    → size + bytes_left e i ≡ bytes_left e 0
    → size + (1 + r) + bytes_left e (i + 1) ≡ bytes_left e 0
length_turn e i size r h word so_far = omega (arith, left_turn e i h)

pub length_last
    : (e : List ℕ) (i size : ℕ) → 0 < length e / 2 → length e / 2 ≤ i
    → size + bytes_left e i ≡ bytes_left e 0
    → size ≡ length (58 ∷ layout_text (entries_said e))
length_last e i size some h so_far = omega (arith, left_end e i h, left_whole e some)

-- ---- a row of entries that is being written

pub layout_turn
    : (e b b₁ b₂ b₃ : List ℕ) (i between at at₁ at₂ at₃ : ℕ) → i < length e / 2
    → Put b at (between ∷ []) at₁ b₁
    → Put b₁ at₁ (spelt entry (entry_said (get_or e (2 * i) 0) (get_or e (2 * i + 1) 0))) at₂ b₂
    → Put b₂ at₂ (row_text (spelt entry) 44 (entries_said (drop (2 * (i + 1)) e))) at₃ b₃
    → Put b at (row_text (spelt entry) between (entries_said (drop (2 * i) e))) at₃ b₃
layout_turn e b b₁ b₂ b₃ i between at at₁ at₂ at₃ h first second third =
    subst (λ (vs : List Said). Put b at (row_text (spelt entry) between vs) at₃ b₃) (sym (entries_turn e i h))
    (word_put b b₁ b₂ b₃ _ _ between at at₁ at₂ at₃ first second third)

pub layout_last
    : (e b b' : List ℕ) (i between at next : ℕ) → length e / 2 ≤ i
    → Put b at (cond (eqb between 58) (58 ∷ []) []) next b'
    → Put b at (row_text (spelt entry) between (entries_said (drop (2 * i) e))) next b'
layout_last e b b' i between at next h =
    subst (λ (vs : List Said). Put b at (row_text (spelt entry) between vs) next b') (sym (entries_end e i h))

-- ---- kind and byte in turn

last_turn
    : (i : ℕ) (kinds bytes : List ℕ) → i < length kinds → i < length bytes
    → alternating (take (suc i) kinds) (take (suc i) bytes)
    ≡ alternating (take i kinds) (take i bytes) ++ (get_or kinds i 0 ∷ get_or bytes i 0 ∷ [])
last_turn i [] bytes h k = absurd (omega arith)
last_turn i (x ∷ kinds) [] h k = absurd (omega arith)
last_turn zero (x ∷ kinds) (y ∷ bytes) h k = refl
last_turn (suc i) (x ∷ kinds) (y ∷ bytes) h k =
    ap (λ (s : List ℕ). x ∷ y ∷ s) (last_turn i kinds bytes (omega arith) (omega arith))

two_set
    : (e : List ℕ) (j k b : ℕ) → suc j < length e
    → take (suc (suc j)) (set (set e j k) (suc j) b) ≡ take j e ++ (k ∷ b ∷ [])
two_set e j k b h =
    take-suc-set (set e j k) (suc j) b (omega (arith, length-set e j k))
    ∙ ap (λ (s : List ℕ). s ++ (b ∷ [])) (take-suc-set e j k (omega arith))
    ∙ append_assoc (take j e) (k ∷ []) (b ∷ [])

-- One more entry in its two places.
abbrev entry_put : List ℕ → List ℕ → List ℕ → ℕ → List ℕ
entry_put kinds bytes e i = set (set e (2 * i) (get_or kinds i 0)) (2 * i + 1) (get_or bytes i 0)

pub turned_turn
    : (kinds bytes e : List ℕ) (i : ℕ)
    → i < length kinds → i < length bytes → 2 * i + 1 < length e
    → take (2 * i) e ≡ alternating (take i kinds) (take i bytes)
    → (length (entry_put kinds bytes e i) ≡ length e)
    × (take (2 * (i + 1)) (entry_put kinds bytes e i) ≡ alternating (take (i + 1) kinds) (take (i + 1) bytes))
turned_turn kinds bytes e i h k room turned =
    let here : 2 * i + 1 ≡ suc (2 * i) = omega arith in
    let next : 2 * (i + 1) ≡ suc (suc (2 * i)) = omega arith in
    let more : i + 1 ≡ suc i = omega arith in
    let both = get_or kinds i 0 ∷ get_or bytes i 0 ∷ [] in (
      length-set (set e (2 * i) (get_or kinds i 0)) (2 * i + 1) (get_or bytes i 0) ∙ length-set e (2 * i) (get_or kinds i 0),
      rw (next, here, more)
          (two_set e (2 * i) (get_or kinds i 0) (get_or bytes i 0) (omega arith)
          ∙ ap (λ (s : List ℕ). s ++ both) turned
          ∙ sym (last_turn i kinds bytes h k)),
    )
