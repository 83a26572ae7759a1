-- The loop over the entries of a layout: its turn, its ends; and a layout from its first entry on.
use Prim.Native.Nat.{ℕ, zero, suc, ◌+◌, ◌-◌, ◌%◌, ◌<◌, ◌≤◌}
use mathlib.Core.Path.{◌≡◌, refl, sym, ◌∙◌, ap}
use mathlib.Core.Bool.{Bool, true, false, cond}
use mathlib.Core.List.{List, [], ◌∷◌, ◌++◌, append_assoc}
use native.Mathlib.Omega.{arith}
use lib.Dec.{eqb}
use lib.ListN.{length, take, drop, set, replicate, length-append}
use lib.Seq.{drop-drop, set-append_seam}
use borrow.Author.Tests.{eq-eqb, ne_eqb}
use Rattle.std.specs.Prelude.{Ok, Err}
use Rattle.grammar.specs.Reading.{Read, more_read}
use Rattle.grammar.specs.States.{table_read}
use Rattle.grammar.specs.Table.{Said}
use Rattle.signature_line.specs.declared.BadLine.{BadLine}
use Rattle.signature_line.specs.Answer.{bad_at}
use Rattle.signature_line.specs.Line.{comma}
use Rattle.signature_line.specs.LineReader.{layout_read}
use Rattle.signature_line.specs.Meaning.{kind_said, byte_said, each, padded, layout_of}
use Rattle.signature_line.specs.Words.{entry}
use Rattle.signature_line.proofs.Arrays.{length_each}
use Rattle.signature_line.proofs.FieldsGood.{EntryGood, entry_good_lem, layout_good}
use Rattle.signature_line.proofs.Line.{entry_field, entry_empty, layout_field}
use Rattle.numerals.specs.declared.Piece.{Piece}
use Rattle.numerals.specs.Pieces.{piece_said, made, state_at}
use Rattle.numerals.proofs.Made.{made_Ok, made_Err}
use Rattle.one_field.specs.Places.{behind_at, piece_at}
use Rattle.parse_tcp.specs.declared.layout.LayoutPiece.{LayoutPiece}
use Rattle.parse_tcp.specs.RowPieces.{layout_said, layout_at, kind_byte, rest_byte, store, kept_said, kept_at, kept_from}
use Rattle.parse_tcp.proofs.MoreLaws.{one_on, more_ends, more_goes_on, more_bad}

-- ---- an entry in its two bytes

abbrev read : List ℕ → ℕ → Read Said
read s at = table_read entry (drop at s)

-- What was read at a place, of an entry that was, and of one that was not.
read_Ok : (s : List ℕ) (at : ℕ) (e : Piece) → piece_at entry s at ≡ Ok e
    → ((read s at).good ≡ true) × (e ≡ piece_said (at + (read s at).count) (read s at).value)
unfolding state_at
read_Ok s at e q = made_Ok piece_said at (read s at) e q

read_Err : (s : List ℕ) (at : ℕ) (bad : BadLine) → piece_at entry s at ≡ Err bad
    → ((read s at).good ≡ false) × (bad ≡ record { offset = at + (read s at).count })
unfolding state_at
read_Err s at bad q = made_Err piece_said at (read s at) bad q

good_there : (s : List ℕ) (at : ℕ) → (read s at).good ≡ true → EntryGood (read s at).value
good_there s at g =
    let e = (entry_field.reads (drop at s)).exact in
    entry_good_lem (take (read s at).count (drop at s)) (read s at).value (e.yields g)

-- A number that fits one byte is that byte.
pub small : (n : ℕ) → n < 256 → n % 256 ≡ n
small n h = omega arith

-- ---- one turn of the loop, and its ends

abbrev stored : ℕ → ℕ → List ℕ → List ℕ → LayoutPiece
stored at n kinds bytes = record { at = at; layout = record { kinds = kinds; bytes = bytes; count = n } }

same_stored : {a b m n : ℕ} {kinds bytes kinds' bytes' : List ℕ} → a ≡ b → m ≡ n → kinds ≡ kinds' → bytes ≡ bytes'
    → stored a m kinds bytes ≡ stored b n kinds' bytes'
same_stored p q r w = rw (p, q, r, w)

one_entry
    : (n : ℕ) (kinds bytes : List ℕ) (at k c : ℕ) (v : Said) (g : Bool) (vs : List Said)
    → made (kept_said n kinds bytes) at (record { count = suc (k + c); good = g; value = v ∷ vs })
    ≡ made (kept_said (n + 1) (set kinds n (kind_said v)) (set bytes n (byte_said v))) (at + 1 + k)
    (record { count = c; good = g; value = vs })
unfolding made kept_said store
one_entry n kinds bytes at k c v true vs = ap Ok (same_stored (omega arith) (omega arith) refl refl)
one_entry n kinds bytes at k c v false vs = ap bad_at (omega arith)

one_more : (n : ℕ) → n < 40 → 40 - n ≡ suc (40 - (n + 1))
one_more n h = omega arith

module _ (n : ℕ) (kinds bytes s : List ℕ) (at : ℕ) where
  pub entries_full : n ≡ 40 → Ok (stored at 40 kinds bytes) ≡ kept_at n kinds bytes s at
  unfolding kept_at made kept_said store
  entries_full e = rw e (ap Ok (same_stored (omega arith) (omega arith) refl refl))

  module _ (below : n < 40) where
    pub entries_end : {bad : BadLine} → behind_at comma s at ≡ Err bad → Ok (stored at n kinds bytes) ≡ kept_at n kinds bytes s at
    unfolding kept_at made kept_said store
    entries_end q =
        rw (one_more n below, more_ends (table_read entry) comma s at (40 - (n + 1)) q)
        (ap Ok (same_stored (omega arith) (omega arith) refl refl))

    module _ {p : ℕ} (q : behind_at comma s at ≡ Ok p) where
      pub entries_bad : {bad : BadLine} → piece_at entry s p ≡ Err bad → Err bad ≡ kept_at n kinds bytes s at
      unfolding kept_at made
      entries_bad {bad} e =
          let r = read_Err s p bad e in
          rw (one_more n below, more_bad (table_read entry) comma s at (40 - (n + 1)) q r.0, r.1, one_on comma s at q)
          (ap bad_at (omega arith))

      turned
          : (read s p).good ≡ true
          → (let v = (read s p).value in
          kept_at (n + 1) (set kinds n (kind_said v)) (set bytes n (byte_said v)) s (p + (read s p).count) ≡ kept_at n kinds bytes s at)
      unfolding kept_at
      turned g =
          let x = read s p in
          let y = more_read (table_read entry) comma (40 - (n + 1)) (drop (p + x.count) s) in
          let of = kept_said (n + 1) (set kinds n (kind_said x.value)) (set bytes n (byte_said x.value)) in
          sym
          (rw (one_more n below, more_goes_on (table_read entry) comma s at (40 - (n + 1)) q g, drop-drop x.count p s)
          (one_entry n kinds bytes at x.count y.count x.value y.good y.value
          ∙ ap (λ (i : ℕ). made of (i + x.count) y) (sym (one_on comma s at q))))

      pub entries_turn
          : {e : Piece} → piece_at entry s p ≡ Ok e
          → kept_at (n + 1) (set kinds n (kind_byte e)) (set bytes n (rest_byte e)) s e.at ≡ kept_at n kinds bytes s at
      entries_turn {e} w =
          let r = read_Ok s p e w in
          let v = (read s p).value in
          rw (r.1, small (kind_said v) (good_there s p r.0).kind, small (byte_said v) (good_there s p r.0).byte) (turned r.0)

-- ---- stored one by one, or written down at once

one_longer : (xs : List ℕ) (w : ℕ) → length xs + 1 ≡ length (xs ++ w ∷ [])
one_longer xs w = sym (length-append xs (w ∷ []))

zeros : (xs ys : List ℕ) (m n : ℕ) → m ≡ n → xs ++ (ys ++ replicate m 0) ≡ xs ++ (ys ++ replicate n 0)
zeros xs ys m n e = rw e

store_behind
    : (f : Said → ℕ) (xs : List ℕ) (m : ℕ) (vs : List Said) → length vs ≤ m
    → store f (xs ++ replicate m 0) (length xs) vs ≡ xs ++ (each f vs ++ replicate (m - length vs) 0)
unfolding store
store_behind f xs m [] h = zeros xs [] m (m - 0) (omega arith)
store_behind f xs zero (v ∷ vs) h = absurd (omega arith)
store_behind f xs (suc m) (v ∷ vs) h =
    let grouped : xs ++ f v ∷ replicate m 0 ≡ (xs ++ f v ∷ []) ++ replicate m 0 = simp append_assoc in
    rw (set-append_seam xs 0 (replicate m 0) (f v), grouped, one_longer xs (f v))
    (store_behind f (xs ++ f v ∷ []) m vs (omega arith)
    ∙ append_assoc xs (f v ∷ []) (each f vs ++ replicate (m - length vs) 0)
    ∙ zeros xs (f v ∷ each f vs) (m - length vs) (suc m - suc (length vs)) (omega arith))

stored_whole : (f : Said → ℕ) (vs : List Said) → length vs ≤ 40 → store f (replicate 40 0) 0 vs ≡ padded (each f vs)
stored_whole f vs h = store_behind f [] 40 vs h ∙ zeros [] (each f vs) (40 - length vs) (40 - length (each f vs)) (rw (length_each f vs))

-- ---- a layout from its first entry on

module _ (s : List ℕ) (at : ℕ) where
  abbrev others : Read (List Said)
  others = more_read (table_read entry) comma 39 (drop (read s at).count (drop at s))

  -- An entry that means something has bytes.
  entry_some : (read s at).good ≡ true → (read s at).count ≡ 0 → ⊥
  entry_some g z = entry_empty (read s at).value (rw z at ((entry_field.reads (drop at s)).exact.yields g))

  layout_read_lem
      : (read s at).good ≡ true
      → layout_read (drop at s)
      ≡ record { count = (read s at).count + others.count; good = others.good; value = (read s at).value ∷ others.value }
  unfolding layout_read
  layout_read_lem g =
      let n = entry_some g in
      rw (g, ne_eqb ((read s at).count + others.count) 0 (λ z. n (omega arith)))

  module _ {bad : BadLine} (e : piece_at entry s at ≡ Err bad) where
    pub layout_none : bad.offset ≡ at → Ok (stored at 0 (replicate 40 0) (replicate 40 0)) ≡ layout_at s at
    unfolding layout_at layout_read made layout_of
    layout_none h =
        let r = read_Err s at bad e in
        let z : eqb (read s at).count 0 ≡ true = eq-eqb (read s at).count 0 (omega (arith, ap (λ (b : BadLine). b.offset) r.1)) in
        let here : at + 0 ≡ at = omega arith in
        rw (r.0, z, here)

    pub layout_bad : (bad.offset ≡ at → ⊥) → Err bad ≡ layout_at s at
    unfolding layout_at layout_read made
    layout_bad h =
        let r = read_Err s at bad e in
        let there = ap (λ (b : BadLine). b.offset) r.1 in
        let z : eqb (read s at).count 0 ≡ false = ne_eqb (read s at).count 0 (λ z. h (omega arith)) in
        rw (r.1, r.0, z)

-- The first entry and the others, stored one by one, are the layout of all.
first_stored
    : (at k : ℕ) (v : Said) (y : Read (List Said)) → (y.good ≡ true → length (v ∷ y.value) ≤ 40)
    → made (kept_said 1 (set (replicate 40 0) 0 (kind_said v)) (set (replicate 40 0) 0 (byte_said v))) (at + k) y
    ≡ made layout_said at (record { count = k + y.count; good = y.good; value = v ∷ y.value })
unfolding made kept_said layout_of store
first_stored at k v y h = by y.good refl
  where
    kept : LayoutPiece
    kept =
        stored (at + k + y.count) (1 + length y.value) (store kind_said (set (replicate 40 0) 0 (kind_said v)) 1 y.value)
        (store byte_said (set (replicate 40 0) 0 (byte_said v)) 1 y.value)

    by : (g : Bool) → y.good ≡ g
        → cond g (Ok kept) (bad_at (at + k + y.count))
        ≡ cond g (Ok (layout_said (at + (k + y.count)) (v ∷ y.value))) (bad_at (at + (k + y.count)))
    by true q =
        ap Ok
        (same_stored (omega arith) (omega arith) (stored_whole kind_said (v ∷ y.value) (h q)) (stored_whole byte_said (v ∷ y.value) (h q)))
    by false q = ap bad_at (omega arith)

few_entries : (q : List ℕ) → (layout_read q).good ≡ true → length (layout_read q).value ≤ 40
few_entries q g = (layout_good (take (layout_read q).count q) (layout_read q).value ((layout_field.reads q).exact.yields g)).1

from_first
    : (s : List ℕ) (at : ℕ) → (read s at).good ≡ true
    → (let v = (read s at).value in
    kept_at 1 (set (replicate 40 0) 0 (kind_said v)) (set (replicate 40 0) 0 (byte_said v)) s (at + (read s at).count) ≡ layout_at s at)
unfolding kept_at layout_at
from_first s at g =
    let q = layout_read_lem s at g in
    rw (← drop-drop (read s at).count at s)
    (first_stored at (read s at).count (read s at).value (others s at) (λ h. rw q at (few_entries (drop at s) (rw q h)))
    ∙ ap (made layout_said at) (sym q))

pub layout_some : (s : List ℕ) (at : ℕ) {first : Piece} → piece_at entry s at ≡ Ok first → kept_from s first ≡ layout_at s at
layout_some s at {first} e =
    let r = read_Ok s at first e in
    let v = (read s at).value in
    rw (r.1, small (kind_said v) (good_there s at r.0).kind, small (byte_said v) (good_there s at r.0).byte) (from_first s at r.0)
