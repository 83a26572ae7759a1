-- The entries of a layout as a row of words: from kinds and bytes in turn to what the words say, and back.
use Prim.Native.Nat.{ℕ, zero, suc, ◌+◌, ◌*◌, ◌<◌}
use mathlib.Core.Path.{◌≡◌, refl, sym, ap}
use mathlib.Core.Bool.{Bool, true, false, cond, ◌||◌, false≢true}
use mathlib.Core.List.{List, [], ◌∷◌}
use native.Mathlib.Omega.{arith}
use lib.Dec.{eqb}
use lib.ListN.{length}
use borrow.Author.Tests.{eqb-true, ne_eqb}
use Rattle.basis.specs.Bytes.{byte_at}
use Rattle.sigrecord.specs.Layout.{entry_good}
use Rattle.grammar.specs.Numeral.{any}
use Rattle.grammar.specs.Table.{Said}
use Rattle.grammar.proofs.Spelling.{Fits}
use Rattle.signature_line.specs.Meaning.{kind_said, byte_said}
use Rattle.signature_line.specs.Words.{entry, unnamed}
use Rattle.signature_line.proofs.Arrays.{in_turn}
use Rattle.signature_line.proofs.FieldsGood.{Each}
use Rattle.signature_line.proofs.Line.{big_unnamed}
use Rattle.written_line.specs.Signature.{entry_said, entries_said}

-- ---- one entry

-- A word of the table that means this kind, and this byte beside kind 0.
record Entry (kind byte : ℕ) (v : Said) : Type 0 where
  fits : Fits entry v
  same_kind : kind_said v ≡ kind
  same_byte : byte_said v ≡ cond (eqb kind 0) byte 0

-- A kind without a name, by its number.
without_name : (kind byte : ℕ) → suc kind < 256 → unnamed (suc kind) ≡ true → Entry (suc kind) byte (entry_said (suc kind) byte)
unfolding entry entry_said kind_said byte_said
without_name kind byte h u =
    let some = ne_eqb (suc kind) 0 (λ (e : suc kind ≡ 0). omega arith) in
    rw (some, u) (record { fits = (omega arith, omega arith, u); same_kind = refl; same_byte = rw some })

entry_of : (kind byte : ℕ) → kind < 256 → byte < 256 → Entry kind byte (entry_said kind byte)
unfolding entry entry_said kind_said byte_said unnamed any
entry_of zero byte h b = record { fits = (omega arith, omega arith, refl); same_kind = refl; same_byte = refl }
entry_of (suc zero) byte h b = record { fits = refl; same_kind = refl; same_byte = refl }
entry_of (suc (suc zero)) byte h b = record { fits = refl; same_kind = refl; same_byte = refl }
entry_of (suc (suc (suc zero))) byte h b = record { fits = refl; same_kind = refl; same_byte = refl }
entry_of (suc (suc (suc (suc zero)))) byte h b = record { fits = refl; same_kind = refl; same_byte = refl }
entry_of (suc (suc (suc (suc (suc zero))))) byte h b = record { fits = refl; same_kind = refl; same_byte = refl }
entry_of (suc (suc (suc (suc (suc (suc zero)))))) byte h b = without_name 5 byte h refl
entry_of (suc (suc (suc (suc (suc (suc (suc zero))))))) byte h b = without_name 6 byte h refl
entry_of (suc (suc (suc (suc (suc (suc (suc (suc zero)))))))) byte h b = record { fits = refl; same_kind = refl; same_byte = refl }
entry_of (suc (suc (suc (suc (suc (suc (suc (suc (suc kind))))))))) byte h b =
    let n = suc (suc (suc (suc (suc (suc (suc (suc kind))))))) in
    without_name n byte h (big_unnamed (suc n) (omega arith))

-- A byte beside a kind other than 0 is 0 in a good entry.
good_byte : (kind byte : ℕ) → entry_good kind byte ≡ true → cond (eqb kind 0) byte 0 ≡ byte
unfolding entry_good
good_byte kind byte g = by (eqb kind 0) (eqb byte 0) refl g
  where
    by : (end empty : Bool) → eqb byte 0 ≡ empty → empty || end ≡ true → cond end byte 0 ≡ byte
    by true empty z e = refl
    by false true z e = sym (eqb-true byte 0 z)
    by false false z e = absurd (false≢true e)

-- ---- a row of entries

-- What the words of so many entries say.
pub record Entries (bytes : List ℕ) (count : ℕ) : Type 0 where
  pub counted : length (entries_said bytes) ≡ count
  pub fits : Each (Fits entry) (entries_said bytes)

pub entries_of_lem : (n : ℕ) (w : List ℕ) → length w ≡ 2 * n → ((i : ℕ) → byte_at w i < 256) → Entries w n
unfolding entries_said
entries_of_lem zero [] e small = record { counted = refl; fits = tt }
entries_of_lem zero (k ∷ w) e small = absurd (omega (arith, e))
entries_of_lem (suc n) [] e small = absurd (omega (arith, e))
entries_of_lem (suc n) (k ∷ []) e small = absurd (omega (arith, e))
entries_of_lem (suc n) (k ∷ b ∷ w) e small =
    let rest = entries_of_lem n w (omega (arith, e)) (λ i. small (suc (suc i))) in
    record { counted = ap suc rest.counted; fits = ((entry_of k b (small 0) (small 1)).fits, rest.fits) }

-- If all are good, they mean these bytes.
pub entries_same
    : (n : ℕ) (w : List ℕ) → length w ≡ 2 * n → ((i : ℕ) → byte_at w i < 256)
    → ((i : ℕ) → i < n → entry_good (byte_at w (2 * i)) (byte_at w (2 * i + 1)) ≡ true)
    → in_turn (entries_said w) ≡ w
unfolding entries_said
entries_same zero [] e small good = refl
entries_same zero (k ∷ w) e small good = absurd (omega (arith, e))
entries_same (suc n) [] e small good = absurd (omega (arith, e))
entries_same (suc n) (k ∷ []) e small good = absurd (omega (arith, e))
entries_same (suc n) (k ∷ b ∷ w) e small good =
    let first = entry_of k b (small 0) (small 1) in
    let rest = entries_same n w (omega (arith, e)) (λ i. small (suc (suc i))) (λ i h. later i (good (suc i) (omega arith))) in
    rw (first.same_kind, first.same_byte, good_byte k b (good 0 (omega arith)), rest)
  where
    later
        : (i : ℕ) → entry_good (byte_at (k ∷ b ∷ w) (2 * suc i)) (byte_at (k ∷ b ∷ w) (2 * suc i + 1)) ≡ true
        → entry_good (byte_at w (2 * i)) (byte_at w (2 * i + 1)) ≡ true
    later i g =
        let here : 2 * suc i ≡ suc (suc (2 * i)) = omega arith in
        let next : 2 * suc i + 1 ≡ suc (suc (2 * i + 1)) = omega arith in
        rw (next, here) at g
