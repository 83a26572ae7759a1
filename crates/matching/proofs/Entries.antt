-- Laws of the layout gate: the entries of a layout one by one.
use mathlib.Core.Path.{◌≡◌}
use mathlib.Core.Bool.{Bool, true, false, ◌&&◌}
use mathlib.Core.List.{List}
use Prim.Native.Nat.{ℕ, ◌+◌, ◌*◌, ◌<◌}
use lib.Dec.{eqb}
use borrow.Author.Tests.{eq-eqb, ne_eqb}
use Rattle.basis.specs.Bytes.{byte_at}
use Rattle.basis.proofs.Tests.{and_false, none_below, one_more_below, fails_below}
use Rattle.matching.specs.Gates.{entries_match}

module _ (kinds bytes entries : List ℕ) where
  here : ℕ → Bool
  here i = eqb (byte_at kinds i) (byte_at entries (2 * i)) && eqb (byte_at bytes i) (byte_at entries (2 * i + 1))

  pub no_entry : entries_match kinds bytes entries 0 ≡ true
  unfolding entries_match here
  no_entry = none_below here

  pub entry_matches
      : (i : ℕ)
      → byte_at kinds i ≡ byte_at entries (2 * i)
      → byte_at bytes i ≡ byte_at entries (2 * i + 1)
      → entries_match kinds bytes entries i ≡ true
      → entries_match kinds bytes entries (i + 1) ≡ true
  unfolding entries_match here
  entry_matches i kind byte before =
      one_more_below here i
      (rw (eq-eqb (byte_at kinds i) (byte_at entries (2 * i)) kind, eq-eqb (byte_at bytes i) (byte_at entries (2 * i + 1)) byte))
      before

  pub kind_differs
      : (count i : ℕ) → i < count → (byte_at kinds i ≡ byte_at entries (2 * i) → ⊥) → entries_match kinds bytes entries count ≡ false
  unfolding entries_match here
  kind_differs count i h differs =
      fails_below here count i h (rw (ne_eqb (byte_at kinds i) (byte_at entries (2 * i)) differs))

  pub byte_differs
      : (count i : ℕ)
      → i < count
      → (byte_at bytes i ≡ byte_at entries (2 * i + 1) → ⊥)
      → entries_match kinds bytes entries count ≡ false
  unfolding entries_match here
  byte_differs count i h differs =
      fails_below here count i h
      (rw (ne_eqb (byte_at bytes i) (byte_at entries (2 * i + 1)) differs) (and_false (eqb (byte_at kinds i) (byte_at entries (2 * i)))))
