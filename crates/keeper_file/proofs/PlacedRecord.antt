-- A record that says where its layout lies is the same record but for bytes 18 and 19; the length of its entries.
use Prim.Native.Nat.{ℕ, ◌*◌, ◌/◌, ◌%◌, ◌<◌, ◌≤◌}
use mathlib.Core.Path.{◌≡◌, refl, ◌∙◌}
use mathlib.Core.Logic.{◌≢◌}
use mathlib.Core.List.{List, [], ◌∷◌}
use native.Mathlib.Omega.{arith}
use lib.Dec.{lit<}
use lib.ListN.{length, take, set, length-set}
use lib.Seq.{get_or-set_same, get_or-set_other, length-take-le}
use Rattle.basis.specs.Bytes.{byte_at, be16, be32}
use Rattle.tcp.specs.declared.Layout.{Layout}
use Rattle.sigrecord.specs.Record.{first_entry, signature_of}
use Rattle.sigrecord.specs.WellFormed.{scalars_good}
use Rattle.signature_line.specs.OneRecord.{alternating, entries_in}
use Rattle.keeper_file.specs.CompileAnswers.{NotPlace}
use Rattle.keeper_file.specs.ListText.{placed_at}

-- Records that agree but for the place of their layouts.
module _ (r s : List ℕ) (same : (k : ℕ) → NotPlace k → byte_at r k ≡ byte_at s k) where
  early : (k : ℕ) → k < 18 → byte_at r k ≡ byte_at s k
  early k h = same k (NotPlace.before h)

  pub same_scalars : scalars_good r ≡ scalars_good s
  unfolding scalars_good be16 be32
  same_scalars =
      rw (
        early 0 (lit< tt),
        early 1 (lit< tt),
        early 3 (lit< tt),
        early 5 (lit< tt),
        early 6 (lit< tt),
        early 7 (lit< tt),
        early 8 (lit< tt),
        early 9 (lit< tt),
        early 10 (lit< tt),
        early 11 (lit< tt),
        early 12 (lit< tt),
        early 13 (lit< tt),
        early 14 (lit< tt),
        early 15 (lit< tt),
        early 16 (lit< tt),
        early 17 (lit< tt),
        same 21 (NotPlace.behind (omega arith) (lit< tt)),
      )

  pub same_signature : signature_of r ≡ signature_of s
  unfolding signature_of be16 be32
  same_signature =
      rw (
        early 0 (lit< tt),
        early 1 (lit< tt),
        early 2 (lit< tt),
        early 3 (lit< tt),
        early 4 (lit< tt),
        early 5 (lit< tt),
        early 6 (lit< tt),
        early 7 (lit< tt),
        early 8 (lit< tt),
        early 9 (lit< tt),
        early 10 (lit< tt),
        early 11 (lit< tt),
        early 12 (lit< tt),
        early 13 (lit< tt),
        early 14 (lit< tt),
        early 15 (lit< tt),
        early 16 (lit< tt),
        early 17 (lit< tt),
      )

module _ (first : ℕ) (raw : List ℕ) where
  pub placed_length : length (placed_at first raw) ≡ length raw
  unfolding placed_at
  placed_length = length-set (set raw 18 (first / 256)) 19 (first % 256) ∙ length-set raw 18 (first / 256)

  elsewhere : (k : ℕ) → k ≢ 18 → k ≢ 19 → byte_at (placed_at first raw) k ≡ byte_at raw k
  unfolding placed_at
  elsewhere k a b =
      get_or-set_other (set raw 18 (first / 256)) 19 k (first % 256) 0 b ∙ get_or-set_other raw 18 k (first / 256) 0 a

  pub placed_same : (k : ℕ) → NotPlace k → byte_at (placed_at first raw) k ≡ byte_at raw k
  placed_same k (NotPlace.before h) = elsewhere k (λ e. omega arith) (λ e. omega arith)
  placed_same k (NotPlace.behind h b) = elsewhere k (λ e. omega arith) (λ e. omega arith)

  pub placed_first : length raw ≡ 24 → first_entry (placed_at first raw) ≡ first
  unfolding placed_at be16
  placed_first whole =
      let low = get_or-set_same (set raw 18 (first / 256)) 19 (first % 256) 0 (omega (arith, length-set raw 18 (first / 256))) in
      let high =
      get_or-set_other (set raw 18 (first / 256)) 19 18 (first % 256) 0 (λ e. omega arith)
      ∙ get_or-set_same raw 18 (first / 256) 0 (omega arith) in
      rw (high, low) (omega arith)

-- ---- the entries of a layout

alternating_length : (kinds bytes : List ℕ) → length kinds ≡ length bytes → length (alternating kinds bytes) ≡ 2 * length kinds
alternating_length [] bytes e = refl
alternating_length (k ∷ kinds) [] e = absurd (omega arith)
alternating_length (k ∷ kinds) (b ∷ bytes) e = omega (arith, alternating_length kinds bytes (omega arith))

pub entries_length
    : (y : Layout) → y.count ≤ length y.kinds → y.count ≤ length y.bytes → length (entries_in y) ≡ 2 * y.count
unfolding entries_in
entries_length y a b =
    let kinds = length-take-le y.count y.kinds a in
    let bytes = length-take-le y.count y.bytes b in
    rw (alternating_length (take y.count y.kinds) (take y.count y.bytes) (rw (kinds, bytes)), kinds)
