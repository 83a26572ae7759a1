-- The line starts where the head ends that is read, if that is good, and nowhere else.
use Prim.Native.Nat.{ℕ, ◌+◌, ◌<◌, ◌≤◌}
use mathlib.Core.Path.{◌≡◌}
use mathlib.Core.Bool.{true, false}
use mathlib.Core.List.{List, [], append-nil}
use native.Mathlib.Omega.{arith}
use native.Mathlib.Decide.{dec_le}
use lib.Dec.{eqb}
use lib.ListN.{length, take}
use borrow.Author.Tests.{ne_eqb}
use Rattle.basis.proofs.Tests.{and_false}
use Rattle.grammar.specs.Language.{GoesOn}
use Rattle.grammar.specs.Reading.{refused, judgement}
use Rattle.grammar.proofs.Judged.{judged, fewer_go_on}
use Rattle.keeper_file.specs.KeptLine.{HeadSays, LineStarts}
use Rattle.keeper_file.specs.KeptReader.{head_read}
use Rattle.keeper_file.proofs.KeptField.{head_field}

module _ (s : List ℕ) where
  abbrev n : ℕ
  n = (head_read s).count

  -- Where more is left, the head is refused there.
  no_longer : n < length s → GoesOn HeadSays (take (n + 1) s) → ⊥
  no_longer h =
      let other : eqb n (length s) ≡ false = ne_eqb n (length s) (λ (e : n ≡ length s). omega arith) in
      let stopped : judgement s (head_read s) ≡ refused n = rw (other, and_false (head_read s).good) in
      ((judged HeadSays s (head_read s) (head_field.reads s) (refused n)).0 stopped).there h

  pub starts_there : (head_read s).good ≡ true → LineStarts s n
  starts_there e =
      let r = head_field.reads s in
      record { within = r.within; said = (head_read s).value; head = r.exact.yields e; ends = no_longer }

  one_start : (at : ℕ) → LineStarts s at → at ≡ n
  one_start at l = by (dec_le (at + 1) n) (dec_le (n + 1) at)
    where
      by : Dec (at + 1 ≤ n) → Dec (n + 1 ≤ at) → at ≡ n
      by (yes h) d =
          let r = head_field.reads s in
          absurd (l.ends (omega (arith, r.within)) (fewer_go_on HeadSays s (at + 1) n h r.exact.live))
      by (no h) (yes k) =
          absurd
          (no_longer (omega (arith, l.within))
          (fewer_go_on HeadSays s (n + 1) at k (record { tail = []; meaning = l.said; derives = rw append-nil l.head })))
      by (no h) (no k) = omega arith

  pub starts_only : (at : ℕ) → LineStarts s at → ((head_read s).good ≡ true) × (at ≡ n)
  starts_only at l =
      let same = one_start at l in
      (((head_field.reads s).exact.only l.said (rw same at l.head)).0, same)
