-- `list_compiler::pieces::put_entries` meets its contract.
use mathlib.Core.Path.{◌≡◌, subst}
use mathlib.Core.List.{List}
use Prim.Native.Nat.{ℕ}
use native.Mathlib.Omega.{arith}
use lib.ListN.{length}
use Rattle.text.specs.Written.{Put}
use Rattle.signature_line.specs.OneRecord.{entries_in}
use Rattle.list_compiler.proofs.Lists.{all_entries, no_entry, one_entry}
use borrow.Author.Rules.{rules}
use Rattle.list_compiler.proofs.pieces.put_entries.Goals as goal

pub loop-i-init : goal.loop-i-init
loop-i-init c =
    let a = c.args in (
      search rules,
      λ n b. subst (λ (s : List ℕ). Put a.buffer.now a.at s n b)
          (all_entries a.layout.kinds a.layout.bytes a.layout.count),
    )

pub loop-i-preserved : goal.loop-i-preserved
loop-i-preserved c =
    let byte = c.put_byte-next in
    let kind = c.put_byte-place in
    let l = c.loop-i in
    let a = c.args in
    let kinds : length a.layout.kinds ≡ 40 = search rules in
    let bytes : length a.layout.bytes ≡ 40 = search rules in (
      search rules,
      λ n b h. l.invariant.1 n b
          (one_entry a.layout.kinds a.layout.bytes a.layout.count l.i l.buffer kind.new.buffer byte.new.buffer b
          l.next kind.result byte.result n c.loop-i-test.true (omega (arith, kinds)) (omega (arith, bytes))
          kind.ensures byte.ensures h),
    )

pub returns : goal.returns
unfolding entries_in
returns c =
    let l = c.loop-i in
    let y = c.args.layout in
    l.invariant.1 _ _ (no_entry y.kinds y.bytes y.count l.i c.loop-i-test.false l.buffer l.next)
