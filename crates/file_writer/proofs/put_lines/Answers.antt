use mathlib.Core.Path.{subst}
use mathlib.Core.List.{List}
use Prim.Native.Nat.{ℕ}
use native.Mathlib.Omega.{arith}
use Rattle.text.specs.Written.{Put}
use Rattle.file_writer.proofs.Files.{file_whole, put_turn, put_end}
use borrow.Author.Rules.{rules}
use Rattle.file_writer.proofs.put_lines.Goals as goal

pub loop-i-init : goal.loop-i-init
loop-i-init c =
    let a = c.args in (
      search rules,
      λ n b. subst (λ (s : List ℕ). Put a.buffer.now 0 s n b) (file_whole a.list.now a.count c.requires),
    )

pub loop-i-preserved : goal.loop-i-preserved
loop-i-preserved c =
    let line = c.put_shown-next in
    let l = c.loop-i in
    let a = c.args in (
      search rules,
      λ n b h. l.invariant.1 n b
          (put_turn a.list.now a.count l.i l.buffer line.new.buffer l.next b line.result n
          (λ k. omega (arith, c.type_inv.list k)) c.requires c.loop-i-test.true line.ensures h),
    )

pub returns : goal.returns
returns c =
    let l = c.loop-i in
    let a = c.args in
    l.invariant.1 _ _ (put_end a.list.now a.count l.i l.buffer l.next c.loop-i-test.false)
