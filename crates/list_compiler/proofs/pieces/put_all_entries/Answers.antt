use native.Mathlib.Omega.{arith}
use Rattle.list_compiler.proofs.Passes.{none_put, entries_put, no_entries}
use Rattle.list_compiler.proofs.Walk.{read_shaped}
use Rattle.list_compiler.proofs.pieces.put_all_entries.Goals as goal

pub put_entries-next-requires : goal.put_entries-next-requires
put_entries-next-requires c = (read_shaped _ c.in-Some.ensures.steps c.in-Ok.is).few

pub loop-line-preserved-in-Ok : goal.loop-line-preserved-in-Ok
loop-line-preserved-in-Ok c =
    let l = c.loop-line in (
      omega arith,
      λ n b rest. l.invariant.1 n b (entries_put c.in-Some.ensures.steps c.in-Ok.is _ _ b l.next _ n
          c.put_entries-next.ensures rest),
    )

pub loop-line-preserved : goal.loop-line-preserved
loop-line-preserved c =
    let l = c.loop-line in
    (omega arith, λ n b rest. l.invariant.1 n b (none_put c.in-Some.ensures.steps l.buffer b l.next n c.in_default.is rest))

pub returns : goal.returns
returns c =
    let l = c.loop-line in
    let steps = c.in-None.ensures.steps in
    l.invariant.1 _ _ (no_entries steps.0 l.buffer l.next)
