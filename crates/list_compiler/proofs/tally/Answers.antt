use mathlib.Core.Path.{◌∙◌}
use native.Mathlib.Omega.{arith}
use Rattle.list_compiler.proofs.Passes.{too_many_signatures, too_many_entries, counts_on, all_counted}
use Rattle.list_compiler.proofs.Walk.{left_shaped}
use Rattle.list_compiler.proofs.tally.Goals as goal

pub overflow_add-entries : goal.overflow_add-entries
overflow_add-entries c =
    let shaped = left_shaped _ c.in-Some.ensures.steps in
    let l = c.loop-line in
    omega (arith, shaped.few, c.entries-entries.ensures, l.invariant.1)

pub returns-then-signatures-gt-MOST_SIGNATURES : goal.returns-then-signatures-gt-MOST_SIGNATURES
returns-then-signatures-gt-MOST_SIGNATURES c =
    let l = c.loop-line in
    rw c.refused.ensures
    (too_many_signatures c.in-Some.ensures.steps l.signatures l.entries _ c.entries-entries.ensures
    c.if-signatures-gt-MOST_SIGNATURES.true
    ∙ l.invariant.2)

pub returns-then-entries-gt-MOST_ENTRIES : goal.returns-then-entries-gt-MOST_ENTRIES
returns-then-entries-gt-MOST_ENTRIES c =
    let l = c.loop-line in
    rw c.refused-then-entries-gt-MOST_ENTRIES.ensures
    (too_many_entries c.in-Some.ensures.steps l.signatures l.entries _ c.entries-entries.ensures
    c.if-signatures-gt-MOST_SIGNATURES.false c.if-entries-gt-MOST_ENTRIES.true
    ∙ l.invariant.2)

pub loop-line-preserved : goal.loop-line-preserved
loop-line-preserved c =
    let l = c.loop-line in (
      c.if-signatures-gt-MOST_SIGNATURES.false,
      c.if-entries-gt-MOST_ENTRIES.false,
      counts_on c.in-Some.ensures.steps l.signatures l.entries _ c.entries-entries.ensures
          c.if-signatures-gt-MOST_SIGNATURES.false c.if-entries-gt-MOST_ENTRIES.false
          ∙ l.invariant.2,
    )

pub returns : goal.returns
returns c =
    let l = c.loop-line in
    let steps = c.in-None.ensures.steps in
    all_counted steps.0 l.signatures l.entries ∙ l.invariant.2
