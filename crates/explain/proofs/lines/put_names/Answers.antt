use mathlib.Core.Path.{◌∙◌, subst}
use mathlib.Core.List.{List}
use Prim.Native.Nat.{ℕ}
use Rattle.text.specs.Written.{Put}
use Rattle.explain.proofs.Rows.{same_lem, names_put, names_end}
use borrow.Author.Rules.{rules}
use Rattle.explain.proofs.lines.put_names.Goals as goal

pub loop-k-init : goal.loop-k-init
loop-k-init c = (search rules, λ n b h. h)

pub loop-k-preserved : goal.loop-k-preserved
loop-k-preserved c =
    let l = c.loop-k in
    let a = c.args in (
      search rules,
      λ n b h. l.invariant.1 n b
          (names_put a.row.now l.k (search rules) _ a.what l.any _ (c.eq-shown.ensures ∙ same_lem _ _) _ _ b _ _ n
          c.put_named-next.ensures h),
    )

pub returns : goal.returns
returns c =
    let closed = c.put_if in
    let l = c.loop-k in
    let a = c.args in
    l.invariant.1 _ _
    (subst (λ (s : List ℕ). Put l.line l.next s closed.result closed.new.line)
    (names_end a.row.now l.k a.what l.any (search rules)) closed.ensures)
