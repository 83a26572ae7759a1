use mathlib.Core.Path.{subst}
use mathlib.Core.List.{List}
use Prim.Native.Nat.{ℕ}
use Rattle.grammar.specs.Spelling.{spelt}
use Rattle.signature_line.specs.Words.{entry}
use Rattle.text.specs.Written.{Put}
use Rattle.written_line.specs.Signature.{entries_said}
use Rattle.line_writer.proofs.Layouts.{layout_turn, layout_last}
use Rattle.line_writer.proofs.RowTexts.{whole_row}
use borrow.Author.Rules.{rules}
use Rattle.line_writer.proofs.rows.put_layout.Goals as goal

pub loop-i-init : goal.loop-i-init
loop-i-init c =
    let a = c.args in (
      search rules,
      λ n b. subst (λ (s : List ℕ). Put a.buffer.now a.at s n b) (whole_row (spelt entry) (entries_said a.entries.now)),
    )

pub loop-i-preserved : goal.loop-i-preserved
loop-i-preserved c =
    let option = c.put_option-next in
    let byte = c.put_byte-word in
    let e = c.args.entries.now in
    let l = c.loop-i in (
      search rules,
      λ n b h. l.invariant.1 n b
          (layout_turn e l.buffer byte.new.buffer option.new.buffer b l.i l.between l.next byte.result option.result n
          c.loop-i-test.true byte.ensures option.ensures h),
    )

pub returns : goal.returns
returns c =
    let closed = c.close_row in
    let e = c.args.entries.now in
    let l = c.loop-i in
    l.invariant.1 _ _
    (layout_last e l.buffer closed.new.buffer l.i l.between l.next closed.result c.loop-i-test.false closed.ensures)
