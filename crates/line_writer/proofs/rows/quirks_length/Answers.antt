use native.Mathlib.Omega.{arith}
use Rattle.std.proofs.lemmas.List.Sums.{sum_by_more}
use Rattle.quirks.specs.declared.Quirk.TheVariants as quirk
use Rattle.quirks.specs.declared.TheConstants.Quirk.{DISPLAY_ORDER}
use Rattle.quirks.specs.Named.{display_order}
use Rattle.grammar.specs.Spelling.{spelt}
use Rattle.signature_line.specs.Words.{quirk_word}
use Rattle.written_line.specs.Signature.{chosen}
use Rattle.line_writer.proofs.Names.{name_size, all_names}
use Rattle.line_writer.proofs.RowTexts.{some_row, no_row}
use Rattle.line_writer.proofs.rows.quirks_length.Goals as goal

pub loop-quirk-preserved : goal.loop-quirk-preserved
loop-quirk-preserved c =
    let name = c.shown_length-size.ensures in
    let more = sum_by_more (name_size c.args.quirks) DISPLAY_ORDER c.loop-quirk.quirk-index quirk.Df c.loop-quirk-test.true in
    (omega (arith, name.few), omega (arith, name.size, more))

pub returns-then-size-eq0 : goal.returns-then-size-eq0
returns-then-size-eq0 c =
    let l = c.loop-quirk in
    let all = all_names c.args.quirks l.quirk-index l.size c.loop-quirk-test.false l.invariant.1 in
    no_row (spelt quirk_word) (chosen c.args.quirks display_order) (omega arith)

pub returns : goal.returns
returns c =
    let l = c.loop-quirk in
    some_row (spelt quirk_word) (chosen c.args.quirks display_order) l.size
    (all_names c.args.quirks l.quirk-index l.size c.loop-quirk-test.false l.invariant.1) (omega arith)
