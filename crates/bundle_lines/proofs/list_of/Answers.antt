use Rattle.bundle.proofs.Packets.{list_within, good_fits}
use borrow.Author.Rules.{rules}
use Rattle.bundle_lines.proofs.list_of.Goals as goal

pub slice_bounds-result-end : goal.slice_bounds-result-end
slice_bounds-result-end c =
    let b = c.args.bundle.now in
    let within = (list_within b (good_fits b c.requires)).1 in
    search rules

pub returns : goal.returns
returns c = rw (c.be16_at.ensures, c.be16_at-start.ensures)
