use mathlib.Core.Path.{sym, ◌∙◌}
use Rattle.siglist.proofs.List.{header_areas}
use Rattle.bundle_lines.proofs.Laws.{good_list_lem}
use Rattle.bundle_lines.proofs.write_good.Goals as goal

pub invariant_of-list : goal.invariant_of-list
invariant_of-list g c =
    record { fits = header_areas _ _ (sym c.read_header.ensures ∙ c.in-Some.is) }

pub invariant_of-write_packets : goal.invariant_of-write_packets
invariant_of-write_packets g c =
    let bytes = c.list_of-bytes in
    record { good = rw bytes.ensures (good_list_lem _ c.requires) }
