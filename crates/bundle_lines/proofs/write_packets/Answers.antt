use Rattle.text.proofs.Writing.{put_within}
use borrow.Author.Rules.{rules}
use Rattle.bundle_lines.proofs.write_packets.Goals as goal

pub slice_bounds-write_all-end : goal.slice_bounds-write_all-end
slice_bounds-write_all-end g c =
    let within = put_within _ _ _ 0 _ (search rules) c.put_packet-filled.ensures in
    search rules
