-- The laws of a reader's two stages, collected.
use mathlib.Core.Path.{refl}
use Rattle.flow.specs.Reading.{read_packet}
use Rattle.flow.specs.Modes.{read_in}
use Rattle.flow.proofs.Peer as peer
use Rattle.alike.proofs.Exact.{exact_by, exact_header}
use Rattle.alike.proofs.Packets.{by_stages}
use Rattle.acceptance.specs.Stages.{Stages}

pub stages : Stages
unfolding read_packet read_in
stages =
    record {
      alike = record { exactly = exact_by; answers = by_stages };
      peer = record { any = peer.by_stages; tcp_stage_lem = peer.takes_peer_in; reader = peer.with_peer_in };
      reader = λ p m. refl;
      mode_reader = λ mode p m. refl;
      headers = exact_header;
    }
