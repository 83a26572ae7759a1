-- The peer's MSS put into a reading that was made without it.
use Rattle.std.specs.Prelude.{◌≡◌, List, ℕ, Option, Some, None, Result, Ok, Err}
use Rattle.observable.specs.declared.TcpObservation.{TcpObservation}
use Rattle.ip.specs.declared.IpFacts.{IpFacts}
use Rattle.refusals.specs.declared.PacketRefusal.{PacketRefusal}
use Rattle.flow.specs.declared.Kind.{Kind}
use Rattle.flow.specs.declared.Kind.TheVariants as kind
use Rattle.flow.specs.declared.Reading.{Reading}
use Rattle.flow.specs.declared.Reading.TheVariants as reading
use Rattle.flow.specs.Tcp.{known_peer}
use Rattle.flow.specs.Reading.{TcpStage}

-- "only a SYN+ACK's observation takes it; a SYN's has none", and "A zero peer MSS counts as absent."
unfoldable pub peer_beside : Result (Option Kind) PacketRefusal → Option ℕ → Option ℕ
peer_beside (Ok (Some kind.Syn)) peer = None
peer_beside (Ok (Some kind.SynAck)) peer = known_peer peer
peer_beside (Ok None) peer = None
peer_beside (Err r) peer = None

-- An observation with another peer's MSS.
abbrev pub put_peer : Option ℕ → TcpObservation → TcpObservation
put_peer peer o =
    record {
      version = o.version;
      ittl = o.ittl;
      olen = o.olen;
      mss = o.mss;
      wsize = o.wsize;
      tot_hdr = o.tot_hdr;
      wscale = o.wscale;
      olayout = o.olayout;
      quirks = o.quirks;
      pclass = o.pclass;
      peer_mss = peer;
      tos = o.tos;
    }

unfoldable pub with_peer : Option ℕ → Result Reading PacketRefusal → Result Reading PacketRefusal
with_peer peer (Ok (reading.Opening k o)) = Ok (reading.Opening k (put_peer (peer_beside (Ok (Some k)) peer) o))
with_peer peer (Ok reading.Nothing) = Ok reading.Nothing
with_peer peer (Err r) = Err r

-- A TCP stage that takes the peer's MSS so.
abbrev pub TakesPeer : TcpStage → Type 0
TakesPeer tcp = (f : IpFacts) (t : List ℕ) (peer : Option ℕ) → tcp f t peer ≡ with_peer peer (tcp f t None)
