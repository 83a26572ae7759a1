-- A reader has two stages, chosen apart: the IP stage gives facts and the TCP part, the TCP stage sees nothing else. What is proved of
-- each stage by itself holds of the reader of both, whichever they are. `Stages` is the statement.
use Rattle.std.specs.Prelude.{◌≡◌, List, ◌↔◌, ℕ, Option, None}
use Rattle.ip.specs.Ip.{IpStage, read_ip}
use Rattle.flow.specs.declared.Mode.{Mode}
use Rattle.flow.specs.Tcp.{read_tcp}
use Rattle.flow.specs.Modes.{tcp_stage, read_in}
use Rattle.flow.specs.Reading.{TcpStage, read_by, read_packet}
use Rattle.flow.specs.Peer.{with_peer, TakesPeer}
use Rattle.alike.specs.Free.{DifferOnly}
use Rattle.alike.specs.Packets.{IpLevel, AlikeBy, FreeBy, ExactHeader, document01}
use Rattle.alike.specs.Stages.{KeepsLevel, KeepsTcp}

-- Demand 3 of any two stages.
pub record AlikeByStages : Type 1 where
  -- the relation is exactly the list, of any level whose headers are alike exactly where they differ in listed items only
  pub exactly
      : (level : IpLevel) → ExactHeader level → (p q : List ℕ) → AlikeBy level p q ↔ DifferOnly (FreeBy level p q) p q
  -- if the IP stage keeps to its level and the TCP stage answers alike parts alike, the reader answers alike packets alike
  pub answers
      : (level : IpLevel) (stage : IpStage) (tcp : TcpStage)
      → KeepsLevel level stage
      → KeepsTcp tcp
      → (p q : List ℕ) (peer : Option ℕ)
      → AlikeBy level p q
      → read_by stage tcp p peer ≡ read_by stage tcp q peer

-- "only a SYN+ACK's observation takes [the peer's MSS]; a SYN's has none": reading with a peer is reading without, with the peer put in.
pub record PeerPutIn : Type 0 where
  pub any
      : (stage : IpStage) (tcp : TcpStage)
      → TakesPeer tcp
      → (p : List ℕ) (peer : Option ℕ)
      → read_by stage tcp p peer ≡ with_peer peer (read_by stage tcp p None)
  pub tcp_stage_lem : (mode : Mode) → TakesPeer (tcp_stage mode)
  pub reader : (mode : Mode) (p : List ℕ) (peer : Option ℕ) → read_in mode p peer ≡ with_peer peer (read_in mode p None)

pub record Stages : Type 1 where
  pub alike : AlikeByStages
  pub peer : PeerPutIn
  -- document 01's reader is that of its two stages, and its level's headers are exactly its list; a mode's reader is that of its stages
  pub reader : (p : List ℕ) (peer : Option ℕ) → read_packet p peer ≡ read_by read_ip read_tcp p peer
  pub mode_reader : (mode : Mode) (p : List ℕ) (peer : Option ℕ) → read_in mode p peer ≡ read_by read_ip (tcp_stage mode) p peer
  pub headers : ExactHeader document01
