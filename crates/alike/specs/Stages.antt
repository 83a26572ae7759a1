-- What demand 3 asks of each stage of a reader by itself.
use Rattle.std.specs.Prelude.{◌≡◌, List, ℕ, min, length, Option, Ok}
use Rattle.ip.specs.declared.IpFacts.{IpFacts}
use Rattle.ip.specs.Ip.{IpStage}
use Rattle.flow.specs.Reading.{TcpStage}
use Rattle.alike.specs.Tcp.{AlikeTcp}
use Rattle.alike.specs.Packets.{IpLevel}

-- An IP stage answers alike headers alike, refusals included; where it gives facts, their TCP part is the level's, "never past the slice".
pub record KeepsLevel (level : IpLevel) (stage : IpStage) : Type 0 where
  pub alike : (p q : List ℕ) → length p ≡ length q → level.Header p q → stage p ≡ stage q
  pub part
      : (p : List ℕ) (f : IpFacts)
      → stage p ≡ Ok f
      → (f.start ≡ level.header_end p) × (f.end ≡ min (level.length_end p) (length p))

-- A TCP stage answers alike TCP parts alike, refusals included, after any facts of an IP header.
abbrev pub KeepsTcp : TcpStage → Type 0
KeepsTcp stage = (f : IpFacts) (t u : List ℕ) (peer : Option ℕ) → AlikeTcp t u → stage f t peer ≡ stage f u peer
