-- Alike packets: they have equal lengths and differ only in the free bytes of document 01. An IP level says which IP headers are alike and
-- where the TCP part lies; what is alike in that part (Tcp.antt) is the same for every level.
use Rattle.std.specs.Prelude.{◌≡◌, List, ◌↔◌, ℕ, ◌<◌, ◌≤◌, length}
use Rattle.basis.specs.Bytes.{byte_at, part}
use Rattle.rfc.specs.Rfc791.{version}
use Rattle.alike.specs.Free.{Within, FreeIpv4, FreeIpv6, ItemBy, FreePacket, header_end4, length_end4, header_end6, length_end6, end_by}
use Rattle.alike.specs.Options.{Agree}
use Rattle.alike.specs.Ip.{AlikeIpv4, AlikeIpv6}
use Rattle.alike.specs.Tcp.{AlikeTcp}

-- What lies between two places. "If no TCP part of 20 bytes exists, only the IP-level [free bytes] apply": all of it agrees. Else the two
-- TCP parts are alike, whatever the protocol says.
pub data AlikeBody (p q : List ℕ) (from to : ℕ) : Type 0 where
  no_tcp : length (part from to p) < 20 → Agree from to p q → AlikeBody p q from to
  tcp : 20 ≤ length (part from to p) → AlikeTcp (part from to p) (part from to q) → AlikeBody p q from to

-- ---- an IP level

-- The free items of two headers, and which headers are alike; where a packet's header ends, and where its IP length ends: the TCP part
-- lies between the two, whether the packet is refused or not.
pub record IpLevel : Type 1 where
  pub Item : List ℕ → List ℕ → ℕ → ℕ → Type 0
  pub Header : List ℕ → List ℕ → Type 0
  pub header_end : List ℕ → ℕ
  pub length_end : List ℕ → ℕ

pub record AlikeBy (level : IpLevel) (p q : List ℕ) : Type 0 where
  pub same_length : length p ≡ length q
  pub header : level.Header p q
  pub body : AlikeBody p q (level.header_end p) (level.length_end p)

abbrev pub FreeBy : IpLevel → List ℕ → List ℕ → ℕ → ℕ → Type 0
FreeBy level p q = FreePacket (level.Item p q) (level.header_end p) (level.length_end p) p q

-- Headers are alike exactly if every place in them where the packets differ lies in a free item.
pub record ExactHeader (level : IpLevel) : Type 0 where
  pub within : (p q : List ℕ) {from to : ℕ} → level.Item p q from to → to ≤ level.header_end p
  pub exactly
      : (p q : List ℕ)
      → length p ≡ length q
      → level.Header p q
      ↔ ((i : ℕ) → i < level.header_end p → (byte_at p i ≡ byte_at q i → ⊥) → Within (level.Item p q) i)

-- ---- the levels of document 01

abbrev pub ipv4 : IpLevel
ipv4 = record { Item = FreeIpv4; Header = AlikeIpv4; header_end = header_end4; length_end = length_end4 }

abbrev pub ipv6 : IpLevel
ipv6 = record { Item = FreeIpv6; Header = AlikeIpv6; header_end = header_end6; length_end = length_end6 }

-- Headers by the packet's version; of neither version nothing is free.
pub data HeaderBy (Header4 Header6 : Type 0) (p q : List ℕ) : Type 0 where
  same : p ≡ q → HeaderBy Header4 Header6 p q
  four : version p ≡ 4 → Header4 → HeaderBy Header4 Header6 p q
  six : version p ≡ 6 → Header6 → HeaderBy Header4 Header6 p q

abbrev pub level_by : IpLevel → IpLevel → IpLevel
level_by level4 level6 =
    record {
      Item = λ p q. ItemBy (level4.Item p q) (level6.Item p q) p;
      Header = λ p q. HeaderBy (level4.Header p q) (level6.Header p q) p q;
      header_end = end_by level4.header_end level6.header_end;
      length_end = end_by level4.length_end level6.length_end;
    }

abbrev pub document01 : IpLevel
document01 = level_by ipv4 ipv6

abbrev pub Alike : List ℕ → List ℕ → Type 0
Alike p q = AlikeBy document01 p q
