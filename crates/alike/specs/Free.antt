-- The free bytes of document 01 ("Free bytes of demand 3"), item by item, each with the places where it lies: from the first number up
-- to the second, which is not among them. `p` and `q` are the two packets.
use Rattle.std.specs.Prelude.{◌≡◌, cond, List, ℕ, ◌+◌, ◌*◌, ◌/◌, ◌<◌, ◌≤◌, max, eqb, length}
use Rattle.basis.specs.Bytes.{byte_at, be32, part}
use Rattle.rfc.specs.Rfc791 as v4
use Rattle.rfc.specs.Rfc8200 as v6
use Rattle.rfc.specs.Rfc9293 as tcp
use Rattle.one_option.specs.Options.{OptionBegins}

-- A place lies in an item.
pub data Within (Item : ℕ → ℕ → Type 0) (i : ℕ) : Type 0 where
  lies : {from to : ℕ} → Item from to → from ≤ i → i < to → Within Item i

-- "two packets of equal length differ only in the free bytes": every place where they differ lies in an item.
pub record DifferOnly (Item : ℕ → ℕ → Type 0) (p q : List ℕ) : Type 0 where
  pub same_length : length p ≡ length q
  pub free : (i : ℕ) → (byte_at p i ≡ byte_at q i → ⊥) → Within Item i

-- ---- the words of the list

-- "stays zero or stays nonzero"
abbrev pub ZeroAlike : ℕ → ℕ → Type 0
ZeroAlike m n = eqb m 0 ≡ eqb n 0

-- ---- the items

-- Where a half of a timestamps option begins: behind the kind and the length byte the own timestamp, behind that the peer's (RFC 7323,
-- section 3.2).
pub data Half : ℕ → Type 0 where
  own : Half 2
  peer : Half 6

-- "either four-byte half, wholly present, of a timestamps option that the walk reaches", which stays zero or stays nonzero:
-- the option's length byte and the string both have room for it. The walk reaches every option that begins in the string (in a string of
-- more than forty bytes, which no packet has, those past them count too).
pub data FreeStamp (s t : List ℕ) : ℕ → ℕ → Type 0 where
  half
      : {at k : ℕ}
      → Half k
      → OptionBegins at s
      → byte_at s at ≡ 8
      → k + 4 ≤ byte_at s (at + 1)
      → at + (k + 4) ≤ length s
      → ZeroAlike (be32 s (at + k)) (be32 t (at + k))
      → FreeStamp s t (at + k) (at + (k + 4))

-- In a TCP part: "both ports; the four bits below the data offset; TCP checksum; payload contents", and "where each stays zero or stays
-- nonzero: .. sequence, acknowledgement, urgent pointer".
pub data FreeTcp (t u : List ℕ) : ℕ → ℕ → Type 0 where
  ports : FreeTcp t u 0 4
  sequence : ZeroAlike (tcp.sequence t) (tcp.sequence u) → FreeTcp t u 4 8
  acknowledgment : ZeroAlike (tcp.acknowledgment t) (tcp.acknowledgment u) → FreeTcp t u 8 12
  below_offset : tcp.data_offset t ≡ tcp.data_offset u → FreeTcp t u 12 13
  checksum : FreeTcp t u 16 18
  urgent_pointer : ZeroAlike (tcp.urgent_pointer t) (tcp.urgent_pointer u) → FreeTcp t u 18 20
  stamp : {from to : ℕ} → FreeStamp (tcp.options t) (tcp.options u) from to → FreeTcp t u (20 + from) (20 + to)
  payload : FreeTcp t u (max 20 (4 * tcp.data_offset t)) (length t)

-- In an IPv4 header: "Addresses; IPv4 header checksum; contents of IPv4 options", and, where it stays zero or stays nonzero,
-- "identification".
pub data FreeIpv4 (p q : List ℕ) : ℕ → ℕ → Type 0 where
  identification : ZeroAlike (v4.identification p) (v4.identification q) → FreeIpv4 p q 4 6
  checksum : FreeIpv4 p q 10 12
  addresses : FreeIpv4 p q 12 20
  options : FreeIpv4 p q 20 (4 * v4.ihl p)

-- In an IPv6 header: "Addresses", and, where it stays zero or stays nonzero, "flow label".
pub data FreeIpv6 (p q : List ℕ) : ℕ → ℕ → Type 0 where
  flow_label : byte_at p 1 / 16 ≡ byte_at q 1 / 16 → ZeroAlike (v6.flow_label p) (v6.flow_label q) → FreeIpv6 p q 1 4
  addresses : FreeIpv6 p q 8 40

-- The items of a header by the packet's version; of neither version nothing is free.
pub data ItemBy (Item4 Item6 : ℕ → ℕ → Type 0) (p : List ℕ) : ℕ → ℕ → Type 0 where
  four : {from to : ℕ} → v4.version p ≡ 4 → Item4 from to → ItemBy Item4 Item6 p from to
  six : {from to : ℕ} → v4.version p ≡ 6 → Item6 from to → ItemBy Item4 Item6 p from to

-- In a packet whose IP header ends at one place and whose IP length ends at another: the items of the header; "bytes past both the IP
-- header .. and the IP length"; and those of the TCP part, which lies between the two, whatever the protocol says and whether the packet
-- is refused or not. "If no TCP part of 20 bytes exists, only the IP-level ones apply".
pub data FreePacket (Item : ℕ → ℕ → Type 0) (header_end length_end : ℕ) (p q : List ℕ) : ℕ → ℕ → Type 0 where
  header : {from to : ℕ} → Item from to → FreePacket Item header_end length_end p q from to
  past : FreePacket Item header_end length_end p q (max header_end length_end) (length p)
  in_tcp
      : {from to : ℕ}
      → 20 ≤ length (part header_end length_end p)
      → FreeTcp (part header_end length_end p) (part header_end length_end q) from to
      → FreePacket Item header_end length_end p q (header_end + from) (header_end + to)

-- ---- where they lie

-- Where the header ends, "counted as 20 bytes where its length says fewer", and where the IP length ends.
abbrev pub header_end4 : List ℕ → ℕ
header_end4 p = max 20 (4 * v4.ihl p)

abbrev pub length_end4 : List ℕ → ℕ
length_end4 p = v4.total_length p

abbrev pub header_end6 : List ℕ → ℕ
header_end6 p = 40

abbrev pub length_end6 : List ℕ → ℕ
length_end6 p = 40 + v6.payload_length p

-- By the packet's version; a packet of neither is all header.
unfoldable pub end_by : (List ℕ → ℕ) → (List ℕ → ℕ) → List ℕ → ℕ
end_by end4 end6 p = cond (eqb (v4.version p) 4) (end4 p) (cond (eqb (v4.version p) 6) (end6 p) (length p))

-- The list of document 01.
abbrev pub Free : List ℕ → List ℕ → ℕ → ℕ → Type 0
Free p q = FreePacket (ItemBy (FreeIpv4 p q) (FreeIpv6 p q) p) (end_by header_end4 header_end6 p) (end_by length_end4 length_end6 p) p q
