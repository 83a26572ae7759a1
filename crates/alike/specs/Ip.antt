-- Alike IP headers (document 01, "Free bytes of demand 3"), field by field of RFC 791, section 3.1, and RFC 8200, section 3.
use Rattle.std.specs.Prelude.{◌≡◌, List, ℕ, ◌/◌, length}
use Rattle.basis.specs.Bytes.{byte_at}
use Rattle.rfc.specs.Rfc791 as v4
use Rattle.rfc.specs.Rfc8200 as v6
use Rattle.alike.specs.Free.{ZeroAlike}
use Rattle.alike.specs.Options.{Agree}

-- IPv4. Free: the header checksum (bytes 10 and 11), both addresses (12 to 19), the contents of the options (20 to the header's end).
pub record AlikeIpv4 (p q : List ℕ) : Type 0 where
  pub same_length : length p ≡ length q
  -- version, IHL, type of service, total length
  pub first : Agree 0 4 p q
  pub identification : ZeroAlike (v4.identification p) (v4.identification q)
  -- flags, fragment offset, time to live, protocol
  pub second : Agree 6 10 p q

-- IPv6. Free: both addresses (bytes 8 to 39).
pub record AlikeIpv6 (p q : List ℕ) : Type 0 where
  pub same_length : length p ≡ length q
  -- version and traffic class
  pub first : byte_at p 0 ≡ byte_at q 0
  pub second : byte_at p 1 / 16 ≡ byte_at q 1 / 16
  pub flow_label : ZeroAlike (v6.flow_label p) (v6.flow_label q)
  -- payload length, next header, hop limit
  pub third : Agree 4 8 p q
