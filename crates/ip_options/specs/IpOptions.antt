-- The length of IPv4 options and of IPv6 extension headers (document 01, module 4), on every byte string.
use Rattle.std.specs.Prelude.{ℕ, ◌+◌, ◌-◌, ◌*◌, ◌%◌, min, cond, ◌||◌, List, eqb, ltb, length}
use Rattle.basis.specs.Bytes.{byte_at}
use Rattle.rfc.specs.Rfc791.{ihl}
use Rattle.rfc.specs.Rfc8200.{next_header, payload}

-- "v4: four times the words above 5, at most 255."
unfoldable pub ipv4_option_length : List ℕ → ℕ
ipv4_option_length p = min (4 * (ihl p - 5)) 255

-- "v6: 0 if next header is TCP or the payload is empty; 8 for a fragment header; else (payload byte 1, plus 1) times 8,
-- modulo 256, or 0 with under two bytes." TCP is protocol 6, the fragment header 44 (RFC 8200, section 4.5).
unfoldable pub ipv6_extension_length : List ℕ → ℕ
ipv6_extension_length p =
    cond (eqb (next_header p) 6 || eqb (length (payload p)) 0) 0
    (cond (eqb (next_header p) 44) 8
    (cond (ltb (length (payload p)) 2) 0
    ((byte_at (payload p) 1 + 1) * 8 % 256)))
