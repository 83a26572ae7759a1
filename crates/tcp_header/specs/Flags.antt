-- The flags of a TCP segment (document 01, "Headers and options").
use Rattle.std.specs.Prelude.{ℕ, ◌+◌, ◌*◌, Bool, ◌&&◌, ◌||◌, eqb}
use Rattle.rfc.specs.Rfc9293.{fin, syn, rst, ack}

abbrev pub is_set : ℕ → Bool
is_set bit = eqb bit 1

-- The flags masked to SYN, ACK, FIN and RST.
unfoldable pub masked_type : ℕ → ℕ
masked_type flags = fin flags + 2 * syn flags + 4 * rst flags + 16 * ack flags

-- "Flags invalid: SYN with FIN or RST, FIN with RST, or none of SYN, ACK, FIN, RST."
unfoldable pub flags_invalid : ℕ → Bool
flags_invalid flags =
    is_set (syn flags) && (is_set (fin flags) || is_set (rst flags))
    || is_set (fin flags) && is_set (rst flags)
    || eqb (masked_type flags) 0

-- "Valid flags whose masked type is neither SYN nor SYN+ACK answer 'nothing'."
unfoldable pub is_syn_type : ℕ → Bool
is_syn_type flags = eqb (masked_type flags) 2

unfoldable pub is_syn_ack_type : ℕ → Bool
is_syn_ack_type flags = eqb (masked_type flags) 18
