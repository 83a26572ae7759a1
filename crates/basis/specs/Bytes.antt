-- Bytes as lists of numbers: a byte, a big-endian number and a part of a string, each total on every list.
use Rattle.std.specs.Prelude.{ℕ, ◌+◌, ◌*◌, ◌-◌, ◌<◌, Bool, false, not, ◌||◌, List, [], ◌∷◌, eqb, get_or, take, drop}

-- The byte at a place, and 0 past the end.
abbrev pub byte_at : List ℕ → ℕ → ℕ
byte_at s i = get_or s i 0

-- What a lent byte string is: each of its numbers is a byte.
abbrev pub AllBytes : List ℕ → Type 0
AllBytes s = (i : ℕ) → byte_at s i < 256

-- The two-byte number at a place, its high byte first (RFC 791, appendix B: network order).
unfoldable pub be16 : List ℕ → ℕ → ℕ
be16 s i = byte_at s i * 256 + byte_at s (i + 1)

-- The four-byte number at a place.
unfoldable pub be32 : List ℕ → ℕ → ℕ
be32 s i = be16 s i * 65536 + be16 s (i + 2)

-- Some byte of a string is not 0.
unfoldable pub any_nonzero : List ℕ → Bool
any_nonzero [] = false
any_nonzero (b ∷ bs) = not (eqb b 0) || any_nonzero bs

-- The bytes from the first place up to the second, which is not among them: empty if the end does not exceed the start.
abbrev pub part : ℕ → ℕ → List ℕ → List ℕ
part start end s = take (end - start) (drop start s)
