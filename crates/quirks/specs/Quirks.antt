-- Quirks and sets of quirks (document 01, module 1; the places are those of p0f's QUIRK_*).
use Rattle.std.specs.Prelude.{◌≡◌, ℕ, ◌-◌, ◌^◌, ◌<◌, Bool, true, cond, eqb}
use Rattle.std.specs.Int.Bits.{bit_and, bit_or}
use Rattle.basis.specs.Digits.{digit}
use Rattle.quirks.specs.declared.Quirk.{Quirk}
use Rattle.quirks.specs.declared.Quirk.TheVariants as quirk
use Rattle.quirks.specs.declared.QuirkSet.{QuirkSet}

-- The place of a quirk's bit.
unfoldable pub place_of : Quirk → ℕ
place_of quirk.Ecn = 0
place_of quirk.Df = 1
place_of quirk.NonZeroID = 2
place_of quirk.ZeroID = 3
place_of quirk.MustBeZero = 4
place_of quirk.FlowID = 5
place_of quirk.SeqNumZero = 12
place_of quirk.AckNumNonZero = 13
place_of quirk.AckNumZero = 14
place_of quirk.NonZeroURG = 15
place_of quirk.Urg = 16
place_of quirk.Push = 17
place_of quirk.OwnTimestampZero = 24
place_of quirk.PeerTimestampNonZero = 25
place_of quirk.TrailinigNonZero = 26
place_of quirk.ExcessiveWindowScaling = 27
place_of quirk.OptBad = 28

-- The bit of a quirk.
unfoldable pub bit_of : Quirk → ℕ
bit_of q = 2 ^ place_of q

-- The set of a row of bits, and the bits of a set.
abbrev pub set_of : ℕ → QuirkSet
set_of n = record { 0 = n }

abbrev pub bits_of : QuirkSet → ℕ
bits_of s = s.0

-- Whether a set has the bit at a place.
unfoldable pub holds : QuirkSet → ℕ → Bool
holds s k = eqb (digit (bits_of s) k) 1

-- Whether a quirk is in a set.
unfoldable pub contains : QuirkSet → Quirk → Bool
contains s q = holds s (place_of q)

-- No bit at all.
unfoldable pub is_empty : QuirkSet → Bool
is_empty s = eqb (bits_of s) 0

-- One quirk more.
unfoldable pub with : QuirkSet → Quirk → QuirkSet
with s q = set_of (bit_or (bits_of s) (bit_of q))

-- One quirk more where a test holds.
unfoldable pub add_if : Bool → Quirk → QuirkSet → QuirkSet
add_if t q s = cond t (with s q) s

-- What is in the first set and not in the second, bit by bit.
unfoldable pub difference : QuirkSet → QuirkSet → QuirkSet
difference a b = set_of (bit_and (bits_of a) (2 ^ 32 - 1 - bits_of b))

-- Every place, and every quirk, of the first set is one of the second.
unfoldable pub SubsetByPlaces : QuirkSet → QuirkSet → Type 0
SubsetByPlaces a b = (k : ℕ) → k < 32 → holds a k ≡ true → holds b k ≡ true

unfoldable pub SubsetByQuirks : QuirkSet → QuirkSet → Type 0
SubsetByQuirks a b = (q : Quirk) → contains a q ≡ true → contains b q ≡ true
