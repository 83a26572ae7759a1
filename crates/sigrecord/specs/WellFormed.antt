-- When a record of the signature list is well formed, the place and the entries of its layout apart (document 01, "The signature list";
-- document 02, Wish 3).
use Rattle.std.specs.Prelude.{ℕ, Bool, true, false, cond, ◌&&◌, ◌||◌, List, eqb, leb, length}
use Rattle.basis.specs.Bytes.{byte_at, be16, be32}
use Rattle.quirks.specs.Quirks.{set_of, is_empty, difference}
use Rattle.quirks.specs.Named.{seventeen}

-- "a code is not listed"
unfoldable pub version_good : ℕ → Bool
version_good code = eqb code 0 || eqb code 4 || eqb code 6

-- The form is listed, and the distance is 0 unless the form is Distance ("an absent or unused number is not 0").
unfoldable pub ttl_good : ℕ → ℕ → Bool
ttl_good form d = leb form 3 && (eqb form 1 || eqb d 0)

-- "a presence byte is not 0 or 1"; an absent number is 0.
unfoldable pub presence_good : ℕ → ℕ → Bool
presence_good present n = eqb present 1 || (eqb present 0 && eqb n 0)

-- The form is listed; the number of "any" is 0; "an MSS or MTU multiple exceeds 255".
unfoldable pub window_good : ℕ → ℕ → Bool
window_good form n =
    cond (eqb form 0) (eqb n 0) (cond (leb form 2) true (cond (leb form 4) (leb n 255) false))

unfoldable pub payload_good : ℕ → Bool
payload_good code = leb code 2

-- "a quirk bit is outside the seventeen"
unfoldable pub quirks_good : ℕ → Bool
quirks_good bits = is_empty (difference (set_of bits) seventeen)

-- All but the layout; "Byte 21 becomes 0 specific or 1 generic, other values bad" (document 02, Wish 3).
unfoldable pub scalars_good : List ℕ → Bool
scalars_good r =
    version_good (byte_at r 0)
    && ttl_good (byte_at r 1) (byte_at r 3)
    && presence_good (byte_at r 5) (be16 r 6)
    && window_good (byte_at r 8) (be16 r 9)
    && presence_good (byte_at r 11) (byte_at r 12)
    && payload_good (byte_at r 13)
    && quirks_good (be32 r 14)
    && leb (byte_at r 21) 1

-- A record given as its 24 bytes: it is whole, and no condition but those of its layout makes it bad.
unfoldable pub scalars_well_formed : List ℕ → Bool
scalars_well_formed r = eqb (length r) 24 && scalars_good r

-- All but the quirks and the layout: what the check of a list asks first.
unfoldable pub forms_good : List ℕ → Bool
forms_good r =
    version_good (byte_at r 0)
    && ttl_good (byte_at r 1) (byte_at r 3)
    && presence_good (byte_at r 5) (be16 r 6)
    && window_good (byte_at r 8) (be16 r 9)
    && presence_good (byte_at r 11) (byte_at r 12)
    && payload_good (byte_at r 13)
    && leb (byte_at r 21) 1

-- Of a record given as its 24 bytes: it is whole, and no condition but those of its quirks and its layout makes it bad.
unfoldable pub forms_well_formed : List ℕ → Bool
forms_well_formed r = eqb (length r) 24 && forms_good r
