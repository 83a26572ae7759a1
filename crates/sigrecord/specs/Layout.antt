-- The entries of a record's layout (document 01, "The signature list").
use Rattle.std.specs.Prelude.{ℕ, ◌+◌, ◌*◌, Bool, ◌||◌, List, eqb}
use Rattle.basis.specs.Bytes.{byte_at}
use Rattle.basis.specs.Tests.{all_below}

-- "A layout entry is an option kind and a byte: bytes left after kind 0, else 0."
unfoldable pub entry_good : ℕ → ℕ → Bool
entry_good kind byte = eqb byte 0 || eqb kind 0

-- Every entry of a row of entries, kind before byte, up to a count.
unfoldable pub entries_good : List ℕ → ℕ → Bool
entries_good entries = all_below (λ (i : ℕ). entry_good (byte_at entries (2 * i)) (byte_at entries (2 * i + 1)))
