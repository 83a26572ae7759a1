-- Gates of a fit (document 01, module 7): option length, MSS, scale, layout. Version, window and payload are those of distances.
use Rattle.std.specs.Prelude.{ℕ, ◌+◌, ◌*◌, Bool, true, false, ◌&&◌, List, eqb, leb, length, Option, Some, None}
use Rattle.basis.specs.Bytes.{byte_at}
use Rattle.basis.specs.Tests.{all_below}
use Rattle.sigrecord.specs.Layout.{entries_good}

-- The option length is the same: "olen" is never left open.
unfoldable pub olen_matches : ℕ → ℕ → Bool
olen_matches seen declared = eqb seen declared

-- What is declared is fitted by what is the same only; an absent one does not fit it. Of any kind of number, by its equality.
abbrev pub fits_declared : {A : Type 0} → (A → A → Bool) → Option A → Option A → Bool
fits_declared same observed None = true
fits_declared same None (Some declared) = false
fits_declared same (Some seen) (Some declared) = same seen declared

-- A declared MSS is fitted by the same MSS only; an absent one does not fit it.
unfoldable pub mss_matches : Option ℕ → Option ℕ → Bool
mss_matches observed None = true
mss_matches None (Some declared) = false
mss_matches (Some seen) (Some declared) = eqb seen declared

unfoldable pub scale_matches : Option ℕ → Option ℕ → Bool
scale_matches observed None = true
scale_matches None (Some declared) = false
scale_matches (Some seen) (Some declared) = eqb seen declared

-- Each kind and byte of an observation's layout is that of a signature's entry, up to a count. The entries lie one after the
-- other, kind before byte.
unfoldable pub entries_match : List ℕ → List ℕ → List ℕ → ℕ → Bool
entries_match kinds bytes entries =
    all_below (λ (i : ℕ). eqb (byte_at kinds i) (byte_at entries (2 * i)) && eqb (byte_at bytes i) (byte_at entries (2 * i + 1)))

-- "count, then each kind and byte up to it". An entry that is not there, on either side, matches nothing.
unfoldable pub layout_matches : ℕ → List ℕ → List ℕ → ℕ → List ℕ → Bool
layout_matches count kinds bytes declared entries =
    eqb count declared
    && (leb declared (length kinds) && leb declared (length bytes) && leb (2 * declared) (length entries))
    && entries_match kinds bytes entries declared

-- The same of entries that are good besides: those of a record that is not well formed match nothing.
abbrev pub good_entries_match : List ℕ → List ℕ → List ℕ → ℕ → Bool
good_entries_match kinds bytes entries count = entries_match kinds bytes entries count && entries_good entries count

abbrev pub good_layout_fits : ℕ → List ℕ → List ℕ → ℕ → List ℕ → Bool
good_layout_fits count kinds bytes declared entries =
    layout_matches count kinds bytes declared entries && entries_good entries declared
