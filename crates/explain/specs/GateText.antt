-- The names of the fields that hold, that are tolerated and that fail: ` holds=ver,olen tolerates=ttl fails=-`.
use Rattle.std.specs.Prelude.{ℕ, ◌+◌, Bool, true, false, cond, ◌||◌, List, [], ◌∷◌, ◌++◌, get_or}
use Rattle.explain.specs.declared.gates.Said.{Said}
use Rattle.explain.specs.declared.gates.Said.TheVariants as said

-- "-"
abbrev pub dash : List ℕ
dash = 45 ∷ []

-- ","
abbrev pub comma : List ℕ
comma = 44 ∷ []

-- "ver", "ttl", "olen", "mss", "wsize", "scale", "olayout", "quirks"
abbrev pub first_names : List (List ℕ)
first_names =
    (118 ∷ 101 ∷ 114 ∷ [])
    ∷ (116 ∷ 116 ∷ 108 ∷ [])
    ∷ (111 ∷ 108 ∷ 101 ∷ 110 ∷ [])
    ∷ (109 ∷ 115 ∷ 115 ∷ [])
    ∷ (119 ∷ 115 ∷ 105 ∷ 122 ∷ 101 ∷ [])
    ∷ (115 ∷ 99 ∷ 97 ∷ 108 ∷ 101 ∷ [])
    ∷ (111 ∷ 108 ∷ 97 ∷ 121 ∷ 111 ∷ 117 ∷ 116 ∷ [])
    ∷ (113 ∷ 117 ∷ 105 ∷ 114 ∷ 107 ∷ 115 ∷ [])
    ∷ []

-- The names of the nine fields: behind those "pclass".
abbrev pub name_at : ℕ → List ℕ
name_at k = get_or first_names k (112 ∷ 99 ∷ 108 ∷ 97 ∷ 115 ∷ 115 ∷ [])

-- A name that is shown has a comma before it if one stands there already.
abbrev pub shown_name : Bool → Bool → ℕ → List ℕ
shown_name any shown k = cond shown (cond any comma [] ++ name_at k) []

abbrev pub same : Said → Said → Bool
same said.Holds said.Holds = true
same said.Holds said.Tolerated = false
same said.Holds said.Fails = false
same said.Tolerated said.Holds = false
same said.Tolerated said.Tolerated = true
same said.Tolerated said.Fails = false
same said.Fails said.Holds = false
same said.Fails said.Tolerated = false
same said.Fails said.Fails = true

-- The names, from field k on, of the fields of which this is said; `-` if there is none.
unfoldable pub names_from : Said → Bool → ℕ → List Said → List ℕ
names_from what any k [] = cond any [] dash
names_from what any k (c ∷ cs) = shown_name any (same c what) k ++ names_from what (any || same c what) (k + 1) cs

abbrev pub names_of : Said → List Said → List ℕ
names_of what row = names_from what false 0 row

-- " holds=", " tolerates=", " fails="
abbrev pub holds_word : List ℕ
holds_word = 32 ∷ 104 ∷ 111 ∷ 108 ∷ 100 ∷ 115 ∷ 61 ∷ []

abbrev pub tolerates_word : List ℕ
tolerates_word = 32 ∷ 116 ∷ 111 ∷ 108 ∷ 101 ∷ 114 ∷ 97 ∷ 116 ∷ 101 ∷ 115 ∷ 61 ∷ []

abbrev pub fails_word : List ℕ
fails_word = 32 ∷ 102 ∷ 97 ∷ 105 ∷ 108 ∷ 115 ∷ 61 ∷ []

unfoldable pub gates_text : List Said → List ℕ
gates_text row =
    holds_word
    ++ (names_of said.Holds row
    ++ (tolerates_word ++ (names_of said.Tolerated row ++ (fails_word ++ names_of said.Fails row))))
