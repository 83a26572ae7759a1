-- Texts as bytes.
use Rattle.std.specs.Prelude.{ℕ, List, [], ◌∷◌}
use Prim.Native.Char.{code}
use Prim.Native.String.{String, [] as end, ◌∷◌ as ◌then◌}

-- A text of ASCII characters, as bytes.
abbrev pub ascii : String → List ℕ
ascii end = []
ascii (c then rest) = code c ∷ ascii rest
