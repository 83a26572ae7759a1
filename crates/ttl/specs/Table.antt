-- The table of all 256 TTL bytes (document 02, Wish 4): what the rule of `Ttl` says of each.
use Rattle.std.specs.Prelude.{ℕ, zero, suc, ◌*◌, ◌/◌, ◌%◌, List, [], ◌∷◌, get_or}
use Rattle.ttl.specs.declared.Ttl.{Ttl}
use Rattle.ttl.specs.declared.Ttl.TheVariants.{Value, Distance, Guess, Bad}
use Rattle.ttl.specs.declared.TtlEntry.{TtlEntry}
use Rattle.ttl.specs.Ttl.{guess_of, reading_of}

-- ---- an entry

-- The form of a reading, by the codes of a record (document 01, "The signature list": "0 Value, 1 Distance, 2 Guess, 3 Bad").
abbrev pub form_of : Ttl → ℕ
form_of (Value t) = 0
form_of (Distance t d) = 1
form_of (Guess t) = 2
form_of (Bad t) = 3

-- What a TTL byte is taken for.
unfoldable pub class_of : ℕ → ℕ
class_of t = form_of (reading_of t)

-- "class and distance" (document 01, "Which form belongs where"): the distance of every byte is its guess.
unfoldable pub entry_of : ℕ → TtlEntry
entry_of t = record { class = class_of t; guess = guess_of t }

-- ---- the table

-- What a rule says of a number, of the next, and so on, so many of them.
unfoldable pub in_turn : {A : Type 0} → (ℕ → A) → ℕ → ℕ → List A
in_turn rule from zero = []
in_turn rule from (suc more) = rule from ∷ in_turn rule (suc from) more

-- "a table of all 256 TTL bytes": what a rule says of each, in 32 rows of eight.
unfoldable pub row_of : (ℕ → ℕ) → ℕ → List ℕ
row_of rule row = in_turn rule (8 * row) 8

unfoldable pub each_byte : (ℕ → ℕ) → List (List ℕ)
each_byte rule = in_turn (row_of rule) 0 32

-- The entry of a byte in such a table.
abbrev pub entry_at : List (List ℕ) → ℕ → ℕ
entry_at table t = get_or (get_or table (t / 8) []) (t % 8) 0
