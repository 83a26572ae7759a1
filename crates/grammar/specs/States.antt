-- A table read byte by byte: what each row that still goes on waits for. The grammar does not use it.
use Rattle.std.specs.Prelude.{ℕ, suc, ◌+◌, ◌*◌, ◌-◌, Bool, true, false, cond, ◌&&◌, List, [], ◌∷◌, ◌++◌, eqb, leb, ltb}
use Rattle.grammar.specs.Reading.{Read}
use Rattle.grammar.specs.Table.{Tail, nothing, numeral, Row, row, Said, said}

-- ---- numbers

-- A byte goes on with a number that is n so far.
unfoldable pub fits : ℕ → ℕ → ℕ → Bool
fits max n b = leb 48 b && ltb b 58 && leb (n * 10 + (b - 48)) max

-- How many bytes are read.
unfoldable pub span : ℕ → ℕ → List ℕ → ℕ
span max n [] = 0
span max n (b ∷ bs) = cond (fits max n b) (suc (span max (n * 10 + (b - 48)) bs)) 0

-- ---- rows

-- The rest of a word and its tail; or the rest of a numeral whose digits so far say a number.
pub data Awaited : Type 0 where
  letters : List ℕ → ℕ → Tail → Awaited
  digits : ℕ → ℕ → (ℕ → Bool) → ℕ → Awaited

abbrev pub start : List Row → List Awaited
start [] = []
start (row cs f t ∷ rows) = letters cs f t ∷ start rows

-- What goes on with a byte, after it.
abbrev pub after_one : ℕ → Awaited → List Awaited
after_one b (letters (c ∷ cs) f t) = cond (eqb b c) (letters cs f t ∷ []) []
after_one b (letters [] f nothing) = []
after_one b (letters [] f (numeral max wanted)) = cond (fits max 0 b) (digits f max wanted (0 * 10 + (b - 48)) ∷ []) []
after_one b (digits f max wanted m) = cond (fits max m b) (digits f max wanted (m * 10 + (b - 48)) ∷ []) []

unfoldable pub after : ℕ → List Awaited → List Awaited
after b [] = []
after b (a ∷ rest) = after_one b a ++ after b rest

pub record Done : Type 0 where
  pub good : Bool
  pub value : Said

-- What the first means that waits for nothing more.
unfoldable pub done : List Awaited → Done
done [] = record { good = false; value = said 0 0 }
done (letters (c ∷ cs) f t ∷ rest) = done rest
done (letters [] f nothing ∷ rest) = record { good = true; value = said f 0 }
done (letters [] f (numeral max wanted) ∷ rest) = done rest
done (digits f max wanted m ∷ rest) = cond (wanted m) (record { good = true; value = said f m }) (done rest)

abbrev pub is_nil : List Awaited → Bool
is_nil [] = true
is_nil (a ∷ rest) = false

-- How many bytes are read, and what is awaited then.
unfoldable pub run : List Awaited → List ℕ → ℕ
run states [] = 0
run states (b ∷ bs) = cond (is_nil (after b states)) 0 (suc (run (after b states) bs))

unfoldable pub left : List Awaited → List ℕ → List Awaited
left states [] = states
left states (b ∷ bs) = cond (is_nil (after b states)) states (left (after b states) bs)

unfoldable pub states_read : List Awaited → List ℕ → Read Said
states_read states s = record { count = run states s; good = (done (left states s)).good; value = (done (left states s)).value }

abbrev pub table_read : List Row → List ℕ → Read Said
table_read rows = states_read (start rows)
