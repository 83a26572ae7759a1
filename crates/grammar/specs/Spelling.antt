-- What is written of a table's meanings: each form by its row's word, each number in decimal; words in rows, with a byte between.
use Rattle.std.specs.Prelude.{ℕ, cond, List, [], ◌∷◌, ◌++◌, eqb}
use Rattle.text.specs.Decimal.{decimal}
use Rattle.grammar.specs.Table.{Tail, nothing, numeral, Row, row, Said}

-- After its word: nothing, or the number without leading zeros.
abbrev pub tail_text : Tail → ℕ → List ℕ
tail_text nothing n = []
tail_text (numeral max wanted) n = decimal n

-- The word of the row that has the form, and what stands after it; nothing for a form that the table does not have.
unfoldable pub spelt : List Row → Said → List ℕ
spelt [] v = []
spelt (row cs f t ∷ rows) v = cond (eqb f v.form) (cs ++ tail_text t v.number) (spelt rows v)

-- Each behind the byte; and a row, the byte between.
abbrev pub more_text : {A : Type 0} → (A → List ℕ) → ℕ → List A → List ℕ
more_text text c [] = []
more_text text c (v ∷ vs) = c ∷ (text v ++ more_text text c vs)

abbrev pub listed_text : {A : Type 0} → (A → List ℕ) → ℕ → List A → List ℕ
listed_text text c [] = []
listed_text text c (v ∷ vs) = text v ++ more_text text c vs
