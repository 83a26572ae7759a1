-- What a part of a signature line says, from a place of the line on, with the place where it ends; of a number, held to its bound.
use Rattle.std.specs.Prelude.{ℕ, ◌+◌, Bool, cond, List, [], ◌∷◌, take, drop, Result, Ok, Err}
use Rattle.grammar.specs.Numeral.{decimal_value}
use Rattle.grammar.specs.Reading.{Read}
use Rattle.grammar.specs.States.{Awaited, letters, span, states_read}
use Rattle.grammar.specs.Table.{numeral, Said}
use Rattle.signature_line.specs.declared.BadLine.{BadLine}
use Rattle.signature_line.specs.Answer.{bad_at}
use Rattle.numerals.specs.declared.Piece.{Piece}
use Rattle.numerals.specs.declared.Taken.{Taken}

-- What is made of a reading from a place on, by the place where it ends and what it means; or the place where no line goes on.
unfoldable pub made : {A P : Type 0} → (ℕ → A → P) → ℕ → Read A → Result P BadLine
made of at x = cond x.good (Ok (of (at + x.count) x.value)) (bad_at (at + x.count))

abbrev pub piece : ℕ → ℕ → ℕ → Piece
piece at form number = record { at = at; form = form; number = number }

abbrev pub piece_said : ℕ → Said → Piece
piece_said at v = piece at v.form v.number

-- Nothing is meant up to this place.
abbrev pub no_piece : ℕ → Result Piece BadLine
no_piece at = bad_at at

-- What is awaited at a place, and a table.
unfoldable pub state_at : List Awaited → List ℕ → ℕ → Result Piece BadLine
state_at states s at = made piece_said at (states_read states (drop at s))

-- What a part says, and what is then read behind it.
unfoldable pub and_then : {A B : Type 0} → Result A BadLine → (A → Result B BadLine) → Result B BadLine
and_then (Ok x) f = f x
and_then (Err bad) f = Err bad

-- A number that is n so far: where it stops, and the number.
unfoldable pub number_from : ℕ → ℕ → List ℕ → ℕ → Taken
number_from max n s i =
    record { at = i + span max n (drop i s); value = decimal_value n (take (span max n (drop i s)) (drop i s)) }

abbrev pub numeral_at : ℕ → (ℕ → Bool) → ℕ → List ℕ → ℕ → Result Piece BadLine
numeral_at max wanted form = state_at (letters [] form (numeral max wanted) ∷ [])
