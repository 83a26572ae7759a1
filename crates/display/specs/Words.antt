-- What stands for a field of a line: letters, and behind them nothing or a number in decimal.
use Rattle.std.specs.Prelude.{ℕ, List, [], ◌++◌, Option, Some, None}
use Rattle.display.specs.declared.word.Word.{Word}
use Rattle.text.specs.Decimal.{decimal}

abbrev pub number_text : Option ℕ → List ℕ
number_text None = []
number_text (Some n) = decimal n

abbrev pub word_text : Word → List ℕ
word_text w = w.letters.now ++ number_text w.number
