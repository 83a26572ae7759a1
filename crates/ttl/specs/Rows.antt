-- What private functions give of the table: a row of it, and a byte of a row.
use Rattle.std.specs.Prelude.{◌≡◌, List, [], ℕ, ◌<◌, get_or}
use Rattle.ttl.specs.declared.rows.TtlRow.{TtlRow}
use Rattle.ttl.specs.Table.{class_of, row_of}
use Rattle.ttl.specs.Ttl.{guess_of}

-- A row of the classes, and the same of the guesses.
unfoldable pub both_rows : ℕ → TtlRow
both_rows row = record { classes = row_of class_of row; guesses = row_of guess_of row }

-- The row of a number out of two tables.
abbrev pub rows_at : List (List ℕ) → List (List ℕ) → ℕ → TtlRow
rows_at classes guesses row = record { classes = get_or classes row []; guesses = get_or guesses row [] }

-- A byte as a wider number.
pub record Widened (byte wide : ℕ) : Type 0 where
  pub same : wide ≡ byte
  pub small : wide < 256
