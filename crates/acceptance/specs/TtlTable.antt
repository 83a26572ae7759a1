-- The TTL rule on one page (document 02, Wish 4): "a table of all 256 TTL bytes [..] agreement with the rule is shown once for all
-- entries". That the two constants of the code are `each_byte class_of` and `each_byte guess_of` is said by their lines of demand 1
-- (`ttl_classes_one`, `ttl_guesses_one` in Promises/ttl.antt); here is what that means.
use Rattle.std.specs.Prelude.{◌≡◌, [], ℕ, ◌<◌, get_or, length}
use Rattle.ttl.specs.Table.{class_of, each_byte, entry_at}
use Rattle.ttl.specs.Ttl.{guess_of, reading_of}
use Rattle.sigrecord.specs.Record.{ttl_of}

pub record TtlTable : Type 0 where
  -- The entry of a byte is what the rule says of it.
  pub entry : (rule : ℕ → ℕ) (t : ℕ) → t < 256 → entry_at (each_byte rule) t ≡ rule t
  -- There are 32 rows of eight: 256 entries, no more.
  pub rows : (rule : ℕ → ℕ) → length (each_byte rule) ≡ 32
  pub row : (rule : ℕ → ℕ) (k : ℕ) → k < 32 → length (get_or (each_byte rule) k []) ≡ 8
  -- A byte's reading is read off its class, which is a record's code ("0 Value, 1 Distance, 2 Guess, 3 Bad"), and its guess.
  pub read_off : (t : ℕ) → ttl_of (class_of t) t (guess_of t) ≡ reading_of t
