-- A compiled list for C: the struct that is answered, and the list that stands in the buffer, from its start on. Beside a refusal no byte
-- is written.
use Rattle.std.specs.Prelude.{ℕ, ◌%◌, ◌≤◌, ◌≡◌, List, [], length, Result, Ok, Err}
use Rattle.text.specs.Written.{Lined}
use Rattle.refusals.specs.Refusals.{number, value}
use Rattle.keeper_file.specs.declared.LineRefusal.{LineRefusal}
use Rattle.keeper_file.specs.Compiling.{compile_file}
use Rattle.gateway.specs.declared.TermreadCompiled.{TermreadCompiled}

-- `refusal` 0: a list of `length` bytes. Else its number, `line` from 1, `offset` in it; modulo 2 ^ 32.
unfoldable pub compiled_parts : Result ℕ LineRefusal → TermreadCompiled
compiled_parts (Ok n) = record { length = n % 4294967296; line = 0; offset = 0; refusal = 0 }
compiled_parts (Err r) =
    record { length = 0; line = r.line % 4294967296; offset = value r.refusal % 4294967296; refusal = number r.refusal }

-- A file, and the bytes of the buffer.
unfoldable pub compile_parts : List ℕ → ℕ → Lined TermreadCompiled
compile_parts file room =
    record { answer = compiled_parts (compile_file file room).answer; line = (compile_file file room).line }

-- The longest list: 65,535 records, and 32,763 entries before them.
abbrev pub longest_list : ℕ
longest_list = 1638374

-- What the struct says of the list beside it, in a buffer of so many bytes.
pub record ListTold (room : ℕ) (l : Lined TermreadCompiled) : Type 0 where
  pub told : l.answer.refusal ≡ 0 → l.answer.length ≡ length l.line
  pub inside : length l.line ≤ room
  -- Beside a refusal nothing is written.
  pub none : (l.answer.refusal ≡ 0 → ⊥) → (l.line ≡ []) × (l.answer.length ≡ 0)
  -- A buffer for the longest list is never too short.
  pub enough : longest_list ≤ room → l.answer.refusal ≡ 15 → ⊥
