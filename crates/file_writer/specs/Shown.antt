-- A record of a list that was checked before, as a line of a keeper's file with its end; on every list.
use Rattle.std.specs.Prelude.{ℕ, ◌≡◌, cond, List, [], ◌++◌, ltb, Ok}
use Rattle.text.specs.Decimal.{newline}
use Rattle.siglist.specs.List.{record_count, size_of, record_at, check_list}
use Rattle.written_line.specs.Writing.{listed_line}
use Rattle.keeper_file.specs.FileText.{head_text}

-- The record's line, in the room that it needs at most.
unfoldable pub listed_text : List ℕ → ℕ → List ℕ
listed_text l i = (listed_line l i 434).line

-- Nothing of a record that the list does not have.
unfoldable pub shown_text : List ℕ → ℕ → List ℕ
shown_text l i = cond (ltb i (size_of l)) (head_text (record_at l i) ++ (listed_text l i ++ newline)) []

-- A list that passed its check, and how many records it has.
pub record GoodList (l : List ℕ) (count : ℕ) : Type 0 where
  pub good : check_list l ≡ Ok tt
  pub counted : count ≡ record_count l
