-- All entries of the layout area, whichever records have them: no condition of a list asks for this, and `check_list` asks it first, so
-- that a record's own entries need no second look.
use Rattle.std.specs.Prelude.{ℕ, ◌+◌, ◌*◌, Bool, List}
use Rattle.basis.specs.Bytes.{part}
use Rattle.sigrecord.specs.Layout.{entries_good}
use Rattle.siglist.specs.List.{layout_count, layout_offset}

unfoldable pub all_entries_good : List ℕ → Bool
all_entries_good l = entries_good (part (layout_offset l) (layout_offset l + 2 * layout_count l) l) (layout_count l)
