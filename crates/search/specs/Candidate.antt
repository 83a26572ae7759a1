-- A candidate: the bytes of a record that passes the gates. What is asked of it then, in the list that it stands in.
use Rattle.std.specs.Prelude.{ℕ, Bool, ◌&&◌, List}
use Rattle.matching.specs.Gates.{layout_matches}
use Rattle.sigrecord.specs.Record.{first_entry, entry_count}
use Rattle.sigrecord.specs.WellFormed.{scalars_well_formed}
use Rattle.siglist.specs.List.{entries_of, layout_lies}

-- Its layout is the observation's (so many entries, their kinds and bytes), and the record is well formed.
unfoldable pub holds : ℕ → List ℕ → List ℕ → List ℕ → List ℕ → Bool
holds n kinds bytes l r =
    layout_matches n kinds bytes (entry_count r) (entries_of l r)
    && (scalars_well_formed r && layout_lies l (first_entry r) (entry_count r))
