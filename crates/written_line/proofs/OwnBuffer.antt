-- A line written into a buffer of its own: where it ends, that it stands there, and that there is none beside a refusal.
use Rattle.std.specs.Prelude.{Result, Ok, Err}
use Prim.Native.Nat.{ℕ, ◌+◌, ◌-◌, ◌≤◌}
use mathlib.Core.Path.{◌≡◌, refl, sym, ◌∙◌, ap}
use mathlib.Core.Bool.{Bool, true, false, cond, ◌&&◌}
use mathlib.Core.List.{List, [], ◌∷◌}
use native.Mathlib.Omega.{arith}
use lib.Dec.{ltb}
use lib.ListN.{length, take, drop}
use lib.Seq.{take_at}
use borrow.Author.Tests.{ltb-false}
use Rattle.text.specs.Written.{written, Lined, Writes}
use Rattle.text.proofs.Writing.{written_length}
use Rattle.refusals.specs.declared.Refusal.{Refusal}
use Rattle.refusals.specs.declared.Refusal.TheVariants as refusal
use Rattle.observable.specs.declared.TcpObservation.{TcpObservation}
use Rattle.sigrecord.specs.Record.{first_entry, entry_count}
use Rattle.siglist.specs.List.{record_count, layout_count, list_fits, record_at, entries_lie}
use Rattle.written_line.specs.LineText.{record_text, observation_text}
use Rattle.written_line.specs.Writing.{refusing, line_into, observation_line, good_line, listed_line}

abbrev size_in : Result ℕ Refusal → ℕ
size_in (Ok n) = n
size_in (Err r) = 0

-- The number beside a line is its length, which finds room.
pub record SizedLine (x : Lined (Result ℕ Refusal)) (n : ℕ) : Type 0 where
  size : size_in x.answer ≡ length x.line
  pub within : length x.line ≤ n

refused_sized : (r : Refusal) (n : ℕ) → SizedLine (refusing r) n
unfolding refusing
refused_sized r n = record { size = refl; within = omega arith }

into_sized : (s : List ℕ) (n : ℕ) → SizedLine (line_into s n) n
unfolding line_into
into_sized s n = by (ltb n (length s)) refl
  where
    by
        : (t : Bool) → ltb n (length s) ≡ t
        → SizedLine (cond t (refusing refusal.BufferTooShort) (record { answer = Ok (length s); line = s })) n
    by true e = refused_sized refusal.BufferTooShort n
    by false e = record { size = refl; within = ltb-false n (length s) e }

pub observation_sized : (o : TcpObservation) (n : ℕ) → SizedLine (observation_line o n) n
unfolding observation_line
observation_sized o n = by (ltb 40 o.olayout.count)
  where
    by : (t : Bool) → SizedLine (cond t (refusing refusal.LayoutTooLong) (line_into (observation_text o) n)) n
    by true = refused_sized refusal.LayoutTooLong n
    by false = into_sized (observation_text o) n

pub listed_sized : (l : List ℕ) (i n : ℕ) → SizedLine (listed_line l i n) n
unfolding listed_line
listed_sized l i n =
    by (list_fits l && ltb i (record_count l) && entries_lie (layout_count l) (first_entry (record_at l i)) (entry_count (record_at l i)))
  where
    by : (t : Bool) → SizedLine (cond t (good_line l i n) (refusing refusal.NoSuchRecord)) n
    by true = into_sized (record_text l i) n
    by false = refused_sized refusal.NoSuchRecord n

empty : (s : List ℕ) → length s ≡ 0 → s ≡ []
empty [] e = refl
empty (b ∷ s) e = absurd (omega (arith, e))

module _
    (writing : ℕ → Lined (Result ℕ Refusal)) (room : ℕ) (sized : SizedLine (writing room) room) (buffer buffer' : List ℕ)
    (r : Result ℕ Refusal) (whole : length buffer ≡ room) (writes : Writes buffer writing r buffer')
  where
    abbrev Text : List ℕ
    Text = (writing room).line

    stands : buffer' ≡ written buffer 0 Text
    stands = writes.1 ∙ ap (λ (n : ℕ). written buffer 0 (writing n).line) whole

    size : size_in r ≡ length Text
    size = ap size_in (writes.0 ∙ ap (λ (n : ℕ). (writing n).answer) whole) ∙ sized.size

    pub line_within : (n : ℕ) → r ≡ Ok n → n ≤ length buffer'
    line_within n e =
        let same : n ≡ length Text = ap size_in (sym e) ∙ size in
        let kept : length buffer' ≡ length buffer =
        ap length stands ∙ written_length buffer Text 0 (omega (arith, sized.within)) in
        omega (arith, sized.within)

    -- What was written is the line.
    pub the_line : (n : ℕ) → r ≡ Ok n → take (n - 0) buffer' ≡ Text
    unfolding written
    the_line n e =
        let same : length Text ≡ n - 0 = omega (arith, sym size ∙ ap size_in e) in
        ap (take (n - 0)) stands ∙ take_at Text (drop (0 + length Text) buffer) (n - 0) same

    pub no_line : (x : Refusal) → r ≡ Err x → Text ≡ []
    no_line x e = empty Text (sym size ∙ ap size_in e)
