-- A line that finds room, and one that does not; the entries of a list's record, and of an observation.
use Rattle.std.specs.Prelude.{Result, Ok, Err}
use mathlib.Core.Path.{◌≡◌, refl, sym, ◌∙◌, ap}
use mathlib.Core.Bool.{Bool, true, false, ◌&&◌}
use mathlib.Core.List.{List}
use Prim.Native.Nat.{ℕ, ◌+◌, ◌*◌, ◌<◌, ◌≤◌}
use native.Mathlib.Omega.{arith}
use lib.Dec.{leb, ltb}
use lib.ListN.{length, take}
use borrow.Author.Tests.{lt-ltb, le-ltb, leb-true}
use Rattle.basis.specs.Bytes.{part}
use Rattle.basis.proofs.Tests.{and_left}
use Rattle.text.specs.Written.{Put, Writes}
use Rattle.text.proofs.Writing.{nothing_written, put_all}
use Rattle.observable.specs.declared.TcpObservation.{TcpObservation}
use Rattle.refusals.specs.declared.ListRefusal.{ListRefusal}
use Rattle.refusals.specs.declared.Refusal.{Refusal}
use Rattle.refusals.specs.declared.Refusal.TheVariants as refusal
use Rattle.sigrecord.specs.Record.{first_entry, entry_count, signature_of}
use Rattle.siglist.specs.declared.Areas.{Areas}
use Rattle.siglist.specs.List.{record_count, layout_count, list_fits, AreasFit, record_at, record_of, entries_lie, check_list}
use Rattle.siglist.proofs.List.{list_fits_lem, record_of_list}
use Rattle.signature_line.specs.OneRecord.{entries_in}
use Rattle.written_line.specs.LineText.{signature_text, record_text, observation_text}
use Rattle.written_line.specs.Signature.{signature_seen}
use Rattle.written_line.specs.Writing.{refusing, line_into, signature_line, observation_line, record_line, listed_line}
use Rattle.written_line.proofs.Listed.{listed_past, listed_record}
use Rattle.line_writer.specs.Rows.{TurnedTo}

-- ---- what is written

pub refused_so : (b : List ℕ) (r : Refusal) → Writes b (λ room. refusing r) (Err r) b
unfolding refusing
refused_so b r = (refl, sym (nothing_written b 0))

pub no_room : (b s : List ℕ) (size : ℕ) → size ≡ length s → length b < size
    → Writes b (line_into s) (Err refusal.BufferTooShort) b
unfolding line_into
no_room b s size e h = rw (lt-ltb (length b) (length s) (omega (arith, e))) (refused_so b refusal.BufferTooShort)

pub whole_line_lem
    : (b b' s : List ℕ) (size end : ℕ) → size ≡ length s → size ≤ length b → Put b 0 s end b'
    → Writes b (line_into s) (Ok size) b'
unfolding line_into
whole_line_lem b b' s size end e h put =
    rw (le-ltb (length b) (length s) (omega (arith, e))) (ap Ok e, (put_all b b' s 0 end (omega (arith, e)) put).1)

-- ---- a record

pub lie_few : (n first count : ℕ) → entries_lie n first count ≡ true → count ≤ 40
lie_few n first count e = leb-true count 40 (and_left (leb count 40) (leb (first + count) n) e)

-- By the numbers of a list's own header, and those of its record.
module _ (l : List ℕ) (a : Areas) (i : ℕ) (fits : AreasFit l a) (inside : i < a.records) where
  module _
      (raw : List ℕ) (first count : ℕ) (raw-is : raw ≡ record_of l a i) (first-is : first ≡ first_entry raw)
      (count_is : count ≡ entry_count raw)
    where
      the_record_lem : raw ≡ record_at l i
      the_record_lem = raw-is ∙ record_of_list l a i fits inside

      first_there : first ≡ first_entry (record_at l i)
      first_there = first-is ∙ ap first_entry the_record_lem

      count_there : count ≡ entry_count (record_at l i)
      count_there = count_is ∙ ap entry_count the_record_lem

      -- Whether the list has the line.
      lie_there
          : (t : Bool) → entries_lie a.entries first count ≡ t
          → list_fits l && ltb i (record_count l) && entries_lie (layout_count l) (first_entry (record_at l i)) (entry_count
          (record_at l i)) ≡ t
      lie_there t e =
          rw (
            list_fits_lem l a fits,
            lt-ltb i (record_count l) (omega (arith, inside, fits.records)),
            ← first_there,
            ← count_there,
            ← fits.entries,
          )
          e

      pub lie_elsewhere
          : (b : List ℕ) → entries_lie a.entries first count ≡ false → Writes b (listed_line l i) (Err refusal.NoSuchRecord) b
      unfolding listed_line
      lie_elsewhere b e = rw (lie_there false e) (refused_so b refusal.NoSuchRecord)

      the_text
          : signature_text (signature_of raw) (part (a.entries_offset + 2 * first) (a.entries_offset + 2 * first + 2 * count) l)
          ≡ record_text l i
      unfolding record_text
      the_text = rw (fits.entries_at, first_there, count_there, the_record_lem)

      pub listed_text_lem
          : (b b' : List ℕ) (r : Result ℕ Refusal) → entries_lie a.entries first count ≡ true
          → Writes b
          (signature_line (signature_of raw) (part (a.entries_offset + 2 * first) (a.entries_offset + 2 * first + 2 * count) l)) r b'
          → Writes b (listed_line l i) r b'
      unfolding listed_line
      listed_text_lem b b' r e w = rw (lie_there true e, ← the_text) w

module _ (l b : List ℕ) (i : ℕ) where
  pub no_areas : list_fits l ≡ false → Writes b (listed_line l i) (Err refusal.NoSuchRecord) b
  unfolding listed_line
  no_areas e = rw e (refused_so b refusal.NoSuchRecord)

  pub past_the_last : record_count l ≤ i → Writes b (listed_line l i) (Err refusal.NoSuchRecord) b
  past_the_last h = rw (listed_past l i (length b) h) (refused_so b refusal.NoSuchRecord)

  pub list_refused_lem : (r : ListRefusal) → check_list l ≡ Err r → Writes b (record_line l i) (Err (refusal.List r)) b
  unfolding record_line
  list_refused_lem r e = rw e (refused_so b (refusal.List r))

  pub its_line
      : (r : Result ℕ Refusal) (b' : List ℕ)
      → check_list l ≡ Ok tt → Writes b (listed_line l i) r b' → Writes b (record_line l i) r b'
  its_line r b' e w = rw (sym (listed_record l i (length b) e)) w

-- ---- an observation

module _ (o : TcpObservation) (b : List ℕ) where
  pub too_long : 40 < o.olayout.count → Writes b (observation_line o) (Err refusal.LayoutTooLong) b
  unfolding observation_line
  too_long h = rw (lt-ltb 40 o.olayout.count h) (refused_so b refusal.LayoutTooLong)

  -- The part of the entries in turn up to the count, as it is lent.
  pub raw_line_lem
      : (turned : List ℕ) (r : Result ℕ Refusal) (b' : List ℕ) → o.olayout.count ≤ 40
      → TurnedTo o.olayout.kinds o.olayout.bytes o.olayout.count turned
      → Writes b (signature_line (signature_seen o) (take (2 * o.olayout.count) turned)) r b'
      → Writes b (observation_line o) r b'
  unfolding observation_line observation_text entries_in
  raw_line_lem turned r b' h t w = rw (le-ltb 40 o.olayout.count h, ← t.turned) w
