-- The line of an observation: in written form, not long, and read as what was seen.
use Prim.Native.Nat.{ℕ, zero, suc, ◌+◌, ◌*◌, ◌^◌, ◌<◌, ◌≤◌}
use mathlib.Core.Path.{◌≡◌, refl, sym, ◌∙◌}
use mathlib.Core.Bool.{true}
use mathlib.Core.List.{List, [], ◌∷◌}
use native.Mathlib.Omega.{arith}
use lib.ListN.{length, take, length-take}
use lib.Seq.{get_or-take}
use Rattle.basis.specs.Bytes.{byte_at, AllBytes}
use Rattle.quirks.specs.Quirks.{bits_of}
use Rattle.text.proofs.Decimal.{decimal_length}
use Rattle.observable.specs.declared.TcpObservation.{TcpObservation}
use Rattle.sigrecord.specs.Layout.{entry_good}
use Rattle.sigrecord.specs.Record.{signature_of}
use Rattle.sigrecord.specs.WellFormed.{quirks_good}
use Rattle.grammar.specs.Spelling.{spelt}
use Rattle.signature_line.specs.Line.{LineSays, SignatureLine}
use Rattle.signature_line.specs.Meaning.{layout_of, raw_of, meaning_of}
use Rattle.signature_line.specs.OneRecord.{alternating, entries_in}
use Rattle.signature_line.specs.Words.{window}
use Rattle.signature_line.proofs.Accepted.{accepted}
use Rattle.signature_line.proofs.Arrays.{in_turn, entries_in_lem}
use Rattle.written_line.specs.LineText.{observation_text}
use Rattle.written_line.specs.Numbers.{ObservationHeld}
use Rattle.written_line.specs.RoundTrip.{ObservationRead}
use Rattle.written_line.specs.Signature.{window_said, entries_said, fields_of, signature_seen}
use Rattle.written_line.specs.WrittenForm.{WrittenForm}
use Rattle.written_line.proofs.EveryRecord.{take_bytes}
use Rattle.written_line.proofs.LayoutRow.{Entries, entries_of_lem, entries_same}
use Rattle.written_line.proofs.SignatureBack.{signature_back}
use Rattle.written_line.proofs.SignatureLine.{signature_narrow, signature_form}
use Rattle.written_line.proofs.Spelled.{Spelled}

-- ---- kinds and bytes in turn

turn_length : (n : ℕ) (a b : List ℕ) → length a ≡ n → length b ≡ n → length (alternating a b) ≡ 2 * n
turn_length n [] b h k = omega arith
turn_length n (x ∷ a) [] h k = omega arith
turn_length n (x ∷ a) (y ∷ b) h k =
    omega (arith, turn_length (length a) a b refl (omega arith))

turn_bytes : (a b : List ℕ) → AllBytes a → AllBytes b → AllBytes (alternating a b)
turn_bytes [] b h k i = omega arith
turn_bytes (x ∷ a) [] h k i = omega arith
turn_bytes (x ∷ a) (y ∷ b) h k zero = h 0
turn_bytes (x ∷ a) (y ∷ b) h k (suc zero) = k 0
turn_bytes (x ∷ a) (y ∷ b) h k (suc (suc i)) = turn_bytes a b (λ j. h (suc j)) (λ j. k (suc j)) i

-- The places of an entry.
turn_at
    : (a b : List ℕ) → length a ≡ length b → (i : ℕ)
    → (byte_at (alternating a b) (2 * i) ≡ byte_at a i) × (byte_at (alternating a b) (2 * i + 1) ≡ byte_at b i)
turn_at [] [] e i = (refl, refl)
turn_at [] (y ∷ b) e i = absurd (omega (arith, e))
turn_at (x ∷ a) [] e i = absurd (omega (arith, e))
turn_at (x ∷ a) (y ∷ b) e zero = (refl, refl)
turn_at (x ∷ a) (y ∷ b) e (suc i) =
    let here : 2 * suc i ≡ suc (suc (2 * i)) = omega arith in
    let next : 2 * suc i + 1 ≡ suc (suc (2 * i + 1)) = omega arith in
    let rest = turn_at a b (omega (arith, e)) i in
    (rw here rest.0, rw next rest.1)

-- ---- an observation

module _ (o : TcpObservation) (held : ObservationHeld o) (few : o.olayout.count ≤ 40) where
  abbrev count : ℕ
  count = o.olayout.count

  abbrev kinds : List ℕ
  kinds = take count o.olayout.kinds

  abbrev bytes : List ℕ
  bytes = take count o.olayout.bytes

  abbrev e : List ℕ
  e = entries_in o.olayout

  kinds_there : length kinds ≡ count
  kinds_there = simp length-take (omega (arith, held.kinds_whole))

  bytes_there : length bytes ≡ count
  bytes_there = simp length-take (omega (arith, held.bytes_whole))

  there : length e ≡ 2 * count
  unfolding entries_in
  there = turn_length count kinds bytes kinds_there bytes_there

  small : AllBytes e
  unfolding entries_in
  small = turn_bytes kinds bytes (take_bytes count o.olayout.kinds held.kinds) (take_bytes count o.olayout.bytes held.bytes)

  entries : Entries e count
  entries = entries_of_lem count e there small

  -- A window that was seen is a plain number.
  narrow : length (spelt window (window_said (signature_seen o).wsize)) ≤ 5
  unfolding window spelt signature_seen
  narrow = decimal_length o.wsize

  spelled : Spelled LineSays (fields_of (signature_seen o) e) (observation_text o) 432
  unfolding observation_text
  spelled = signature_narrow (signature_seen o) e count held.signature entries few 5 narrow

  pub observation_form : WrittenForm (observation_text o)
  unfolding observation_text
  observation_form = signature_form (signature_seen o) e count held.signature entries few

  pub observation_length_lem : length (observation_text o) ≤ 432
  observation_length_lem = spelled.short

  module _
      (good : quirks_good (bits_of o.quirks) ≡ true)
      (fits : bits_of o.quirks < 2 ^ 32)
      (each : (i : ℕ) → i < count → entry_good (byte_at o.olayout.kinds i) (byte_at o.olayout.bytes i) ≡ true)
    where
      each_good : (i : ℕ) → i < count → entry_good (byte_at e (2 * i)) (byte_at e (2 * i + 1)) ≡ true
      unfolding entries_in
      each_good i h =
          let at = turn_at kinds bytes (kinds_there ∙ sym bytes_there) i in
          rw (at.0, at.1, get_or-take count o.olayout.kinds i 0 h, get_or-take count o.olayout.bytes i 0 h) (each i h)

      entries_mean : in_turn (entries_said e) ≡ e
      entries_mean = entries_same count e there small each_good

      same_entries : entries_in (layout_of (fields_of (signature_seen o) e).layout) ≡ e
      unfolding fields_of
      same_entries = entries_in_lem (entries_said e) ∙ entries_mean

      same_count : (layout_of (fields_of (signature_seen o) e).layout).count ≡ count
      unfolding fields_of layout_of
      same_count = entries.counted

      same_signature : signature_of (raw_of (fields_of (signature_seen o) e)) ≡ signature_seen o
      unfolding signature_seen
      same_signature = signature_back (signature_seen o) e held.signature good fits

      pub observation_read : ObservationRead o
      unfolding SignatureLine
      observation_read =
          let f = fields_of (signature_seen o) e in
          record {
            meaning = meaning_of f;
            reads = (accepted (observation_text o) (meaning_of f)).1 (omega (arith, spelled.short), (f, spelled.says, refl));
            signature = same_signature;
            entries = same_entries;
            counted = same_count;
          }
