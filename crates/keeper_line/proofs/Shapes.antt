-- How long what is read of a line is, whatever the line: a record of 24 bytes, a layout of at most forty entries.
use Prim.Native.Nat.{ℕ, ◌+◌, ◌/◌, ◌%◌, ◌≤◌}
use mathlib.Core.Path.{◌≡◌, refl, sym, ◌∙◌, ap, subst}
use mathlib.Core.Bool.{Bool, true, false, cond}
use mathlib.Core.List.{List}
use native.Mathlib.Omega.{arith}
use native.Mathlib.Decide.{dec_le}
use lib.ListN.{length, drop, set, length-set}
use Rattle.std.specs.Prelude.{Option, None, Some, Result, Ok, Err}
use Rattle.signature_line.specs.declared.BadLine.{BadLine}
use Rattle.signature_line.specs.declared.SignatureRead.{SignatureRead}
use Rattle.signature_line.specs.Answer.{refused_at}
use Rattle.signature_line.specs.LineReader.{read_line}
use Rattle.signature_line.specs.Meaning.{LineMeaning, layout_of}
use Rattle.signature_line.proofs.Accepted.{accepted}
use Rattle.signature_line.proofs.WellFormed.{well_formed}
use Rattle.keeper_file.specs.KeptLine.{kind_and_label}
use Rattle.keeper_file.specs.KeptReader.{head_read, meaning_read, kept_behind, read_kept}
use Rattle.keeper_line.specs.declared.KeptAt.{KeptAt}
use Rattle.keeper_line.specs.Places.{text_at, kept_at}
use Rattle.keeper_line.proofs.Turns.{nothing_at, line_read}

pub record Shaped (m : LineMeaning) : Type 0 where
  pub raw : length m.raw ≡ 24
  pub few : m.layout.count ≤ 40
  pub kinds : length m.layout.kinds ≡ 40
  pub bytes : length m.layout.bytes ≡ 40

refused_shaped : (bad : BadLine) → Shaped (meaning_read (Err bad))
unfolding layout_of
refused_shaped bad = record { raw = refl; few = omega arith; kinds = refl; bytes = refl }

read_shaped : (s : List ℕ) (r : Result SignatureRead BadLine) → read_line s ≡ r → Shaped (meaning_read r)
read_shaped s (Ok read) e =
    let m : LineMeaning = record { raw = read.raw; layout = read.layout } in
    let good = well_formed s m ((accepted s m).0 e).1 in
    record { raw = good.whole; few = good.fits; kinds = good.kinds_whole; bytes = good.bytes_whole }
read_shaped s (Err bad) e = refused_shaped bad

labelled_shaped
    : (kind number : ℕ) (m : LineMeaning) → Shaped m
    → Shaped (record { raw = kind_and_label kind number m.raw; layout = m.layout })
unfolding kind_and_label
labelled_shaped kind number m h =
    let one = set m.raw 21 kind in
    let two = set one 22 (number / 256) in
    record {
      raw = length-set two 23 (number % 256) ∙ length-set one 22 (number / 256) ∙ length-set m.raw 21 kind ∙ h.raw;
      few = h.few;
      kinds = h.kinds;
      bytes = h.bytes;
    }

behind_shaped
    : (r : Result SignatureRead BadLine) (at kind number : ℕ) → Shaped (meaning_read r)
    → Shaped (meaning_read (kept_behind at kind number r))
unfolding kept_behind
behind_shaped (Ok read) at kind number h = labelled_shaped kind number (record { raw = read.raw; layout = read.layout }) h
behind_shaped (Err bad) at kind number h = refused_shaped (record { offset = at + bad.offset })

-- Of a signature line, and of the line at a place.
pub kept_shaped : (s : List ℕ) → Shaped (meaning_read (read_kept s))
unfolding read_kept
kept_shaped s = by (head_read s).good
  where
    rest : Result SignatureRead BadLine
    rest = read_line (drop (head_read s).count s)

    by : (k : Bool)
        → Shaped (meaning_read (cond k
        (kept_behind (head_read s).count (head_read s).value.1.form (head_read s).value.0.number rest)
        (refused_at (head_read s).count)))
    by true = behind_shaped rest _ _ _ (read_shaped (drop (head_read s).count s) rest refl)
    by false = refused_shaped (record { offset = (head_read s).count })

pub line_shaped
    : (s : List ℕ) (at : ℕ) (l : KeptAt) → l ≡ kept_at s at → {r : Result SignatureRead BadLine} → l.read ≡ Some r
    → Shaped (meaning_read r)
line_shaped s at l e {r} q = by (dec_le (length s) at)
  where
    by : Dec (length s ≤ at) → Shaped (meaning_read r)
    by (yes h) =
        let none : ◌≡◌ {A = Option (Result SignatureRead BadLine)} None (Some r) =
        sym (ap (λ (x : KeptAt). x.read) (e ∙ sym (nothing_at s at h))) ∙ q in
        let z : ◌≡◌ {A = ℕ} 0 1 = cc in absurd (omega arith)
    by (no h) =
        let there = sym (line_read s at (omega arith) l e q) in
        subst (λ (x : Result SignatureRead BadLine). Shaped (meaning_read x)) there (kept_shaped (text_at s at))
