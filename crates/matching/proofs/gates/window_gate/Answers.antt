-- `matching::window_gate` meets its contract.
use Rattle.sigrecord.specs.Record.{window_of, signature_of}
use Rattle.basis.specs.Bytes.{be16, byte_at}
use native.Mathlib.Omega.{arith}
use mathlib.Core.Path.{sym, ◌∙◌, ◌≡◌}
use Prim.Native.Nat.{ℕ, ◌+◌, ◌*◌, ◌%◌, ◌<◌}
use borrow.Author.Rules.{rules}
use Rattle.matching.proofs.gates.window_gate.Goals as goal

low_byte : (high low : ℕ) → low < 256 → (high * 256 + low) % 256 ≡ low
low_byte high low h = omega arith

pub returns-then-byte_at-eq3 : goal.returns-then-byte_at-eq3
unfolding signature_of window_of be16
returns-then-byte_at-eq3 c =
    let raw = c.args.raw.now in
    let form = sym c.byte_at.ensures ∙ c.if-byte_at-eq3.true in
    let low = c.byte_at-then-byte_at-eq3 in
    simp (form, ← low.ensures, low_byte (byte_at raw 9) low.result (search rules), c.window_size_matches.ensures)
