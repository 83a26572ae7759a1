-- Laws of a bundle's packets: where one lies that fits, and one turn of the loop over them.
use Rattle.std.specs.Prelude.{Result, Ok, Err, Some, None}
use Rattle.std.proofs.lemmas.Option.{cond_some, none-some}
use mathlib.Core.Path.{◌≡◌, refl, sym}
use mathlib.Core.Bool.{Bool, true, false, cond, ◌&&◌}
use mathlib.Core.List.{List}
use Prim.Native.Nat.{ℕ, suc, ◌+◌, ◌-◌, ◌<◌, ◌≤◌}
use native.Mathlib.Omega.{arith}
use lib.Dec.{leb}
use lib.ListN.{length}
use borrow.Author.Tests.{leb-true}
use Rattle.basis.proofs.Tests.{and_left, and_right}
use Rattle.bundle.specs.declared.BundleRefusal.{BundleRefusal}
use Rattle.bundle.specs.declared.BundleRefusal.TheVariants as check
use Rattle.bundle.specs.declared.PacketAt.{PacketAt}
use Rattle.flow.specs.declared.Mode.{Mode}
use Rattle.bundle.specs.Answers.{answer_at, packet_lies, packet_at_in, start_of}
use Rattle.packet_answer.specs.Packet.{answer_in}
use Rattle.bundle.specs.Bundle.{packet_bytes, packet_peer, list_length, list_offset, list_of, packets_offset, packet_count, packet_end}
use Rattle.bundle.specs.Bundle.{packet_fits, packets_fit, ListWithin, list_lies, bundle_fits, check_bundle}

module _ (b : List ℕ) (at : ℕ) (fits : packet_fits b at ≡ true) where
  pub head_within : at + 4 ≤ length b
  unfolding packet_fits
  head_within = leb-true (at + 4) (length b) (and_left (leb (at + 4) (length b)) _ fits)

  pub end_within : packet_end b at ≤ length b
  unfolding packet_fits
  end_within = leb-true (packet_end b at) (length b) (and_right (leb (at + 4) (length b)) _ fits)

pub head_before_end : (b : List ℕ) (at : ℕ) → at + 4 ≤ packet_end b at
unfolding packet_end
head_before_end b at = omega arith

-- ---- the loop that asks whether all packets fit

module _ (b : List ℕ) (at i n : ℕ) (inside : i < n) where
  more : n - i ≡ suc (n - (i + 1))
  more = omega arith

  pub packet_fits_turn : packet_fits b at ≡ true → packets_fit b (packet_end b at) (n - (i + 1)) ≡ packets_fit b at (n - i)
  unfolding packets_fit
  packet_fits_turn e = rw (more, e)

  pub packet_fails_turn : packet_fits b at ≡ false → packets_fit b at (n - i) ≡ false
  unfolding packets_fit
  packet_fails_turn e = rw (more, e)

pub packets_end : (b : List ℕ) (at i n : ℕ) → n ≤ i → packets_fit b at (n - i) ≡ leb at (length b)
unfolding packets_fit
packets_end b at i n h = let none : n - i ≡ 0 = omega arith in rw none

pub ruleset turns = (head_within, packet_fits_turn, packet_fails_turn, packets_end)

-- ---- a bundle that fits

-- Its header and its list's area do.
pub lies_within : (b : List ℕ) → list_lies b ≡ true → ListWithin b
unfolding list_lies
lies_within b e = (
  leb-true 8 (length b) (and_left (leb 8 (length b)) _ e),
  leb-true (list_offset b + list_length b) (length b) (and_right (leb 8 (length b)) _ e),
)

pub answer_said
    : (mode : Mode) (b : List ℕ) (at : ℕ) → answer_at mode b at ≡ answer_in mode (packet_bytes b at) (packet_peer b at) (list_of b)
unfolding answer_at
answer_said mode b at = refl

pub ruleset within = (head_within, end_within, head_before_end, lies_within, answer_said)

module _ (b : List ℕ) (fits : bundle_fits b ≡ true) where
  small_and_lies : leb (length b) 65535 && list_lies b ≡ true
  unfolding bundle_fits
  small_and_lies = and_left _ (packets_fit b (packets_offset b) (packet_count b)) fits

  pub packets_within : packets_fit b (packets_offset b) (packet_count b) ≡ true
  unfolding bundle_fits
  packets_within = and_right (leb (length b) 65535 && list_lies b) _ fits

  pub at_most : length b ≤ 65535
  at_most = leb-true (length b) 65535 (and_left (leb (length b) 65535) (list_lies b) small_and_lies)

  pub fits_lies : list_lies b ≡ true
  fits_lies = and_right (leb (length b) 65535) (list_lies b) small_and_lies

  pub list_within : ListWithin b
  list_within = lies_within b fits_lies

-- A bundle that passes its check fits.
pub good_fits : (b : List ℕ) → check_bundle b ≡ (Ok tt) → bundle_fits b ≡ true
unfolding check_bundle
good_fits b = by_fit (bundle_fits b) _
  where
    by_fit : (t : Bool) (r : Result (Unit {0}) BundleRefusal) → cond t r (Err check.DoesNotFit) ≡ Ok tt → t ≡ true
    by_fit true r e = refl
    by_fit false r e = absurd (cc)

pub start_first : (b : List ℕ) → start_of b 0 ≡ packets_offset b
unfolding start_of
start_first b = refl

-- ---- what is at a place

-- A packet that is there lies within the bundle, and is the one that starts there.
pub record There (mode : Mode) (b : List ℕ) (at : ℕ) (p : PacketAt) : Type 0 where
  pub lies : packet_lies b at ≡ true
  pub answer : p.answer ≡ answer_at mode b at
  pub ends : p.end ≡ packet_end b at

module _ (mode : Mode) (b : List ℕ) (at : ℕ) where
  pub packet_there : (p : PacketAt) → packet_at_in mode b at ≡ Some p → There mode b at p
  unfolding packet_at_in
  packet_there p e =
      let found = cond_some (packet_lies b at) (record { answer = answer_at mode b at; end = packet_end b at }) p e in
      record { lies = found.0; answer = rw (← found.1) refl; ends = rw (← found.1) refl }

  pub none_there : packet_at_in mode b at ≡ None → packet_lies b at ≡ false
  unfolding packet_at_in
  none_there = by_lies (packet_lies b at) _
    where
      by_lies : (t : Bool) → (p : PacketAt) → cond t (Some p) None ≡ None → t ≡ false
      by_lies true p e = absurd (none-some p (sym e))
      by_lies false p e = refl
