-- `syn_options::walk_part` meets its contract.
use Rattle.basis.specs.Bytes.{byte_at}
use Rattle.one_option.specs.declared.Seen.{Seen}
use Rattle.one_option.specs.Options.{options_of}
use lib.ListN.{length, drop}
use Prim.Native.Nat.{ℕ, ◌≤◌, ◌-◌}
use mathlib.Core.Bool.{false}
use mathlib.Core.Path.{◌≡◌}
use Rattle.syn_options.proofs.Rows.{row_walk}
use Rattle.syn_options.proofs.Walk.{so_far}
use Rattle.syn_options.proofs.walk_part.Given as goal

abbrev pub invariant-loop-at : goal.invariant-loop-at
invariant-loop-at l =
    let seen₀ : Seen = record { mss = l.initial.mss; wscale = l.initial.wscale; quirks = l.initial.shown } in
    let seen : Seen = record { mss = l.mss; wscale = l.wscale; quirks = l.shown } in
    (l.at ≤ length l.options)
    × (l.count ≤ l.at)
    × (length l.olayout.kinds ≡ 40)
    × (length l.olayout.bytes ≡ 40)
    × ((i : ℕ) → l.count ≤ i → byte_at l.olayout.bytes i ≡ 0)
    × (l.malformed ≡ false)
    × (row_walk l.stop l.syn (so_far l.olayout.kinds l.olayout.bytes l.count seen) (record { past = l.past; short = l.short }) l.at
    (options_of (drop l.at l.options))
    ≡ row_walk l.stop l.syn (so_far l.initial.olayout.kinds l.initial.olayout.bytes l.initial.count seen₀)
    (record { past = l.initial.past; short = l.initial.short }) 0
    (options_of l.options))

abbrev pub decreases-loop-at : goal.decreases-loop-at
decreases-loop-at l = length l.options - l.at
