-- Alike packets have their options damaged at the same places, and the walk of either entry gives the same of them.
use Rattle.std.specs.Prelude.{Result, Ok, Err}
use mathlib.Core.Path.{◌≡◌, refl, sym, ◌∙◌, ap}
use mathlib.Core.Bool.{Bool, false}
use mathlib.Core.List.{List}
use Prim.Native.Nat.{ℕ}
use native.Mathlib.Omega.{arith}
use lib.ListN.{take}
use lib.Seq.{take-take}
use Rattle.quirks.specs.declared.QuirkSet.{QuirkSet}
use Rattle.quirks.specs.Named.{empty}
use Rattle.syn_options.specs.declared.OptionWalk.{OptionWalk}
use Rattle.syn_options.specs.Places.{places_of}
use Rattle.syn_options.specs.Stops.{nothing, walk_options}
use Rattle.syn_options.proofs.Readers.{whole_walk}
use Rattle.ip.specs.declared.IpFacts.{IpFacts}
use Rattle.refusals.specs.declared.PacketRefusal.{PacketRefusal}
use Rattle.ip.specs.Ip.{read_ip}
use Rattle.flow.specs.declared.Mode.{Mode}
use Rattle.flow.specs.Modes.{stop_of}
use Rattle.alike.specs.Options.{AlikeOptions}
use Rattle.alike.specs.Packets.{document01, Alike}
use Rattle.alike.proofs.Walks.{one_walk_alike}
use Rattle.alike.proofs.Ip.{keeps_level}
use Rattle.alike.proofs.Packets.{stage_alike, part_alike}
use Rattle.acceptance.specs.OneWalk.{options_given, options_in}

-- What is read off a packet's options, where alike options are read alike.
in_packets
    : {X : Type 0} (read : List ℕ → X)
    → ((s t : List ℕ) → AlikeOptions s t → read (take 40 s) ≡ read (take 40 t))
    → (p q : List ℕ)
    → Alike p q
    → read (options_in p) ≡ read (options_in q)
in_packets read same p q a = rw (← stage_alike document01 read_ip keeps_level p q a) (after (read_ip p) refl)
  where
    after : (x : Result IpFacts PacketRefusal) → read_ip p ≡ x → read (options_given x p) ≡ read (options_given x q)
    after (Err r) e = refl
    after (Ok f) e = same _ _ (part_alike document01 read_ip keeps_level p q a f e).options

places_same : (s t : List ℕ) → AlikeOptions s t → places_of (take 40 s) ≡ places_of (take 40 t)
places_same s t a =
    ap (λ (w : OptionWalk). w.places)
    (sym (whole_walk false empty s) ∙ one_walk_alike s t a nothing false empty ∙ whole_walk false empty t)

walks_same
    : (mode : Mode) (syn : Bool) (quirks : QuirkSet) (s t : List ℕ)
    → AlikeOptions s t
    → walk_options (stop_of mode) syn quirks (take 40 s) ≡ walk_options (stop_of mode) syn quirks (take 40 t)
unfolding walk_options
walks_same mode syn quirks s t a =
    rw (take-take 40 40 s (omega arith), take-take 40 40 t (omega arith)) (one_walk_alike s t a (stop_of mode) syn quirks)

pub places_in : (p q : List ℕ) → Alike p q → places_of (options_in p) ≡ places_of (options_in q)
places_in = in_packets places_of places_same

pub walks_in
    : (mode : Mode) (syn : Bool) (quirks : QuirkSet) (p q : List ℕ)
    → Alike p q
    → walk_options (stop_of mode) syn quirks (options_in p) ≡ walk_options (stop_of mode) syn quirks (options_in q)
walks_in mode syn quirks = in_packets (walk_options (stop_of mode) syn quirks) (walks_same mode syn quirks)
