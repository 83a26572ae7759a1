-- The strict observation beside the plain one: the same on sound options, and with `OptBad` on damaged ones.
use Rattle.std.specs.Prelude.{Option}
use mathlib.Core.Path.{◌≡◌, ap}
use mathlib.Core.Bool.{Bool, true}
use mathlib.Core.List.{List}
use Prim.Native.Nat.{ℕ}
use lib.ListN.{take}
use Rattle.quirks.specs.declared.Quirk.TheVariants as quirk
use Rattle.quirks.specs.Quirks.{contains}
use Rattle.rfc.specs.Rfc9293.{options}
use Rattle.syn_options.specs.Walk.{Walked}
use Rattle.syn_options.specs.Places.{places_of, no_places}
use Rattle.syn_options.proofs.Strict.{sound_walk, damaged_walk}
use Rattle.ip.specs.declared.IpFacts.{IpFacts}
use Rattle.flow.specs.Tcp.{quirks_of_headers, observation_of, observation_from}
use Rattle.flow.specs.Strict.{strict_observation}

module _ (f : IpFacts) (t : List ℕ) (syn : Bool) (peer : Option ℕ) where
  pub strict_sound : places_of (take 40 (options t)) ≡ no_places → strict_observation f t syn peer ≡ observation_from f t syn peer
  unfolding strict_observation observation_from
  strict_sound sound =
      ap (λ (w : Walked). observation_of f t w peer) (sound_walk syn (quirks_of_headers t f.quirks) (options t) sound)

  pub strict_damaged
      : (places_of (take 40 (options t)) ≡ no_places → ⊥) → contains (strict_observation f t syn peer).quirks quirk.OptBad ≡ true
  unfolding strict_observation observation_of
  strict_damaged damaged = damaged_walk syn (quirks_of_headers t f.quirks) (options t) damaged
