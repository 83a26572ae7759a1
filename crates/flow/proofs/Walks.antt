-- The walk of a mode.
use Rattle.std.specs.Prelude.{Option}
use mathlib.Core.Path.{◌≡◌, refl, ap}
use mathlib.Core.Bool.{Bool, true, false, cond}
use mathlib.Core.List.{List}
use Prim.Native.Nat.{ℕ}
use Rattle.quirks.specs.declared.QuirkSet.{QuirkSet}
use Rattle.rfc.specs.Rfc9293.{options}
use Rattle.syn_options.specs.Walk.{Walked, walk_of}
use Rattle.syn_options.specs.Stops.{nothing, walked_of, walk_options}
use Rattle.syn_options.proofs.Readers.{whole_walk}
use Rattle.ip.specs.declared.IpFacts.{IpFacts}
use Rattle.flow.specs.declared.Mode.{Mode}
use Rattle.flow.specs.Tcp.{quirks_of_headers, observation_of, observation_from}
use Rattle.flow.specs.Strict.{strict_observation}
use Rattle.flow.specs.Modes.{stop_of, observation_in}

-- The packet reader's walk is the one that stops before nothing.
pub plain_walk : (syn : Bool) (quirks : QuirkSet) (s : List ℕ) → walked_of (walk_options nothing syn quirks s) ≡ walk_of false syn quirks s
plain_walk syn quirks s = ap walked_of (whole_walk syn quirks s)

-- What a mode observes is drawn from the one walk.
pub observed_walk
    : (mode : Mode) (f : IpFacts) (t : List ℕ) (syn : Bool) (peer : Option ℕ)
    → observation_of f t (walked_of (walk_options (stop_of mode) syn (quirks_of_headers t f.quirks) (options t))) peer
    ≡ observation_in mode f t syn peer
unfolding observation_in strict_observation observation_from
observed_walk mode f t syn peer = by_strict mode.strict
  where
    by_strict
        : (strict : Bool)
        → observation_of f t
        (walked_of (walk_options (record { past = strict; short = strict }) syn (quirks_of_headers t f.quirks) (options t)))
        peer
        ≡ cond strict (strict_observation f t syn peer) (observation_from f t syn peer)
    by_strict true = refl
    by_strict false = ap (λ (w : Walked). observation_of f t w peer) (plain_walk syn (quirks_of_headers t f.quirks) (options t))
