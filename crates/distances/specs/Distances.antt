-- The TTL of an observation against a signature's (document 01, module 7).
use Rattle.std.specs.Prelude.{ℕ, ◌+◌, ◌-◌, min, Bool, true, false, cond, not, ◌&&◌, ◌||◌, ltb, Option, Some, None}
use Rattle.ttl.specs.declared.Ttl.{Ttl}
use Rattle.ttl.specs.declared.Ttl.TheVariants as ttl
use Rattle.ttl.specs.Ttl.{byte_of, guess_of}
use Rattle.distances.specs.declared.TtlFit.{TtlFit}
use Rattle.distances.specs.declared.TtlFit.TheVariants as ttlfit

-- A record's initial TTL; a Distance sums its two numbers, at most 255.
abbrev pub initial_ttl : Ttl → ℕ
initial_ttl (ttl.Value t) = t
initial_ttl (ttl.Distance t d) = min (t + d) 255
initial_ttl (ttl.Guess t) = t
initial_ttl (ttl.Bad t) = t

abbrev pub is_bad : Ttl → Bool
is_bad (ttl.Value t) = false
is_bad (ttl.Distance t d) = false
is_bad (ttl.Guess t) = false
is_bad (ttl.Bad t) = true

-- "a TTL out of range (above the record's initial TTL, or more than 35 below it)"
abbrev pub out_of_range : ℕ → ℕ → Bool
out_of_range observed initial = ltb initial observed || ltb 35 (initial - observed)

-- "for Bad, above rejects and all else is in range"; the hop distance is how far below the initial TTL, 0 if above it.
unfoldable pub ttl_fit : ℕ → Ttl → Option TtlFit
ttl_fit observed signature =
    cond (is_bad signature)
    (cond (ltb (initial_ttl signature) observed) None (Some (ttlfit.InRange (initial_ttl signature - observed))))
    (cond (out_of_range observed (initial_ttl signature))
    (Some (ttlfit.OutOfRange (initial_ttl signature - observed)))
    (Some (ttlfit.InRange (initial_ttl signature - observed))))

-- The hops to report (distances.rs; document 01 has no rule of its own for it): from the initial TTL, or a guess where the TTL is above
-- it or, but for Bad, out of range.
unfoldable pub reported_hops : Ttl → Ttl → ℕ
reported_hops observed signature =
    cond
    (ltb (initial_ttl signature) (byte_of observed) || (not (is_bad signature) && ltb 35 (initial_ttl signature - byte_of observed)))
    (guess_of (byte_of observed))
    (initial_ttl signature - byte_of observed)
