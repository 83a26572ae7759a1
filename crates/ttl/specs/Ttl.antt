-- The reading of a TTL byte (document 01, module 2).
use Rattle.std.specs.Prelude.{ℕ, ◌-◌, cond, leb, eqb}
use Rattle.ttl.specs.declared.Ttl.{Ttl}
use Rattle.ttl.specs.declared.Ttl.TheVariants.{Value, Distance, Guess, Bad}

-- The least of the usual initial TTLs that a TTL does not exceed: "32, 64, 128 or 255".
unfoldable pub initial_of : ℕ → ℕ
initial_of t = cond (leb t 32) 32 (cond (leb t 64) 64 (cond (leb t 128) 128 255))

-- "guess_distance: up from the TTL to 32, 64, 128 or 255."
unfoldable pub guess_of : ℕ → ℕ
guess_of t = initial_of t - t

-- The most hops that are plausible: a TTL "more than 35 below" the initial one is out of range (module 7).
abbrev pub max_dist : ℕ
max_dist = 35

-- "Byte 0 is Bad(0); a guess of at most 30 is Distance, else Value."
unfoldable pub reading_of : ℕ → Ttl
reading_of t = cond (eqb t 0) (Bad 0) (cond (leb (guess_of t) 30) (Distance t (guess_of t)) (Value t))

-- The TTL byte of a reading, whatever its form.
abbrev pub byte_of : Ttl → ℕ
byte_of (Value t) = t
byte_of (Distance t d) = t
byte_of (Guess t) = t
byte_of (Bad t) = t
