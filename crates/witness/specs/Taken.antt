-- An observation from its struct of numbers, and a TTL from three bytes (a byte past the end counts as 0).
use Rattle.std.specs.Prelude.{ℕ, Bool, cond, List, eqb, ltb, length, Option, Some, None}
use Rattle.basis.specs.Bytes.{byte_at}
use Rattle.quirks.specs.Quirks.{set_of}
use Rattle.tcp.specs.declared.IpVersion.{IpVersion}
use Rattle.tcp.specs.declared.IpVersion.TheVariants as version
use Rattle.tcp.specs.declared.PayloadSize.{PayloadSize}
use Rattle.tcp.specs.declared.PayloadSize.TheVariants as payload
use Rattle.ttl.specs.declared.Ttl.{Ttl}
use Rattle.ttl.specs.declared.Ttl.TheVariants as ttl
use Rattle.observable.specs.declared.TcpObservation.{TcpObservation}
use Rattle.distances.specs.Distances.{reported_hops}
use Rattle.search.specs.Search.{search_list}
use Rattle.witness.specs.declared.PlainObservation.{PlainObservation}
use Rattle.witness.specs.declared.PlainSearch.{PlainSearch}
use Rattle.witness.specs.Written.{plain_search}

abbrev pub version_of : Bool → IpVersion
version_of six = cond six version.V6 version.V4

unfoldable pub ttl_of : ℕ → ℕ → ℕ → Ttl
ttl_of form t hops =
    cond (eqb form 0) (ttl.Value t) (cond (eqb form 1) (ttl.Distance t hops) (cond (eqb form 2) (ttl.Guess t) (ttl.Bad t)))

-- A value that is absent where its `has_` is 0.
abbrev pub given : ℕ → ℕ → Option ℕ
given has n = cond (eqb has 0) None (Some n)

abbrev pub payload_of : Bool → PayloadSize
payload_of empty = cond empty payload.Zero payload.NonZero

unfoldable pub observation_of : PlainObservation → TcpObservation
observation_of o =
    record {
      version = version_of (eqb o.version 6);
      ittl = ttl_of o.ttl_form o.ttl o.hops;
      olen = o.olen;
      mss = given o.has_mss o.mss;
      wsize = o.wsize;
      tot_hdr = o.tot_hdr;
      wscale = given o.has_wscale o.wscale;
      olayout = record { kinds = o.kinds; bytes = o.bytes; count = o.count };
      quirks = set_of o.quirks;
      pclass = payload_of (eqb o.pclass 0);
      peer_mss = given o.has_peer_mss o.peer_mss;
      tos = o.tos;
    }

unfoldable pub search_read : PlainObservation → List ℕ → PlainSearch
search_read o l = plain_search (search_list (observation_of o) l)

-- Two TTLs of three bytes each: form, TTL, distance; of fewer bytes, 0.
unfoldable pub hops_read : List ℕ → ℕ
hops_read s =
    cond (ltb (length s) 6) 0
    (reported_hops (ttl_of (byte_at s 0) (byte_at s 1) (byte_at s 2)) (ttl_of (byte_at s 3) (byte_at s 4) (byte_at s 5)))
