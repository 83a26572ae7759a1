-- The observation (document 01, "Headers and options", and "Shapes that change").
use Rattle.std.specs.Prelude.{ℕ, zero, suc, Bool, false, not, ◌&&◌, ◌||◌, List, [], ◌∷◌, eqb, replicate, Option, None}
use Rattle.quirks.specs.declared.Quirk.TheVariants as quirk
use Rattle.quirks.specs.Quirks.{contains}
use Rattle.quirks.specs.Named.{empty}
use Rattle.tcp.specs.declared.IpVersion.TheVariants as version
use Rattle.tcp.specs.declared.Layout.{Layout}
use Rattle.tcp.specs.declared.PayloadSize.TheVariants as payload
use Rattle.ttl.specs.declared.Ttl.TheVariants as ttl
use Rattle.window_size.specs.declared.WindowMultiplier.{WindowMultiplier}
use Rattle.window_size.specs.Multiplier.{multiplier_of}
use Rattle.observable.specs.declared.TcpObservation.{TcpObservation}

-- Forty zeros and no entry.
unfoldable pub empty_layout : Layout
empty_layout = record { kinds = replicate 40 0; bytes = replicate 40 0; count = 0 }

-- The one fixed value that stands beside a refusal or "nothing".
unfoldable pub empty_observation : TcpObservation
empty_observation =
    record {
      version = version.V4;
      ittl = ttl.Value 0;
      olen = 0;
      mss = None;
      wsize = 0;
      tot_hdr = 0;
      wscale = None;
      olayout = empty_layout;
      quirks = empty;
      pclass = payload.Zero;
      peer_mss = None;
      tos = 0;
    }

-- A kind is among the first entries of a row, as many as there are.
unfoldable pub holds_kind : ℕ → ℕ → List ℕ → Bool
holds_kind kind count [] = false
holds_kind kind zero (k ∷ ks) = false
holds_kind kind (suc count) (k ∷ ks) = eqb k kind || holds_kind kind count ks

-- "own timestamp counts as nonzero exactly if the layout holds TS and OwnTimestampZero is absent" (kind 8: RFC 7323, section 3.2)
unfoldable pub own_timestamp_nonzero : TcpObservation → Bool
own_timestamp_nonzero o =
    not (contains o.quirks quirk.OwnTimestampZero) && holds_kind 8 o.olayout.count o.olayout.kinds

-- The multiplier of an observation's window.
unfoldable pub window_multiplier : TcpObservation → Option WindowMultiplier
window_multiplier o =
    multiplier_of o.wsize o.mss o.tot_hdr (own_timestamp_nonzero o) o.version o.peer_mss
