-- Gates of a fit (document 01, module 7): version, window, payload.
use Rattle.std.specs.Prelude.{ℕ, ◌%◌, Bool, true, false, cond, not, ◌&&◌, eqb, Option, Some, None}
use Rattle.tcp.specs.declared.IpVersion.{IpVersion}
use Rattle.tcp.specs.declared.IpVersion.TheVariants as version
use Rattle.tcp.specs.declared.PayloadSize.{PayloadSize}
use Rattle.tcp.specs.declared.PayloadSize.TheVariants as payload
use Rattle.window_size.specs.declared.WindowMultiplier.{WindowMultiplier}
use Rattle.sigrecord.specs.declared.SigVersion.{SigVersion}
use Rattle.sigrecord.specs.declared.SigVersion.TheVariants as sigversion
use Rattle.sigrecord.specs.declared.SigPayload.{SigPayload}
use Rattle.sigrecord.specs.declared.SigPayload.TheVariants as sigpayload
use Rattle.sigrecord.specs.declared.WindowSize.{WindowSize}
use Rattle.sigrecord.specs.declared.WindowSize.TheVariants as wsize

-- A signature of any version passes; else the versions are the same.
unfoldable pub version_matches : IpVersion → SigVersion → Bool
version_matches observed sigversion.Any = true
version_matches version.V4 sigversion.V4 = true
version_matches version.V6 sigversion.V4 = false
version_matches version.V4 sigversion.V6 = false
version_matches version.V6 sigversion.V6 = true

unfoldable pub payload_matches : PayloadSize → SigPayload → Bool
payload_matches observed sigpayload.Any = true
payload_matches payload.Zero sigpayload.Zero = true
payload_matches payload.NonZero sigpayload.Zero = false
payload_matches payload.Zero sigpayload.NonZero = false
payload_matches payload.NonZero sigpayload.NonZero = true

-- The multiplier is the declared one, and of the declared kind: "MSS and MTU multiples are never taken for each other".
abbrev pub multiple_matches : Option WindowMultiplier → ℕ → Bool → Bool
multiple_matches None declared of_mtu = false
multiple_matches (Some m) declared of_mtu = eqb m.multiple declared && cond of_mtu m.of_mtu (not m.of_mtu)

-- "A zero modulus is well formed and never fits."
unfoldable pub window_matches : ℕ → WindowSize → Option WindowMultiplier → Bool
window_matches seen wsize.Any m = true
window_matches seen (wsize.Value value) m = eqb seen value
window_matches seen (wsize.Mod modulus) m = not (eqb modulus 0) && eqb (seen % modulus) 0
window_matches seen (wsize.Mss multiple) m = multiple_matches m multiple false
window_matches seen (wsize.Mtu multiple) m = multiple_matches m multiple true
