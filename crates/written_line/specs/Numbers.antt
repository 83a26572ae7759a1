-- The numbers of a signature and of an observation are such as their types hold.
use Rattle.std.specs.Prelude.{ℕ, ◌<◌, ◌≡◌, length, Option, Some, None}
use Rattle.basis.specs.Bytes.{byte_at}
use Rattle.ttl.specs.declared.Ttl.{Ttl}
use Rattle.ttl.specs.declared.Ttl.TheVariants as ttl
use Rattle.observable.specs.declared.TcpObservation.{TcpObservation}
use Rattle.sigrecord.specs.declared.Signature.{Signature}
use Rattle.sigrecord.specs.declared.WindowSize.{WindowSize}
use Rattle.sigrecord.specs.declared.WindowSize.TheVariants as window
use Rattle.written_line.specs.Signature.{signature_seen}

abbrev pub IsByte : ℕ → Type 0
IsByte n = n < 256

abbrev pub IsWord : ℕ → Type 0
IsWord n = n < 65536

abbrev pub TtlHeld : Ttl → Type 0
TtlHeld (ttl.Value t) = IsByte t
TtlHeld (ttl.Distance t d) = IsByte t × IsByte d
TtlHeld (ttl.Guess t) = IsByte t
TtlHeld (ttl.Bad t) = IsByte t

abbrev pub MssHeld : Option ℕ → Type 0
MssHeld None = Unit {0}
MssHeld (Some n) = IsWord n

abbrev pub ScaleHeld : Option ℕ → Type 0
ScaleHeld None = Unit {0}
ScaleHeld (Some n) = IsByte n

abbrev pub WindowHeld : WindowSize → Type 0
WindowHeld window.Any = Unit {0}
WindowHeld (window.Value n) = IsWord n
WindowHeld (window.Mod n) = IsWord n
WindowHeld (window.Mss n) = IsByte n
WindowHeld (window.Mtu n) = IsByte n

pub record SignatureHeld (s : Signature) : Type 0 where
  pub ittl : TtlHeld s.ittl
  pub olen : IsByte s.olen
  pub mss : MssHeld s.mss
  pub wsize : WindowHeld s.wsize
  pub wscale : ScaleHeld s.wscale

-- "two byte arrays of 40 and a count"
pub record ObservationHeld (o : TcpObservation) : Type 0 where
  pub signature : SignatureHeld (signature_seen o)
  pub kinds : (i : ℕ) → IsByte (byte_at o.olayout.kinds i)
  pub bytes : (i : ℕ) → IsByte (byte_at o.olayout.bytes i)
  pub kinds_whole : length o.olayout.kinds ≡ 40
  pub bytes_whole : length o.olayout.bytes ≡ 40
