-- What the packet reader gives of any packet: numbers such as their types hold, quirks and layout entries such as a record may have.
use Rattle.std.specs.Prelude.{ℕ, ◌^◌, ◌<◌, ◌≤◌, ◌≡◌, true}
use Rattle.basis.specs.Bytes.{byte_at}
use Rattle.quirks.specs.Quirks.{bits_of}
use Rattle.ttl.specs.declared.Ttl.{Ttl}
use Rattle.ttl.specs.declared.Ttl.TheVariants as ttl
use Rattle.observable.specs.declared.TcpObservation.{TcpObservation}
use Rattle.sigrecord.specs.Layout.{entry_good}
use Rattle.sigrecord.specs.WellFormed.{quirks_good}
use Rattle.written_line.specs.Numbers.{ObservationHeld}

-- "a guess of at most 30 is Distance" (document 01, module 2)
abbrev pub NearEnough : Ttl → Type 0
NearEnough (ttl.Value t) = Unit {0}
NearEnough (ttl.Distance t d) = d ≤ 30
NearEnough (ttl.Guess t) = Unit {0}
NearEnough (ttl.Bad t) = Unit {0}

-- What a packet gives: its numbers are such as their types hold, its quirks and the entries of its layout such as a record may have.
pub record Observed (o : TcpObservation) : Type 0 where
  pub held : ObservationHeld o
  pub few : o.olayout.count ≤ 40
  pub quirks : quirks_good (bits_of o.quirks) ≡ true
  pub quirks_small : bits_of o.quirks < 2 ^ 32
  pub entries : (i : ℕ) → i < o.olayout.count → entry_good (byte_at o.olayout.kinds i) (byte_at o.olayout.bytes i) ≡ true
  pub near : NearEnough o.ittl
