-- The version and the payload of an observation as a signature declares them (document 02, Wish 7).
use Rattle.tcp.specs.declared.IpVersion.{IpVersion}
use Rattle.tcp.specs.declared.IpVersion.TheVariants as seen
use Rattle.tcp.specs.declared.PayloadSize.{PayloadSize}
use Rattle.tcp.specs.declared.PayloadSize.TheVariants as carried
use Rattle.sigrecord.specs.declared.SigPayload.{SigPayload}
use Rattle.sigrecord.specs.declared.SigPayload.TheVariants as payload
use Rattle.sigrecord.specs.declared.SigVersion.{SigVersion}
use Rattle.sigrecord.specs.declared.SigVersion.TheVariants as version

abbrev pub version_seen : IpVersion → SigVersion
version_seen seen.V4 = version.V4
version_seen seen.V6 = version.V6

abbrev pub payload_seen : PayloadSize → SigPayload
payload_seen carried.Zero = payload.Zero
payload_seen carried.NonZero = payload.NonZero
