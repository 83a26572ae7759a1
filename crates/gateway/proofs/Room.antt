-- The numbers of an answer fit the fields that a struct has for them.
use Rattle.std.specs.Prelude.{Option, Some, None, Result, Ok, Err, ℕ}
use Prim.Native.Nat.{◌<◌}
use Rattle.quirks.specs.Quirks.{bits_of}
use Rattle.refusals.specs.declared.PacketRefusal.{PacketRefusal}
use Rattle.refusals.specs.Refusals.{packet_value, list_value}
use Rattle.matching.specs.declared.FuzzyReason.{FuzzyReason}
use Rattle.found.specs.declared.Hit.{Hit}
use Rattle.found.specs.declared.Found.{Found}
use Rattle.found.specs.declared.Found.TheVariants as found
use Rattle.found.specs.declared.Searched.{Searched}
use Rattle.packet_answer.specs.declared.PacketAnswer.{PacketAnswer}
use Rattle.packet_answer.specs.declared.PacketAnswer.TheVariants as packet
use Rattle.gateway.specs.Parts.{GatewayAnswer}

abbrev pub HopsFit : Option ℕ → Type 0
HopsFit None = Unit {0}
HopsFit (Some d) = d < 256

abbrev pub ReasonFits : FuzzyReason → Type 0
ReasonFits r = (bits_of r.added < 256) × (bits_of r.missing < 256) × HopsFit r.hops

abbrev pub HitFits : Hit → Type 0
HitFits h = (h.label < 65536) × (h.number < 65536)

abbrev pub FoundFits : Found → Type 0
FoundFits found.None = Unit {0}
FoundFits (found.Exact hit) = HitFits hit
FoundFits (found.Fuzzy hit reason) = HitFits hit × ReasonFits reason

abbrev pub SearchedFits : Searched → Type 0
SearchedFits s = FoundFits s.found × (s.examined < 65536)

abbrev pub PacketFits : Result PacketAnswer PacketRefusal → Type 0
PacketFits (Ok (packet.Opening k s)) = SearchedFits s
PacketFits (Ok packet.Nothing) = Unit {0}
PacketFits (Err r) = packet_value r < 256

abbrev pub AnswerFits : GatewayAnswer → Type 0
AnswerFits (GatewayAnswer.answered a) = PacketFits a
AnswerFits (GatewayAnswer.list_refused_lem r) = list_value r < 65536
