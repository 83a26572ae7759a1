-- An answer for C read back: which answer a struct stands for.
use Rattle.std.specs.Prelude.{◌%◌, ◌/◌, cond, eqb, ℕ, Some, None, Ok, Err}
use Rattle.quirks.specs.Quirks.{set_of}
use Rattle.refusals.specs.declared.ListRefusal.TheVariants as list
use Rattle.refusals.specs.declared.Refusal.{Refusal}
use Rattle.refusals.specs.Refusals.{refusal_from, by_kind}
use Rattle.matching.specs.declared.FuzzyReason.{FuzzyReason}
use Rattle.flow.specs.declared.Kind.{Kind}
use Rattle.flow.specs.declared.Kind.TheVariants as kind
use Rattle.found.specs.declared.Hit.{Hit}
use Rattle.found.specs.declared.Found.{Found}
use Rattle.found.specs.declared.Found.TheVariants as found
use Rattle.found.specs.declared.Searched.{Searched}
use Rattle.packet_answer.specs.declared.PacketAnswer.TheVariants as packet
use Rattle.gateway.specs.declared.TermreadResult.{TermreadResult}
use Rattle.gateway.specs.Parts.{GatewayAnswer}

abbrev pub reason_from : TermreadResult → FuzzyReason
reason_from a =
    record {
      hops = cond (eqb (a.marks % 2) 0) None (Some a.hops);
      added = set_of a.added;
      missing = set_of a.missing;
    }

abbrev pub hit_from : TermreadResult → Hit
hit_from a = record { label = a.label; number = a.number; generic = eqb (a.marks / 4 % 2) 1 }

abbrev pub found_from : TermreadResult → Found
found_from a =
    cond (eqb a.outcome 1) (found.Exact (hit_from a))
    (cond (eqb a.outcome 2) (found.Fuzzy (hit_from a) (reason_from a)) found.None)

abbrev pub kind_from : ℕ → Kind
kind_from n = cond (eqb n 1) kind.Syn kind.SynAck

abbrev pub searched_from : TermreadResult → Searched
searched_from a = record { found = found_from a; examined = a.examined }

-- A refusal of a packet or a list. No answer of a gateway has another; it would be read as a list's, since an answer it is not.
abbrev pub refused_as : Refusal → GatewayAnswer
refused_as r =
    by_kind (λ why. GatewayAnswer.answered (Err why)) GatewayAnswer.list_refused_lem
    (GatewayAnswer.list_refused_lem list.DoesNotFit) r

abbrev pub answer_from : TermreadResult → GatewayAnswer
answer_from a =
    cond (eqb a.outcome 5) (refused_as (refusal_from a.refusal a.value))
    (cond (eqb a.outcome 4) (GatewayAnswer.answered (Ok packet.Nothing))
    (GatewayAnswer.answered (Ok (packet.Opening (kind_from a.kind) (searched_from a)))))
