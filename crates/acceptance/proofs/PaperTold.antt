-- Nothing of a refusal is lost on paper: every one is read back.
use Rattle.std.specs.Prelude.{Some, None, Ok, Err, Result}
use mathlib.Core.Path.{◌≡◌, refl, ap}
use Rattle.refusals.specs.declared.PacketRefusal.{PacketRefusal}
use Rattle.refusals.specs.declared.PacketRefusal.TheVariants as refusal
use Rattle.refusals.specs.declared.ListRefusal.{ListRefusal}
use Rattle.refusals.specs.declared.Refusal.{Refusal}
use Rattle.refusals.specs.Refusals.{by_kind, value_of, returned, Verdict}
use Rattle.refusals.proofs.Back.{IfRefused, told_apart}
use Rattle.ip.specs.Ip.{ip_verdict}
use Rattle.flow.specs.Reading.{answer_verdict}
use Rattle.syn_options.specs.declared.ParsedTcpOptions.{ParsedTcpOptions}
use Rattle.refusals.specs.declared.OptionsTooLong.{OptionsTooLong}
use Rattle.syn_options.specs.Walk.{too_long, options_verdict}
use Rattle.siglist.specs.List.{header_verdict, list_verdict}
use Rattle.signature_line.specs.Answer.{refused_at, line_verdict}
use Rattle.written_line.specs.Writing.{wrote_verdict}
use Rattle.search.specs.declared.SearchRefusal.TheVariants as search
use Rattle.search.specs.Search.{search_verdict}
use Rattle.packet_answer.specs.Packet.{packet_verdict}
use Rattle.bundle.specs.declared.BundleRefusal.TheVariants as bundle
use Rattle.bundle.specs.Bundle.{bundle_verdict}
use Rattle.gateway.specs.Parts.{GatewayAnswer, gateway_verdict}
use Rattle.gateway.specs.Decode.{refused_as}
use Rattle.acceptance.specs.OnPaper.{Paper, paper_of, ToldApart, Told}

-- Each refusal of an answer type gives its answer again.
abbrev Again : {A : Type 0} → (Refusal → A) → (A → Verdict) → Type 0
Again {A} from verdict = (a : A) → IfRefused (λ (r : Refusal). from r ≡ a) (verdict a)

by_again : {A : Type 0} (from : Refusal → A) (verdict : A → Verdict) → Again from verdict → ToldApart (λ (a : A). paper_of (verdict a))
by_again from verdict again a b h e =
    told_apart verdict from again a b h (ap (λ (x : Paper). x.number) e) (ap (λ (x : Paper). x.also) e)

-- An answer type whose refusals are a packet's.
abbrev of_packet : {A : Type 0} → (PacketRefusal → A) → Refusal → A
of_packet refused r = by_kind refused (λ why. refused refusal.Version) (refused refusal.Version) r

ip_again : Again (of_packet Err) ip_verdict
ip_again (Err r) = refl
ip_again (Ok f) = tt

answer_again : Again (of_packet Err) answer_verdict
answer_again (Ok r) = tt
answer_again (Err r) = refl

packet_again : Again (of_packet Err) packet_verdict
packet_again (Ok a) = tt
packet_again (Err r) = refl

options_again : Again {A = Result ParsedTcpOptions OptionsTooLong} (λ r. Err too_long) options_verdict
options_again (Ok _) = tt
options_again (Err _) = refl

header_again : Again (λ r. None) header_verdict
header_again (Some areas) = tt
header_again None = refl

line_again : Again (λ r. refused_at (value_of (returned r))) line_verdict
line_again (Ok _) = tt
line_again (Err _) = refl

wrote_again : Again Err wrote_verdict
wrote_again (Ok size) = tt
wrote_again (Err r) = refl

-- One whose refusals are a list's, and one more or none.
abbrev of_list : {A : Type 0} → (ListRefusal → A) → A → Refusal → A
of_list refused other r = by_kind (λ why. other) refused other r

list_again : Again (of_list Err (Ok tt)) list_verdict
list_again (Ok tt) = tt
list_again (Err r) = refl

search_again : Again (of_list (λ why. Err (search.List why)) (Err search.LayoutTooLong)) search_verdict
search_again (Ok f) = tt
search_again (Err search.LayoutTooLong) = refl
search_again (Err (search.List r)) = refl

bundle_again : Again (of_list (λ why. Err (bundle.List why)) (Err bundle.DoesNotFit)) bundle_verdict
bundle_again (Ok tt) = tt
bundle_again (Err bundle.DoesNotFit) = refl
bundle_again (Err (bundle.List r)) = refl

gateway_again : Again refused_as gateway_verdict
gateway_again (GatewayAnswer.answered (Ok a)) = tt
gateway_again (GatewayAnswer.answered (Err r)) = refl
gateway_again (GatewayAnswer.list_refused_lem r) = refl

pub told : Told
told =
    record {
      refusal = by_again (λ r. r) Verdict.refused (λ r. refl);
      ip = by_again (of_packet Err) ip_verdict ip_again;
      packet = by_again (of_packet Err) answer_verdict answer_again;
      options = by_again (λ r. Err too_long) options_verdict options_again;
      header = by_again (λ r. None) header_verdict header_again;
      list = by_again (of_list Err (Ok tt)) list_verdict list_again;
      line = by_again (λ r. refused_at (value_of (returned r))) line_verdict line_again;
      wrote = by_again Err wrote_verdict wrote_again;
      search = by_again (of_list (λ why. Err (search.List why)) (Err search.LayoutTooLong)) search_verdict search_again;
      bundle = by_again (of_list (λ why. Err (bundle.List why)) (Err bundle.DoesNotFit)) bundle_verdict bundle_again;
      packet_answer = by_again (of_packet Err) packet_verdict packet_again;
      gateway = by_again refused_as gateway_verdict gateway_again;
    }
