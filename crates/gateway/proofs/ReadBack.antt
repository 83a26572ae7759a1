-- Every answer is read back from its struct, so no two share one.
use Rattle.std.specs.Prelude.{None, Ok, Err}
use mathlib.Core.Path.{◌≡◌, refl, sym, ◌∙◌, ap}
use Prim.Native.Nat.{ℕ}
use native.Mathlib.Nat.{mod-eq_of_lt}
use Rattle.refusals.specs.declared.Refusal.TheVariants as refusal
use Rattle.refusals.proofs.Back.{back}
use Rattle.matching.specs.declared.FuzzyReason.{FuzzyReason}
use Rattle.flow.specs.declared.Kind.TheVariants as kind
use Rattle.found.specs.declared.Hit.{Hit}
use Rattle.found.specs.declared.Found.{Found}
use Rattle.found.specs.declared.Found.TheVariants as found
use Rattle.found.specs.declared.Searched.{Searched}
use Rattle.packet_answer.specs.declared.PacketAnswer.TheVariants as packet
use Rattle.gateway.specs.Parts.{GatewayAnswer, plain, generic_mark, fuzzy, found_parts, searched_parts}
use Rattle.gateway.specs.Parts.{packet_parts, refused_list, parts_of}
use Rattle.gateway.specs.Decode.{reason_from, hit_from, kind_from, refused_as, answer_from}
use Rattle.gateway.proofs.Marks.{hops_back, generic_back}
use Rattle.gateway.proofs.Room.{ReasonFits, FoundFits, AnswerFits}

-- The record that was found, with the reason of a fuzzy one.
exact_back
    : (kind examined : ℕ) (hit : Hit) → hit_from (plain 1 kind hit.label hit.number examined (generic_mark hit.generic)) ≡ hit
exact_back kind examined hit = rw (generic_back None hit.generic)

fuzzy_back
    : (kind examined : ℕ) (hit : Hit) (r : FuzzyReason)
    → ReasonFits r
    → found.Fuzzy (hit_from (fuzzy kind hit r examined)) (reason_from (fuzzy kind hit r examined)) ≡ found.Fuzzy hit r
fuzzy_back kind examined hit r h =
    rw (
      generic_back r.hops hit.generic,
      hops_back r.hops hit.generic,
      mod-eq_of_lt h.0,
      mod-eq_of_lt h.1,
    )

-- The answer of a search: kind 1 is a SYN's, 2 a SYN+ACK's.
abbrev of_kind : ℕ → Searched → GatewayAnswer
of_kind n s = GatewayAnswer.answered (Ok (packet.Opening (kind_from n) s))

searched_back
    : (kind examined : ℕ) (x : Found)
    → FoundFits x
    → answer_from (found_parts kind x examined) ≡ of_kind kind (record { found = x; examined = examined })
searched_back kind examined found.None h = refl
searched_back kind examined (found.Exact hit) h =
    ap (λ (x : Hit). of_kind kind (record { found = found.Exact x; examined = examined })) (exact_back kind examined hit)
searched_back kind examined (found.Fuzzy hit reason) h =
    ap (λ (x : Found). of_kind kind (record { found = x; examined = examined })) (fuzzy_back kind examined hit reason h.1)

pub read_back : (a : GatewayAnswer) → AnswerFits a → answer_from (parts_of a) ≡ a
unfolding packet_parts searched_parts refused_list
read_back (GatewayAnswer.answered (Ok (packet.Opening kind.Syn s))) h = searched_back 1 s.examined s.found h.0
read_back (GatewayAnswer.answered (Ok (packet.Opening kind.SynAck s))) h = searched_back 2 s.examined s.found h.0
read_back (GatewayAnswer.answered (Ok packet.Nothing)) h = refl
read_back (GatewayAnswer.answered (Err r)) h = ap refused_as (back (refusal.Packet r))
read_back (GatewayAnswer.list_refused_lem r) h = rw (mod-eq_of_lt h) (ap refused_as (back (refusal.List r)))

-- No two different answers share a struct.
pub injective : (a b : GatewayAnswer) → AnswerFits a → AnswerFits b → parts_of a ≡ parts_of b → a ≡ b
injective a b ha hb e = sym (read_back a ha) ∙ ap answer_from e ∙ read_back b hb
