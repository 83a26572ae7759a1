-- What the modes are to each other.
use Rattle.std.specs.Prelude.{Option, None, Result, Ok, Err}
use mathlib.Core.Path.{◌≡◌, refl, sym, ◌∙◌, ap}
use mathlib.Core.Bool.{Bool, false}
use mathlib.Core.List.{List}
use mathlib.Core.Logic.{⊎_elim}
use Prim.Native.Nat.{ℕ, zero, suc, ◌+◌, ◌%◌, ◌<◌, ◌≤◌}
use native.Mathlib.Omega.{arith}
use borrow.Author.Tests.{eq-eqb, ne_eqb}
use Rattle.quirks.specs.declared.Quirk.TheVariants as quirk
use Rattle.quirks.specs.Quirks.{contains}
use Rattle.quirks.proofs.Within.{Within}
use Rattle.refusals.specs.declared.PacketRefusal.TheVariants as refusal
use Rattle.flow.specs.declared.Mode.{Mode}
use Rattle.flow.specs.declared.Reading.{Reading}
use Rattle.flow.specs.declared.Reading.TheVariants as reading
use Rattle.flow.specs.Modes.{plain_mode, strict_mode, read_in}
use Rattle.flow.specs.Reading.{read_packet, refusal_of, observation_read}
use Rattle.flow.proofs.Observed.{sound, sound_in}
use Rattle.flow.specs.Peer.{with_peer}
use Rattle.flow.proofs.Peer.{with_peer_in}
use Rattle.refusals.specs.declared.PacketRefusal.{PacketRefusal}
use Rattle.siglist.specs.List.{check_list}
use Rattle.packet_answer.specs.Packet.{peer_of, after_reading, answer_of, answer_in}
use Rattle.bundle.specs.declared.BundleRefusal.{BundleRefusal}
use Rattle.bundle.specs.declared.BundleRefusal.TheVariants as check
use Rattle.bundle.specs.Bundle.{packet_count, list_of, packet_bytes, packet_peer, check_bundle}
use Rattle.bundle.specs.Answers.{answer_at, start_of, answers_from, after_bundle_check, bundle_answer}
use Rattle.report.specs.Pages.{output_in, output_of_input, output_of_input_in}
use Rattle.gateway.specs.Parts.{after_list, gateway_answer, gateway_in}
use Rattle.acceptance.specs.Refusals.{First, plain_order}
use Rattle.acceptance.specs.Modes.{SetAside, NothingWrong, PlainMode, StrictMode, InEveryMode, ModeNumbers, Modes}
use Rattle.acceptance.proofs.First.{AllBelow, first_below}
use Rattle.acceptance.proofs.Refusals.{refusals}
use Rattle.acceptance.proofs.Beside.{beside, is_aside_lem, sound_same, other_same, kind_same, rest_same, damaged_shows, same_why}
use Rattle.acceptance.proofs.StrictValues.{strict_values, damage_values}

-- ---- the plain mode

-- Document 01's rows have numbers under 8.
below : {Row : ℕ → Type 0} {n : ℕ} → First Row plain_order n → n < 8
below first = first_below 8 plain_order eight first
  where
    eight : AllBelow 8 plain_order
    eight =
        (omega arith, (omega arith, (omega arith, (omega arith, (omega arith, (omega arith, (omega arith, omega arith)))))))

plain_mode_lem : PlainMode
unfolding read_packet read_in answer_of answer_in gateway_answer gateway_in
plain_mode_lem =
    record {
      reader = λ p peer. refl;
      answer = λ p peer l. refl;
      gateway = λ p peer l. refl;
      no_14 = λ p peer e. let few = below ((refusals.plain_packet_lem p peer 14).0 e) in omega arith;
    }

-- ---- the strict mode

module _ (p : List ℕ) (peer : Option ℕ) where
  never : refusal_of (read_packet p peer) ≡ 14 → ⊥
  never = plain_mode_lem.no_14 p peer

  plain_clean : contains (observation_read (read_packet p peer)).quirks quirk.OptBad ≡ false
  plain_clean = (sound p peer).quirks.not_bad

  reader_aside : SetAside p peer → read_in strict_mode p peer ≡ Err refusal.DataOffset
  reader_aside = is_aside_lem (beside p peer) never

  reader_else : NothingWrong p peer → read_in strict_mode p peer ≡ read_packet p peer
  reader_else (NothingWrong.sound other sound) = sound_same (beside p peer) other sound
  reader_else (NothingWrong.no_opening other none) = other_same (beside p peer) other none.no_syn none.no_syn_ack

  only_then : read_in strict_mode p peer ≡ read_packet p peer → NothingWrong p peer
  only_then e =
      let other : SetAside p peer → ⊥ = λ f. never (sym (ap (λ (r : Result Reading PacketRefusal). refusal_of r) e) ∙ f) in
      ⊎_elim (λ sound. NothingWrong.sound other sound)
      (λ none. NothingWrong.no_opening other (record { no_syn = none.0; no_syn_ack = none.1 }))
      (same_why (beside p peer) other plain_clean e)

-- The number of a reading does not depend on the peer's MSS.
without_peer
    : (p : List ℕ) (peer : Option ℕ) → refusal_of (read_in strict_mode p peer) ≡ refusal_of (read_in strict_mode p None)
unfolding with_peer refusal_of
without_peer p peer = ap refusal_of (with_peer_in strict_mode p peer) ∙ same (read_in strict_mode p None)
  where
    same : (r : Result Reading PacketRefusal) → refusal_of (with_peer peer r) ≡ refusal_of r
    same (Ok (reading.Opening k o)) = refl
    same (Ok reading.Nothing) = refl
    same (Err why) = refl

module _ (p : List ℕ) (peer : Option ℕ) (l : List ℕ) where
  answer_aside : SetAside p peer → answer_in strict_mode p peer l ≡ Err refusal.DataOffset
  unfolding answer_in
  answer_aside e = ap (λ (r : Result Reading PacketRefusal). after_reading r l) (reader_aside p peer e)

  answer_else : NothingWrong p peer → answer_in strict_mode p peer l ≡ answer_of p peer l
  unfolding answer_of answer_in
  answer_else other = ap (λ (r : Result Reading PacketRefusal). after_reading r l) (reader_else p peer other)

-- The packets of a bundle from the i-th on.
module _ (b : List ℕ) (none : (i : ℕ) → i < packet_count b → NothingWrong (packet_bytes b (start_of b i)) (packet_peer b
    (start_of b i))) where
  answers_else
      : (n i : ℕ) → i + n ≤ packet_count b → answers_from strict_mode b (start_of b i) n ≡ answers_from plain_mode b (start_of b i) n
  unfolding answers_from answer_at start_of
  answers_else zero i within = refl
  answers_else (suc n) i within =
      rw (
        answer_else (packet_bytes b (start_of b i)) (packet_peer b (start_of b i)) (list_of b) (none i (omega arith)),
        ← plain_mode_lem.answer (packet_bytes b (start_of b i)) (packet_peer b (start_of b i)) (list_of b),
        answers_else n (suc i) (omega arith),
      )

  bundle_same : (c : Result (Unit {0}) BundleRefusal) → after_bundle_check strict_mode c b ≡ after_bundle_check plain_mode c b
  unfolding start_of
  bundle_same (Ok tt) = rw (answers_else (packet_count b) 0 (omega arith))
  bundle_same (Err check.DoesNotFit) = refl
  bundle_same (Err (check.List r)) = refl

  output_else : (longer : Bool) → output_of_input_in strict_mode b longer ≡ output_of_input b longer
  unfolding output_of_input_in output_in bundle_answer
  output_else longer = rw (bundle_same (check_bundle b))

strict_mode_lem : StrictMode
unfolding gateway_answer gateway_in Within
strict_mode_lem =
    record {
      reader_aside = reader_aside;
      reader = λ p peer. (only_then p peer, reader_else p peer);
      same_kind = λ p peer other. kind_same (beside p peer) other;
      beside_options = λ p peer other. rest_same (beside p peer) other;
      shows_bad = λ p peer other opening damaged.
          damaged_shows (beside p peer) other (λ n m. opening (record { no_syn = n; no_syn_ack = m })) damaged;
      plain_shows_none = plain_clean;
      answer_aside = answer_aside;
      answer_else = answer_else;
      gateway_aside = λ p peer l good e. rw (good, answer_aside p (peer_of peer) l e);
      gateway_else = λ p peer l other. ap (after_list (check_list l)) (answer_else p (peer_of peer) l other);
      any_peer = λ p peer other e. without_peer p other ∙ sym (without_peer p peer) ∙ e;
      bundle_else = λ b longer none. output_else b none longer;
      at_most_40 = λ mode p peer. (sound_in mode p peer).few;
      kinds_past_lem = λ mode p peer. (sound_in mode p peer).tidy.kinds;
      bytes_past = λ mode p peer. (sound_in mode p peer).tidy.bytes;
      of_seventeen = λ mode p peer. (sound_in mode p peer).quirks;
    }

-- ---- every mode

every_mode : InEveryMode
unfolding gateway_in bundle_answer
every_mode =
    record {
      list_refused_lem = λ mode p peer l r e. rw e;
      bundle_check_lem = λ mode b. checked mode b (check_bundle b);
    }
  where
    checked : (mode : Mode) (b : List ℕ) (c : Result (Unit {0}) BundleRefusal) → (after_bundle_check mode c b).check ≡ c
    checked mode b (Ok tt) = refl
    checked mode b (Err check.DoesNotFit) = refl
    checked mode b (Err (check.List r)) = refl

mode_numbers : ModeNumbers
mode_numbers =
    record {
      even = λ bits e. rw (ne_eqb (bits % 2) 1 (λ (one : bits % 2 ≡ 1). omega arith));
      odd = λ bits e. rw (eq-eqb (bits % 2) 1 e);
    }

pub modes : Modes
modes =
    record {
      plain = plain_mode_lem;
      strict = strict_mode_lem;
      every = every_mode;
      numbers = mode_numbers;
      values = strict_values;
      damage = damage_values;
    }
