-- The three answers stay three: what each means.
use Rattle.std.specs.Prelude.{Option, Some, None, Result, Ok, Err}
use mathlib.Core.Path.{◌≡◌, refl}
use mathlib.Core.List.{List}
use Prim.Native.Nat.{ℕ}
use native.Mathlib.Omega.{arith}
use Rattle.basis.specs.Bytes.{AllBytes}
use Rattle.refusals.specs.declared.PacketRefusal.{PacketRefusal}
use Rattle.flow.specs.declared.Kind.{Kind}
use Rattle.flow.specs.declared.Kind.TheVariants as kind
use Rattle.flow.specs.declared.Reading.{Reading}
use Rattle.flow.specs.declared.Reading.TheVariants as reading
use Rattle.flow.specs.declared.Mode.{Mode}
use Rattle.flow.specs.Modes.{read_in}
use Rattle.flow.specs.Reading.{kind_read, observation_read}
use Rattle.matching.specs.Fit.{features_of}
use Rattle.siglist.specs.List.{check_list}
use Rattle.found.specs.declared.Found.{Found}
use Rattle.found.specs.declared.Found.TheVariants as found
use Rattle.search.specs.Search.{search_over, searched}
use Rattle.search.proofs.Rows.{longer_row}
use Rattle.packet_answer.specs.declared.PacketAnswer.{PacketAnswer}
use Rattle.packet_answer.specs.declared.PacketAnswer.TheVariants as packet
use Rattle.packet_answer.specs.Packet.{peer_of, after_reading, answer_in}
use Rattle.gateway.specs.Parts.{GatewayAnswer, found_parts, searched_parts, packet_parts, refused_list, parts_of, gateway_in}
use Rattle.gateway.specs.Decode.{answer_from}
use Rattle.gateway.specs.Zeros.{Zeros}
use Rattle.gateway.proofs.Room.{PacketFits}
use Rattle.gateway.proofs.ReadBack as back
use Rattle.gateway.proofs.Fits.{packet_fits_lem, answers_fit, structs_differ}
use Rattle.gateway.proofs.Zeros.{zeros, list_zeros}
use Rattle.acceptance.specs.Honesty.{which_of, outcome_of, checked_answer, checked_struct, Honesty}
use Rattle.acceptance.proofs.Outcome.{four_outcomes, search_outcome}
use Rattle.acceptance.proofs.Fit.{exact_to, exact_from, fuzzy_to, fuzzy_from}

-- ---- a packet's answer

-- By the kind of what was read.
opened
    : (r : Result Reading PacketRefusal) (k : Kind) (l : List ℕ)
    → kind_read r ≡ Ok (Some k)
    → after_reading r l ≡ Ok (packet.Opening k (searched (observation_read r) l))
opened (Ok (reading.Opening j o)) k l e = let same : j ≡ k = cc in rw same
opened (Ok reading.Nothing) k l e = let z : ◌≡◌ {A = ℕ} 0 1 = cc in absurd (omega arith)
opened (Err why) k l e = let z : ◌≡◌ {A = ℕ} 0 1 = cc in absurd (omega arith)

neither : (r : Result Reading PacketRefusal) (l : List ℕ) → kind_read r ≡ Ok None → after_reading r l ≡ Ok packet.Nothing
neither (Ok (reading.Opening j o)) l e = let z : ◌≡◌ {A = ℕ} 0 1 = cc in absurd (omega arith)
neither (Ok reading.Nothing) l e = refl
neither (Err why) l e = let z : ◌≡◌ {A = ℕ} 0 1 = cc in absurd (omega arith)

refused : (r : Result Reading PacketRefusal) (why : PacketRefusal) (l : List ℕ) → kind_read r ≡ Err why → after_reading r l ≡ Err why
refused (Ok (reading.Opening j o)) why l e = let z : ◌≡◌ {A = ℕ} 0 1 = cc in absurd (omega arith)
refused (Ok reading.Nothing) why l e = let z : ◌≡◌ {A = ℕ} 0 1 = cc in absurd (omega arith)
refused (Err other) why l e = let same : other ≡ why = cc in rw same

module _ (mode : Mode) (p : List ℕ) (peer : Option ℕ) (l : List ℕ) where
  syn_answer
      : kind_read (read_in mode p peer) ≡ Ok (Some kind.Syn)
      → answer_in mode p peer l ≡ Ok (packet.Opening kind.Syn (searched (observation_read (read_in mode p peer)) l))
  unfolding answer_in
  syn_answer = opened (read_in mode p peer) kind.Syn l

  syn_ack_answer
      : kind_read (read_in mode p peer) ≡ Ok (Some kind.SynAck)
      → answer_in mode p peer l ≡ Ok (packet.Opening kind.SynAck (searched (observation_read (read_in mode p peer)) l))
  unfolding answer_in
  syn_ack_answer = opened (read_in mode p peer) kind.SynAck l

  nothing_answer : kind_read (read_in mode p peer) ≡ Ok None → answer_in mode p peer l ≡ Ok packet.Nothing
  unfolding answer_in
  nothing_answer = neither (read_in mode p peer) l

  refused_answer : (r : PacketRefusal) → kind_read (read_in mode p peer) ≡ Err r → answer_in mode p peer l ≡ Err r
  unfolding answer_in
  refused_answer r = refused (read_in mode p peer) r l

-- ---- the struct that a gateway gets

-- The outcome in a search's struct is which of the three it is.
found_outcome_of : (kind n : ℕ) (f : Found) → (found_parts kind f n).outcome ≡ which_of f
found_outcome_of kind n found.None = refl
found_outcome_of kind n (found.Exact hit) = refl
found_outcome_of kind n (found.Fuzzy hit reason) = refl

-- The outcome in an answer's struct is what the answer is.
outcome_of_lem : (a : GatewayAnswer) → (parts_of a).outcome ≡ outcome_of a
unfolding packet_parts searched_parts refused_list
outcome_of_lem (GatewayAnswer.answered (Ok (packet.Opening kind.Syn s))) = found_outcome_of 1 s.examined s.found
outcome_of_lem (GatewayAnswer.answered (Ok (packet.Opening kind.SynAck s))) = found_outcome_of 2 s.examined s.found
outcome_of_lem (GatewayAnswer.answered (Ok packet.Nothing)) = refl
outcome_of_lem (GatewayAnswer.answered (Err r)) = refl
outcome_of_lem (GatewayAnswer.list_refused_lem r) = refl

-- A packet's own answer, as the gateway's that holds it.
unwrapped : (a b : Result PacketAnswer PacketRefusal) → GatewayAnswer.answered a ≡ GatewayAnswer.answered b → a ≡ b
unwrapped a b e = cc

module _ (mode : Mode) (p : List ℕ) (peer : ℕ) (l : List ℕ) (hp : AllBytes p) (hl : AllBytes l) where
  checked_fits : PacketFits (checked_answer mode p peer l)
  checked_fits = packet_fits_lem mode p (peer_of peer) l hp hl

  checked_read_back : answer_from (checked_struct mode p peer l) ≡ GatewayAnswer.answered (checked_answer mode p peer l)
  checked_read_back = back.read_back (GatewayAnswer.answered (checked_answer mode p peer l)) checked_fits

checked_structs_differ
    : (a b : Mode) (p q : List ℕ) (m n : ℕ) (l k : List ℕ)
    → AllBytes p
    → AllBytes q
    → AllBytes l
    → AllBytes k
    → checked_struct a p m l ≡ checked_struct b q n k
    → checked_answer a p m l ≡ checked_answer b q n k
checked_structs_differ a b p q m n l k hp hq hl hk e =
    unwrapped (checked_answer a p m l) (checked_answer b q n k)
    (back.injective (GatewayAnswer.answered (checked_answer a p m l)) (GatewayAnswer.answered (checked_answer b q n k))
    (packet_fits_lem a p (peer_of m) l hp hl)
    (packet_fits_lem b q (peer_of n) k hq hk)
    e)

module _ (mode : Mode) (p : List ℕ) (peer : ℕ) (l : List ℕ) where
  checked_outcome_field : (checked_struct mode p peer l).outcome ≡ outcome_of (GatewayAnswer.answered (checked_answer mode p peer l))
  checked_outcome_field = outcome_of_lem (GatewayAnswer.answered (checked_answer mode p peer l))

  checked_zeros : Zeros (checked_struct mode p peer l)
  checked_zeros = zeros (GatewayAnswer.answered (checked_answer mode p peer l))

pub honesty : Honesty
unfolding search_over
honesty =
    record {
      exact = λ f ks bs s n es. (exact_to f ks bs s n es, exact_from f ks bs s n es);
      fuzzy = λ f ks bs s n es r. (fuzzy_to f ks bs s n es r, fuzzy_from f ks bs s n es r);
      search = search_outcome;
      longer_row = λ o l is js. longer_row (features_of o) o.olayout.kinds o.olayout.bytes l is js;
      answered = four_outcomes;
      syn_answer = syn_answer;
      syn_ack_answer = syn_ack_answer;
      nothing_answer = nothing_answer;
      refused_answer = refused_answer;
      exact_not_fuzzy = λ a b r e. let z : ◌≡◌ {A = ℕ} 0 1 = cc in omega arith;
      exact_not_none = λ a e. let z : ◌≡◌ {A = ℕ} 0 1 = cc in omega arith;
      fuzzy_not_none = λ a r e. let z : ◌≡◌ {A = ℕ} 0 1 = cc in omega arith;
      read_back = λ mode p peer l hp hl. back.read_back (gateway_in mode p peer l) (answers_fit mode p peer l hp hl);
      structs_differ = structs_differ;
      outcome_field = λ mode p peer l. outcome_of_lem (gateway_in mode p peer l);
      zeros = λ mode p peer l. zeros (gateway_in mode p peer l);
      checked_read_back = checked_read_back;
      checked_structs_differ = checked_structs_differ;
      checked_outcome_field = checked_outcome_field;
      checked_zeros = checked_zeros;
      list_zeros = λ l. list_zeros (check_list l);
    }
