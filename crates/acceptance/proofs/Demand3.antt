-- Demand 3: the theorems of the crate alike, and what follows for the search and for what the functions return.
use Rattle.std.specs.Prelude.{Option, Result, Ok, Err}
use mathlib.Core.Path.{◌≡◌, refl, sym, ◌∙◌, ap, ap₂}
use mathlib.Core.Bool.{Bool}
use mathlib.Core.List.{List}
use Prim.Native.Nat.{ℕ, zero, suc}
use contract.Lifetimes.{Lfts}
use denote.Ref.{Bor}
use Rattle.flow.specs.declared.Mode.{Mode}
use Rattle.flow.specs.declared.Reading.{Reading}
use Rattle.flow.specs.Modes.{mode_of, plain_mode, read_in}
use Rattle.flow.specs.Reading.{read_packet, observation_read}
use Rattle.refusals.specs.declared.PacketRefusal.{PacketRefusal}
use Rattle.found.specs.declared.Searched.{Searched}
use Rattle.search.specs.declared.SearchRefusal.{SearchRefusal}
use Rattle.search.specs.Search.{search_list}
use Rattle.siglist.specs.List.{check_list}
use Rattle.packet_answer.specs.Packet.{peer_of, answer_of, answer_in, after_reading}
use Rattle.bundle.specs.declared.BundleRefusal.{BundleRefusal}
use Rattle.bundle.specs.declared.BundleRefusal.TheVariants as check
use Rattle.bundle.specs.Bundle.{packet_count, packets_offset, list_of, packet_bytes, packet_peer, packet_end, packet_fits, packets_fit}
use Rattle.bundle.specs.Bundle.{list_lies}
use Rattle.bundle.specs.Bundle.{bundle_fits, check_bundle}
use Rattle.bundle.specs.Answers.{answer_at, packet_lies, answers_from, bundle_answer}
use Rattle.report.specs.Text.{line_of}
use Rattle.report.specs.Pages.{output_in, output_of_input_in}
use Rattle.gateway.specs.Parts.{packet_parts, parts_of, after_list, gateway_answer, gateway_in}
use Rattle.acceptance.proofs.Overlap.{overlap}
use Rattle.one_option.specs.Options.{options_of}
use Rattle.alike.specs.Ip.{AlikeIpv4, AlikeIpv6}
use Rattle.alike.specs.Packets.{Alike}
use Rattle.alike.proofs.Equivalence.{row_refl, row_sym, row_trans, ipv4_sym, ipv4_trans, ipv6_sym, ipv6_trans, tcp_refl, tcp_sym, tcp_trans}
use Rattle.alike.proofs.Equivalence.{alike_refl, alike_sym, alike_trans}
use Rattle.alike.proofs.Exact.{exact, free_byte}
use Rattle.alike.proofs.TcpExact.{exact_tcp}
use Rattle.alike.proofs.OptionsDiffer.{exact_options}
use Rattle.alike.proofs.Walks.{walk_alike, parse_alike, read_options_alike}
use Rattle.alike.proofs.Ip.{keeps_level}
use Rattle.alike.proofs.Tcp.{tcp_alike}
use Rattle.alike.proofs.Packets.{read_alike}
use Rattle.acceptance.specs.Demand3.{TheRelation, Read, Run, SameAnswer, AlikeFrom, AlikeBundles, Demand3, GatewaySame}
use Rattle.acceptance.proofs.Corners.{corners}
use Rattle.acceptance.proofs.NotFree.{not_free}
use Rattle.acceptance.proofs.PlacesAlike.{places_in, walks_in}

-- ---- the relation

ipv4_refl : (p : List ℕ) → AlikeIpv4 p p
ipv4_refl p = record { same_length = refl; first = λ i l u. refl; identification = refl; second = λ i l u. refl }

ipv6_refl : (p : List ℕ) → AlikeIpv6 p p
ipv6_refl p = record { same_length = refl; first = refl; second = refl; flow_label = refl; third = λ i l u. refl }

the_relation : TheRelation
the_relation =
    record {
      packets = record { reflexive = alike_refl; symmetric = alike_sym; transitive = alike_trans };
      ipv4 =
          record { reflexive = ipv4_refl; symmetric = λ p q a. ipv4_sym a; transitive = λ p q r a b. ipv4_trans a b };
      ipv6 =
          record { reflexive = ipv6_refl; symmetric = λ p q a. ipv6_sym a; transitive = λ p q r a b. ipv6_trans a b };
      tcp = record { reflexive = tcp_refl; symmetric = λ p q a. tcp_sym a; transitive = λ p q r a b. tcp_trans a b };
      options =
          record {
            reflexive = λ s. row_refl (options_of s);
            symmetric = λ s t a. row_sym a;
            transitive = λ s t u a b. row_trans a b;
          };
      exactly = exact;
      exactly_tcp = exact_tcp;
      exactly_options = exact_options;
      free_byte = free_byte;
      not_free = not_free;
      corners = corners;
    }

-- ---- the same answer

search_alike
    : (mode : Mode) (p q : List ℕ) (peer : Option ℕ) (l : List ℕ)
    → Alike p q
    → search_list (observation_read (read_in mode p peer)) l ≡ search_list (observation_read (read_in mode q peer)) l
search_alike mode p q peer l a = ap (λ (r : Result Reading PacketRefusal). search_list (observation_read r) l) (read_alike mode p q peer a)

-- Either function gives the reading of its mode.
reading_of_lem
    : {κs : Lfts 1} {packet : Bor (List ℕ)} {peer : Option ℕ} {r : Result Reading PacketRefusal} {mode : Mode}
    → Read κs packet peer r mode
    → r ≡ read_in mode packet.now peer
unfolding read_packet read_in
reading_of_lem (Read.plainly e) = e
reading_of_lem (Read.in_mode e) = e

module _ (mode : Mode) (p q list : Bor (List ℕ)) (peer : Option ℕ) (r s : Result Reading PacketRefusal)
    (a b : Result Searched SearchRefusal) (alike : Alike p.now q.now)
    (x : Run mode p peer list r a) (y : Run mode q peer list s b) where
  same_reading : r ≡ s
  same_reading = reading_of_lem x.reads ∙ read_alike mode p.now q.now peer alike ∙ sym (reading_of_lem y.reads)

  same_search : a ≡ b
  same_search =
      x.searches ∙ ap (λ (z : Result Reading PacketRefusal). search_list (observation_read z) list.now) same_reading ∙ sym y.searches

same_answer : SameAnswer
same_answer =
    record {
      ip_stage = keeps_level;
      tcp_stage_lem = tcp_alike;
      option_walks = walk_alike;
      option_strings = parse_alike;
      one_walk_lem = read_options_alike;
      places = places_in;
      walks = walks_in;
      reader = read_alike;
      search = search_alike;
      returned = λ mode p q list peer r s a b alike x y.
          (same_reading mode p q list peer r s a b alike x y, same_search mode p q list peer r s a b alike x y);
    }

-- ---- bundles and the gateway

answer_alike
    : (mode : Mode) (p q : List ℕ) (peer : Option ℕ) (l : List ℕ) → Alike p q → answer_in mode p peer l ≡ answer_in mode q peer l
unfolding answer_in
answer_alike mode p q peer l a = ap (λ (r : Result Reading PacketRefusal). after_reading r l) (read_alike mode p q peer a)

plain_alike : (p q : List ℕ) (peer : Option ℕ) (l : List ℕ) → Alike p q → answer_of p peer l ≡ answer_of q peer l
unfolding answer_of answer_in read_packet read_in
plain_alike p q peer l a = answer_alike plain_mode p q peer l a

in_bundles
    : (mode : Mode) (b c : List ℕ) (at to : ℕ)
    → list_of b ≡ list_of c
    → packet_peer b at ≡ packet_peer c to
    → Alike (packet_bytes b at) (packet_bytes c to)
    → answer_at mode b at ≡ answer_at mode c to
unfolding answer_at
in_bundles mode b c at to list peer alike =
    answer_alike mode (packet_bytes b at) (packet_bytes c to) (packet_peer b at) (list_of b) alike
    ∙ ap₂ (λ (m : Option ℕ) (l : List ℕ). answer_in mode (packet_bytes c to) m l) peer list

gateway_alike
    : (mode : Mode) (p q : List ℕ) (peer : ℕ) (l : List ℕ) → Alike p q → gateway_in mode p peer l ≡ gateway_in mode q peer l
unfolding gateway_in
gateway_alike mode p q peer l a = ap (after_list (check_list l)) (answer_alike mode p q (peer_of peer) l a)

plain_gateway_alike : (p q : List ℕ) (peer : ℕ) (l : List ℕ) → Alike p q → gateway_answer p peer l ≡ gateway_answer q peer l
unfolding gateway_answer
plain_gateway_alike p q peer l a = ap (after_list (check_list l)) (plain_alike p q (peer_of peer) l a)

gateway_same : GatewaySame
gateway_same =
    record {
      checked = λ κs p q l peer r s a x y.
          x ∙ ap packet_parts (plain_alike p.now q.now (peer_of peer) l.now a) ∙ sym y;
      not_checked = λ κs p q l peer r s a x y.
          x ∙ ap parts_of (plain_gateway_alike p.now q.now peer l.now a) ∙ sym y;
      checked_in = λ κs p q l peer bits r s a x y.
          x ∙ ap packet_parts (answer_alike (mode_of bits) p.now q.now (peer_of peer) l.now a) ∙ sym y;
      not_checked_in = λ κs p q l peer bits r s a x y.
          x ∙ ap parts_of (gateway_alike (mode_of bits) p.now q.now peer l.now a) ∙ sym y;
    }

-- ---- whole bundles

module _ (b c : List ℕ) (a : AlikeBundles b c) where
  one_fits : (at : ℕ) → packet_end b at ≡ packet_end c at → packet_fits b at ≡ packet_fits c at
  unfolding packet_fits
  one_fits at end = rw (end, a.same_length)

  all_fit : (n at : ℕ) → AlikeFrom b c at n → packets_fit b at n ≡ packets_fit c at n
  unfolding packets_fit
  all_fit zero at AlikeFrom.done = rw a.same_length
  all_fit (suc n) at (AlikeFrom.more peer end alike rest) = rw (one_fits at end, all_fit n (packet_end b at) rest, end)

  lists_lie : list_lies b ≡ list_lies c
  unfolding list_lies
  lists_lie = rw (a.same_length, a.list_size, a.list_place)

  check_alike : check_bundle b ≡ check_bundle c
  unfolding check_bundle bundle_fits
  check_alike =
      rw (all_fit (packet_count b) (packets_offset b) a.packets, lists_lie, a.same_length, a.count, a.offset, a.list)

  answers_alike : (mode : Mode) (n at : ℕ) → AlikeFrom b c at n → answers_from mode b at n ≡ answers_from mode c at n
  unfolding answers_from packet_lies
  answers_alike mode zero at AlikeFrom.done = refl
  answers_alike mode (suc n) at (AlikeFrom.more peer end alike rest) =
      rw (lists_lie, one_fits at end, in_bundles mode b c at at a.list peer alike, answers_alike mode n (packet_end b at) rest, end)

  same_answers
      : (mode : Mode) → answers_from mode b (packets_offset b) (packet_count b) ≡ answers_from mode c (packets_offset c) (packet_count c)
  same_answers mode =
      answers_alike mode (packet_count b) (packets_offset b) a.packets
      ∙ ap₂ (λ (x y : ℕ). answers_from mode c x y) a.offset a.count

  by_check : (mode : Mode) (x : Result (Unit {0}) BundleRefusal) → check_bundle c ≡ x → output_in mode b ≡ output_in mode c
  unfolding output_in bundle_answer
  by_check mode (Ok tt) e = rw (check_alike, e, same_answers mode, a.count)
  by_check mode (Err check.DoesNotFit) e = rw (check_alike, e)
  by_check mode (Err (check.List r)) e = rw (check_alike, e)

output_alike
    : (mode : Mode) (b c : List ℕ) (longer : Bool) → AlikeBundles b c → output_of_input_in mode b longer ≡ output_of_input_in mode c longer
unfolding output_of_input_in
output_alike mode b c longer a = rw (by_check b c a mode (check_bundle c) refl)

pub demand3 : Demand3
demand3 =
    record {
      free_bytes = λ p q peer l d. plain_alike p q peer l ((exact p q).1 d);
      free_bytes_in = λ mode p q peer l d. answer_alike mode p q peer l ((exact p q).1 d);
      relation = the_relation;
      answer = same_answer;
      bundles =
          record {
            answer = answer_alike;
            line = λ mode p q peer l a. ap line_of (answer_alike mode p q peer l a);
            in_bundles = in_bundles;
            whole = output_alike;
            not_whole = overlap;
          };
      gateway = gateway_same;
    }
