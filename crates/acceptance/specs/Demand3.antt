-- Demand 3: "Let two packets of equal length differ only in the free bytes that document 01 lists .. With the same peer MSS and the
-- same signature list, both get the same answer, refusals included." Which bytes are free is written in the crate `alike`, in
-- specs/Free.antt, item by item and by their places; by `TheRelation.exactly` no more need be read of the relation. It stands field by
-- field and layer by layer in specs/Packets.antt, Ip.antt, Tcp.antt and Options.antt. "Demand 3 alone admits a constant, so it is stated
-- over demand 2's definitions": `read_packet` and `search_list`, of which Demand2.antt says that they are none. It holds in every mode
-- ("demand 3 holds for both", document 02, Wish 2), by the same relation; in the plain mode `read_in` is `read_packet` (Modes.antt).
-- `Demand3` is the statement.
use Rattle.std.specs.Prelude.{◌≡◌, Bool, List, ◌↔◌, ℕ, suc, ◌<◌, ◌≤◌, length, set, Option, Result}
use contract.Lifetimes.{Lfts}
use Rattle.std.specs.Borrow.{Bor}
use Rattle.quirks.specs.declared.QuirkSet.{QuirkSet}
use Rattle.syn_options.specs.declared.StopBefore.{StopBefore}
use Rattle.syn_options.specs.Walk.{walk_of, parse_options_raw}
use Rattle.syn_options.specs.Places.{places_of}
use Rattle.syn_options.specs.Stops.{walk_options, read_options}
use Rattle.ip.specs.Ip.{read_ip}
use Rattle.flow.specs.declared.Mode.{Mode}
use Rattle.flow.specs.declared.Reading.{Reading}
use Rattle.flow.specs.Modes.{plain_mode, stop_of, tcp_stage, read_in}
use Rattle.flow.proofs.read_packet.Reads as read_packet'
use Rattle.flow.proofs.read_packet_in.Reads as read_packet_in'
use Rattle.flow.specs.Reading.{observation_read}
use Rattle.refusals.specs.declared.PacketRefusal.{PacketRefusal}
use Rattle.found.specs.declared.Searched.{Searched}
use Rattle.search.specs.declared.SearchRefusal.{SearchRefusal}
use Rattle.search.specs.Search.{search_list}
use Rattle.search.proofs.search.Reads as search'
use Rattle.bundle.specs.Bundle.{packet_count, packets_offset, list_length, list_offset, list_of, packet_bytes, packet_peer, packet_end}
use Rattle.packet_answer.specs.Packet.{answer_of, answer_in}
use Rattle.bundle.specs.Answers.{answer_at}
use Rattle.report.specs.Text.{line_of}
use Rattle.report.specs.Pages.{output_of_input_in}
use Rattle.gateway.specs.declared.TermreadResult.{TermreadResult}
use Rattle.gateway.proofs.termread_answer_checked.Reads as answer_checked'
use Rattle.gateway.proofs.termread_answer.Reads as answer'
use Rattle.gateway.proofs.termread_answer_checked_in.Reads as answer_checked_in'
use Rattle.gateway.proofs.termread_answer_in.Reads as answer_in'
use Rattle.alike.specs.Options.{AlikeOptions}
use Rattle.alike.specs.Ip.{AlikeIpv4, AlikeIpv6}
use Rattle.alike.specs.Tcp.{AlikeTcp}
use Rattle.alike.specs.Packets.{document01, Alike}
use Rattle.alike.specs.Stages.{KeepsLevel, KeepsTcp}
use Rattle.alike.specs.Free.{DifferOnly, Free, FreeTcp, FreeStamp}
use Rattle.acceptance.specs.OneWalk.{options_in}
use Rattle.acceptance.specs.Corners.{Corners}
use Rattle.acceptance.specs.NotFree.{NotFree}
use Rattle.acceptance.specs.Overlap.{Overlap}

-- A relation that is reflexive, symmetric and transitive.
pub record Equivalence (R : List ℕ → List ℕ → Type 0) : Type 0 where
  pub reflexive : (p : List ℕ) → R p p
  pub symmetric : (p q : List ℕ) → R p q → R q p
  pub transitive : (p q r : List ℕ) → R p q → R q r → R p r

-- ---- the relation is document 01's

pub record TheRelation : Type 0 where
  pub packets : Equivalence Alike
  pub ipv4 : Equivalence AlikeIpv4
  pub ipv6 : Equivalence AlikeIpv6
  pub tcp : Equivalence AlikeTcp
  pub options : Equivalence AlikeOptions
  -- Exactly the list: two packets are alike if and only if they have one length and every place where they differ lies in a free item.
  pub exactly : (p q : List ℕ) → Alike p q ↔ DifferOnly (Free p q) p q
  pub exactly_tcp : (t u : List ℕ) → AlikeTcp t u ↔ DifferOnly (FreeTcp t u) t u
  pub exactly_options : (s t : List ℕ) → AlikeOptions s t ↔ DifferOnly (FreeStamp s t) s t
  -- so one byte of a free item may be changed
  pub free_byte
      : (p : List ℕ) (i v : ℕ) {from to : ℕ} → Free p (set p i v) from to → from ≤ i → i < to → Alike p (set p i v)
  -- Of what is not free, examples that change the answer.
  pub not_free : NotFree
  -- Of what is free, corners.
  pub corners : Corners

-- ---- alike packets get the same answer

-- What `read_packet` returns, and what `read_packet_in` does in any mode.
pub data Read (κs : Lfts 1) (packet : Bor (List ℕ)) (peer : Option ℕ) (reading : Result Reading PacketRefusal) : Mode → Type 0 where
  plainly : read_packet'.Post κs (packet, (peer, tt)) reading (packet, (peer, tt)) → Read κs packet peer reading plain_mode
  in_mode
      : {mode : Mode}
      → read_packet_in'.Post κs (packet, (peer, (mode, tt))) reading (packet, (peer, (mode, tt)))
      → Read κs packet peer reading mode

-- What two functions return in a row: the reading of a packet, and the answer of a search for its observation.
pub record Run
    (mode : Mode) (packet : Bor (List ℕ)) (peer : Option ℕ) (list : Bor (List ℕ)) (reading : Result Reading PacketRefusal)
    (answer : Result Searched SearchRefusal)
    : Type 0
  where
    pub κs : Lfts 1
    pub reads : Read κs packet peer reading mode
    pub searches : search'.Post κs (observation_read reading, (list, tt)) answer (observation_read reading, (list, tt))

pub record SameAnswer : Type 0 where
  -- the IP stage, refusals 1 to 6 included
  pub ip_stage : KeepsLevel document01 read_ip
  -- the TCP stage, refusals 7 and 14 included, after any facts of an IP header
  pub tcp_stage_lem : (mode : Mode) → KeepsTcp (tcp_stage mode)
  -- an option string by itself, by either walk, and parsed, refusal 8 included
  pub option_walks
      : (s t : List ℕ) → AlikeOptions s t → (stop syn : Bool) (quirks : QuirkSet) → walk_of stop syn quirks s ≡ walk_of stop syn quirks t
  pub option_strings : (s t : List ℕ) → AlikeOptions s t → parse_options_raw s ≡ parse_options_raw t
  -- by the one walk, wherever it stops: what it says and its places, refusal 8 included ("Demand 3 covers the places too", Wish 5)
  pub one_walk_lem
      : (s t : List ℕ)
      → AlikeOptions s t
      → (stop : StopBefore) (syn : Bool) (quirks : QuirkSet)
      → read_options stop syn quirks s ≡ read_options stop syn quirks t
  -- the places in a packet, and what the walk of either entry gives of its options, with the places that it came to
  pub places : (p q : List ℕ) → Alike p q → places_of (options_in p) ≡ places_of (options_in q)
  pub walks
      : (mode : Mode) (syn : Bool) (quirks : QuirkSet) (p q : List ℕ)
      → Alike p q
      → walk_options (stop_of mode) syn quirks (options_in p) ≡ walk_options (stop_of mode) syn quirks (options_in q)
  -- the packet reader
  pub reader : (mode : Mode) (p q : List ℕ) (peer : Option ℕ) → Alike p q → read_in mode p peer ≡ read_in mode q peer
  -- the search, with its reason, its count and its refusals
  pub search
      : (mode : Mode) (p q : List ℕ) (peer : Option ℕ) (l : List ℕ)
      → Alike p q
      → search_list (observation_read (read_in mode p peer)) l ≡ search_list (observation_read (read_in mode q peer)) l
  -- what the functions return
  pub returned
      : (mode : Mode) (p q list : Bor (List ℕ)) (peer : Option ℕ) (r s : Result Reading PacketRefusal) (a b : Result Searched SearchRefusal)
      → Alike p.now q.now
      → Run mode p peer list r a
      → Run mode q peer list s b
      → (r ≡ s) × (a ≡ b)

-- What the gateway's functions return: the two plain ones, and the two that take a mode.
pub record GatewaySame : Type 0 where
  pub checked
      : (κs : Lfts 2) (p q list : Bor (List ℕ)) (peer : ℕ) (r s : TermreadResult)
      → Alike p.now q.now
      → answer_checked'.Post κs (p, (peer, (list, tt))) r (p, (peer, (list, tt)))
      → answer_checked'.Post κs (q, (peer, (list, tt))) s (q, (peer, (list, tt)))
      → r ≡ s
  pub not_checked
      : (κs : Lfts 2) (p q list : Bor (List ℕ)) (peer : ℕ) (r s : TermreadResult)
      → Alike p.now q.now
      → answer'.Post κs (p, (peer, (list, tt))) r (p, (peer, (list, tt)))
      → answer'.Post κs (q, (peer, (list, tt))) s (q, (peer, (list, tt)))
      → r ≡ s
  pub checked_in
      : (κs : Lfts 2) (p q list : Bor (List ℕ)) (peer bits : ℕ) (r s : TermreadResult)
      → Alike p.now q.now
      → answer_checked_in'.Post κs (p, (peer, (list, (bits, tt)))) r (p, (peer, (list, (bits, tt))))
      → answer_checked_in'.Post κs (q, (peer, (list, (bits, tt)))) s (q, (peer, (list, (bits, tt))))
      → r ≡ s
  pub not_checked_in
      : (κs : Lfts 2) (p q list : Bor (List ℕ)) (peer bits : ℕ) (r s : TermreadResult)
      → Alike p.now q.now
      → answer_in'.Post κs (p, (peer, (list, (bits, tt)))) r (p, (peer, (list, (bits, tt))))
      → answer_in'.Post κs (q, (peer, (list, (bits, tt)))) s (q, (peer, (list, (bits, tt))))
      → r ≡ s

-- So many packets of two bundles, from a place on: the same peer and the same end, hence length, and alike, one by one.
pub data AlikeFrom (b c : List ℕ) : ℕ → ℕ → Type 0 where
  done : {at : ℕ} → AlikeFrom b c at 0
  more
      : {at n : ℕ}
      → packet_peer b at ≡ packet_peer c at
      → packet_end b at ≡ packet_end c at
      → Alike (packet_bytes b at) (packet_bytes c at)
      → AlikeFrom b c (packet_end b at) n
      → AlikeFrom b c at (suc n)

-- Two bundles of one length, with the same numbers in the header and the same list, whose packets are alike one by one.
pub record AlikeBundles (b c : List ℕ) : Type 0 where
  pub same_length : length b ≡ length c
  pub count : packet_count b ≡ packet_count c
  pub offset : packets_offset b ≡ packets_offset c
  pub list_size : list_length b ≡ list_length c
  pub list_place : list_offset b ≡ list_offset c
  pub list : list_of b ≡ list_of c
  pub packets : AlikeFrom b c (packets_offset b) (packet_count b)

-- Bundles, packet by packet: with the same list and the same peer's MSS, packets that are alike have the same answer and the same line.
pub record BundleSame : Type 0 where
  pub answer
      : (mode : Mode) (p q : List ℕ) (peer : Option ℕ) (l : List ℕ) → Alike p q → answer_in mode p peer l ≡ answer_in mode q peer l
  pub line
      : (mode : Mode) (p q : List ℕ) (peer : Option ℕ) (l : List ℕ)
      → Alike p q
      → line_of (answer_in mode p peer l) ≡ line_of (answer_in mode q peer l)
  pub in_bundles
      : (mode : Mode) (b c : List ℕ) (at to : ℕ)
      → list_of b ≡ list_of c
      → packet_peer b at ≡ packet_peer c to
      → Alike (packet_bytes b at) (packet_bytes c to)
      → answer_at mode b at ≡ answer_at mode c to
  -- the whole output, byte by byte, refusals 12, 9 and 10 included; `longer`: the input goes on past the buffer
  pub whole
      : (mode : Mode) (b c : List ℕ) (longer : Bool) → AlikeBundles b c
      → output_of_input_in mode b longer ≡ output_of_input_in mode c longer
  -- Two bundles that differ in a free byte of a packet need not agree: that byte may be the list's.
  pub not_whole : Overlap

pub record Demand3 : Type 0 where
  -- the sentence itself: the answer is that of `answer_of`, a refusal or an observation and what the search answers for it
  pub free_bytes
      : (p q : List ℕ) (peer : Option ℕ) (l : List ℕ) → DifferOnly (Free p q) p q → answer_of p peer l ≡ answer_of q peer l
  -- and in any mode
  pub free_bytes_in
      : (mode : Mode) (p q : List ℕ) (peer : Option ℕ) (l : List ℕ)
      → DifferOnly (Free p q) p q
      → answer_in mode p peer l ≡ answer_in mode q peer l
  pub relation : TheRelation
  pub answer : SameAnswer
  pub bundles : BundleSame
  pub gateway : GatewaySame
