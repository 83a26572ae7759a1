-- The number and the value of every answer on paper: those of the first row that holds.
use Rattle.std.specs.Prelude.{Option, Result, Ok, Err}
use mathlib.Core.Path.{◌≡◌, refl}
use mathlib.Core.List.{List, [], ◌∷◌}
use Prim.Native.Nat.{ℕ, zero, suc, ◌<◌, ◌≤◌}
use native.Mathlib.Omega.{arith}
use Rattle.observable.specs.declared.TcpObservation.{TcpObservation}
use Rattle.refusals.specs.declared.PacketRefusal.{PacketRefusal}
use Rattle.refusals.specs.declared.ListRefusal.TheVariants as why
use Rattle.refusals.specs.declared.Refusal.TheVariants as table
use Rattle.refusals.specs.Refusals.{packet_refused}
use Rattle.refusals.proofs.Back.{numbered}
use Rattle.flow.specs.declared.Reading.{Reading}
use Rattle.flow.specs.declared.Reading.TheVariants as reading
use Rattle.flow.specs.declared.Mode.{Mode}
use Rattle.flow.specs.Modes.{read_in}
use Rattle.flow.specs.Reading.{refusal_of}
use Rattle.syn_options.specs.declared.ParsedTcpOptions.{ParsedTcpOptions}
use Rattle.refusals.specs.declared.OptionsTooLong.{OptionsTooLong}
use Rattle.syn_options.specs.Walk.{parse_options_raw, options_refusal}
use Rattle.refusals.specs.declared.ListRefusal.{ListRefusal}
use Rattle.siglist.specs.List.{check_list, list_refusal}
use Rattle.signature_line.specs.declared.BadLine.{BadLine}
use Rattle.signature_line.specs.declared.SignatureRead.{SignatureRead}
use Rattle.signature_line.specs.LineReader.{read_line}
use Rattle.signature_line.proofs.Accepted.{refused_exactly}
use Rattle.found.specs.declared.Searched.{Searched}
use Rattle.search.specs.declared.SearchRefusal.{SearchRefusal}
use Rattle.search.specs.declared.SearchRefusal.TheVariants as search
use Rattle.search.specs.Search.{search_list, search_refusal}
use Rattle.packet_answer.specs.Packet.{peer_of, after_reading, answer_in}
use Rattle.bundle.specs.declared.BundleRefusal.{BundleRefusal}
use Rattle.bundle.specs.declared.BundleRefusal.TheVariants as bundle
use Rattle.bundle.specs.Bundle.{list_of, check_bundle, bundle_refusal}
use Rattle.gateway.specs.Parts.{after_list, gateway_in}
use Rattle.acceptance.specs.Refusals.{First, PacketRow, packet_order, Refused, Gives, Answered, ListRow}
use Rattle.acceptance.specs.OnPaper.{alone, paper_of, answer_paper, packet_paper, options_paper, list_paper, search_paper, bundle_paper}
use Rattle.acceptance.specs.OnPaper.{gateway_paper, Also, IsRow, line_paper, LinePaper, GatewayRow, Rows, TheTable}
use Rattle.acceptance.proofs.Refusals.{refusals}
use Rattle.acceptance.proofs.PaperStages.{others, not_7, ip_row, header_row}

-- ---- the numbers

packet_same : (a : Result Reading PacketRefusal) → refusal_of a ≡ (answer_paper a).number
unfolding refusal_of
packet_same a = refl

options_same : (a : Result ParsedTcpOptions OptionsTooLong) → options_refusal a ≡ (options_paper a).number
unfolding options_refusal
options_same a = refl

list_same : (a : Result (Unit {0}) ListRefusal) → list_refusal a ≡ (list_paper a).number
unfolding list_refusal
list_same a = refl

search_same : (a : Result Searched SearchRefusal) → search_refusal a ≡ (search_paper a).number
unfolding search_refusal
search_same a = refl

bundle_same : (a : Result (Unit {0}) BundleRefusal) → bundle_refusal a ≡ (bundle_paper a).number
unfolding bundle_refusal
bundle_same a = refl

-- ---- what a packet's row returns

module _ (p l : List ℕ) where
  of_refused : {r : PacketRefusal} → Refused p r → Also p l (paper_of (packet_refused r))
  of_refused (Refused.nothing_more {r} h) = not_7 p l r h
  of_refused (Refused.flags_byte b) = Also.of_7 b

  none_returned : Also p l (alone 0)
  none_returned = others p l 0 (λ e. omega arith) (λ e. omega arith)

  of_answered : {x : Result Reading PacketRefusal} → Answered p x → Also p l (answer_paper x)
  of_answered (Answered.syn b e) = none_returned
  of_answered (Answered.syn_ack b e) = none_returned
  of_answered (Answered.neither b e g) = none_returned

  packet_also : (mode : Mode) (peer : Option ℕ) → Also p l (answer_paper (read_in mode p peer))
  packet_also mode peer = by_number (refusal_of (read_in mode p peer)) refl
    where
      of_given : Gives mode p peer → Also p l (answer_paper (read_in mode p peer))
      of_given g = rw g.reading (of_refused g.also)

      by_number : (n : ℕ) → refusal_of (read_in mode p peer) ≡ n → Also p l (answer_paper (read_in mode p peer))
      by_number zero e = of_answered (refusals.packet_answers mode p peer e)
      by_number (suc n) e = of_given (refusals.packet_gives mode p peer (omega arith))

  -- ---- what a list's row returns

  list_also : (a : Result (Unit {0}) ListRefusal) → check_list l ≡ a → Also p l (list_paper a)
  list_also (Ok tt) e = none_returned
  list_also (Err why.DoesNotFit) e = others p l 9 (λ e. omega arith) (λ e. omega arith)
  list_also (Err (why.BadRecord i)) e = Also.of_10 (refusals.list_gives l i e)

  search_also : (o : TcpObservation) (a : Result Searched SearchRefusal) → search_list o l ≡ a → Also p l (search_paper a)
  search_also o (Ok f) e = none_returned
  search_also o (Err (search.List why.DoesNotFit)) e = others p l 9 (λ e. omega arith) (λ e. omega arith)
  search_also o (Err (search.List (why.BadRecord i))) e = Also.of_10 (refusals.search_gives o l i e)
  search_also o (Err search.LayoutTooLong) e = others p l 11 (λ e. omega arith) (λ e. omega arith)

bundle_also : (b : List ℕ) (a : Result (Unit {0}) BundleRefusal) → check_bundle b ≡ a → Also [] (list_of b) (bundle_paper a)
bundle_also b (Ok tt) e = none_returned [] (list_of b)
bundle_also b (Err (bundle.List why.DoesNotFit)) e = others [] (list_of b) 9 (λ e. omega arith) (λ e. omega arith)
bundle_also b (Err (bundle.List (why.BadRecord i))) e = Also.of_10 (refusals.bundle_gives b i e)
bundle_also b (Err bundle.DoesNotFit) e = others [] (list_of b) 12 (λ e. omega arith) (λ e. omega arith)

options_also : (a : Result ParsedTcpOptions OptionsTooLong) → Also [] [] (options_paper a)
options_also (Ok _) = none_returned [] []
options_also (Err _) = others [] [] 8 (λ e. omega arith) (λ e. omega arith)

-- ---- the rows

packet_row
    : (mode : Mode) (p : List ℕ) (peer : Option ℕ) → First (PacketRow mode p) packet_order (answer_paper (read_in mode p peer)).number
packet_row mode p peer = (refusals.packet mode p peer _).0 (packet_same (read_in mode p peer))

list_row : (l : List ℕ) → First (ListRow l) (9 ∷ 10 ∷ []) (list_paper (check_list l)).number
list_row l = (refusals.list l _).0 (list_same (check_list l))

answer_same : (r : Result Reading PacketRefusal) (l : List ℕ) → packet_paper (after_reading r l) ≡ answer_paper r
answer_same (Ok (reading.Opening k o)) l = refl
answer_same (Ok reading.Nothing) l = refl
answer_same (Err why) l = refl

read_same
    : (mode : Mode) (p : List ℕ) (peer : Option ℕ) (l : List ℕ)
    → packet_paper (answer_in mode p peer l) ≡ answer_paper (read_in mode p peer)
unfolding answer_in
read_same mode p peer l = answer_same (read_in mode p peer) l

-- A gateway's rows: its list's, then its packet's.
module _ (mode : Mode) (p l : List ℕ) where
  -- A list is refused by 9 or 10, a packet never.
  abbrev OfList : ℕ → Type 0
  OfList n = (9 ≤ n) × (n ≤ 10)

  list_number_lem : {n : ℕ} → ListRow l n → OfList n
  list_number_lem (ListRow.header h) = (omega arith, omega arith)
  list_number_lem (ListRow.records h) = (omega arith, omega arith)
  list_number_lem (ListRow.entries h) = (omega arith, omega arith)
  list_number_lem (ListRow.bad_record_lem i h bad) = (omega arith, omega arith)

  packet_number_lem : {n : ℕ} → PacketRow mode p n → OfList n → ⊥
  packet_number_lem (PacketRow.no_bytes h) o = let few = o.0 in omega arith
  packet_number_lem (PacketRow.other_version h k) o = let few = o.0 in omega arith
  packet_number_lem (PacketRow.short4 h k) o = let few = o.0 in omega arith
  packet_number_lem (PacketRow.short6 h k) o = let few = o.0 in omega arith
  packet_number_lem (PacketRow.words4 h k) o = let few = o.0 in omega arith
  packet_number_lem (PacketRow.protocol4 h k) o = let few = o.0 in omega arith
  packet_number_lem (PacketRow.protocol6 h k) o = let few = o.0 in omega arith
  packet_number_lem (PacketRow.offset4 h k) o = let few = o.0 in omega arith
  packet_number_lem (PacketRow.more4 h k) o = let few = o.0 in omega arith
  packet_number_lem (PacketRow.tcp4 h k) o = let few = o.0 in omega arith
  packet_number_lem (PacketRow.tcp6 h k) o = let few = o.0 in omega arith
  packet_number_lem (PacketRow.contradicts4 s h k) o = let many = o.1 in omega arith
  packet_number_lem (PacketRow.contradicts6 s h k) o = let many = o.1 in omega arith
  packet_number_lem (PacketRow.flags4 h k) o = let few = o.0 in omega arith
  packet_number_lem (PacketRow.flags6 h k) o = let few = o.0 in omega arith

  of_its_list : {n : ℕ} → OfList n → GatewayRow mode p l n → ListRow l n
  of_its_list h (GatewayRow.of_list_lem r) = r
  of_its_list h (GatewayRow.of_packet_lem r) = absurd (packet_number_lem r h)

  of_its_packet : {n : ℕ} → (OfList n → ⊥) → GatewayRow mode p l n → PacketRow mode p n
  of_its_packet h (GatewayRow.of_list_lem r) = absurd (h (list_number_lem r))
  of_its_packet h (GatewayRow.of_packet_lem r) = r

  abbrev NoneOfList : List ℕ → Type 0
  NoneOfList [] = Unit {0}
  NoneOfList (k ∷ rest) = (OfList k → ⊥) × NoneOfList rest

  below : (k : ℕ) → k < 9 → OfList k → ⊥
  below k h o = let few = o.0 in omega arith

  above : (k : ℕ) → 10 < k → OfList k → ⊥
  above k h o = let many = o.1 in omega arith

  none_of_list : NoneOfList packet_order
  none_of_list = (
    below 1 (omega arith),
    (
      below 2 (omega arith),
      (
        below 3 (omega arith),
        (below 4 (omega arith), (below 5 (omega arith), (below 6 (omega arith), (above 14 (omega arith), (below 7 (omega arith), tt))))),
      ),
    ),
  )

  as_gateway
      : {n : ℕ} (order : List ℕ) → NoneOfList order → First (PacketRow mode p) order n → First (GatewayRow mode p l) order n
  as_gateway [] few First.none = First.none
  as_gateway (k ∷ rest) few (First.here r) = First.here (GatewayRow.of_packet_lem r)
  as_gateway (k ∷ rest) few (First.later d f) = First.later (λ g. d (of_its_packet few.0 g)) (as_gateway rest few.1 f)

  behind_list
      : {n m : ℕ}
      → First (ListRow l) (9 ∷ 10 ∷ []) n
      → n ≡ 0
      → First (GatewayRow mode p l) packet_order m
      → First (GatewayRow mode p l) (9 ∷ 10 ∷ packet_order) m
  behind_list (First.here r) e f = absurd (omega arith)
  behind_list (First.later d (First.here r)) e f = absurd (omega arith)
  behind_list (First.later d (First.later c First.none)) e f =
      First.later (λ g. d (of_its_list (omega arith, omega arith) g)) (First.later (λ g. c (of_its_list (omega arith, omega arith) g)) f)

  in_List
      : {n : ℕ}
      → First (ListRow l) (9 ∷ 10 ∷ []) n
      → 0 < n
      → First (GatewayRow mode p l) (9 ∷ 10 ∷ packet_order) n
  in_List (First.here r) h = First.here (GatewayRow.of_list_lem r)
  in_List (First.later d (First.here r)) h =
      First.later (λ g. d (of_its_list (omega arith, omega arith) g)) (First.here (GatewayRow.of_list_lem r))
  in_List (First.later d (First.later c First.none)) h = absurd (omega arith)

  packet_answer_row : (peer : Option ℕ) → IsRow (PacketRow mode p) packet_order p l (packet_paper (answer_in mode p peer l))
  packet_answer_row peer = rw (read_same mode p peer l) (record { first = packet_row mode p peer; also = packet_also p l mode peer })

  gateway_row : (peer : ℕ) → IsRow (GatewayRow mode p l) (9 ∷ 10 ∷ packet_order) p l (gateway_paper (gateway_in mode p peer l))
  unfolding gateway_in
  gateway_row peer = by_list (check_list l) refl (list_row l)
    where
      by_list
          : (a : Result (Unit {0}) ListRefusal)
          → check_list l ≡ a
          → First (ListRow l) (9 ∷ 10 ∷ []) (list_paper a).number
          → IsRow (GatewayRow mode p l) (9 ∷ 10 ∷ packet_order) p l (gateway_paper (after_list a (answer_in mode p (peer_of peer) l)))
      by_list (Ok tt) e f =
          let row = packet_answer_row (peer_of peer) in
          record { first = behind_list f refl (as_gateway packet_order none_of_list row.first); also = row.also }
      by_list (Err r) e f = record { first = in_List f (numbered (table.List r)).0; also = list_also p l (Err r) e }

-- ---- together

pub the_table : TheTable
the_table value = refl

-- ---- a signature line

line_row : (s : List ℕ) → LinePaper s (line_paper (read_line s))
line_row s = by (read_line s) refl
  where
    by : (a : Result SignatureRead BadLine) → read_line s ≡ a → LinePaper s (line_paper a)
    by (Ok _) e =
        LinePaper.of_0 (λ at r. let q = (refused_exactly s at).1 r in let z : ◌≡◌ {A = ℕ} 0 1 = cc in omega arith)
    by (Err bad) e = LinePaper.of_13 ((refused_exactly s bad.offset).0 e)

pub rows : Rows
rows =
    record {
      ip = ip_row;
      packet = λ mode p peer. record { first = packet_row mode p peer; also = packet_also p [] mode peer };
      options =
          λ s.
          let a = parse_options_raw s in
          record { first = (refusals.options s _).0 (options_same a); also = options_also a };
      header = header_row;
      list = λ l. record { first = list_row l; also = list_also [] l (check_list l) refl };
      search =
          λ o l.
          let a = search_list o l in
          record { first = (refusals.search o l _).0 (search_same a); also = search_also [] l o a refl };
      line = line_row;
      bundle = λ b. record { first = (refusals.bundle b _).0 (bundle_same (check_bundle b)); also = bundle_also b (check_bundle b) refl };
      packet_answer = λ mode p peer l. packet_answer_row mode p l peer;
      gateway = λ mode p peer l. gateway_row mode p l peer;
    }
