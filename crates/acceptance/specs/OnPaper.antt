-- "If an answer is an enum, the promises use a definition that gives this paper's number and values for each of its cases" (document 01,
-- last paragraph): of each answer type that refuses one definition, read off the table of the crate `refusals`, and what ties it to the
-- functions' answers.
-- `OnPaper` is the statement.
use Rattle.std.specs.Prelude.{◌≡◌, List, [], ◌∷◌, ℕ, ◌<◌, Option, Result}
use Rattle.basis.specs.Bytes.{AllBytes}
use Rattle.observable.specs.declared.TcpObservation.{TcpObservation}
use Rattle.refusals.specs.declared.Refusal.{Refusal}
use Rattle.refusals.specs.Refusals.{Returned, value_of, every_refusal, Verdict, number_of, returned_by}
use Rattle.ip.specs.declared.IpFacts.{IpFacts}
use Rattle.refusals.specs.declared.PacketRefusal.{PacketRefusal}
use Rattle.ip.specs.Ip.{read_ip, ip_verdict}
use Rattle.flow.specs.declared.Reading.{Reading}
use Rattle.flow.specs.declared.Mode.{Mode}
use Rattle.flow.specs.Modes.{plain_mode, read_in}
use Rattle.flow.specs.Reading.{answer_verdict}
use Rattle.syn_options.specs.declared.ParsedTcpOptions.{ParsedTcpOptions}
use Rattle.refusals.specs.declared.OptionsTooLong.{OptionsTooLong}
use Rattle.syn_options.specs.Walk.{parse_options_raw, options_verdict}
use Rattle.siglist.specs.declared.Areas.{Areas}
use Rattle.refusals.specs.declared.ListRefusal.{ListRefusal}
use Rattle.siglist.specs.List.{header_of, check_list, header_verdict, list_verdict}
use Rattle.signature_line.specs.declared.BadLine.{BadLine}
use Rattle.signature_line.specs.declared.SignatureRead.{SignatureRead}
use Rattle.signature_line.specs.Line.{LineRefused}
use Rattle.signature_line.specs.Answer.{line_verdict}
use Rattle.signature_line.specs.LineReader.{read_line}
use Rattle.written_line.specs.Writing.{wrote_verdict}
use Rattle.found.specs.declared.Searched.{Searched}
use Rattle.search.specs.declared.SearchRefusal.{SearchRefusal}
use Rattle.search.specs.Search.{search_list, search_verdict}
use Rattle.packet_answer.specs.declared.PacketAnswer.{PacketAnswer}
use Rattle.packet_answer.specs.Packet.{answer_in, packet_verdict}
use Rattle.bundle.specs.declared.BundleRefusal.{BundleRefusal}
use Rattle.bundle.specs.Bundle.{list_of, check_bundle, bundle_verdict}
use Rattle.gateway.specs.declared.TermreadResult.{TermreadResult}
use Rattle.gateway.specs.Parts.{GatewayAnswer, refused, gateway_in, gateway_verdict}
use Rattle.acceptance.specs.Honesty.{struct_at, checked_answer, checked_struct, list_struct}
use Rattle.acceptance.specs.Refusals.{First, PacketRow, packet_order, FlagsByte, OptionsRow, FirstBad, ListRow, SearchRow, BundleRow}

-- ---- the paper's number and values

-- An answer as the table has it: its number (0 is no refusal) and the column "Also returns".
pub record Paper : Type 0 where
  pub number : ℕ
  pub also : Returned

abbrev pub alone : ℕ → Paper
alone n = record { number = n; also = Returned.nothing }

-- Each answer type says which refusal an answer is, if any; the crate `refusals` has the number of each, and what it returns.
abbrev pub paper_of : Verdict → Paper
paper_of v = record { number = number_of v; also = returned_by v }

abbrev pub refusal_paper : Refusal → Paper
refusal_paper r = paper_of (Verdict.refused r)

-- `read_ip`'s answer.
abbrev pub ip_paper : Result IpFacts PacketRefusal → Paper
ip_paper a = paper_of (ip_verdict a)

-- `read_packet`'s answer, and `read_packet_in`'s.
abbrev pub answer_paper : Result Reading PacketRefusal → Paper
answer_paper a = paper_of (answer_verdict a)

-- A packet's line in a bundle.
abbrev pub packet_paper : Result PacketAnswer PacketRefusal → Paper
packet_paper a = paper_of (packet_verdict a)

abbrev pub options_paper : Result ParsedTcpOptions OptionsTooLong → Paper
options_paper a = paper_of (options_verdict a)

-- `read_header`'s answer, and `check_list`'s.
abbrev pub header_paper : Option Areas → Paper
header_paper a = paper_of (header_verdict a)

abbrev pub list_paper : Result (Unit {0}) ListRefusal → Paper
list_paper a = paper_of (list_verdict a)

-- `parse_tcp_signature`'s answer.
abbrev pub line_paper : Result SignatureRead BadLine → Paper
line_paper a = paper_of (line_verdict a)

-- `write_observation`'s and `write_record`'s answer.
abbrev pub wrote_paper : Result ℕ Refusal → Paper
wrote_paper a = paper_of (wrote_verdict a)

abbrev pub search_paper : Result Searched SearchRefusal → Paper
search_paper a = paper_of (search_verdict a)

abbrev pub bundle_paper : Result (Unit {0}) BundleRefusal → Paper
bundle_paper a = paper_of (bundle_verdict a)

abbrev pub gateway_paper : GatewayAnswer → Paper
gateway_paper a = paper_of (gateway_verdict a)

-- ---- what a row returns

-- Of a packet and a list: 7 the packet's flags byte, 10 the index of the list's first bad record, every other number nothing. Where an
-- input has no packet or no list, it is the empty one, which has neither flags nor records.
pub data Also (p l : List ℕ) : Paper → Type 0 where
  of_7 : {byte : ℕ} → FlagsByte p byte → Also p l (record { number = 7; also = Returned.flags byte })
  of_10 : {i : ℕ} → FirstBad l i → Also p l (record { number = 10; also = Returned.index i })
  of_others : {n : ℕ} → (n ≡ 7 → ⊥) → (n ≡ 10 → ⊥) → Also p l (alone n)

-- The number is that of the first row that holds, in the order of test, and what is returned is what that row names.
pub record IsRow (Row : ℕ → Type 0) (order p l : List ℕ) (x : Paper) : Type 0 where
  pub first : First Row order x.number
  pub also : Also p l x

-- A signature line is read, or meets 13, which returns the offset.
pub data LinePaper (s : List ℕ) : Paper → Type 0 where
  of_0 : ((at : ℕ) → LineRefused s at → ⊥) → LinePaper s (alone 0)
  of_13 : {at : ℕ} → LineRefused s at → LinePaper s (record { number = 13; also = Returned.offset at })

-- A gateway's list is refused before its packet is read, as a bundle's is.
pub data GatewayRow (mode : Mode) (p l : List ℕ) : ℕ → Type 0 where
  of_list_lem : {n : ℕ} → ListRow l n → GatewayRow mode p l n
  of_packet_lem : {n : ℕ} → PacketRow mode p n → GatewayRow mode p l n

-- ---- the struct of include/termread.h

-- Outcome 5, the refusal's number, and what it returns; all else is 0.
abbrev pub refused_struct : Paper → TermreadResult
refused_struct x = refused x.number (value_of x.also)

-- ---- the statement

-- The answers of the functions, on any input.
pub record Rows : Type 0 where
  -- the IP stage: 1 to 6
  pub ip : (p : List ℕ) → IsRow (PacketRow plain_mode p) (1 ∷ 2 ∷ 3 ∷ 4 ∷ 5 ∷ 6 ∷ []) p [] (ip_paper (read_ip p))
  pub packet
      : (mode : Mode) (p : List ℕ) (peer : Option ℕ)
      → IsRow (PacketRow mode p) packet_order p [] (answer_paper (read_in mode p peer))
  pub options : (s : List ℕ) → IsRow (OptionsRow s) (8 ∷ []) [] [] (options_paper (parse_options_raw s))
  -- a list's header: 9 alone
  pub header : (l : List ℕ) → IsRow (ListRow l) (9 ∷ []) [] l (header_paper (header_of l))
  pub list : (l : List ℕ) → IsRow (ListRow l) (9 ∷ 10 ∷ []) [] l (list_paper (check_list l))
  pub search : (o : TcpObservation) (l : List ℕ) → IsRow (SearchRow o l) (11 ∷ 9 ∷ 10 ∷ []) [] l (search_paper (search_list o l))
  pub line : (s : List ℕ) → LinePaper s (line_paper (read_line s))
  pub bundle : (b : List ℕ) → IsRow (BundleRow b) (12 ∷ 9 ∷ 10 ∷ []) [] (list_of b) (bundle_paper (check_bundle b))
  pub packet_answer
      : (mode : Mode) (p : List ℕ) (peer : Option ℕ) (l : List ℕ)
      → IsRow (PacketRow mode p) packet_order p l (packet_paper (answer_in mode p peer l))
  pub gateway
      : (mode : Mode) (p : List ℕ) (peer : ℕ) (l : List ℕ)
      → IsRow (GatewayRow mode p l) (9 ∷ 10 ∷ packet_order) p l (gateway_paper (gateway_in mode p peer l))

-- The table of both documents as it stands on paper: the refusals by name, as `every_refusal` lists them, have these numbers and return
-- this.
abbrev pub papers_of : List Refusal → List Paper
papers_of [] = []
papers_of (r ∷ rest) = refusal_paper r ∷ papers_of rest

abbrev pub TheTable : Type 0
TheTable =
    (value : ℕ)
    → papers_of (every_refusal value)
    ≡ alone 1
    ∷ alone 2
    ∷ alone 3
    ∷ alone 4
    ∷ alone 5
    ∷ alone 6
    ∷ record { number = 7; also = Returned.flags value }
    ∷ alone 8
    ∷ alone 9
    ∷ record { number = 10; also = Returned.index value }
    ∷ alone 11
    ∷ alone 12
    ∷ record { number = 13; also = Returned.offset value }
    ∷ alone 14
    ∷ alone 15
    ∷ alone 16
    ∷ alone 17
    ∷ alone 18
    ∷ alone 19
    ∷ alone 20
    ∷ alone 21
    ∷ alone 22
    ∷ alone 23
    ∷ alone 24
    ∷ alone 25
    ∷ []

-- A gateway gets a refusal by its number and its value.
pub record Structs : Type 0 where
  pub answer
      : (mode : Mode) (p : List ℕ) (peer : ℕ) (l : List ℕ)
      → AllBytes l
      → 0 < (gateway_paper (gateway_in mode p peer l)).number
      → struct_at mode p peer l ≡ refused_struct (gateway_paper (gateway_in mode p peer l))
  pub checked
      : (mode : Mode) (p : List ℕ) (peer : ℕ) (l : List ℕ)
      → 0 < (packet_paper (checked_answer mode p peer l)).number
      → checked_struct mode p peer l ≡ refused_struct (packet_paper (checked_answer mode p peer l))
  pub list
      : (l : List ℕ)
      → AllBytes l
      → 0 < (list_paper (check_list l)).number
      → list_struct l ≡ refused_struct (list_paper (check_list l))

-- Nothing of a refusal is lost on paper.
abbrev pub ToldApart : {A : Type 0} → (A → Paper) → Type 0
ToldApart {A} paper = (a b : A) → 0 < (paper a).number → paper a ≡ paper b → a ≡ b

pub record Told : Type 0 where
  pub refusal : ToldApart refusal_paper
  pub ip : ToldApart ip_paper
  pub packet : ToldApart answer_paper
  pub options : ToldApart options_paper
  pub header : ToldApart header_paper
  pub list : ToldApart list_paper
  pub line : ToldApart line_paper
  pub wrote : ToldApart wrote_paper
  pub search : ToldApart search_paper
  pub bundle : ToldApart bundle_paper
  pub packet_answer : ToldApart packet_paper
  pub gateway : ToldApart gateway_paper

pub record OnPaper : Type 0 where
  pub rows : Rows
  pub table : TheTable
  pub structs : Structs
  pub told : Told
