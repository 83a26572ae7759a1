-- "Exact, fuzzy and none stay three answers", for who reads the output: what a line prints of an answer, that lines which print different
-- things differ, and every word of the output. `Lines` is the statement.
use Rattle.std.specs.Prelude.{◌≡◌, Bool, List, ◌↔◌, ℕ, ◌<◌, Option, Result, Ok, Err}
use Rattle.basis.specs.Bytes.{AllBytes}
use Rattle.basis.specs.Ascii.{ascii}
use Rattle.refusals.specs.declared.PacketRefusal.TheVariants as refusal
use Rattle.refusals.specs.Refusals.{packet_number}
use Rattle.matching.specs.declared.FuzzyReason.{FuzzyReason}
use Rattle.found.specs.declared.Found.{Found}
use Rattle.found.specs.declared.Found.TheVariants as found
use Rattle.found.specs.declared.Searched.{Searched}
use Rattle.flow.specs.declared.Mode.{Mode}
use Rattle.flow.specs.declared.Kind.TheVariants as kind
use Rattle.refusals.specs.declared.PacketRefusal.{PacketRefusal}
use Rattle.packet_answer.specs.declared.PacketAnswer.{PacketAnswer}
use Rattle.packet_answer.specs.declared.PacketAnswer.TheVariants as packet
use Rattle.packet_answer.specs.Packet.{answer_in}
use Rattle.bundle.specs.declared.BundleRefusal.{BundleRefusal}
use Rattle.bundle.specs.Bundle.{bundle_refusal}
use Rattle.report.specs.Text.{line_of, head_line, refused_line}

-- ---- what a line prints

-- "syn exact 7", "syn fuzzy 7", "syn none": the endings of a line.
pub data PrintedFound : Type 0 where
  exact : ℕ → PrintedFound
  fuzzy : ℕ → PrintedFound
  none : PrintedFound

-- "`syn none`, `synack` with the same endings, `nothing`, `refused 1` to `refused 7`": the lines.
pub data Printed : Type 0 where
  syn : PrintedFound → Printed
  synack : PrintedFound → Printed
  nothing : Printed
  refused : ℕ → Printed

-- Exact, fuzzy or none, with the record's label; its number in the list, the reason of a fuzzy answer and how many records were examined
-- are not printed.
abbrev pub printed_found : Found → PrintedFound
printed_found (found.Exact hit) = PrintedFound.exact hit.label
printed_found (found.Fuzzy hit reason) = PrintedFound.fuzzy hit.label
printed_found found.None = PrintedFound.none

-- SYN or SYN+ACK with what was found, nothing, or a refusal by its number; the flags byte of refusal 7 is not printed.
abbrev pub printed : Result PacketAnswer PacketRefusal → Printed
printed (Ok (packet.Opening kind.Syn s)) = Printed.syn (printed_found s.found)
printed (Ok (packet.Opening kind.SynAck s)) = Printed.synack (printed_found s.found)
printed (Ok packet.Nothing) = Printed.nothing
printed (Err r) = Printed.refused (packet_number r)

-- "22 label (two)": a label is a number of two bytes.
abbrev pub TwoBytes : Found → Type 0
TwoBytes (found.Exact hit) = hit.label < 65536
TwoBytes (found.Fuzzy hit reason) = hit.label < 65536
TwoBytes found.None = Unit {0}

abbrev pub LabelFits : Result PacketAnswer PacketRefusal → Type 0
LabelFits (Ok (packet.Opening kind.Syn s)) = TwoBytes s.found
LabelFits (Ok (packet.Opening kind.SynAck s)) = TwoBytes s.found
LabelFits (Ok packet.Nothing) = Unit {0}
LabelFits (Err r) = Unit {0}

-- ---- the words

-- This, found in record n of a list, specific or generic, after k records.
abbrev pub exactly : ℕ → ℕ → Bool → ℕ → Searched
exactly label n generic k = record { found = found.Exact (record { label = label; number = n; generic = generic }); examined = k }

abbrev pub fuzzily : ℕ → ℕ → Bool → FuzzyReason → ℕ → Searched
fuzzily label n generic reason k =
    record { found = found.Fuzzy (record { label = label; number = n; generic = generic }) reason; examined = k }

abbrev pub none_after : ℕ → Searched
none_after k = record { found = found.None; examined = k }

-- "`packets N`, then a line each", "`refused N`", "`syn none`, `synack` with the same endings, `nothing`, `refused 1` to `refused 7`":
-- every word, with numbers of one digit to five; whichever record of the list was found, of either kind, after however many.
pub record Words : Type 0 where
  pub packets_0 : head_line 0 ≡ ascii "packets 0\n"
  pub packets_16383 : head_line 16383 ≡ ascii "packets 16383\n"
  pub syn_exact : (n k : ℕ) (g : Bool) → line_of (Ok (packet.Opening kind.Syn (exactly 7 n g k))) ≡ ascii "syn exact 7\n"
  pub syn_fuzzy
      : (n k : ℕ) (g : Bool) (reason : FuzzyReason)
      → line_of (Ok (packet.Opening kind.Syn (fuzzily 10254 n g reason k))) ≡ ascii "syn fuzzy 10254\n"
  pub syn_none_lem : (k : ℕ) → line_of (Ok (packet.Opening kind.Syn (none_after k))) ≡ ascii "syn none\n"
  pub synack_exact : (n k : ℕ) (g : Bool) → line_of (Ok (packet.Opening kind.SynAck (exactly 0 n g k))) ≡ ascii "synack exact 0\n"
  pub synack_fuzzy
      : (n k : ℕ) (g : Bool) (reason : FuzzyReason)
      → line_of (Ok (packet.Opening kind.SynAck (fuzzily 65535 n g reason k))) ≡ ascii "synack fuzzy 65535\n"
  pub synack_none : (k : ℕ) → line_of (Ok (packet.Opening kind.SynAck (none_after k))) ≡ ascii "synack none\n"
  pub nothing : line_of (Ok packet.Nothing) ≡ ascii "nothing\n"
  pub refused_1 : line_of (Err refusal.Version) ≡ ascii "refused 1\n"
  pub refused_2 : line_of (Err refusal.TooShort) ≡ ascii "refused 2\n"
  pub refused_3 : line_of (Err refusal.HeaderLength) ≡ ascii "refused 3\n"
  pub refused_4 : line_of (Err refusal.UnsupportedProtocol) ≡ ascii "refused 4\n"
  pub refused_5 : line_of (Err refusal.Fragment) ≡ ascii "refused 5\n"
  pub refused_6 : line_of (Err refusal.TcpTooShort) ≡ ascii "refused 6\n"
  pub refused_7 : (flags : ℕ) → line_of (Err (refusal.InvalidTcpFlags flags)) ≡ ascii "refused 7\n"
  pub refused_14 : line_of (Err refusal.DataOffset) ≡ ascii "refused 14\n"
  pub refused_9 : refused_line 9 ≡ ascii "refused 9\n"
  pub refused_10 : refused_line 10 ≡ ascii "refused 10\n"
  pub refused_12 : refused_line 12 ≡ ascii "refused 12\n"

-- ---- the statement

pub record Lines : Type 0 where
  -- Two packets have the same line exactly when the same is printed of both.
  pub lines : (a b : Result PacketAnswer PacketRefusal) → LabelFits a → LabelFits b → (line_of a ≡ line_of b) ↔ (printed a ≡ printed b)
  -- So of any two packets, each with its mode, peer and list: the answers of byte strings have labels of two bytes.
  pub answers
      : (a b : Mode) (p q : List ℕ) (m n : Option ℕ) (l k : List ℕ)
      → AllBytes p
      → AllBytes q
      → AllBytes l
      → AllBytes k
      → (line_of (answer_in a p m l) ≡ line_of (answer_in b q n k)) ↔ (printed (answer_in a p m l) ≡ printed (answer_in b q n k))
  -- The first line tells the count; it is no packet's line, and no refusal of a bundle or a list.
  pub counts : (m n : ℕ) → m < 65536 → n < 65536 → head_line m ≡ head_line n → m ≡ n
  pub no_packets_line : (a : Result PacketAnswer PacketRefusal) (n : ℕ) → line_of a ≡ head_line n → ⊥
  pub no_count : (m n : ℕ) → head_line m ≡ refused_line n → ⊥
  -- The line of a bundle that is refused tells its number, and is no packet's line: 9, 10 and 12 are no packet's refusals.
  pub bundles : (c d : Result (Unit {0}) BundleRefusal) → refused_line (bundle_refusal c) ≡ refused_line (bundle_refusal d)
      → bundle_refusal c ≡ bundle_refusal d
  pub packet_or_bundle
      : (a : Result PacketAnswer PacketRefusal) (c : Result (Unit {0}) BundleRefusal)
      → 0 < bundle_refusal c
      → line_of a ≡ refused_line (bundle_refusal c)
      → ⊥
  pub words : Words
