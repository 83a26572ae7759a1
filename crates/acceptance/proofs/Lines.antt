-- Every line is read back, so lines that print different things differ; and every word has its letters.
use Rattle.std.specs.Prelude.{Option, Result, Ok, Err}
use mathlib.Core.Path.{◌≡◌, refl, sym, ◌∙◌, ap}
use mathlib.Core.Bool.{Bool, true, false, cond, true≢false}
use mathlib.Core.List.{List, ◌++◌}
use mathlib.Core.Logic.{◌↔◌}
use Prim.Native.Nat.{ℕ, ◌<◌}
use native.Mathlib.Omega.{arith}
use lib.Dec.{eqb}
use lib.ListN.{drop}
use Rattle.basis.specs.Bytes.{byte_at, AllBytes}
use Rattle.refusals.specs.declared.PacketRefusal.{PacketRefusal}
use Rattle.refusals.specs.declared.PacketRefusal.TheVariants as refusal
use Rattle.refusals.specs.declared.ListRefusal.TheVariants as why
use Rattle.refusals.specs.declared.Refusal.TheVariants as table
use Rattle.refusals.specs.Refusals.{packet_number, by_kind, refusal_from, first_numbered, Verdict, number_of}
use Rattle.refusals.proofs.Back.{numbered}
use Rattle.found.specs.declared.Found.{Found}
use Rattle.found.specs.declared.Found.TheVariants as found
use Rattle.packet_answer.specs.declared.PacketAnswer.{PacketAnswer}
use Rattle.packet_answer.specs.declared.PacketAnswer.TheVariants as packet
use Rattle.flow.specs.declared.Mode.{Mode}
use Rattle.flow.specs.declared.Kind.TheVariants as kind
use Rattle.packet_answer.specs.Packet.{answer_in}
use Rattle.bundle.specs.declared.BundleRefusal.{BundleRefusal}
use Rattle.bundle.specs.declared.BundleRefusal.TheVariants as check
use Rattle.bundle.specs.Bundle.{bundle_verdict, bundle_refusal}
use Rattle.gateway.proofs.Room.{FoundFits, PacketFits}
use Rattle.gateway.proofs.Fits.{packet_fits_lem}
use Rattle.text.specs.Decimal.{width, decimal, newline}
use Rattle.text.proofs.Decimal.{digits_read, read_back}
use Rattle.report.specs.Text.{refused_word, nothing_word, syn_word, synack_word, none_word, exact_word, fuzzy_word, found_text}
use Rattle.report.specs.Text.{answer_text, line_of}
use Rattle.report.specs.Text.{head_line, refused_line}
use Rattle.acceptance.specs.Lines.{PrintedFound, Printed, printed_found, printed, TwoBytes, LabelFits, Words, Lines}

-- ---- a line, read back

read_decimal : (n : ℕ) → n < 65536 → digits_read 0 (decimal n ++ newline) ≡ n
read_decimal n h = read_back n (omega arith)

read_found : List ℕ → PrintedFound
read_found s =
    cond (eqb (byte_at s 0) 101) (PrintedFound.exact (digits_read 0 (drop 6 s)))
    (cond (eqb (byte_at s 0) 102) (PrintedFound.fuzzy (digits_read 0 (drop 6 s))) PrintedFound.none)

read_line : List ℕ → Printed
read_line s =
    cond (eqb (byte_at s 3) 32) (Printed.syn (read_found (drop 4 s)))
    (cond (eqb (byte_at s 3) 97) (Printed.synack (read_found (drop 7 s)))
    (cond (eqb (byte_at s 3) 104) Printed.nothing (Printed.refused (digits_read 0 (drop 8 s)))))

read_found_lem : (f : Found) → TwoBytes f → read_found (found_text f ++ newline) ≡ printed_found f
unfolding found_text read_found
read_found_lem (found.Exact hit) h = ap PrintedFound.exact (read_decimal hit.label h)
read_found_lem (found.Fuzzy hit reason) h = ap PrintedFound.fuzzy (read_decimal hit.label h)
read_found_lem found.None h = refl

read_line_lem : (a : Result PacketAnswer PacketRefusal) → LabelFits a → read_line (line_of a) ≡ printed a
unfolding line_of answer_text read_line
read_line_lem (Ok (packet.Opening kind.Syn s)) h = ap Printed.syn (read_found_lem s.found h)
read_line_lem (Ok (packet.Opening kind.SynAck s)) h = ap Printed.synack (read_found_lem s.found h)
read_line_lem (Ok packet.Nothing) h = refl
read_line_lem (Err r) h =
    ap Printed.refused (read_decimal (packet_number r) (let few = (numbered (table.Packet r)).1 in omega arith))

-- ---- the line of what is printed

found_printed : PrintedFound → List ℕ
found_printed (PrintedFound.exact n) = exact_word ++ decimal n
found_printed (PrintedFound.fuzzy n) = fuzzy_word ++ decimal n
found_printed PrintedFound.none = none_word

line_printed : Printed → List ℕ
line_printed (Printed.syn f) = syn_word ++ found_printed f ++ newline
line_printed (Printed.synack f) = synack_word ++ found_printed f ++ newline
line_printed Printed.nothing = nothing_word ++ newline
line_printed (Printed.refused n) = refused_word ++ decimal n ++ newline

found_printed_lem : (f : Found) → found_text f ≡ found_printed (printed_found f)
unfolding found_text found_printed
found_printed_lem (found.Exact hit) = refl
found_printed_lem (found.Fuzzy hit reason) = refl
found_printed_lem found.None = refl

line_printed_lem : (a : Result PacketAnswer PacketRefusal) → line_of a ≡ line_printed (printed a)
unfolding line_of answer_text line_printed
line_printed_lem (Ok (packet.Opening kind.Syn s)) = rw (found_printed_lem s.found)
line_printed_lem (Ok (packet.Opening kind.SynAck s)) = rw (found_printed_lem s.found)
line_printed_lem (Ok packet.Nothing) = refl
line_printed_lem (Err r) = refl

told : (a b : Result PacketAnswer PacketRefusal) → LabelFits a → LabelFits b → (line_of a ≡ line_of b) ↔ (printed a ≡ printed b)
told a b ha hb = (
  λ e. sym (read_line_lem a ha) ∙ ap read_line e ∙ read_line_lem b hb,
  λ e. line_printed_lem a ∙ ap line_printed e ∙ sym (line_printed_lem b),
)

-- The labels of what fits a struct fit.
found_fits : (f : Found) → FoundFits f → TwoBytes f
found_fits (found.Exact hit) h = h.0
found_fits (found.Fuzzy hit reason) h = h.0.0
found_fits found.None h = tt

label_fits : (a : Result PacketAnswer PacketRefusal) → PacketFits a → LabelFits a
label_fits (Ok (packet.Opening kind.Syn s)) h = found_fits s.found h.0
label_fits (Ok (packet.Opening kind.SynAck s)) h = found_fits s.found h.0
label_fits (Ok packet.Nothing) h = tt
label_fits (Err r) h = tt

answer_label
    : (mode : Mode) (p : List ℕ) (peer : Option ℕ) (l : List ℕ) → AllBytes p → AllBytes l → LabelFits (answer_in mode p peer l)
answer_label mode p peer l hp hl = label_fits (answer_in mode p peer l) (packet_fits_lem mode p peer l hp hl)

-- ---- the lines that are no packet's

-- The number behind a word of eight letters.
behind : List ℕ → ℕ
behind s = digits_read 0 (drop 8 s)

head_read : (n : ℕ) → n < 65536 → behind (head_line n) ≡ n
unfolding head_line behind
head_read n h = read_decimal n h

refused_read : (n : ℕ) → n < 65536 → behind (refused_line n) ≡ n
unfolding refused_line behind
refused_read n h = read_decimal n h

no_packets_line : (a : Result PacketAnswer PacketRefusal) (n : ℕ) → line_of a ≡ head_line n → ⊥
unfolding line_of answer_text head_line
no_packets_line (Ok (packet.Opening kind.Syn f)) n e = let z = ap (λ (s : List ℕ). byte_at s 0) e in omega arith
no_packets_line (Ok (packet.Opening kind.SynAck f)) n e = let z = ap (λ (s : List ℕ). byte_at s 0) e in omega arith
no_packets_line (Ok packet.Nothing) n e = let z = ap (λ (s : List ℕ). byte_at s 0) e in omega arith
no_packets_line (Err r) n e = let z = ap (λ (s : List ℕ). byte_at s 0) e in omega arith

no_count : (m n : ℕ) → head_line m ≡ refused_line n → ⊥
unfolding head_line refused_line
no_count m n e = let z = ap (λ (s : List ℕ). byte_at s 0) e in omega arith

verdict_small : (v : Verdict) → number_of v < 65536
verdict_small Verdict.accepted = omega arith
verdict_small (Verdict.refused r) = let small = (numbered r).1 in omega arith

bundle_small : (c : Result (Unit {0}) BundleRefusal) → bundle_refusal c < 65536
unfolding bundle_refusal
bundle_small c = verdict_small (bundle_verdict c)

-- The numbers of packets' refusals are no other's.
abbrev of_packet : ℕ → Bool
of_packet n = by_kind (λ r. true) (λ r. false) false (refusal_from n 0)

packets_own : (r : PacketRefusal) → of_packet (packet_number r) ≡ true
unfolding refusal_from first_numbered
packets_own refusal.Version = refl
packets_own refusal.TooShort = refl
packets_own refusal.HeaderLength = refl
packets_own refusal.UnsupportedProtocol = refl
packets_own refusal.Fragment = refl
packets_own refusal.TcpTooShort = refl
packets_own (refusal.InvalidTcpFlags byte) = refl
packets_own refusal.DataOffset = refl
packets_own refusal.ExtensionHeaders = refl

no_packets : (c : Result (Unit {0}) BundleRefusal) → 0 < bundle_refusal c → of_packet (bundle_refusal c) ≡ false
unfolding bundle_refusal refusal_from first_numbered
no_packets (Ok tt) h = absurd (omega arith)
no_packets (Err check.DoesNotFit) h = refl
no_packets (Err (check.List why.DoesNotFit)) h = refl
no_packets (Err (check.List (why.BadRecord i))) h = refl

packet_or_bundle
    : (a : Result PacketAnswer PacketRefusal) (c : Result (Unit {0}) BundleRefusal)
    → 0 < bundle_refusal c
    → line_of a ≡ refused_line (bundle_refusal c)
    → ⊥
unfolding line_of answer_text refused_line
packet_or_bundle (Ok (packet.Opening kind.Syn f)) c h e = let z = ap (λ (s : List ℕ). byte_at s 0) e in omega arith
packet_or_bundle (Ok (packet.Opening kind.SynAck f)) c h e = let z = ap (λ (s : List ℕ). byte_at s 0) e in omega arith
packet_or_bundle (Ok packet.Nothing) c h e = let z = ap (λ (s : List ℕ). byte_at s 0) e in omega arith
packet_or_bundle (Err r) c h e =
    let small = (numbered (table.Packet r)).1 in
    let same = sym (refused_read (packet_number r) (omega arith)) ∙ ap behind e ∙ refused_read (bundle_refusal c) (bundle_small c) in
    true≢false (sym (packets_own r) ∙ ap of_packet same ∙ no_packets c h)

all_words : Words
unfolding line_of answer_text found_text head_line refused_line decimal width
all_words =
    record {
      packets_0 = refl;
      packets_16383 = refl;
      syn_exact = λ n k g. refl;
      syn_fuzzy = λ n k g reason. refl;
      syn_none_lem = λ k. refl;
      synack_exact = λ n k g. refl;
      synack_fuzzy = λ n k g reason. refl;
      synack_none = λ k. refl;
      nothing = refl;
      refused_1 = refl;
      refused_2 = refl;
      refused_3 = refl;
      refused_4 = refl;
      refused_5 = refl;
      refused_6 = refl;
      refused_7 = λ flags. refl;
      refused_14 = refl;
      refused_9 = refl;
      refused_10 = refl;
      refused_12 = refl;
    }

pub lines : Lines
lines =
    record {
      lines = told;
      answers =
          λ a b p q m n l k hp hq hl hk.
          told (answer_in a p m l) (answer_in b q n k) (answer_label a p m l hp hl) (answer_label b q n k hq hk);
      counts = λ m n hm hn e. sym (head_read m hm) ∙ ap behind e ∙ head_read n hn;
      no_packets_line = no_packets_line;
      no_count = no_count;
      bundles =
          λ c d e.
          sym (refused_read (bundle_refusal c) (bundle_small c)) ∙ ap behind e ∙ refused_read (bundle_refusal d) (bundle_small d);
      packet_or_bundle = packet_or_bundle;
      words = all_words;
    }
