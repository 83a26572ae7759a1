-- A packet is refused by the first row of the table that holds, and by none where none does, in every mode.
use Rattle.std.specs.Prelude.{Option, Result, Err}
use mathlib.Core.Path.{◌≡◌, refl, ◌∙◌, ap}
use mathlib.Core.Bool.{Bool, true, false, cond, not, ◌&&◌, ◌||◌}
use mathlib.Core.List.{List, [], ◌∷◌}
use Prim.Native.Nat.{ℕ}
use lib.Dec.{eqb, ltb}
use lib.ListN.{length}
use Rattle.basis.specs.Bytes.{part}
use Rattle.rfc.specs.Rfc791 as v4
use Rattle.rfc.specs.Rfc8200 as v6
use Rattle.rfc.specs.Rfc9293.{control}
use Rattle.observable.specs.declared.TcpObservation.{TcpObservation}
use Rattle.ip.specs.declared.IpFacts.{IpFacts}
use Rattle.flow.specs.declared.Mode.{Mode}
use Rattle.flow.specs.declared.Reading.{Reading}
use Rattle.refusals.specs.declared.PacketRefusal.{PacketRefusal}
use Rattle.refusals.specs.declared.PacketRefusal.TheVariants as refusal
use Rattle.tcp_header.specs.Flags.{flags_invalid, is_syn_type, is_syn_ack_type}
use Rattle.ip.specs.Ip.{ipv4_facts, read_ipv4, ipv6_facts, read_ipv6, read_ip}
use Rattle.flow.specs.Strict.{contradicts_itself, read_tcp_by}
use Rattle.flow.specs.Modes.{tcp_stage, observation_in, read_in}
use Rattle.refusals.specs.Refusals.{packet_number}
use Rattle.flow.specs.Reading.{after_ip, refusal_of}
use Rattle.flow.proofs.Stage.{stage_by}

-- ---- the table's rows, as tests

abbrev of_version4 : List ℕ → Bool
of_version4 p = eqb (v4.version p) 4

abbrev of_version6 : List ℕ → Bool
of_version6 p = eqb (v4.version p) 6

-- The rows in their order, which acceptance/specs/Refusals.antt states as facts: of an empty packet or not, of version 4 or not, of
-- version 6 or not. The last but one is 14, of the strict mode alone.
abbrev rows_of_part : Mode → List ℕ → List Bool
rows_of_part mode t = ltb (length t) 20 ∷ (mode.strict && contradicts_itself t) ∷ flags_invalid (control t) ∷ []

abbrev rows_by : Mode → Bool → Bool → Bool → List ℕ → List Bool
rows_by mode none four six p =
    (none || not (four || six))
    ∷ cond four (ltb (length p) 20) (ltb (length p) 40)
    ∷ (four && ltb (v4.ihl p) 5)
    ∷ not (eqb (cond four (v4.protocol p) (v6.next_header p)) 6)
    ∷ (four && (ltb 0 (v4.fragment_offset p) || eqb (v4.more_fragments p) 1))
    ∷ rows_of_part mode (cond four (part (v4.data_start p) (v4.data_end p) p) (v6.payload p))

unfoldable pub rows : Mode → List ℕ → List Bool
rows mode p = rows_by mode (eqb (length p) 0) (of_version4 p) (of_version6 p) p

-- Their numbers.
abbrev pub row_numbers : List ℕ
row_numbers = 1 ∷ 2 ∷ 3 ∷ 4 ∷ 5 ∷ 6 ∷ 14 ∷ 7 ∷ []

-- The number of the first row that holds; 0 if none does.
unfoldable pub first_row : List ℕ → List Bool → ℕ
first_row [] held = 0
first_row (n ∷ numbers) [] = 0
first_row (n ∷ numbers) (row ∷ rest) = cond row n (first_row numbers rest)

-- ---- the number is that of the first

either
    : (t : Bool) (a b : Result Reading PacketRefusal) (m n : ℕ)
    → refusal_of a ≡ m
    → refusal_of b ≡ n
    → refusal_of (cond t a b) ≡ cond t m n
either true a b m n x y = x
either false a b m n x y = y

no_refusal : (syn ack : Bool) → ◌≡◌ {A = ℕ} (cond syn 0 (cond ack 0 0)) 0
no_refusal true ack = refl
no_refusal false true = refl
no_refusal false false = refl

-- Whatever it observes, the TCP stage refuses by the flags alone.
by_flags
    : (observe : Bool → Option ℕ → TcpObservation) (t : List ℕ) (peer : Option ℕ)
    → refusal_of (read_tcp_by observe t peer) ≡ cond (flags_invalid (control t)) 7 0
unfolding read_tcp_by refusal_of
by_flags observe t peer =
    either (flags_invalid (control t)) _ _ 7 (cond (is_syn_type (control t)) 0 (cond (is_syn_ack_type (control t)) 0 0)) refl
    (either (is_syn_type (control t)) _ _ 0 (cond (is_syn_ack_type (control t)) 0 0) refl
    (either (is_syn_ack_type (control t)) _ _ 0 0 refl refl))
    ∙ ap (cond (flags_invalid (control t)) 7) (no_refusal (is_syn_type (control t)) (is_syn_ack_type (control t)))

-- In any mode by the data offset before them.
pub by_header
    : (mode : Mode) (f : IpFacts) (t : List ℕ) (peer : Option ℕ)
    → refusal_of (tcp_stage mode f t peer)
    ≡ cond (mode.strict && contradicts_itself t) 14 (cond (flags_invalid (control t)) 7 0)
unfolding refusal_of
by_header mode f t peer =
    rw (stage_by mode f t peer)
    (either (mode.strict && contradicts_itself t) _ _ 14 (cond (flags_invalid (control t)) 7 0) refl
    (by_flags (observation_in mode f t) t peer))

module _ (mode : Mode) (p : List ℕ) (peer : Option ℕ) where
  -- What the IP stage gives leads to a refusal of this number.
  record Numbered (r : Result IpFacts PacketRefusal) (n : ℕ) : Type 0 where
    says : refusal_of (after_ip (tcp_stage mode) r p peer) ≡ n

  over : (t : Bool) {a b : Result IpFacts PacketRefusal} {m n : ℕ} → Numbered a m → Numbered b n → Numbered (cond t a b) (cond t m n)
  over true x y = x
  over false x y = y

  refused : (r : PacketRefusal) → Numbered (Err r) (packet_number r)
  unfolding refusal_of
  refused r = record { says = refl }

  abbrev number_of_part : List ℕ → ℕ
  number_of_part t = cond (ltb (length t) 20) 6 (cond (mode.strict && contradicts_itself t) 14 (cond (flags_invalid (control t)) 7 0))

  abbrev number4 : ℕ
  number4 =
      cond (ltb (length p) 20) 2
      (cond (ltb (v4.ihl p) 5) 3
      (cond (not (eqb (v4.protocol p) 6)) 4
      (cond (ltb 0 (v4.fragment_offset p) || eqb (v4.more_fragments p) 1) 5
      (number_of_part (part (v4.data_start p) (v4.data_end p) p)))))

  of_v4 : Numbered (read_ipv4 p) number4
  unfolding read_ipv4 ipv4_facts
  of_v4 =
      over (ltb (length p) 20) (refused refusal.TooShort)
      (over (ltb (v4.ihl p) 5) (refused refusal.HeaderLength)
      (over (not (eqb (v4.protocol p) 6)) (refused refusal.UnsupportedProtocol)
      (over (ltb 0 (v4.fragment_offset p) || eqb (v4.more_fragments p) 1) (refused refusal.Fragment)
      (over (ltb (length (part (v4.data_start p) (v4.data_end p) p)) 20) (refused refusal.TcpTooShort)
      (record {
        says =
            by_header mode (ipv4_facts p (v4.data_start p) (v4.data_end p))
            (part (v4.data_start p) (v4.data_end p) p) peer;
      })))))

  abbrev number6 : ℕ
  number6 =
      cond (ltb (length p) 40) 2
      (cond (not (eqb (v6.next_header p) 6)) 4
      (number_of_part (v6.payload p)))

  of_v6 : Numbered (read_ipv6 p) number6
  unfolding read_ipv6 ipv6_facts
  of_v6 =
      over (ltb (length p) 40) (refused refusal.TooShort)
      (over (not (eqb (v6.next_header p) 6)) (refused refusal.UnsupportedProtocol)
      (over (ltb (length (v6.payload p)) 20) (refused refusal.TcpTooShort)
      (record { says = by_header mode (ipv6_facts p (v6.payload_end p)) (v6.payload p) peer })))

  by_version_lem
      : (none four six : Bool)
      → ◌≡◌ {A = ℕ} (cond none 1 (cond four number4 (cond six number6 1))) (first_row row_numbers (rows_by mode none four six p))
  unfolding first_row
  by_version_lem true four six = refl
  by_version_lem false true six = refl
  by_version_lem false false true = refl
  by_version_lem false false false = refl

  -- "in order of test": the number of a packet's refusal is that of the first row that holds, 0 where none does.
  pub by_first_row : refusal_of (read_in mode p peer) ≡ first_row row_numbers (rows mode p)
  unfolding read_in read_ip rows
  by_first_row =
      (over (eqb (length p) 0) (refused refusal.Version)
      (over (of_version4 p) of_v4 (over (of_version6 p) of_v6 (refused refusal.Version)))).says
      ∙ by_version_lem (eqb (length p) 0) (of_version4 p) (of_version6 p)
