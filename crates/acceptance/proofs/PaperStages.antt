-- The stages that a whole answer is made of, on paper: the IP stage meets rows 1 to 6, a list's header row 9.
use Rattle.std.specs.Prelude.{None, Result, Ok, Err}
use mathlib.Core.Path.{◌≡◌, refl, ◌∙◌, ap, subst}
use mathlib.Core.Bool.{Bool, true, false, cond}
use mathlib.Core.List.{List, [], ◌∷◌, ◌++◌}
use Prim.Native.Nat.{ℕ}
use native.Mathlib.Omega.{arith}
use Rattle.rfc.specs.Rfc9293.{control}
use Rattle.ip.specs.declared.IpFacts.{IpFacts}
use Rattle.refusals.specs.declared.PacketRefusal.{PacketRefusal}
use Rattle.refusals.specs.declared.PacketRefusal.TheVariants as refusal
use Rattle.refusals.specs.declared.ListRefusal.TheVariants as why
use Rattle.refusals.specs.Refusals.{packet_number, packet_refused}
use Rattle.ip.specs.Ip.{read_ip}
use Rattle.ip.proofs.Ip.{Given, given}
use Rattle.tcp_header.specs.Flags.{flags_invalid}
use Rattle.flow.specs.Tcp.{read_tcp}
use Rattle.flow.specs.Modes.{plain_mode}
use Rattle.flow.specs.Reading.{tcp_part, after_ip, read_packet, refusal_of}
use Rattle.flow.proofs.FirstRow.{by_header}
use Rattle.refusals.specs.declared.ListRefusal.{ListRefusal}
use Rattle.siglist.specs.List.{record_count, list_fits, header_of, check_list, list_refusal}
use Rattle.siglist.proofs.FirstBad.{Checked, does_not_fit, first_bad_named}
use Rattle.acceptance.specs.Refusals.{First, PacketRow, plain_order, ListRow}
use Rattle.acceptance.specs.OnPaper.{alone, paper_of, ip_paper, header_paper, Also, IsRow}
use Rattle.acceptance.proofs.Refusals.{refusals}

-- ---- the first row of fewer rows

-- A number that is not the last row's is found without that row.
without_last
    : {Row : ℕ → Type 0} {n : ℕ} (last : ℕ) (order : List ℕ) → First Row (order ++ last ∷ []) n → (n ≡ last → ⊥) → First Row order n
without_last last [] (First.here r) other = absurd (other refl)
without_last last [] (First.later fails First.none) other = First.none
without_last last (m ∷ order) (First.here r) other = First.here r
without_last last (m ∷ order) (First.later fails rest) other = First.later fails (without_last last order rest other)

data NotAmong (n : ℕ) : List ℕ → Type 0 where
  end : NotAmong n []
  more : {m : ℕ} {order : List ℕ} → (n ≡ m → ⊥) → NotAmong n order → NotAmong n (m ∷ order)

-- Where the first row is none of these, none of these holds.
none_of : {Row : ℕ → Type 0} {n : ℕ} (last : ℕ) (order : List ℕ) → First Row (order ++ last ∷ []) n → NotAmong n order → First Row order 0
none_of last [] first others = First.none
none_of last (m ∷ order) (First.here r) (more other others) = absurd (other refl)
none_of last (m ∷ order) (First.later fails rest) (more other others) = First.later fails (none_of last order rest others)

-- ---- the IP stage

module _ (p l : List ℕ) where
  -- Every number but 7 and 10 returns nothing.
  pub others : (n : ℕ) → (n ≡ 7 → ⊥) → (n ≡ 10 → ⊥) → Also p l (alone n)
  others n seven ten = Also.of_others seven ten

  pub not_7 : (r : PacketRefusal) → (packet_number r ≡ 7 → ⊥) → Also p l (paper_of (packet_refused r))
  not_7 refusal.Version h = others 1 (λ e. omega arith) (λ e. omega arith)
  not_7 refusal.TooShort h = others 2 (λ e. omega arith) (λ e. omega arith)
  not_7 refusal.HeaderLength h = others 3 (λ e. omega arith) (λ e. omega arith)
  not_7 refusal.UnsupportedProtocol h = others 4 (λ e. omega arith) (λ e. omega arith)
  not_7 refusal.Fragment h = others 5 (λ e. omega arith) (λ e. omega arith)
  not_7 refusal.TcpTooShort h = others 6 (λ e. omega arith) (λ e. omega arith)
  not_7 (refusal.InvalidTcpFlags byte) h = absurd (h refl)
  not_7 refusal.DataOffset h = others 14 (λ e. omega arith) (λ e. omega arith)
  not_7 refusal.ExtensionHeaders h = others 22 (λ e. omega arith) (λ e. omega arith)

abbrev rows6 : List ℕ
rows6 = 1 ∷ 2 ∷ 3 ∷ 4 ∷ 5 ∷ 6 ∷ []

-- By the flags the number is 7 or 0.
past_six : (t : Bool) (n : ℕ) → n ≡ cond t 7 0 → NotAmong n rows6
past_six true n e =
    more {m = 1} (λ (h : n ≡ 1). omega arith) (more {m = 2} (λ (h : n ≡ 2). omega arith) (more {m = 3} (λ (h : n ≡ 3). omega arith)
    (more {m = 4} (λ (h : n ≡ 4). omega arith)
    (more {m = 5} (λ (h : n ≡ 5). omega arith) (more {m = 6} (λ (h : n ≡ 6). omega arith) end)))))
past_six false n e =
    more {m = 1} (λ (h : n ≡ 1). omega arith) (more {m = 2} (λ (h : n ≡ 2). omega arith) (more {m = 3} (λ (h : n ≡ 3). omega arith)
    (more {m = 4} (λ (h : n ≡ 4). omega arith)
    (more {m = 5} (λ (h : n ≡ 5). omega arith) (more {m = 6} (λ (h : n ≡ 6). omega arith) end)))))

pub ip_row : (p : List ℕ) → IsRow (PacketRow plain_mode p) rows6 p [] (ip_paper (read_ip p))
unfolding read_packet refusal_of
ip_row p = by_stage (read_ip p) refl (given p)
  where
    at_seven : First (PacketRow plain_mode p) plain_order (refusal_of (read_packet p None))
    at_seven = (refusals.plain_packet_lem p None (refusal_of (read_packet p None))).0 refl

    stage_number
        : (x : Result IpFacts PacketRefusal)
        → read_ip p ≡ x
        → refusal_of (read_packet p None) ≡ refusal_of (after_ip read_tcp x p None)
    stage_number x e = ap (λ (y : Result IpFacts PacketRefusal). refusal_of (after_ip read_tcp y p None)) e

    refused_number : (r : PacketRefusal) → refusal_of (after_ip read_tcp (Err r) p None) ≡ packet_number r
    refused_number r = refl

    by_stage
        : (x : Result IpFacts PacketRefusal) {n : ℕ}
        → read_ip p ≡ x
        → Given p n x
        → IsRow (PacketRow plain_mode p) rows6 p [] (ip_paper x)
    by_stage (Err r) e (Given.refused h) =
        let n = stage_number (Err r) e ∙ refused_number r in
        let seven : First (PacketRow plain_mode p) plain_order (packet_number r) =
        subst (First (PacketRow plain_mode p) plain_order) n at_seven in
        record {
          first = without_last 7 rows6 seven (λ (s : packet_number r ≡ 7). omega arith);
          also = not_7 p [] r (λ (s : packet_number r ≡ 7). omega arith);
        }
    by_stage (Ok f) e gives =
        let n = stage_number (Ok f) e ∙ by_header plain_mode f (tcp_part f p) None in
        record {
          first =
              none_of 7 rows6 at_seven (past_six (flags_invalid (control (tcp_part f p))) (refusal_of (read_packet p None)) n);
          also = others p [] 0 (λ e. omega arith) (λ e. omega arith);
        }

-- ---- a list's header

not_nine : {l : List ℕ} {a : Result (Unit {0}) ListRefusal} → Checked l 0 (record_count l) a → list_refusal a ≡ 9 → ⊥
unfolding list_refusal
not_nine (Checked.all_good all) e = omega arith
not_nine (Checked.first_bad_lem k b u bad before) e = omega arith

nine : list_refusal (Err why.DoesNotFit) ≡ 9
unfolding list_refusal
nine = refl

pub header_row : (l : List ℕ) → IsRow (ListRow l) (9 ∷ []) [] l (header_paper (header_of l))
unfolding header_of
header_row l = by_fit (list_fits l) refl
  where
    by_fit : (t : Bool) → list_fits l ≡ t → IsRow (ListRow l) (9 ∷ []) [] l (header_paper (header_of l))
    by_fit true e =
        rw e
        (record {
          first = none_of 10 (9 ∷ []) ((refusals.list l (list_refusal (check_list l))).0 refl) (more (not_nine (first_bad_named l e)) end);
          also = others [] l 0 (λ e. omega arith) (λ e. omega arith);
        })
    by_fit false e =
        rw e
        (record {
          first =
              without_last 10 (9 ∷ []) ((refusals.list l 9).0 (ap list_refusal (does_not_fit l e) ∙ nine))
              (λ (s : ◌≡◌ {A = ℕ} 9 10). omega arith);
          also = others [] l 9 (λ e. omega arith) (λ e. omega arith);
        })
