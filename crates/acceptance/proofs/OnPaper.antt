-- The structs of refusals, and all that is said of the paper's numbers and values.
use Rattle.std.specs.Prelude.{Result, Ok, Err}
use mathlib.Core.Path.{◌≡◌, refl}
use mathlib.Core.List.{List}
use Prim.Native.Nat.{ℕ, ◌<◌}
use native.Mathlib.Omega.{arith}
use native.Mathlib.Nat.{mod-eq_of_lt}
use Rattle.basis.specs.Bytes.{AllBytes}
use Rattle.refusals.specs.declared.ListRefusal.{ListRefusal}
use Rattle.refusals.specs.declared.ListRefusal.TheVariants as why
use Rattle.refusals.specs.Refusals.{list_value}
use Rattle.siglist.specs.List.{check_list}
use Rattle.flow.specs.declared.Mode.{Mode}
use Rattle.flow.specs.declared.Kind.TheVariants as kind
use Rattle.refusals.specs.declared.PacketRefusal.{PacketRefusal}
use Rattle.packet_answer.specs.declared.PacketAnswer.{PacketAnswer}
use Rattle.packet_answer.specs.declared.PacketAnswer.TheVariants as packet
use Rattle.packet_answer.specs.Packet.{peer_of, answer_in}
use Rattle.gateway.specs.Parts.{packet_parts, refused_list, parts_of, after_list, gateway_in, list_parts}
use Rattle.gateway.proofs.Given.{two_bytes}
use Rattle.acceptance.specs.OnPaper.{packet_paper, list_paper, gateway_paper, refused_struct, Structs, OnPaper}
use Rattle.acceptance.specs.Honesty.{struct_at, checked_answer}
use Rattle.acceptance.proofs.Refusals.{refusals}
use Rattle.acceptance.proofs.PaperRows.{the_table, rows}
use Rattle.acceptance.proofs.PaperTold.{told}

-- ---- the structs

packet_struct : (a : Result PacketAnswer PacketRefusal) → 0 < (packet_paper a).number → packet_parts a ≡ refused_struct (packet_paper a)
unfolding packet_parts
packet_struct (Ok (packet.Opening kind.Syn f)) h = absurd (omega arith)
packet_struct (Ok (packet.Opening kind.SynAck f)) h = absurd (omega arith)
packet_struct (Ok packet.Nothing) h = absurd (omega arith)
packet_struct (Err r) h = refl

module _ (l : List ℕ) (bytes : AllBytes l) where
  -- An index fits two bytes, as the count of records does.
  small : (r : ListRefusal) → check_list l ≡ Err r → list_value r < 65536
  small why.DoesNotFit e = omega arith
  small (why.BadRecord i) e = let within = (refusals.list_gives l i e).within in let two = two_bytes l 0 bytes in omega arith

  refused_struct_lem
      : (r : ListRefusal) → check_list l ≡ Err r → refused_list r ≡ refused_struct (list_paper (Err r))
  unfolding refused_list
  refused_struct_lem r e = rw (mod-eq_of_lt (small r e))

  list_struct_lem
      : (a : Result (Unit {0}) ListRefusal)
      → check_list l ≡ a
      → 0 < (list_paper a).number
      → list_parts a ≡ refused_struct (list_paper a)
  unfolding list_parts
  list_struct_lem (Ok tt) e h = absurd (omega arith)
  list_struct_lem (Err r) e h = refused_struct_lem r e

  answer_struct
      : (mode : Mode) (p : List ℕ) (peer : ℕ)
      → 0 < (gateway_paper (gateway_in mode p peer l)).number
      → struct_at mode p peer l ≡ refused_struct (gateway_paper (gateway_in mode p peer l))
  unfolding gateway_in
  answer_struct mode p peer = after (answer_in mode p (peer_of peer) l) (check_list l) refl
    where
      after
          : (x : Result PacketAnswer PacketRefusal) (a : Result (Unit {0}) ListRefusal)
          → check_list l ≡ a
          → 0 < (gateway_paper (after_list a x)).number
          → parts_of (after_list a x) ≡ refused_struct (gateway_paper (after_list a x))
      after x (Ok tt) e h = packet_struct x h
      after x (Err r) e h = refused_struct_lem r e

-- ---- the statement

structs : Structs
structs =
    record {
      answer = λ mode p peer l bytes. answer_struct l bytes mode p peer;
      checked = λ mode p peer l. packet_struct (checked_answer mode p peer l);
      list = λ l bytes. list_struct_lem l bytes (check_list l) refl;
    }

pub on_paper_lem : OnPaper
on_paper_lem = record { rows = rows; table = the_table; structs = structs; told = told }
