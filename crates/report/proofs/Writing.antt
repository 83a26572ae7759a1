-- How long the lines are.
use Rattle.std.specs.Prelude.{Result, Ok, Err}
use mathlib.Core.List.{List, ◌++◌}
use Prim.Native.Nat.{ℕ, ◌+◌, ◌-◌, ◌≤◌}
use native.Mathlib.Omega.{arith}
use lib.ListN.{length, length-append}
use Rattle.text.specs.Decimal.{decimal, newline}
use Rattle.text.specs.Written.{PutAll, Put}
use Rattle.text.proofs.Decimal.{decimal_length}
use Rattle.text.proofs.Writing.{put_all}
use Rattle.refusals.specs.declared.PacketRefusal.{PacketRefusal}
use Rattle.refusals.specs.Refusals.{packet_number}
use Rattle.flow.specs.declared.Kind.TheVariants as kind
use Rattle.found.specs.declared.Found.{Found}
use Rattle.found.specs.declared.Found.TheVariants as found
use Rattle.packet_answer.specs.declared.PacketAnswer.{PacketAnswer}
use Rattle.packet_answer.specs.declared.PacketAnswer.TheVariants as packet
use Rattle.report.specs.Text.{exact_word, fuzzy_word, syn_word, synack_word, refused_word, found_text, answer_text, line_of}

-- A found record's text: at most a word of six bytes and a number.
pub found_length : (f : Found) → length (found_text f) ≤ 11
unfolding found_text
found_length found.None = omega arith
found_length (found.Exact hit) = omega (arith, length-append exact_word (decimal hit.label), decimal_length hit.label)
found_length (found.Fuzzy hit reason) =
    omega (arith, length-append fuzzy_word (decimal hit.label), decimal_length hit.label)

pub answer_length : (a : Result PacketAnswer PacketRefusal) → length (answer_text a) ≤ 18
unfolding answer_text
answer_length (Ok (packet.Opening kind.Syn s)) = omega (arith, length-append syn_word (found_text s.found), found_length s.found)
answer_length (Ok (packet.Opening kind.SynAck s)) = omega (arith, length-append synack_word (found_text s.found), found_length s.found)
answer_length (Ok packet.Nothing) = omega arith
answer_length (Err r) = omega (arith, length-append refused_word (decimal (packet_number r)), decimal_length (packet_number r))

pub line_length : (a : Result PacketAnswer PacketRefusal) → length (line_of a) ≤ 19
unfolding line_of
line_length a = omega (arith, length-append (answer_text a) newline, answer_length a)

pub numbered_length : (word : List ℕ) (n : ℕ) → length (word ++ decimal n ++ newline) ≤ length word + 6
numbered_length word n =
    omega (arith, length-append (word ++ decimal n) newline, length-append word (decimal n), decimal_length n)

pub numbered_put
    : (page page' word : List ℕ) (n at next : ℕ)
    → length word + 6 ≤ length page - at
    → Put page at (word ++ decimal n ++ newline) next page'
    → PutAll page at (word ++ decimal n ++ newline) next page'
numbered_put page page' word n at next room = put_all page page' _ at next (omega (arith, numbered_length word n))
