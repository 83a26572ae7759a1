-- The text of the answers (document 01, "The bundle program"): each line as bytes.
use Rattle.std.specs.Prelude.{ℕ, List, [], ◌∷◌, ◌++◌, Result, Ok, Err}
use Rattle.text.specs.Decimal.{newline, decimal}
use Rattle.refusals.specs.declared.PacketRefusal.{PacketRefusal}
use Rattle.refusals.specs.Refusals.{packet_number}
use Rattle.flow.specs.declared.Kind.{Kind}
use Rattle.flow.specs.declared.Kind.TheVariants as kind
use Rattle.found.specs.declared.Found.{Found}
use Rattle.found.specs.declared.Found.TheVariants as found
use Rattle.packet_answer.specs.declared.PacketAnswer.{PacketAnswer}
use Rattle.packet_answer.specs.declared.PacketAnswer.TheVariants as packet

-- ---- words, in ASCII

-- "packets "
abbrev pub packets_word : List ℕ
packets_word = 112 ∷ 97 ∷ 99 ∷ 107 ∷ 101 ∷ 116 ∷ 115 ∷ 32 ∷ []

-- "refused "
abbrev pub refused_word : List ℕ
refused_word = 114 ∷ 101 ∷ 102 ∷ 117 ∷ 115 ∷ 101 ∷ 100 ∷ 32 ∷ []

-- "nothing"
abbrev pub nothing_word : List ℕ
nothing_word = 110 ∷ 111 ∷ 116 ∷ 104 ∷ 105 ∷ 110 ∷ 103 ∷ []

-- "syn "
abbrev pub syn_word : List ℕ
syn_word = 115 ∷ 121 ∷ 110 ∷ 32 ∷ []

-- "synack "
abbrev pub synack_word : List ℕ
synack_word = 115 ∷ 121 ∷ 110 ∷ 97 ∷ 99 ∷ 107 ∷ 32 ∷ []

abbrev pub kind_word : Kind → List ℕ
kind_word kind.Syn = syn_word
kind_word kind.SynAck = synack_word

-- "none"
abbrev pub none_word : List ℕ
none_word = 110 ∷ 111 ∷ 110 ∷ 101 ∷ []

-- "exact "
abbrev pub exact_word : List ℕ
exact_word = 101 ∷ 120 ∷ 97 ∷ 99 ∷ 116 ∷ 32 ∷ []

-- "fuzzy "
abbrev pub fuzzy_word : List ℕ
fuzzy_word = 102 ∷ 117 ∷ 122 ∷ 122 ∷ 121 ∷ 32 ∷ []

-- ---- lines

unfoldable pub found_text : Found → List ℕ
found_text found.None = none_word
found_text (found.Exact hit) = exact_word ++ decimal hit.label
found_text (found.Fuzzy hit reason) = fuzzy_word ++ decimal hit.label

-- `syn exact 7`, `synack none`, `nothing`, `refused 2`, ..
unfoldable pub answer_text : Result PacketAnswer PacketRefusal → List ℕ
answer_text (Ok (packet.Opening k s)) = kind_word k ++ found_text s.found
answer_text (Ok packet.Nothing) = nothing_word
answer_text (Err r) = refused_word ++ decimal (packet_number r)

unfoldable pub line_of : Result PacketAnswer PacketRefusal → List ℕ
line_of a = answer_text a ++ newline

-- `packets N`
unfoldable pub head_line : ℕ → List ℕ
head_line n = packets_word ++ decimal n ++ newline

-- `refused N`
unfoldable pub refused_line : ℕ → List ℕ
refused_line n = refused_word ++ decimal n ++ newline
