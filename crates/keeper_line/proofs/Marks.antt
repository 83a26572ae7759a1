-- The mark of a generic signature, over what the calls gave that asked for its two bytes.
use Prim.Native.Nat.{ℕ}
use mathlib.Core.Path.{◌≡◌, refl, sym, ◌∙◌}
use mathlib.Core.List.{List, [], ◌∷◌}
use Rattle.std.specs.Prelude.{Ok, Err}
use Rattle.grammar.specs.States.{letters, start, after, done}
use Rattle.grammar.specs.Table.{nothing}
use Rattle.signature_line.specs.declared.BadLine.{BadLine}
use Rattle.numerals.specs.Pieces.{piece}
use Rattle.one_field.specs.Places.{behind_at, word_at}
use Rattle.one_field.proofs.LetterLaws.{letter_read, letter_other, letter_on, letter_off}
use Rattle.one_field.proofs.PlaceLaws.{whole_word}
use Rattle.parse_tcp.proofs.MoreLaws.{stood, missing}
use Rattle.keeper_file.specs.KeptLine.{mark}
use Rattle.keeper_line.specs.Places.{mark_at}

module _ (s : List ℕ) (at : ℕ) where
  pub no_mark : {bad : BadLine} → behind_at 103 s at ≡ Err bad → Ok (piece at 0 0) ≡ mark_at s at
  unfolding mark after done
  no_mark {bad} e =
      sym (whole_word s at 0)
      ∙ letter_other s at 103 refl (start mark) (letters [] 0 nothing ∷ []) (missing 103 s at bad e).0 (λ b n. rw n) refl

  module _ {p : ℕ} (e : behind_at 103 s at ≡ Ok p) where
    -- What is read of the blank behind the `g` is what is read of the mark.
    behind_g : word_at (32 ∷ []) 1 s p ≡ mark_at s at
    unfolding mark after
    behind_g = let t = stood 103 s at p e in rw t.1 (letter_read s at 103 refl (start mark) refl t.0 refl refl)

    pub half_a_mark : {bad : BadLine} → behind_at 32 s p ≡ Err bad → Err bad ≡ mark_at s at
    half_a_mark {bad} w = letter_off s p 32 [] 1 bad w ∙ behind_g

    pub whole_mark : {q : ℕ} → behind_at 32 s p ≡ Ok q → Ok (piece q 1 0) ≡ mark_at s at
    whole_mark {q} w = sym (whole_word s q 1) ∙ letter_on s p 32 [] 1 q w ∙ behind_g
