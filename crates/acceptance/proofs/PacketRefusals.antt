-- The refusals of a packet, in every mode: by the first row of the table that holds.
use Rattle.std.specs.Prelude.{Option}
use mathlib.Core.Path.{◌≡◌, refl}
use mathlib.Core.Bool.{Bool, true, false, not, ◌&&◌, ◌||◌, true≢false, false≢true}
use mathlib.Core.List.{List, [], ◌∷◌}
use mathlib.Core.Logic.{◌↔◌}
use Prim.Native.Nat.{ℕ, ◌*◌}
use native.Mathlib.Omega.{arith}
use native.Mathlib.Decide.{ℕ_discrete}
use lib.Dec.{eqb, ltb}
use lib.ListN.{length}
use Rattle.basis.proofs.Tests.{and_left, and_right}
use borrow.Author.Tests.{lt-ltb, ltb-true, ltb-false, eqb-true, eqb-false, eq-eqb, ne_eqb, not-true, not-false}
use Rattle.rfc.specs.Rfc791 as v4
use Rattle.rfc.specs.Rfc8200 as v6
use Rattle.rfc.specs.Rfc9293 as tcp
use Rattle.tcp_header.specs.Flags.{masked_type, flags_invalid}
use Rattle.flow.specs.declared.Mode.{Mode}
use Rattle.flow.specs.Strict.{contradicts_itself}
use Rattle.flow.specs.Modes.{plain_mode, read_in}
use Rattle.flow.specs.Reading.{read_packet, refusal_of}
use Rattle.flow.proofs.FirstRow.{rows, row_numbers, first_row, by_first_row}
use Rattle.acceptance.specs.Refusals.{First, FlagsInvalid, ContradictsItself, PacketRow, packet_order, plain_order, part4, part6}
use Rattle.acceptance.proofs.First.{by_test, exactly, left_out}

-- ---- flags

or_true : (a : Bool) → a || true ≡ true
or_true true = refl
or_true false = refl

module _ (flags : ℕ) where
  -- The test finds invalid flags, and only those.
  invalid : flags_invalid flags ≡ true → FlagsInvalid flags
  unfolding flags_invalid masked_type
  invalid = by_bits (eqb (tcp.syn flags) 1) (eqb (tcp.fin flags) 1) (eqb (tcp.rst flags) 1) refl refl refl
    where
      by_bits
          : (s f r : Bool)
          → eqb (tcp.syn flags) 1 ≡ s
          → eqb (tcp.fin flags) 1 ≡ f
          → eqb (tcp.rst flags) 1 ≡ r
          → s && (f || r) || f && r || eqb (masked_type flags) 0 ≡ true
          → FlagsInvalid flags
      by_bits true true r es ef er e = FlagsInvalid.syn_fin (eqb-true _ 1 es) (eqb-true _ 1 ef)
      by_bits true false true es ef er e = FlagsInvalid.syn_rst (eqb-true _ 1 es) (eqb-true _ 1 er)
      by_bits true false false es ef er e =
          let syn = eqb-true (tcp.syn flags) 1 es in
          let zero = eqb-true (masked_type flags) 0 e in
          absurd (omega arith)
      by_bits false true true es ef er e = FlagsInvalid.fin_rst (eqb-true _ 1 ef) (eqb-true _ 1 er)
      by_bits false true false es ef er e =
          let fin = eqb-true (tcp.fin flags) 1 ef in
          let zero = eqb-true (masked_type flags) 0 e in
          absurd (omega arith)
      by_bits false false r es ef er e =
          let zero = eqb-true (masked_type flags) 0 e in
          FlagsInvalid.none_set (omega arith) (omega arith) (omega arith) (omega arith)

  valid : flags_invalid flags ≡ false → FlagsInvalid flags → ⊥
  unfolding flags_invalid masked_type
  valid e (FlagsInvalid.syn_fin s f) =
      true≢false (rw (eq-eqb (tcp.syn flags) 1 s, eq-eqb (tcp.fin flags) 1 f) at e)
  valid e (FlagsInvalid.syn_rst s r) =
      true≢false (rw (eq-eqb (tcp.syn flags) 1 s, eq-eqb (tcp.rst flags) 1 r, or_true) at e)
  valid e (FlagsInvalid.fin_rst f r) =
      true≢false (rw (eq-eqb (tcp.fin flags) 1 f, eq-eqb (tcp.rst flags) 1 r, or_true) at e)
  valid e (FlagsInvalid.none_set s a f r) = true≢false (rw (eq-eqb (masked_type flags) 0 (omega arith), or_true) at e)

-- ---- the data offset

module _ (mode : Mode) (t : List ℕ) where
  aside : mode.strict && contradicts_itself t ≡ true → ContradictsItself t
  unfolding contradicts_itself
  aside e = by_words (ltb (tcp.data_offset t) 5) refl (and_right mode.strict _ e)
    where
      by_words
          : (few : Bool)
          → ltb (tcp.data_offset t) 5 ≡ few
          → few || ltb (length t) (4 * tcp.data_offset t) ≡ true
          → ContradictsItself t
      by_words true f e = ContradictsItself.under_five (ltb-true (tcp.data_offset t) 5 f)
      by_words false f e = ContradictsItself.past_part (ltb-true (length t) (4 * tcp.data_offset t) e)

  read_on : mode.strict && contradicts_itself t ≡ false → mode.strict ≡ true → ContradictsItself t → ⊥
  unfolding contradicts_itself
  read_on e s (ContradictsItself.under_five h) = true≢false (rw (s, lt-ltb (tcp.data_offset t) 5 h) at e)
  read_on e s (ContradictsItself.past_part h) = true≢false (rw (s, lt-ltb (length t) (4 * tcp.data_offset t) h, or_true) at e)

-- ---- the rows of either version

module _ (mode : Mode) (p : List ℕ) (some : length p ≡ 0 → ⊥) where
  of_v4 : v4.version p ≡ 4 → First (PacketRow mode p) packet_order (first_row row_numbers (rows mode p))
  unfolding rows first_row
  of_v4 four =
      rw (ne_eqb (length p) 0 some, eq-eqb (v4.version p) 4 four)
      (First.later not_1
      (by_test (ltb (length p) 20) (λ e. PacketRow.short4 four (ltb-true (length p) 20 e)) not_2 (λ e.
      by_test (ltb (v4.ihl p) 5) (λ e. PacketRow.words4 four (ltb-true (v4.ihl p) 5 e)) not_3 (λ e.
      by_test (not (eqb (v4.protocol p) 6))
      (λ e. PacketRow.protocol4 four (eqb-false (v4.protocol p) 6 (not-true (eqb (v4.protocol p) 6) e))) not_4 (λ e.
      by_test (ltb 0 (v4.fragment_offset p) || eqb (v4.more_fragments p) 1) a_fragment not_5 (λ e.
      by_test (ltb (length (part4 p)) 20) (λ e. PacketRow.tcp4 four (ltb-true (length (part4 p)) 20 e)) not_6 (λ e.
      by_test (mode.strict && contradicts_itself (part4 p)) aside4 not_14 (λ e.
      by_test (flags_invalid (tcp.control (part4 p))) (λ e. PacketRow.flags4 four (invalid (tcp.control (part4 p)) e)) not_7
      (λ e. First.none)))))))))
    where
      aside4 : mode.strict && contradicts_itself (part4 p) ≡ true → PacketRow mode p 14
      aside4 e = PacketRow.contradicts4 (and_left mode.strict _ e) four (aside mode (part4 p) e)

      not_14 : mode.strict && contradicts_itself (part4 p) ≡ false → PacketRow mode p 14 → ⊥
      not_14 e (PacketRow.contradicts4 s v c) = read_on mode (part4 p) e s c
      not_14 e (PacketRow.contradicts6 s v c) = omega arith

      not_1 : PacketRow mode p 1 → ⊥
      not_1 (PacketRow.no_bytes e) = some e
      not_1 (PacketRow.other_version a b) = a four

      not_2 : ltb (length p) 20 ≡ false → PacketRow mode p 2 → ⊥
      not_2 e (PacketRow.short4 v h) = let long = ltb-false (length p) 20 e in omega arith
      not_2 e (PacketRow.short6 v h) = omega arith

      not_3 : ltb (v4.ihl p) 5 ≡ false → PacketRow mode p 3 → ⊥
      not_3 e (PacketRow.words4 v h) = let long = ltb-false (v4.ihl p) 5 e in omega arith

      not_4 : not (eqb (v4.protocol p) 6) ≡ false → PacketRow mode p 4 → ⊥
      not_4 e (PacketRow.protocol4 v d) = d (eqb-true (v4.protocol p) 6 (not-false (eqb (v4.protocol p) 6) e))
      not_4 e (PacketRow.protocol6 v d) = omega arith

      a_fragment : ltb 0 (v4.fragment_offset p) || eqb (v4.more_fragments p) 1 ≡ true → PacketRow mode p 5
      a_fragment = by_offset (ltb 0 (v4.fragment_offset p)) refl
        where
          by_offset : (t : Bool) → ltb 0 (v4.fragment_offset p) ≡ t → t || eqb (v4.more_fragments p) 1 ≡ true → PacketRow mode p 5
          by_offset true above e = PacketRow.offset4 four (ltb-true 0 (v4.fragment_offset p) above)
          by_offset false none e = PacketRow.more4 four (eqb-true (v4.more_fragments p) 1 e)

      not_5 : ltb 0 (v4.fragment_offset p) || eqb (v4.more_fragments p) 1 ≡ false → PacketRow mode p 5 → ⊥
      not_5 e (PacketRow.offset4 v h) = true≢false (rw (lt-ltb 0 (v4.fragment_offset p) h) at e)
      not_5 e (PacketRow.more4 v h) = true≢false (rw (eq-eqb (v4.more_fragments p) 1 h, or_true) at e)

      not_6 : ltb (length (part4 p)) 20 ≡ false → PacketRow mode p 6 → ⊥
      not_6 e (PacketRow.tcp4 v h) = let long = ltb-false (length (part4 p)) 20 e in omega arith
      not_6 e (PacketRow.tcp6 v h) = omega arith

      not_7 : flags_invalid (tcp.control (part4 p)) ≡ false → PacketRow mode p 7 → ⊥
      not_7 e (PacketRow.flags4 v h) = valid (tcp.control (part4 p)) e h
      not_7 e (PacketRow.flags6 v h) = omega arith

  of_v6 : v4.version p ≡ 6 → First (PacketRow mode p) packet_order (first_row row_numbers (rows mode p))
  unfolding rows first_row
  of_v6 six =
      rw (ne_eqb (length p) 0 some, ne_eqb (v4.version p) 4 (omega arith), eq-eqb (v4.version p) 6 six)
      (First.later not_1
      (by_test (ltb (length p) 40) (λ e. PacketRow.short6 six (ltb-true (length p) 40 e)) not_2 (λ e.
      First.later not_3
      (by_test (not (eqb (v6.next_header p) 6))
      (λ e. PacketRow.protocol6 six (eqb-false (v6.next_header p) 6 (not-true (eqb (v6.next_header p) 6) e))) not_4 (λ e.
      First.later not_5
      (by_test (ltb (length (part6 p)) 20) (λ e. PacketRow.tcp6 six (ltb-true (length (part6 p)) 20 e)) not_6 (λ e.
      by_test (mode.strict && contradicts_itself (part6 p)) aside6 not_14 (λ e.
      by_test (flags_invalid (tcp.control (part6 p))) (λ e. PacketRow.flags6 six (invalid (tcp.control (part6 p)) e)) not_7
      (λ e. First.none)))))))))
    where
      aside6 : mode.strict && contradicts_itself (part6 p) ≡ true → PacketRow mode p 14
      aside6 e = PacketRow.contradicts6 (and_left mode.strict _ e) six (aside mode (part6 p) e)

      not_14 : mode.strict && contradicts_itself (part6 p) ≡ false → PacketRow mode p 14 → ⊥
      not_14 e (PacketRow.contradicts4 s v c) = omega arith
      not_14 e (PacketRow.contradicts6 s v c) = read_on mode (part6 p) e s c

      not_1 : PacketRow mode p 1 → ⊥
      not_1 (PacketRow.no_bytes e) = some e
      not_1 (PacketRow.other_version a b) = b six

      not_2 : ltb (length p) 40 ≡ false → PacketRow mode p 2 → ⊥
      not_2 e (PacketRow.short4 v h) = omega arith
      not_2 e (PacketRow.short6 v h) = let long = ltb-false (length p) 40 e in omega arith

      not_3 : PacketRow mode p 3 → ⊥
      not_3 (PacketRow.words4 v h) = omega arith

      not_4 : not (eqb (v6.next_header p) 6) ≡ false → PacketRow mode p 4 → ⊥
      not_4 e (PacketRow.protocol4 v d) = omega arith
      not_4 e (PacketRow.protocol6 v d) = d (eqb-true (v6.next_header p) 6 (not-false (eqb (v6.next_header p) 6) e))

      not_5 : PacketRow mode p 5 → ⊥
      not_5 (PacketRow.offset4 v h) = omega arith
      not_5 (PacketRow.more4 v h) = omega arith

      not_6 : ltb (length (part6 p)) 20 ≡ false → PacketRow mode p 6 → ⊥
      not_6 e (PacketRow.tcp4 v h) = omega arith
      not_6 e (PacketRow.tcp6 v h) = let long = ltb-false (length (part6 p)) 20 e in omega arith

      not_7 : flags_invalid (tcp.control (part6 p)) ≡ false → PacketRow mode p 7 → ⊥
      not_7 e (PacketRow.flags4 v h) = omega arith
      not_7 e (PacketRow.flags6 v h) = valid (tcp.control (part6 p)) e h

-- ---- any packet

first_row_lem : (mode : Mode) (p : List ℕ) → First (PacketRow mode p) packet_order (first_row row_numbers (rows mode p))
unfolding rows first_row
first_row_lem mode p =
    elim (ℕ_discrete (length p) 0) [
      | yes empty ↦ rw (eq-eqb (length p) 0 empty) (First.here (PacketRow.no_bytes empty))
      | no some ↦
          elim (ℕ_discrete (v4.version p) 4) [
            | yes four ↦ of_v4 mode p some four
            | no not4 ↦
                elim (ℕ_discrete (v4.version p) 6) [
                  | yes six ↦ of_v6 mode p some six
                  | no not6 ↦
                      rw (ne_eqb (length p) 0 some, ne_eqb (v4.version p) 4 not4, ne_eqb (v4.version p) 6 not6)
                      (First.here (PacketRow.other_version not4 not6))
                ]
          ]
    ]

pub packet_first
    : (mode : Mode) (p : List ℕ) (peer : Option ℕ) (n : ℕ)
    → (refusal_of (read_in mode p peer) ≡ n) ↔ First (PacketRow mode p) packet_order n
packet_first mode p peer = exactly (rw (by_first_row mode p peer) (first_row_lem mode p))

-- In the plain mode row 14 never holds, and can be left out.
never_14 : (p : List ℕ) → PacketRow plain_mode p 14 → ⊥
never_14 p (PacketRow.contradicts4 s v c) = false≢true s
never_14 p (PacketRow.contradicts6 s v c) = false≢true s

pub plain_first
    : (p : List ℕ) (peer : Option ℕ) (n : ℕ) → (refusal_of (read_packet p peer) ≡ n) ↔ First (PacketRow plain_mode p) plain_order n
unfolding read_packet read_in
plain_first p peer =
    exactly
    (left_out 14 (1 ∷ 2 ∷ 3 ∷ 4 ∷ 5 ∷ 6 ∷ []) (7 ∷ []) (never_14 p)
    ((packet_first plain_mode p peer (refusal_of (read_packet p peer))).0 refl))
