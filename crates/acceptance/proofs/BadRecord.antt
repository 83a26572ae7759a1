-- A record is bad exactly if the test of a well-formed record fails.
use mathlib.Core.Path.{◌≡◌, refl, sym, ◌∙◌, ap}
use mathlib.Core.Bool.{Bool, true, false, cond, not, ◌&&◌, ◌||◌, true≢false, false≢true}
use mathlib.Core.List.{List}
use mathlib.Core.Logic.{◌↔◌}
use Prim.Native.Nat.{ℕ, zero, suc, ◌+◌, ◌*◌, ◌-◌, ◌^◌, ◌<◌, ◌≤◌}
use native.Mathlib.Omega.{arith}
use native.Mathlib.Decide.{ℕ_discrete}
use lib.Bits.{and_le_r}
use lib.Dec.{eqb, leb}
use borrow.Author.Tests.{eqb-true, eqb-false, leb-true, leb-false, ne_eqb, lt-leb, le-leb}
use Rattle.basis.specs.Bytes.{byte_at, be16, be32}
use Rattle.basis.specs.Digits.{digit}
use Rattle.basis.specs.Tests.{all_below}
use Rattle.basis.proofs.Digits.{digit_lt, digit_of_zero, digits_zero}
use Rattle.basis.proofs.Tests.{and_left, and_right, below, fails_below}
use Rattle.quirks.specs.declared.QuirkSet.{QuirkSet}
use Rattle.quirks.specs.Quirks.{set_of, bits_of, holds, is_empty, difference}
use Rattle.quirks.specs.Named.{seventeen}
use Rattle.quirks.proofs.Laws.{holds_difference}
use Rattle.quirks.proofs.Named.{seventeen_bits}
use Rattle.sigrecord.specs.Layout.{entry_good, entries_good}
use Rattle.sigrecord.specs.Record.{first_entry, entry_count}
use Rattle.sigrecord.specs.WellFormed.{version_good, ttl_good, presence_good, window_good, payload_good, quirks_good, scalars_good}
use Rattle.siglist.specs.List.{layout_count, record_at, entries_of, layout_lies, record_good}
use Rattle.acceptance.specs.Refusals.{Bad, BadRecord}
use Rattle.acceptance.proofs.Fails.{either_false, failing, or_left, or_right, and_false, positive, nonzero}

-- ---- quirks

small : bits_of seventeen < 2 ^ 32
small = rw seventeen_bits (omega arith)

-- A set that is not empty has a place.
some_place : {P : Type 0} (s : QuirkSet) → bits_of s < 2 ^ 32 → ((k : ℕ) → k < 32 → holds s k ≡ true → P) → is_empty s ≡ false → P
unfolding is_empty holds
some_place {P} s fits found e = by_test (all_below (λ (k : ℕ). not (holds s k)) 32) refl
  where
    no_digit : (d : ℕ) → d < 2 → not (eqb d 1) ≡ true → d ≡ 0
    no_digit zero h x = refl
    no_digit (suc zero) h x = absurd (false≢true x)
    no_digit (suc (suc d)) h x = absurd (omega arith)

    gone : all_below (λ (k : ℕ). not (holds s k)) 32 ≡ true → (k : ℕ) → k < 32 → digit (bits_of s) k ≡ 0
    gone none k low = no_digit (digit (bits_of s) k) (digit_lt (bits_of s) k) (below (λ (n : ℕ). not (holds s n)) 32 none k low)

    shown : (t : Bool) → not t ≡ false → t ≡ true
    shown true x = refl
    shown false x = absurd (true≢false x)

    by_test : (t : Bool) → all_below (λ (k : ℕ). not (holds s k)) 32 ≡ t → P
    by_test true none = absurd (eqb-false (bits_of s) 0 e (digits_zero 32 (bits_of s) fits (gone none)))
    by_test false some = failing (λ (k : ℕ). not (holds s k)) 32 (λ k low x. found k low (shown (holds s k) x)) some

difference_small : (a : QuirkSet) → bits_of (difference a seventeen) < 2 ^ 32
unfolding difference
difference_small a = let most = and_le_r (bits_of a) (2 ^ 32 - 1 - bits_of seventeen) in omega arith

-- A set with a place is not empty.
not_empty : (s : QuirkSet) (k : ℕ) → holds s k ≡ true → is_empty s ≡ false
unfolding is_empty holds
not_empty s k has =
    ne_eqb (bits_of s) 0 (λ e. false≢true (ap (λ (n : ℕ). eqb n 1) (sym (ap (λ (n : ℕ). digit n k) e ∙ digit_of_zero k)) ∙ has))

-- ---- a record whose test fails

module _ (r : List ℕ) (entries : ℕ) (layout : List ℕ) where
  bad_version : version_good (byte_at r 0) ≡ false → Bad r entries layout
  unfolding version_good
  bad_version e =
      let first = or_left (eqb (byte_at r 0) 0 || eqb (byte_at r 0) 4) (eqb (byte_at r 0) 6) e in
      Bad.version_code
      (eqb-false (byte_at r 0) 0 (or_left (eqb (byte_at r 0) 0) (eqb (byte_at r 0) 4) first))
      (eqb-false (byte_at r 0) 4 (or_right (eqb (byte_at r 0) 0) (eqb (byte_at r 0) 4) first))
      (eqb-false (byte_at r 0) 6 (or_right (eqb (byte_at r 0) 0 || eqb (byte_at r 0) 4) (eqb (byte_at r 0) 6) e))

  bad_ttl : ttl_good (byte_at r 1) (byte_at r 3) ≡ false → Bad r entries layout
  unfolding ttl_good
  bad_ttl =
      either_false (leb (byte_at r 1) 3) (eqb (byte_at r 1) 1 || eqb (byte_at r 3) 0)
      (λ e. Bad.ttl_form_lem (leb-false (byte_at r 1) 3 e))
      (λ e.
      Bad.unused_distance (eqb-false (byte_at r 1) 1 (or_left (eqb (byte_at r 1) 1) (eqb (byte_at r 3) 0) e))
      (positive (byte_at r 3) (or_right (eqb (byte_at r 1) 1) (eqb (byte_at r 3) 0) e)))

  bad_presence
      : (p n : ℕ)
      → (1 < p → Bad r entries layout)
      → (p ≡ 0 → 0 < n → Bad r entries layout)
      → presence_good p n ≡ false
      → Bad r entries layout
  unfolding presence_good
  bad_presence p n other absent e = by_test (eqb p 0) refl (or_right (eqb p 1) (eqb p 0 && eqb n 0) e)
    where
      not_one : p ≡ 1 → ⊥
      not_one = eqb-false p 1 (or_left (eqb p 1) (eqb p 0 && eqb n 0) e)

      by_test : (t : Bool) → eqb p 0 ≡ t → t && eqb n 0 ≡ false → Bad r entries layout
      by_test true zero? x = absent (eqb-true p 0 zero?) (positive n x)
      by_test false zero? x = let above = positive p zero? in let one = not_one in other (omega arith)

  bad_window : (form n : ℕ) → byte_at r 8 ≡ form → be16 r 9 ≡ n → window_good form n ≡ false → Bad r entries layout
  unfolding window_good
  bad_window form n ef en = by_tests (eqb form 0) (leb form 2) (leb form 4) refl refl refl
    where
      by_tests
          : (a b c : Bool)
          → eqb form 0 ≡ a
          → leb form 2 ≡ b
          → leb form 4 ≡ c
          → cond a (eqb n 0) (cond b true (cond c (leb n 255) false)) ≡ false
          → Bad r entries layout
      by_tests true b c ea eb ec e = let z = eqb-true form 0 ea in let h = positive n e in Bad.unused_window (omega arith) (omega arith)
      by_tests false true c ea eb ec e = absurd (true≢false e)
      by_tests false false false ea eb ec e = let h = leb-false form 4 ec in Bad.window_form (omega arith)
      by_tests false false true ea eb ec e =
          let above = leb-false form 2 eb in
          let most = leb-true form 4 ec in
          let much = leb-false n 255 e in
          elim (ℕ_discrete form 3)
          [ yes three ↦ Bad.mss_multiple (omega arith) (omega arith) | no other ↦ Bad.mtu_multiple (omega arith) (omega arith) ]

  bad_quirks : quirks_good (be32 r 14) ≡ false → Bad r entries layout
  unfolding quirks_good
  bad_quirks =
      some_place (difference (set_of (be32 r 14)) seventeen) (difference_small (set_of (be32 r 14)))
      (λ k low has. by_tests k low (sym (holds_difference (set_of (be32 r 14)) seventeen k small low) ∙ has))
    where
      outside : (t : Bool) → not t ≡ true → t ≡ false
      outside true x = absurd (false≢true x)
      outside false x = refl

      by_tests : (k : ℕ) → k < 32 → holds (set_of (be32 r 14)) k && not (holds seventeen k) ≡ true → Bad r entries layout
      by_tests k low both =
          Bad.quirk_bit k low (and_left (holds (set_of (be32 r 14)) k) (not (holds seventeen k)) both)
          (outside (holds seventeen k) (and_right (holds (set_of (be32 r 14)) k) (not (holds seventeen k)) both))

  bad_scalars : scalars_good r ≡ false → Bad r entries layout
  unfolding scalars_good payload_good
  bad_scalars =
      either_false _ _
      (either_false _ _
      (either_false _ _
      (either_false _ _
      (either_false _ _
      (either_false _ _ (either_false _ _ bad_version bad_ttl) (bad_presence (byte_at r 5) (be16 r 6) Bad.mss_present Bad.absent_mss))
      (bad_window (byte_at r 8) (be16 r 9) refl refl))
      (bad_presence (byte_at r 11) (byte_at r 12) Bad.scale_present Bad.absent_scale))
      bad_payload)
      bad_quirks)
      (λ e. Bad.byte_21 (leb-false (byte_at r 21) 1 e))
    where
      bad_payload : payload_good (byte_at r 13) ≡ false → Bad r entries layout
      bad_payload e = Bad.payload_code (leb-false (byte_at r 13) 2 e)

  bad_entries : entries_good layout (entry_count r) ≡ false → Bad r entries layout
  unfolding entries_good entry_good
  bad_entries =
      failing _ (entry_count r)
      (λ j h e.
      Bad.bad_entry j h
      (positive (byte_at layout (2 * j)) (or_right (eqb (byte_at layout (2 * j + 1)) 0) (eqb (byte_at layout (2 * j)) 0) e))
      (positive (byte_at layout (2 * j + 1)) (or_left (eqb (byte_at layout (2 * j + 1)) 0) (eqb (byte_at layout (2 * j)) 0) e)))

module _ (l : List ℕ) (i : ℕ) where
  pub bad_of : record_good l i ≡ false → BadRecord l i
  unfolding record_good layout_lies
  bad_of =
      either_false _ _ (bad_scalars (record_at l i) (layout_count l) (entries_of l (record_at l i)))
      (either_false _ _
      (either_false _ _ (λ e. Bad.over_40 (leb-false (entry_count (record_at l i)) 40 e))
      (λ e. Bad.past_entries (leb-false (first_entry (record_at l i) + entry_count (record_at l i)) (layout_count l) e)))
      (bad_entries (record_at l i) (layout_count l) (entries_of l (record_at l i))))

-- ---- what each clause makes false

module _ (r : List ℕ) where
  other_version : (byte_at r 0 ≡ 0 → ⊥) → (byte_at r 0 ≡ 4 → ⊥) → (byte_at r 0 ≡ 6 → ⊥) → version_good (byte_at r 0) ≡ false
  unfolding version_good
  other_version a b c = rw (ne_eqb (byte_at r 0) 0 a, ne_eqb (byte_at r 0) 4 b, ne_eqb (byte_at r 0) 6 c)

  other_form : 3 < byte_at r 1 → ttl_good (byte_at r 1) (byte_at r 3) ≡ false
  unfolding ttl_good
  other_form h = rw (lt-leb (byte_at r 1) 3 h)

  unused_distance : (byte_at r 1 ≡ 1 → ⊥) → 0 < byte_at r 3 → ttl_good (byte_at r 1) (byte_at r 3) ≡ false
  unfolding ttl_good
  unused_distance f h = rw (ne_eqb (byte_at r 1) 1 f, nonzero (byte_at r 3) h, and_false)

not_present : (p n : ℕ) → 1 < p → presence_good p n ≡ false
unfolding presence_good
not_present p n h = rw (ne_eqb p 1 (λ e. omega arith), ne_eqb p 0 (λ e. omega arith))

absent_number : (p n : ℕ) → p ≡ 0 → 0 < n → presence_good p n ≡ false
unfolding presence_good
absent_number p n e h = rw (e, nonzero n h)

other_window : (form n : ℕ) → 4 < form → window_good form n ≡ false
unfolding window_good
other_window form n h = rw (ne_eqb form 0 (λ e. omega arith), lt-leb form 2 (omega arith), lt-leb form 4 h)

unused_window : (form n : ℕ) → form ≡ 0 → 0 < n → window_good form n ≡ false
unfolding window_good
unused_window form n e h = rw (e, nonzero n h)

over_255 : (form n : ℕ) → 2 < form → form ≤ 4 → 255 < n → window_good form n ≡ false
unfolding window_good
over_255 form n above most h =
    rw (ne_eqb form 0 (λ e. omega arith), lt-leb form 2 above, le-leb form 4 most, lt-leb n 255 h)

other_payload : (code : ℕ) → 2 < code → payload_good code ≡ false
unfolding payload_good
other_payload code h = lt-leb code 2 h

other_quirk : (n k : ℕ) → k < 32 → holds (set_of n) k ≡ true → holds seventeen k ≡ false → quirks_good n ≡ false
unfolding quirks_good
other_quirk n k low has lacks =
    not_empty (difference (set_of n) seventeen) k (holds_difference (set_of n) seventeen k small low ∙ rw (has, lacks))

other_entry
    : (layout : List ℕ) (count j : ℕ)
    → j < count
    → 0 < byte_at layout (2 * j)
    → 0 < byte_at layout (2 * j + 1)
    → entries_good layout count ≡ false
unfolding entries_good entry_good
other_entry layout count j h kind byte =
    fails_below _ count j h (rw (nonzero (byte_at layout (2 * j)) kind, nonzero (byte_at layout (2 * j + 1)) byte))

module _ (l : List ℕ) (i : ℕ) where
  r : List ℕ
  r = record_at l i

  -- One test that fails makes the whole fail.
  bad_fails : BadRecord l i → record_good l i ≡ false
  unfolding record_good scalars_good layout_lies r
  bad_fails (Bad.version_code a b c) = simp (other_version r a b c)
  bad_fails (Bad.ttl_form_lem h) = simp (other_form r h, and_false)
  bad_fails (Bad.window_form h) = simp (other_window (byte_at r 8) (be16 r 9) h, and_false)
  bad_fails (Bad.payload_code h) = simp (other_payload (byte_at r 13) h, and_false)
  bad_fails (Bad.mss_present h) = simp (not_present (byte_at r 5) (be16 r 6) h, and_false)
  bad_fails (Bad.scale_present h) = simp (not_present (byte_at r 11) (byte_at r 12) h, and_false)
  bad_fails (Bad.byte_21 h) = simp (lt-leb (byte_at r 21) 1 h, and_false)
  bad_fails (Bad.absent_mss e h) = simp (absent_number (byte_at r 5) (be16 r 6) e h, and_false)
  bad_fails (Bad.absent_scale e h) = simp (absent_number (byte_at r 11) (byte_at r 12) e h, and_false)
  bad_fails (Bad.unused_distance f h) = simp (unused_distance r f h, and_false)
  bad_fails (Bad.unused_window e h) = simp (unused_window (byte_at r 8) (be16 r 9) e h, and_false)
  bad_fails (Bad.mss_multiple e h) =
      simp (over_255 (byte_at r 8) (be16 r 9) (omega arith) (omega arith) h, and_false)
  bad_fails (Bad.mtu_multiple e h) =
      simp (over_255 (byte_at r 8) (be16 r 9) (omega arith) (omega arith) h, and_false)
  bad_fails (Bad.quirk_bit k low has lacks) = simp (other_quirk (be32 r 14) k low has lacks, and_false)
  bad_fails (Bad.over_40 h) = simp (lt-leb (entry_count r) 40 h, and_false)
  bad_fails (Bad.past_entries h) = simp (lt-leb (first_entry r + entry_count r) (layout_count l) h, and_false)
  bad_fails (Bad.bad_entry j h kind byte) = simp (other_entry (entries_of l r) (entry_count r) j h kind byte, and_false)

  pub good_not_bad : record_good l i ≡ true → BadRecord l i → ⊥
  good_not_bad good bad = true≢false (sym good ∙ bad_fails bad)

  pub record_bad : (record_good l i ≡ false) ↔ BadRecord l i
  record_bad = (bad_of l i, bad_fails)
