-- Laws of a record's fit: too many entries, a gate that fails, a bad record, and a record that is well formed and passes the gates.
use mathlib.Core.Path.{◌≡◌, refl, sym, ◌∙◌}
use mathlib.Core.Bool.{Bool, true, false, cond, ◌&&◌, true≢false, false≢true}
use mathlib.Core.List.{List}
use Prim.Native.Nat.{ℕ, ◌<◌, ◌≤◌}
use native.Mathlib.Omega.{arith}
use lib.Dec.{eqb, leb, ltb}
use borrow.Author.Tests.{lt-ltb, leb-true, ne_eqb}
use Rattle.matching.specs.declared.Features.{Features}
use Rattle.matching.specs.declared.SignatureFit.{SignatureFit}
use Rattle.matching.specs.declared.SignatureFit.TheVariants as fit
use Rattle.sigrecord.specs.Layout.{entries_good}
use Rattle.matching.specs.Gates.{layout_matches}
use Rattle.matching.specs.Fit.{scalar_gates, passes, tolerance_of, fit_of}
use Rattle.basis.proofs.Tests.{and_left, and_right, and_false, and_true}
use Rattle.siglist.specs.declared.Areas.{Areas}
use Rattle.sigrecord.specs.Record.{signature_of, first_entry, entry_count}
use Rattle.siglist.specs.List.{record_count, layout_count, list_fits, AreasFit, record_at, entries_of, entries_lie, layout_lies}
use Rattle.siglist.specs.List.{record_good}
use Rattle.sigrecord.specs.WellFormed.{scalars_good, scalars_well_formed}
use Rattle.sigrecord.proofs.Laws.{whole}
use Rattle.search.specs.Search.{fit_at}
use Rattle.search.specs.Candidate.{holds}
use Rattle.siglist.proofs.List.{list_fits_lem, record_whole}

no_match : (m g s p : Bool) → m && g ≡ false → m && (s && (p && g)) ≡ false
no_match false g s p e = refl
no_match true false s p e = rw (and_false p) (and_false s)
no_match true true s p e = absurd (true≢false e)

either_way : (t : Bool) → cond t fit.None fit.None ≡ fit.None
either_way true = refl
either_way false = refl

-- Tests one after another are one test: c of the entries' count, g of the gates, m of the layout, which tests the count too.
one_test
    : (c g m good : Bool) (t : SignatureFit)
    → (m ≡ true → c ≡ true)
    → cond good (cond (g && m) t fit.None) fit.None ≡ cond ((c && g) && (m && good)) t fit.None
one_test true true true good t h = refl
one_test true true false good t h = either_way good
one_test true false m good t h = either_way good
one_test false g true good t h = absurd (false≢true (h refl))
one_test false true false good t h = either_way good
one_test false false false good t h = either_way good

same_count : (n d : ℕ) (kinds bytes entries : List ℕ) → layout_matches n kinds bytes d entries ≡ true → eqb n d ≡ true
unfolding layout_matches
same_count n d kinds bytes entries e = and_left (eqb n d) _ (and_left _ _ e)

few_entries : (l : List ℕ) (i : ℕ) → record_good l i ≡ true → entry_count (record_at l i) ≤ 40
unfolding record_good layout_lies
few_entries l i e =
    let r = record_at l i in
    let lie = and_left (entries_lie (layout_count l) (first_entry r) (entry_count r)) _ (and_right (scalars_good r) _ e) in
    leb-true (entry_count r) 40 (and_left (leb (entry_count r) 40) _ lie)

other_count : (n d : ℕ) (kinds bytes entries : List ℕ) → (n ≡ d → ⊥) → layout_matches n kinds bytes d entries ≡ false
unfolding layout_matches
other_count n d kinds bytes entries differs = rw (ne_eqb n d differs)

-- No well-formed record has more than forty entries: no record fits an observation that has.
pub over_forty : (f : Features) (kinds bytes l : List ℕ) → 40 < f.count → (i : ℕ) → fit_at f kinds bytes l i ≡ fit.None
unfolding fit_at fit_of
over_forty f kinds bytes l over i = by_test (list_fits l && ltb i (record_count l) && record_good l i) refl
  where
    r : List ℕ
    r = record_at l i

    by_test : (t : Bool) → list_fits l && ltb i (record_count l) && record_good l i ≡ t
        → cond t (fit_of f kinds bytes (signature_of r) (entry_count r) (entries_of l r)) fit.None ≡ fit.None
    by_test true e =
        let few = few_entries l i (and_right (list_fits l && ltb i (record_count l)) _ e) in
        rw (
          other_count f.count (entry_count r) kinds bytes (entries_of l r) (λ same. omega arith),
          and_false (scalar_gates f (signature_of r)),
        )
    by_test false e = refl

module _ (f : Features) (kinds bytes l : List ℕ) (a : Areas) (i : ℕ) (fits : AreasFit l a) (inside : i < a.records) where
  abbrev Matches : Bool
  Matches = layout_matches f.count kinds bytes (entry_count (record_at l i)) (entries_of l (record_at l i))

  as_one_test
      : fit_at f kinds bytes l i
      ≡ cond (passes f (record_at l i) && (Matches && record_good l i)) (tolerance_of f (signature_of (record_at l i))) fit.None
  unfolding fit_at passes fit_of
  as_one_test =
      simp (list_fits_lem l a fits, lt-ltb i (record_count l) (omega arith))
      (one_test (eqb f.count (entry_count (record_at l i))) (scalar_gates f (signature_of (record_at l i))) Matches (record_good l i)
      (tolerance_of f (signature_of (record_at l i)))
      (same_count f.count (entry_count (record_at l i)) kinds bytes (entries_of l (record_at l i))))

  pub gate_fails : passes f (record_at l i) ≡ false → fit_at f kinds bytes l i ≡ fit.None
  gate_fails e = rw (as_one_test, e)

  -- It passes the gates: then whether the record holds, and TTL and quirks, decide.
  module _ (gates : passes f (record_at l i) ≡ true) where
    by_two
        : fit_at f kinds bytes l i
        ≡ cond (holds f.count kinds bytes l (record_at l i)) (tolerance_of f (signature_of (record_at l i))) fit.None
    unfolding holds record_good
    by_two = as_one_test ∙ rw (gates, whole (record_at l i) (record_whole l a i fits inside))

    pub not_held : holds f.count kinds bytes l (record_at l i) ≡ false → fit_at f kinds bytes l i ≡ fit.None
    not_held e = by_two ∙ rw e

    pub tolerated
        : holds f.count kinds bytes l (record_at l i) ≡ true
        → fit_at f kinds bytes l i ≡ tolerance_of f (signature_of (record_at l i))
    tolerated e = by_two ∙ rw e

module _ (n : ℕ) (kinds bytes l r : List ℕ) (a : Areas) (fits : AreasFit l a) where
  -- The tests of the code: the place of its entries, and the entries themselves.
  abbrev Lie : Bool
  Lie = entries_lie a.entries (first_entry r) (entry_count r)

  abbrev Matched : Bool
  Matched = layout_matches n kinds bytes (entry_count r) (entries_of l r) && entries_good (entries_of l r) (entry_count r)

  pub layout_fails : Matched ≡ false → holds n kinds bytes l r ≡ false
  unfolding holds layout_lies
  layout_fails e =
      no_match (layout_matches n kinds bytes (entry_count r) (entries_of l r)) (entries_good (entries_of l r) (entry_count r))
      (scalars_well_formed r)
      (entries_lie (layout_count l) (first_entry r) (entry_count r))
      e

  pub bad_place : Lie ≡ false → holds n kinds bytes l r ≡ false
  unfolding holds layout_lies
  bad_place e = simp (sym fits.entries, e, and_false)

  pub scalars_decide : Lie ≡ true → Matched ≡ true → holds n kinds bytes l r ≡ scalars_well_formed r
  unfolding holds layout_lies
  scalars_decide lie matched =
      rw (
        ← fits.entries,
        lie,
        and_left (layout_matches n kinds bytes (entry_count r) (entries_of l r)) _ matched,
        and_right (layout_matches n kinds bytes (entry_count r) (entries_of l r)) (entries_good (entries_of l r) (entry_count r)) matched,
      )
      (and_true (scalars_well_formed r))
