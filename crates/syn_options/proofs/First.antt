-- Laws of places: the first option that meets a test is the first, and where a walk stops.
use Rattle.std.specs.Prelude.{Option, Some, None}
use mathlib.Core.Path.{◌≡◌, refl, sym, ◌∙◌}
use mathlib.Core.Bool.{Bool, true, false, cond, true≢false}
use mathlib.Core.List.{List, [], ◌∷◌}
use Prim.Native.Nat.{ℕ, zero, suc, ◌+◌, ◌<◌, ◌≤◌}
use native.Mathlib.Omega.{arith}
use lib.ListN.{length, drop, length-take, length-drop}
use Rattle.one_option.specs.Options.{Opt, asked, option_of, options_after, options_of, option_at, OptionBegins}
use Rattle.one_option.proofs.Options.{skipped}
use Rattle.one_option.proofs.Begins.{none_begins, followed, option_behind}
use Rattle.syn_options.specs.Places.{size_of, first_from, first_of, TheFirst}

-- ---- the first is the first

-- So many bytes further on.
abbrev ahead : ℕ → Option ℕ → Option ℕ
ahead n None = None
ahead n (Some k) = Some (n + k)

first_ahead : (test : Opt → Bool) (n at : ℕ) (os : List Opt) → first_from test (n + at) os ≡ ahead n (first_from test at os)
unfolding first_from
first_ahead test n at [] = refl
first_ahead test n at (o ∷ os) =
    let on : n + at + size_of o ≡ n + (at + size_of o) = omega arith in
    rw on (by_test (test o) _ _ (first_ahead test n (at + size_of o) os))
  where
    by_test : (t : Bool) (far near : Option ℕ) → far ≡ ahead n near → cond t (Some (n + at)) far ≡ ahead n (cond t (Some at) near)
    by_test true far near h = refl
    by_test false far near h = h

module _ (test : Opt → Bool) (b : ℕ) (rest : List ℕ) where
  -- What is the first behind the first option, if that does not meet the test.
  goes_on
      : test (option_of b rest) ≡ false
      → {later : Option ℕ}
      → TheFirst test (drop (asked b rest) rest) later
      → TheFirst test (b ∷ rest) (ahead (size_of (option_of b rest)) later)
  goes_on not-here (TheFirst.none nowhere) = TheFirst.none no_more
    where
      no_more : (j : ℕ) → OptionBegins j (b ∷ rest) → test (option_at (b ∷ rest) j) ≡ false
      no_more j OptionBegins.first = not-here
      no_more j (OptionBegins.next {n = n} r) = rw (option_behind b (asked b rest) n rest) (nowhere n r)
  goes_on not-here (TheFirst.at {k} begins meets least) =
      let size : size_of (option_of b rest) + k ≡ suc (asked b rest + k) =
      let more = followed (asked b rest) rest begins in rw length-take (omega arith) in
      rw size (TheFirst.at (OptionBegins.next begins) (rw (option_behind b (asked b rest) k rest) meets) no_less)
    where
      no_less : (j : ℕ) → OptionBegins j (b ∷ rest) → test (option_at (b ∷ rest) j) ≡ true → suc (asked b rest + k) ≤ j
      no_less j OptionBegins.first e = absurd (true≢false (sym e ∙ not-here))
      no_less j (OptionBegins.next {n = n} r) e =
          let less = least n r (rw (option_behind b (asked b rest) n rest) at e) in
          omega arith

  one_more
      : TheFirst test (drop (asked b rest) rest) (first_of test (drop (asked b rest) rest))
      → TheFirst test (b ∷ rest) (first_of test (b ∷ rest))
  unfolding first_from options_after
  one_more later =
      let size : 0 + size_of (option_of b rest) ≡ size_of (option_of b rest) + 0 = omega arith in
      rw (skipped (asked b rest) rest, size, first_ahead test (size_of (option_of b rest)) 0 (options_of (drop (asked b rest) rest)))
      (by_test (test (option_of b rest)) refl)
    where
      by_test
          : (t : Bool)
          → test (option_of b rest) ≡ t
          → TheFirst test (b ∷ rest)
          (cond t (Some 0) (ahead (size_of (option_of b rest)) (first_of test (drop (asked b rest) rest))))
      by_test true e = TheFirst.at OptionBegins.first e (λ j r f. omega arith)
      by_test false e = goes_on e later

one_longer
    : (test : Opt → Bool) (n : ℕ)
    → ((s : List ℕ) → length s < n → TheFirst test s (first_of test s))
    → (s : List ℕ)
    → length s < suc n
    → TheFirst test s (first_of test s)
unfolding first_from options_after
one_longer test n shorter [] h = TheFirst.none (λ j r. absurd (none_begins [] refl r))
one_longer test n shorter (b ∷ rest) h = one_more test b rest (shorter (drop (asked b rest) rest) (rw length-drop (omega arith)))

bounded : (test : Opt → Bool) (n : ℕ) (s : List ℕ) → length s < n → TheFirst test s (first_of test s)
bounded test zero s h = absurd (omega arith)
bounded test (suc n) s h = one_longer test n (bounded test n) s h

-- The first option of a string that meets a test is the first: said of where options begin, not of rows.
pub the_first : (test : Opt → Bool) (s : List ℕ) → TheFirst test s (first_of test s)
the_first test s = bounded test (suc (length s)) s (omega arith)
