-- What is said of a good record's codes and numbers are these, and they are such as a signature holds.
use Rattle.std.specs.Prelude.{Some, None}
use Prim.Native.Nat.{ℕ, zero, suc, ◌%◌, ◌<◌}
use mathlib.Core.Path.{◌≡◌, refl, sym, ◌∙◌}
use mathlib.Core.Logic.{◌⊎◌, inl, inr, ⊎_elim}
use mathlib.Core.Bool.{Bool, true, false, cond, ◌&&◌, ◌||◌, false≢true}
use native.Mathlib.Omega.{arith}
use lib.Dec.{eqb, leb}
use borrow.Author.Tests.{eqb-true, leb-true, ne_eqb, lt-leb}
use Rattle.basis.proofs.Tests.{and_left}
use Rattle.ttl.specs.declared.Ttl.TheVariants as ttl
use Rattle.ttl.specs.Ttl.{byte_of}
use Rattle.sigrecord.specs.declared.WindowSize.TheVariants as window
use Rattle.sigrecord.specs.Record.{version_of, ttl_of, mss_of, scale_of, window_of, payload_of}
use Rattle.sigrecord.specs.WellFormed.{version_good, ttl_good, presence_good, window_good, payload_good}
use Rattle.grammar.specs.Table.{said}
use Rattle.written_line.specs.Numbers.{TtlHeld, MssHeld, ScaleHeld, WindowHeld}
use Rattle.written_line.specs.Signature.{version_said, form_said, mss_said, scale_said, window_said, payload_said}

-- ---- what is said

or_cases : (a b : Bool) → a || b ≡ true → (a ≡ true) ⊎ (b ≡ true)
or_cases true b e = inl refl
or_cases false b e = inr e

pub version_said_lem : (code : ℕ) → version_good code ≡ true → version_said (version_of code) ≡ said code 0
unfolding version_of version_good
version_said_lem code g =
    ⊎_elim (λ early.
    ⊎_elim (λ e. rw (eqb-true code 0 e)) (λ e. rw (eqb-true code 4 e)) (or_cases (eqb code 0) (eqb code 4) early))
    (λ e. rw (eqb-true code 6 e))
    (or_cases (eqb code 0 || eqb code 4) (eqb code 6) g)

pub form_said_lem : (form t d : ℕ) → ttl_good form d ≡ true → form_said (ttl_of form t d) ≡ said form d
unfolding ttl_of ttl_good
form_said_lem zero t d g = rw (eqb-true d 0 g)
form_said_lem (suc zero) t d g = refl
form_said_lem (suc (suc zero)) t d g = rw (eqb-true d 0 g)
form_said_lem (suc (suc (suc zero))) t d g = rw (eqb-true d 0 g)
form_said_lem (suc (suc (suc (suc form)))) t d g = absurd (omega (arith, leb-true (suc (suc (suc (suc form)))) 3 (and_left _ _ g)))

pub byte_said_lem : (form t d : ℕ) → byte_of (ttl_of form t d) ≡ t
unfolding ttl_of
byte_said_lem form t d = by (eqb form 0) (eqb form 1) (eqb form 2)
  where
    by : (a b c : Bool) → byte_of (cond a (ttl.Value t) (cond b (ttl.Distance t d) (cond c (ttl.Guess t) (ttl.Bad t)))) ≡ t
    by true b c = refl
    by false true c = refl
    by false false true = refl
    by false false false = refl

presence : (present n : ℕ) → presence_good present n ≡ true → present < 2
unfolding presence_good
presence present n g =
    ⊎_elim (λ e. omega (arith, eqb-true present 1 e))
    (λ e. omega (arith, eqb-true present 0 (and_left (eqb present 0) (eqb n 0) e)))
    (or_cases (eqb present 1) (eqb present 0 && eqb n 0) g)

pub mss_said_lem : (present n : ℕ) → presence_good present n ≡ true → mss_said (mss_of present n) ≡ said present n
unfolding mss_of presence_good
mss_said_lem zero n g = rw (eqb-true n 0 g)
mss_said_lem (suc zero) n g = refl
mss_said_lem (suc (suc present)) n g = absurd (omega (arith, presence (suc (suc present)) n g))

pub scale_said_lem : (present n : ℕ) → presence_good present n ≡ true → scale_said (scale_of present n) ≡ said present n
unfolding scale_of presence_good
scale_said_lem zero n g = rw (eqb-true n 0 g)
scale_said_lem (suc zero) n g = refl
scale_said_lem (suc (suc present)) n g = absurd (omega (arith, presence (suc (suc present)) n g))

multiple : (n : ℕ) → leb n 255 ≡ true → n % 256 ≡ n
multiple n g = omega (arith, leb-true n 255 g)

pub window_said_lem : (form n : ℕ) → window_good form n ≡ true → window_said (window_of form n) ≡ said form n
unfolding window_of window_good
window_said_lem zero n g = rw (eqb-true n 0 g)
window_said_lem (suc zero) n g = refl
window_said_lem (suc (suc zero)) n g = refl
window_said_lem (suc (suc (suc zero))) n g = rw (multiple n g)
window_said_lem (suc (suc (suc (suc zero)))) n g = rw (multiple n g)
window_said_lem (suc (suc (suc (suc (suc form))))) n g =
    let f = suc (suc (suc (suc (suc form)))) in
    let bad : window_good f n ≡ false = rw (ne_eqb f 0 (λ (e : f ≡ 0). omega arith), lt-leb f 2 (omega arith), lt-leb f 4 (omega arith)) in
    absurd (false≢true (sym bad ∙ g))

pub payload_said_lem : (code : ℕ) → payload_good code ≡ true → payload_said (payload_of code) ≡ said code 0
unfolding payload_of payload_good
payload_said_lem zero g = refl
payload_said_lem (suc zero) g = refl
payload_said_lem (suc (suc zero)) g = refl
payload_said_lem (suc (suc (suc code))) g = absurd (omega (arith, leb-true (suc (suc (suc code))) 2 g))

-- ---- such as a signature holds

pub ttl_held : (form t d : ℕ) → t < 256 → d < 256 → TtlHeld (ttl_of form t d)
unfolding ttl_of
ttl_held form t d h k = by (eqb form 0) (eqb form 1) (eqb form 2)
  where
    by : (a b c : Bool) → TtlHeld (cond a (ttl.Value t) (cond b (ttl.Distance t d) (cond c (ttl.Guess t) (ttl.Bad t))))
    by true b c = h
    by false true c = (h, k)
    by false false true = h
    by false false false = h

pub mss_held : (present n : ℕ) → n < 65536 → MssHeld (mss_of present n)
unfolding mss_of
mss_held present n h = by (eqb present 0)
  where
    by : (a : Bool) → MssHeld (cond a None (Some n))
    by true = tt
    by false = h

pub scale_held : (present n : ℕ) → n < 256 → ScaleHeld (scale_of present n)
unfolding scale_of
scale_held present n h = by (eqb present 0)
  where
    by : (a : Bool) → ScaleHeld (cond a None (Some n))
    by true = tt
    by false = h

pub window_held : (form n : ℕ) → n < 65536 → WindowHeld (window_of form n)
unfolding window_of
window_held form n h = by (eqb form 0) (eqb form 1) (eqb form 2) (eqb form 3)
  where
    by
        : (a b c d : Bool)
        → WindowHeld
        (cond a window.Any
        (cond b (window.Value n) (cond c (window.Mod n) (cond d (window.Mss (n % 256)) (window.Mtu (n % 256))))))
    by true b c d = tt
    by false true c d = h
    by false false true d = h
    by false false false true = omega arith
    by false false false false = omega arith
