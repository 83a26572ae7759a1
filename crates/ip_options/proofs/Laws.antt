-- Laws of the option lengths: what a short packet gives, and the IPv6 payload's size and second byte read off the packet.
use mathlib.Core.Path.{◌≡◌, refl, ◌∙◌}
use Prim.Native.Nat.{ℕ, ◌+◌, ◌-◌, ◌*◌, ◌%◌, ◌<◌, ◌≤◌, min}
use mathlib.Core.Bool.{Bool, true, false, cond, ◌||◌}
use mathlib.Core.List.{List}
use native.Mathlib.Omega.{arith}
use lib.Dec.{eqb}
use lib.ListN.{length, drop, length-take, length-drop, get_or-eq_default}
use lib.Seq.{get_or-take, get_or-drop}
use borrow.Author.Tests.{eq-eqb, ne_eqb, lt-ltb, le-ltb}
use Rattle.basis.specs.Bytes.{byte_at}
use Rattle.rfc.specs.Rfc8200.{next_header, payload_length, payload}
use Rattle.ip_options.specs.IpOptions.{ipv4_option_length, ipv6_extension_length}

pub v4_empty : (p : List ℕ) → length p ≡ 0 → ipv4_option_length p ≡ 0
unfolding ipv4_option_length
v4_empty p none = rw (get_or-eq_default p 0 {n = 0} (omega arith))

pub payload_size_lem : (p : List ℕ) → length (payload p) ≡ min (payload_length p) (length p - 40)
payload_size_lem p = simp (length-take, length-drop) (omega arith)

pub payload_second : (p : List ℕ) → 1 < length (payload p) → byte_at (payload p) 1 ≡ byte_at p 41
payload_second p two =
    let size = payload_size_lem p in
    get_or-take (min (40 + payload_length p) (length p) - 40) (drop 40 p) 1 0 (omega arith) ∙ get_or-drop 40 p 1 0

pub v6_no_payload : (p : List ℕ) → length (payload p) ≡ 0 → ipv6_extension_length p ≡ 0
unfolding ipv6_extension_length
v6_no_payload p none = rw (eq-eqb (length (payload p)) 0 none) (either (eqb (next_header p) 6) _)
  where
    either : (t : Bool) (n : ℕ) → cond (t || true) 0 n ≡ 0
    either true n = refl
    either false n = refl

pub v6_tcp : (p : List ℕ) → next_header p ≡ 6 → ipv6_extension_length p ≡ 0
unfolding ipv6_extension_length
v6_tcp p tcp = rw (eq-eqb (next_header p) 6 tcp)

module _ (p : List ℕ) (other : next_header p ≡ 6 → ⊥) (some : length (payload p) ≡ 0 → ⊥) where
  pub v6_fragment : next_header p ≡ 44 → ipv6_extension_length p ≡ 8
  unfolding ipv6_extension_length
  v6_fragment frag = simp (ne_eqb (next_header p) 6 other, ne_eqb (length (payload p)) 0 some, eq-eqb (next_header p) 44 frag)

  pub v6_one_byte : (next_header p ≡ 44 → ⊥) → length (payload p) < 2 → ipv6_extension_length p ≡ 0
  unfolding ipv6_extension_length
  v6_one_byte whole short =
      simp (
        ne_eqb (next_header p) 6 other,
        ne_eqb (length (payload p)) 0 some,
        ne_eqb (next_header p) 44 whole,
        lt-ltb (length (payload p)) 2 short,
      )

  pub v6_eights : (next_header p ≡ 44 → ⊥) → 2 ≤ length (payload p) → ipv6_extension_length p ≡ (byte_at p 41 + 1) * 8 % 256
  unfolding ipv6_extension_length
  v6_eights whole two =
      simp (
        ne_eqb (next_header p) 6 other,
        ne_eqb (length (payload p)) 0 some,
        ne_eqb (next_header p) 44 whole,
        le-ltb (length (payload p)) 2 two,
        payload_second p two,
      )
