-- The strict reading beside the plain one: set aside, the same, or of a SYN or SYN+ACK whose options were walked the strict way.
use Rattle.std.specs.Prelude.{Option, Some, None, Result, Ok, Err}
use mathlib.Core.Path.{◌≡◌, refl, sym, ◌∙◌, ap}
use mathlib.Core.Bool.{Bool, true, false, cond, true≢false}
use mathlib.Core.List.{List}
use mathlib.Core.Logic.{◌⊎◌, inl, inr, ⊎_elim}
use Prim.Native.Nat.{ℕ}
use native.Mathlib.Omega.{arith}
use lib.ListN.{take}
use Rattle.quirks.specs.declared.Quirk.TheVariants as quirk
use Rattle.quirks.specs.Quirks.{contains}
use Rattle.rfc.specs.Rfc9293.{control, options}
use Rattle.observable.specs.declared.TcpObservation.{TcpObservation}
use Rattle.syn_options.specs.declared.Places.{Places}
use Rattle.syn_options.specs.Places.{places_of, no_places}
use Rattle.ip.specs.declared.IpFacts.{IpFacts}
use Rattle.ip.specs.Ip.{read_ip}
use Rattle.refusals.specs.declared.PacketRefusal.{PacketRefusal}
use Rattle.refusals.specs.declared.PacketRefusal.TheVariants as refusal
use Rattle.tcp_header.specs.Flags.{flags_invalid, is_syn_type, is_syn_ack_type}
use Rattle.flow.specs.declared.Kind.{Kind}
use Rattle.flow.specs.declared.Kind.TheVariants as kind
use Rattle.flow.specs.declared.Reading.{Reading}
use Rattle.flow.specs.Tcp.{observation_of, observation_from, known_peer, read_tcp}
use Rattle.flow.specs.Strict.{contradicts_itself, strict_observation, read_tcp_by, read_tcp_strict}
use Rattle.flow.specs.Modes.{strict_mode, tcp_stage, read_in}
use Rattle.flow.specs.Reading.{tcp_part, after_ip, read_packet, refusal_of, kind_read, observation_read}
use Rattle.flow.proofs.Stage.{plain_by}
use Rattle.flow.proofs.Damage.{strict_sound, strict_damaged}
use Rattle.flow.specs.declared.Reading.TheVariants as reading
use Rattle.acceptance.specs.OneWalk.{options_given, options_in}
use Rattle.acceptance.specs.Modes.{SameBesideOptions}

-- With these options, a plain reading and the strict one.
pub data Beside : List ℕ → Result Reading PacketRefusal → (Result Reading PacketRefusal) → Type 0 where
  aside : {s : List ℕ} {plain : Result Reading PacketRefusal} → Beside s plain (Err refusal.DataOffset)
  same
      : {s : List ℕ} {r : Result Reading PacketRefusal}
      → (kind_read r ≡ Ok (Some kind.Syn) → ⊥)
      → (kind_read r ≡ Ok (Some kind.SynAck) → ⊥)
      → Beside s r r
  opened
      : (syn : Bool) (f : IpFacts) (t : List ℕ) (m : Option ℕ)
      → Beside (take 40 (options t))
      (Ok (reading.Opening (cond syn kind.Syn kind.SynAck) (observation_from f t syn m)))
      (Ok (reading.Opening (cond syn kind.Syn kind.SynAck) (strict_observation f t syn m)))

-- No two kinds of answer are one.
refused_none
    : {why : PacketRefusal} {a : Result (Option Kind) PacketRefusal}
    → a ≡ Err why
    → (a ≡ Ok (Some kind.Syn) → ⊥) × (a ≡ Ok (Some kind.SynAck) → ⊥)
refused_none e = (λ f. let z : ◌≡◌ {A = ℕ} 0 1 = cc in omega arith, λ f. let z : ◌≡◌ {A = ℕ} 0 1 = cc in omega arith)

nothing_none : {a : Result (Option Kind) PacketRefusal} → a ≡ Ok None → (a ≡ Ok (Some kind.Syn) → ⊥) × (a ≡ Ok (Some kind.SynAck) → ⊥)
nothing_none e = (λ f. let z : ◌≡◌ {A = ℕ} 0 1 = cc in omega arith, λ f. let z : ◌≡◌ {A = ℕ} 0 1 = cc in omega arith)

-- ---- the stage

pick : (t : Bool) {s : List ℕ} {a b x y : Result Reading PacketRefusal} → Beside s a x → Beside s b y → Beside s (cond t a b) (cond t x y)
pick true h k = h
pick false h k = k

set_aside
    : (t : Bool) {s : List ℕ} {plain strict : Result Reading PacketRefusal}
    → Beside s plain strict
    → Beside s plain (cond t (Err refusal.DataOffset) strict)
set_aside true h = aside
set_aside false h = h

by_flags
    : (f : IpFacts) (t : List ℕ) (peer : Option ℕ)
    → Beside (take 40 (options t)) (read_tcp_by (observation_from f t) t peer) (read_tcp_by (strict_observation f t) t peer)
unfolding read_tcp_by
by_flags f t peer =
    let refused = refused_none {why = refusal.InvalidTcpFlags (control t)} refl in
    let nothing = nothing_none refl in
    pick (flags_invalid (control t)) (same refused.0 refused.1)
    (pick (is_syn_type (control t)) (opened true f t None)
    (pick (is_syn_ack_type (control t)) (opened false f t (known_peer peer)) (same nothing.0 nothing.1)))

pub beside : (p : List ℕ) (peer : Option ℕ) → Beside (options_in p) (read_packet p peer) (read_in strict_mode p peer)
unfolding read_packet read_in read_tcp_strict
beside p peer = by_stage (read_ip p)
  where
    of_part
        : (f : IpFacts)
        → Beside (take 40 (options (tcp_part f p))) (read_tcp f (tcp_part f p) peer) (tcp_stage strict_mode f (tcp_part f p) peer)
    of_part f = rw (plain_by f (tcp_part f p) peer) (set_aside (contradicts_itself (tcp_part f p)) (by_flags f (tcp_part f p) peer))

    by_stage
        : (r : Result IpFacts PacketRefusal)
        → Beside (options_given r p) (after_ip read_tcp r p peer) (after_ip (tcp_stage strict_mode) r p peer)
    by_stage (Err r) = let refused = refused_none {why = r} refl in same refused.0 refused.1
    by_stage (Ok f) = of_part f

-- ---- what follows of the two

-- Sound or not.
sound_or_not : (p : Places) → (p ≡ no_places) ⊎ (p ≡ no_places → ⊥)
sound_or_not p = by_places p.past p.short refl refl
  where
    by_places : (past short : Option ℕ) → p.past ≡ past → p.short ≡ short → (p ≡ no_places) ⊎ (p ≡ no_places → ⊥)
    by_places None None e f = inl (λ i. record { past = e i; short = f i })
    by_places (Some k) short e f =
        inr (λ same. let g = ap (λ (x : Places). x.past) same in let z : ◌≡◌ {A = ℕ} 0 1 = cc in omega arith)
    by_places None (Some k) e f =
        inr (λ same. let g = ap (λ (x : Places). x.short) same in let z : ◌≡◌ {A = ℕ} 0 1 = cc in omega arith)

abbrev Aside : Result Reading PacketRefusal → Type 0
Aside x = refusal_of x ≡ 14

aside_number : Aside (Err refusal.DataOffset)
unfolding refusal_of
aside_number = refl

-- It is 14 alone where its number is 14, since the plain one's never is.
pub is_aside_lem
    : {s : List ℕ} {plain x : Result Reading PacketRefusal}
    → Beside s plain x
    → (Aside plain → ⊥)
    → Aside x
    → x ≡ Err refusal.DataOffset
unfolding refusal_of
is_aside_lem aside never e = refl
is_aside_lem (same n m) never e = absurd (never e)
is_aside_lem (opened syn f t m) never e = let z : ◌≡◌ {A = ℕ} 0 14 = e in absurd (omega arith)

-- A SYN or SYN+ACK with sound options, and any other packet, is read alike.
pub sound_same
    : {s : List ℕ} {plain x : Result Reading PacketRefusal}
    → Beside s plain x
    → (Aside x → ⊥)
    → places_of s ≡ no_places
    → x ≡ plain
sound_same aside other sound = absurd (other aside_number)
sound_same (same n m) other sound = refl
sound_same (opened syn f t m) other sound =
    ap (λ (o : TcpObservation). Ok (reading.Opening (cond syn kind.Syn kind.SynAck) o)) (strict_sound f t syn m sound)

pub other_same
    : {s : List ℕ} {plain x : Result Reading PacketRefusal}
    → Beside s plain x
    → (Aside x → ⊥)
    → (kind_read plain ≡ Ok (Some kind.Syn) → ⊥)
    → (kind_read plain ≡ Ok (Some kind.SynAck) → ⊥)
    → x ≡ plain
other_same aside other no_syn no-ack = absurd (other aside_number)
other_same (same n m) other no_syn no-ack = refl
other_same (opened true f t m) other no_syn no-ack = absurd (no_syn refl)
other_same (opened false f t m) other no_syn no-ack = absurd (no-ack refl)

pub kind_same : {s : List ℕ} {plain x : Result Reading PacketRefusal} → Beside s plain x → (Aside x → ⊥) → kind_read x ≡ kind_read plain
kind_same aside other = absurd (other aside_number)
kind_same (same n m) other = refl
kind_same (opened syn f t m) other = refl

pub rest_same
    : {s : List ℕ} {plain x : Result Reading PacketRefusal}
    → Beside s plain x
    → (Aside x → ⊥)
    → SameBesideOptions (observation_read x) (observation_read plain)
unfolding strict_observation observation_from observation_of
rest_same aside other = absurd (other aside_number)
rest_same (same n m) other =
    record { version = refl; ittl = refl; olen = refl; wsize = refl; tot_hdr = refl; pclass = refl; peer_mss = refl; tos = refl }
rest_same (opened syn f t m) other =
    record { version = refl; ittl = refl; olen = refl; wsize = refl; tot_hdr = refl; pclass = refl; peer_mss = refl; tos = refl }

-- A SYN or SYN+ACK with damaged options shows OptBad.
pub damaged_shows
    : {s : List ℕ} {plain x : Result Reading PacketRefusal}
    → Beside s plain x
    → (Aside x → ⊥)
    → ((kind_read plain ≡ Ok (Some kind.Syn) → ⊥) → (kind_read plain ≡ Ok (Some kind.SynAck) → ⊥) → ⊥)
    → (places_of s ≡ no_places → ⊥)
    → contains (observation_read x).quirks quirk.OptBad ≡ true
damaged_shows aside other opening damaged = absurd (other aside_number)
damaged_shows (same n m) other opening damaged = absurd (opening n m)
damaged_shows (opened syn f t m) other opening damaged = strict_damaged f t syn m damaged

-- Where both are one, the options are sound or the packet is neither.
pub same_why
    : {s : List ℕ} {plain x : Result Reading PacketRefusal}
    → Beside s plain x
    → (Aside x → ⊥)
    → contains (observation_read plain).quirks quirk.OptBad ≡ false
    → x ≡ plain
    → (places_of s ≡ no_places) ⊎ ((kind_read plain ≡ Ok (Some kind.Syn) → ⊥) × (kind_read plain ≡ Ok (Some kind.SynAck) → ⊥))
same_why aside other none e = absurd (other aside_number)
same_why (same n m) other none e = inr (n, m)
same_why (opened syn f t m) other none e =
    ⊎_elim inl
    (λ damaged.
    absurd
    (true≢false
    (sym (strict_damaged f t syn m damaged)
    ∙ ap (λ (r : Result Reading PacketRefusal). contains (observation_read r).quirks quirk.OptBad) e
    ∙ none)))
    (sound_or_not (places_of (take 40 (options t))))
