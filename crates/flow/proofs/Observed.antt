-- Laws of an observation that is read off a packet: its layout and its quirks.
use Rattle.std.specs.Prelude.{Option, Some, None, Result}
use mathlib.Core.Path.{refl}
use mathlib.Core.Bool.{Bool, true, false, cond, ◌&&◌}
use mathlib.Core.List.{List, [], ◌∷◌}
use Prim.Native.Nat.{ℕ, ◌≤◌}
use native.Mathlib.Omega.{arith}
use lib.ListN.{take}
use Rattle.quirks.specs.declared.QuirkSet.{QuirkSet}
use Rattle.quirks.specs.Quirks.{place_of}
use Rattle.quirks.specs.declared.Quirk.TheVariants as quirk
use Rattle.quirks.specs.Named.{empty}
use Rattle.quirks.proofs.Within.{Within, Clean, within_empty, within_with, clean_empty, clean_add_if}
use Rattle.observable.specs.declared.TcpObservation.{TcpObservation}
use Rattle.observable.specs.Observation.{empty_layout, empty_observation}
use Rattle.rfc.specs.Rfc9293.{control, options}
use Rattle.one_option.specs.Options.{Opt, runs_past, options_of}
use Rattle.one_option.specs.See.{later_quirks, see_option}
use Rattle.syn_options.specs.Walk.{Walked, put_option, walk_from, start_walk, walk_of}
use Rattle.syn_options.specs.Places.{first_of}
use Rattle.syn_options.specs.Stops.{stops_before, walk_up_to, walk_to, walk_options}
use Rattle.syn_options.proofs.Entries.{Tidy, at_most_forty, past_count, zero_row, walk_at_most_forty, walk_past_count}
use Rattle.ip.specs.declared.IpFacts.{IpFacts}
use Rattle.refusals.specs.declared.PacketRefusal.{PacketRefusal}
use Rattle.flow.specs.declared.Reading.{Reading}
use Rattle.tcp_header.specs.Flags.{flags_invalid, is_syn_type, is_syn_ack_type}
use Rattle.ip.specs.Ip.{ipv4_quirks, ipv4_facts, ipv6_quirks, ipv6_facts}
use Rattle.ip.proofs.Ip.{Given, given}
use Rattle.flow.specs.Tcp.{quirks_of_headers, observation_of, observation_from, known_peer, read_tcp}
use Rattle.tcp_header.specs.HeaderQuirks.{header_quirks}
use Rattle.flow.specs.declared.Mode.{Mode}
use Rattle.flow.specs.Strict.{contradicts_itself, read_tcp_by}
use Rattle.flow.specs.Modes.{stop_of, tcp_stage, observation_in, read_in}
use Rattle.flow.specs.Reading.{TcpStage, tcp_part, after_ip, read_packet, observation_read}
use Rattle.flow.proofs.Stage.{plain_by, stage_by}
use Rattle.flow.proofs.Walks.{observed_walk}

-- What a reader may rely on in an observation whose quirks are such.
pub record Sound (Quirks : QuirkSet → Type 0) (o : TcpObservation) : Type 0 where
  -- "A layout has at most 40 entries"
  pub few : o.olayout.count ≤ 40
  -- "entries past it 0"
  pub tidy : Tidy o.olayout
  -- in every mode within the seventeen; in the plain mode "OptBad is never set"
  pub quirks : Quirks o.quirks

sound_empty : (Quirks : QuirkSet → Type 0) → Quirks empty → Sound Quirks empty_observation
unfolding empty_observation empty_layout
sound_empty Quirks none =
    record {
      few = omega arith;
      tidy = record { kinds = λ i h. zero_row i; bytes = λ i h. zero_row i };
      quirks = none;
    }

-- ---- the walk keeps quirks clean

walk_within
    : (stop syn : Bool) (w : Walked) (os : List Opt) → Clean w.seen.quirks → Clean (walk_from stop syn w os).seen.quirks
unfolding walk_from see_option later_quirks place_of
walk_within stop syn w [] inside = inside
walk_within stop syn w (o ∷ os) inside =
    by_test (stop && runs_past o)
    (walk_within stop syn (put_option syn w o) os
    (clean_add_if _ _ _ refl (clean_add_if _ _ _ refl (clean_add_if _ _ _ refl (clean_add_if _ _ _ refl inside)))))
  where
    by_test
        : (t : Bool)
        → Clean (walk_from stop syn (put_option syn w o) os).seen.quirks
        → Clean
        (cond {A = Walked} t (record { olayout = w.olayout; seen = w.seen; malformed = true })
        (walk_from stop syn (put_option syn w o) os)).seen.quirks
    by_test true rest = inside
    by_test false rest = rest

-- ---- the walk that stops

up_to_within : (k : Option ℕ) (syn : Bool) (q : QuirkSet) (s : List ℕ) → Clean q → Within (walk_up_to k syn q s).seen.quirks
unfolding walk_up_to walk_of
up_to_within None syn q s inside = (walk_within false syn (start_walk q) (options_of (take 40 s)) inside).within
up_to_within (Some k) syn q s inside =
    within_with _ quirk.OptBad (walk_within false syn (start_walk q) (options_of (take 40 (take k s))) inside).within

-- ---- both stages

header_within : (t : List ℕ) (q : QuirkSet) → Clean q → Clean (quirks_of_headers t q)
unfolding quirks_of_headers header_quirks place_of
header_within t q inside =
    clean_add_if _ _ _ refl
    (clean_add_if _ _ _ refl
    (clean_add_if _ _ _ refl
    (clean_add_if _ _ _ refl
    (clean_add_if _ _ _ refl (clean_add_if _ _ _ refl (clean_add_if _ _ _ refl inside))))))

either
    : (Quirks : QuirkSet → Type 0) (t : Bool) (a b : Result Reading PacketRefusal)
    → Sound Quirks (observation_read a)
    → Sound Quirks (observation_read b)
    → Sound Quirks (observation_read (cond t a b))
either Quirks true a b x y = x
either Quirks false a b x y = y

module _ (f : IpFacts) (t : List ℕ) (inside : Clean f.quirks) where
  sound_observed : (syn : Bool) (peer : Option ℕ) → Sound Clean (observation_from f t syn peer)
  unfolding observation_from observation_of walk_of
  sound_observed syn peer =
      record {
        few = at_most_forty false syn (quirks_of_headers t f.quirks) (options t);
        tidy = past_count false syn (quirks_of_headers t f.quirks) (options t);
        quirks = walk_within false syn (start_walk (quirks_of_headers t f.quirks)) (options_of (take 40 (options t)))
            (header_within t f.quirks inside);
      }

  sound_in_mode : (mode : Mode) (syn : Bool) (peer : Option ℕ) → Sound Within (observation_in mode f t syn peer)
  unfolding observation_of walk_options walk_to
  sound_in_mode mode syn peer =
      let q = quirks_of_headers t f.quirks in
      let s = take 40 (options t) in
      rw (← observed_walk mode f t syn peer)
      (record {
        few = walk_at_most_forty (stop_of mode) syn q (options t);
        tidy = walk_past_count (stop_of mode) syn q (options t);
        quirks = up_to_within (first_of (stops_before (stop_of mode)) s) syn q s (header_within t f.quirks inside);
      })

-- ---- the reading

sound_tcp
    : (Quirks : QuirkSet → Type 0)
    → Quirks empty
    → (observe : Bool → Option ℕ → TcpObservation)
    → ((syn : Bool) (peer : Option ℕ) → Sound Quirks (observe syn peer))
    → (t : List ℕ) (peer : Option ℕ)
    → Sound Quirks (observation_read (read_tcp_by observe t peer))
unfolding read_tcp_by
sound_tcp Quirks none observe sound t peer =
    either Quirks (flags_invalid (control t)) _ _ (sound_empty Quirks none)
    (either Quirks (is_syn_type (control t)) _ _ (sound true None)
    (either Quirks (is_syn_ack_type (control t)) _ _ (sound false (known_peer peer)) (sound_empty Quirks none)))

sound_stage
    : (mode : Mode) (f : IpFacts) (t : List ℕ) (peer : Option ℕ)
    → Clean f.quirks
    → Sound Within (observation_read (tcp_stage mode f t peer))
sound_stage mode f t peer inside =
    rw (stage_by mode f t peer)
    (either Within (mode.strict && contradicts_itself t) _ _ (sound_empty Within within_empty)
    (sound_tcp Within within_empty (observation_in mode f t) (sound_in_mode f t inside mode) t peer))

module _ (Quirks : QuirkSet → Type 0) (none : Quirks empty) (tcp : TcpStage) (p : List ℕ) (peer : Option ℕ)
    (sound : (f : IpFacts) → Clean f.quirks → Sound Quirks (observation_read (tcp f (tcp_part f p) peer)))
  where
    after_ip_lem : {n : ℕ} {r : Result IpFacts PacketRefusal} → Given p n r → Sound Quirks (observation_read (after_ip tcp r p peer))
    unfolding ipv4_facts ipv4_quirks ipv6_facts ipv6_quirks place_of
    after_ip_lem (Given.refused small) = sound_empty Quirks none
    after_ip_lem (Given.four long words) =
        sound _
        (clean_add_if _ _ _ refl
        (clean_add_if _ _ _ refl (clean_add_if _ _ _ refl (clean_add_if _ _ _ refl (clean_add_if _ _ _ refl clean_empty)))))
    after_ip_lem (Given.six long) =
        sound _ (clean_add_if _ _ _ refl (clean_add_if _ _ _ refl clean_empty))

-- Every reading's observation is sound, also the empty one beside a refusal: in the plain mode, and in any.
pub sound : (p : List ℕ) (peer : Option ℕ) → Sound Clean (observation_read (read_packet p peer))
unfolding read_packet
sound p peer =
    after_ip_lem Clean clean_empty read_tcp p peer
    (λ f inside.
    rw (plain_by f (tcp_part f p) peer)
    (sound_tcp Clean clean_empty (observation_from f (tcp_part f p)) (sound_observed f (tcp_part f p) inside) (tcp_part f p) peer))
    (given p)

pub sound_in : (mode : Mode) (p : List ℕ) (peer : Option ℕ) → Sound Within (observation_read (read_in mode p peer))
unfolding read_in
sound_in mode p peer =
    after_ip_lem Within within_empty (tcp_stage mode) p peer (λ f inside. sound_stage mode f (tcp_part f p) peer inside) (given p)
