-- What holds of every reading: its layout, its quirks and its peer's MSS by flow's laws; the TTL and the peer's timestamp, stage by stage.
use Rattle.std.specs.Prelude.{Option, None, Result, Some, Ok, Err}
use mathlib.Core.Path.{◌≡◌, refl, sym, ◌∙◌, ap}
use mathlib.Core.Bool.{Bool, true, false, cond, not, ◌&&◌, false≢true}
use mathlib.Core.List.{List, [], ◌∷◌}
use Prim.Native.Nat.{ℕ}
use native.Mathlib.Omega.{arith}
use lib.Dec.{eqb, leb}
use lib.ListN.{length, take}
use Rattle.basis.specs.Digits.{digit}
use Rattle.rfc.specs.Rfc791 as v4
use Rattle.rfc.specs.Rfc8200 as v6
use Rattle.rfc.specs.Rfc9293.{control, options}
use Rattle.quirks.specs.declared.Quirk.{Quirk}
use Rattle.quirks.specs.declared.Quirk.TheVariants as quirk
use Rattle.quirks.specs.declared.QuirkSet.{QuirkSet}
use Rattle.quirks.specs.Quirks.{place_of, holds, contains, add_if}
use Rattle.quirks.specs.Named.{from_quirks, empty}
use Rattle.quirks.proofs.Laws.{contains_with_other}
use Rattle.quirks.proofs.Within.{Within}
use Rattle.ttl.specs.declared.Ttl.{Ttl}
use Rattle.ttl.specs.declared.Ttl.TheVariants as ttl
use Rattle.ttl.proofs.Laws.{never_guess}
use Rattle.observable.specs.Observation.{empty_observation}
use Rattle.one_option.specs.Options.{Opt, data_of, options_of}
use Rattle.one_option.specs.See.{peer_timestamp_nonzero, later_quirks, see_option}
use Rattle.syn_options.specs.Walk.{Walked, put_option, walk_from, start_walk, walk_of}
use Rattle.ip.specs.declared.IpFacts.{IpFacts}
use Rattle.refusals.specs.declared.PacketRefusal.{PacketRefusal}
use Rattle.ip.specs.Ip.{ipv4_quirks, ipv4_facts, ipv6_quirks, ipv6_facts}
use Rattle.ip.proofs.Ip.{Given, given}
use Rattle.flow.specs.declared.Kind.{Kind}
use Rattle.flow.specs.declared.Kind.TheVariants as kind
use Rattle.flow.specs.declared.Reading.{Reading}
use Rattle.tcp_header.specs.Flags.{flags_invalid, is_syn_type, is_syn_ack_type}
use Rattle.flow.specs.Tcp.{quirks_of_headers, observation_of, observation_from, known_peer, read_tcp}
use Rattle.tcp_header.specs.HeaderQuirks.{header_quirks}
use Rattle.flow.specs.Reading.{after_ip, read_packet, kind_read, observation_read}
use Rattle.flow.specs.Peer.{peer_beside}
use Rattle.flow.proofs.Observed.{sound}
use Rattle.flow.proofs.Peer.{peer_beside_lem, peer_only_synack}
use Rattle.flow.specs.declared.Reading.TheVariants as reading
use Rattle.acceptance.specs.Demand2.{TheObservation}

-- ---- a set without the peer's timestamp

abbrev Lacks : QuirkSet → Type 0
Lacks s = contains s quirk.PeerTimestampNonZero ≡ false

-- Any quirk but that one.
abbrev is_other : Quirk → Bool
is_other q = not (eqb (place_of q) 25)

lacks_empty : Lacks empty
unfolding contains holds empty from_quirks place_of digit
lacks_empty = refl

lacks_add_if : (t : Bool) (q : Quirk) (s : QuirkSet) → is_other q ≡ true → Lacks s → Lacks (add_if t q s)
unfolding add_if place_of
lacks_add_if true q s other lacks =
    contains_with_other s q quirk.PeerTimestampNonZero (λ e. false≢true (sym (ap is_other e) ∙ other)) ∙ lacks
lacks_add_if false q s other lacks = lacks

-- An option of a segment that is no SYN does not show it.
never_shown : (o : Opt) → peer_timestamp_nonzero false o ≡ false
unfolding peer_timestamp_nonzero
never_shown o = by_tests (eqb o.kind 8) (leb 8 (length (data_of o)))
  where
    by_tests : (a b : Bool) → a && b && false ≡ false
    by_tests true true = refl
    by_tests true false = refl
    by_tests false b = refl

not_added : (t : Bool) (q : Quirk) (s : QuirkSet) → t ≡ false → Lacks s → Lacks (add_if t q s)
unfolding add_if
not_added t q s off lacks = rw off lacks

option_lacks : (q : QuirkSet) (o : Opt) → Lacks q → Lacks (later_quirks false q o)
unfolding later_quirks place_of
option_lacks q o lacks =
    not_added _ _ _ (never_shown o) (lacks_add_if _ _ _ refl (lacks_add_if _ _ _ refl (lacks_add_if _ _ _ refl lacks)))

walk_lacks : (w : Walked) (os : List Opt) → Lacks w.seen.quirks → Lacks (walk_from false false w os).seen.quirks
unfolding walk_from see_option
walk_lacks w [] lacks = lacks
walk_lacks w (o ∷ os) lacks = walk_lacks (put_option false w o) os (option_lacks w.seen.quirks o lacks)

header_lacks : (t : List ℕ) (q : QuirkSet) → Lacks q → Lacks (quirks_of_headers t q)
unfolding quirks_of_headers header_quirks place_of
header_lacks t q lacks =
    lacks_add_if _ _ _ refl
    (lacks_add_if _ _ _ refl
    (lacks_add_if _ _ _ refl (lacks_add_if _ _ _ refl (lacks_add_if _ _ _ refl (lacks_add_if _ _ _ refl (lacks_add_if _ _ _ refl lacks))))))

-- ---- the TCP stage

abbrev NoGuess : Ttl → Type 0
NoGuess x = (t : ℕ) → x ≡ ttl.Guess t → ⊥

record Shown (r : Result Reading PacketRefusal) : Type 0 where
  guess : NoGuess (observation_read r).ittl
  stamp : contains (observation_read r).quirks quirk.PeerTimestampNonZero ≡ true → kind_read r ≡ Ok (Some kind.Syn)

record FactsFit (f : IpFacts) : Type 0 where
  guess : NoGuess f.ittl
  lacks : Lacks f.quirks

empty_guess : NoGuess empty_observation.ittl
unfolding empty_observation
empty_guess t e = let z : ◌≡◌ {A = ℕ} 0 1 = cc in omega arith

shown_refused : (why : PacketRefusal) → Shown (Err why)
unfolding empty_observation
shown_refused why = record { guess = empty_guess; stamp = λ e. absurd (false≢true (sym lacks_empty ∙ e)) }

shown_nothing : Shown (Ok reading.Nothing)
unfolding empty_observation
shown_nothing = record { guess = empty_guess; stamp = λ e. absurd (false≢true (sym lacks_empty ∙ e)) }

module _ (f : IpFacts) (t : List ℕ) (peer : Option ℕ) (fits : FactsFit f) where
  shown_syn : Shown (Ok (reading.Opening kind.Syn (observation_from f t true None)))
  unfolding observation_from observation_of
  shown_syn = record { guess = fits.guess; stamp = λ e. refl }

  shown_syn_ack : Shown (Ok (reading.Opening kind.SynAck (observation_from f t false (known_peer peer))))
  unfolding observation_from observation_of walk_of
  shown_syn_ack =
      record {
        guess = fits.guess;
        stamp = λ e.
            absurd
            (false≢true
            (sym
            (walk_lacks (start_walk (quirks_of_headers t f.quirks)) (options_of (take 40 (options t)))
            (header_lacks t f.quirks fits.lacks))
            ∙ e));
      }

  either : (c : Bool) (a b : Result Reading PacketRefusal) → Shown a → Shown b → Shown (cond {A = Result Reading PacketRefusal} c a b)
  either true a b x y = x
  either false a b x y = y

  shown_tcp : Shown (read_tcp f t peer)
  unfolding read_tcp
  shown_tcp =
      either (flags_invalid (control t)) _ _ (shown_refused _)
      (either (is_syn_type (control t)) _ _ shown_syn (either (is_syn_ack_type (control t)) _ _ shown_syn_ack shown_nothing))

-- ---- after the IP stage

after_ip_lem : (p : List ℕ) (peer : Option ℕ) {n : ℕ} {r : Result IpFacts PacketRefusal} → Given p n r → Shown (after_ip read_tcp r p peer)
unfolding ipv4_facts ipv4_quirks ipv6_facts ipv6_quirks place_of
after_ip_lem p peer (Given.refused small) = shown_refused _
after_ip_lem p peer (Given.four long words) =
    shown_tcp _ _ peer
    (record {
      guess = never_guess (v4.ttl p);
      lacks = lacks_add_if _ _ _ refl
          (lacks_add_if _ _ _ refl (lacks_add_if _ _ _ refl (lacks_add_if _ _ _ refl (lacks_add_if _ _ _ refl lacks_empty))));
    })
after_ip_lem p peer (Given.six long) =
    shown_tcp _ _ peer
    (record { guess = never_guess (v6.hop_limit p); lacks = lacks_add_if _ _ _ refl (lacks_add_if _ _ _ refl lacks_empty) })

reading_shown : (p : List ℕ) (peer : Option ℕ) → Shown (read_packet p peer)
unfolding read_packet
reading_shown p peer = after_ip_lem p peer (given p)

pub the_observation : (p : List ℕ) (peer : Option ℕ) → TheObservation p peer
unfolding Within peer_beside
the_observation p peer =
    let s = sound p peer in
    let r = reading_shown p peer in
    record {
      no_guess = r.guess;
      at_most_40 = s.few;
      kinds_past_lem = s.tidy.kinds;
      bytes_past = s.tidy.bytes;
      of_seventeen = s.quirks.within;
      no_opt_bad = s.quirks.not_bad;
      peer_stamp_lem = r.stamp;
      syn_has_none = λ e. peer_beside_lem p peer ∙ ap (λ (a : Result (Option Kind) PacketRefusal). peer_beside a peer) e;
      syn_ack_takes = λ e. peer_beside_lem p peer ∙ ap (λ (a : Result (Option Kind) PacketRefusal). peer_beside a peer) e;
      no_other_takes = peer_only_synack p peer;
    }
