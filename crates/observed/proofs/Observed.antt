-- What a packet of bytes gives, in every mode: an observation whose numbers are such as their types hold, whose quirks and entries are
-- such as a record may have.
use Rattle.std.specs.Prelude.{Option, None, Result}
use mathlib.Core.Path.{◌≡◌, refl}
use mathlib.Core.Bool.{Bool, true, false, cond, ◌&&◌, ◌||◌}
use mathlib.Core.List.{List}
use Prim.Native.Nat.{ℕ, ◌+◌, ◌*◌, ◌%◌, ◌<◌}
use native.Mathlib.Omega.{arith}
use lib.Dec.{eqb, leb, ltb, lit<}
use lib.ListN.{length, take}
use borrow.Author.Tests.{leb-true}
use Rattle.basis.specs.Bytes.{byte_at, AllBytes}
use Rattle.rfc.specs.Rfc791 as v4
use Rattle.rfc.specs.Rfc8200 as v6
use Rattle.rfc.specs.Rfc9293 as tcp
use Rattle.quirks.specs.declared.QuirkSet.{QuirkSet}
use Rattle.quirks.specs.Named.{from_quirks, empty, seventeen}
use Rattle.quirks.specs.Quirks.{bits_of}
use Rattle.quirks.proofs.Named.{seventeen_bits}
use Rattle.quirks.proofs.Subset.{difference_empty}
use Rattle.quirks.proofs.Within.{Within}
use Rattle.ttl.specs.declared.Ttl.TheVariants as ttl
use Rattle.ttl.specs.Ttl.{guess_of, reading_of}
use Rattle.ip_options.specs.IpOptions.{ipv4_option_length, ipv6_extension_length}
use Rattle.observable.specs.declared.TcpObservation.{TcpObservation}
use Rattle.observable.specs.Observation.{empty_layout, empty_observation}
use Rattle.sigrecord.specs.Layout.{entry_good}
use Rattle.sigrecord.specs.WellFormed.{quirks_good}
use Rattle.syn_options.specs.Places.{first_of}
use Rattle.syn_options.specs.Stops.{stops_before, walk_to, walk_options}
use Rattle.syn_options.specs.Walk.{Walked}
use Rattle.tcp_header.specs.Flags.{flags_invalid, is_syn_type, is_syn_ack_type}
use Rattle.tcp_header.specs.HeaderQuirks.{header_quirks}
use Rattle.ip.specs.declared.IpFacts.{IpFacts}
use Rattle.refusals.specs.declared.PacketRefusal.{PacketRefusal}
use Rattle.ip.specs.Ip.{ipv4_quirks, ipv4_facts, ipv6_quirks, ipv6_facts}
use Rattle.ip.proofs.Ip.{Given, given}
use Rattle.flow.specs.declared.Mode.{Mode}
use Rattle.flow.specs.declared.Reading.{Reading}
use Rattle.flow.specs.Tcp.{quirks_of_headers, observation_of, known_peer}
use Rattle.flow.specs.Strict.{contradicts_itself, read_tcp_by}
use Rattle.flow.specs.Modes.{stop_of, tcp_stage, observation_in, read_in}
use Rattle.flow.specs.Reading.{tcp_part, after_ip, observation_read}
use Rattle.flow.proofs.Observed.{sound_in}
use Rattle.flow.proofs.Stage.{stage_by}
use Rattle.flow.proofs.Walks.{observed_walk}
use Rattle.written_line.specs.Numbers.{TtlHeld, ObservationHeld}
use Rattle.written_line.specs.Signature.{signature_seen}
use Rattle.observed.specs.Observed.{NearEnough, Observed}
use Rattle.observed.proofs.ObservedWalk.{all_take, all_part, word_of, Small, small_add_if, WalkHeld, no_rows, walk_held}

-- ---- the IP stage

record FactsHeld (f : IpFacts) : Type 0 where
  ittl : TtlHeld f.ittl
  near : NearEnough f.ittl
  olen : f.olen < 256
  quirks : Small f.quirks

ttl_held : (t : ℕ) → t < 256 → TtlHeld (reading_of t) × NearEnough (reading_of t)
unfolding reading_of
ttl_held t byte = by (eqb t 0) (leb (guess_of t) 30) refl
  where
    by
        : (none close : Bool)
        → leb (guess_of t) 30 ≡ close
        → TtlHeld (cond none (ttl.Bad 0) (cond close (ttl.Distance t (guess_of t)) (ttl.Value t)))
        × NearEnough (cond none (ttl.Bad 0) (cond close (ttl.Distance t (guess_of t)) (ttl.Value t)))
    by true close e = (lit< tt, tt)
    by false true e = let few = leb-true (guess_of t) 30 e in ((byte, omega arith), few)
    by false false e = (byte, tt)

small_empty : Small empty
unfolding empty from_quirks
small_empty = lit< tt

v4_olen : (p : List ℕ) → ipv4_option_length p < 256
unfolding ipv4_option_length
v4_olen p = omega arith

v6_olen : (p : List ℕ) → ipv6_extension_length p < 256
unfolding ipv6_extension_length
v6_olen p =
    by (eqb (v6.next_header p) 6 || eqb (length (v6.payload p)) 0) (eqb (v6.next_header p) 44) (ltb (length (v6.payload p)) 2)
    (byte_at (v6.payload p) 1)
  where
    by : (a b c : Bool) (n : ℕ) → cond a 0 (cond b 8 (cond c 0 ((n + 1) * 8 % 256))) < 256
    by true b c n = omega arith
    by false true c n = omega arith
    by false false true n = omega arith
    by false false false n = omega arith

module _ (p : List ℕ) (all : AllBytes p) where
  four_held : (start end : ℕ) → FactsHeld (ipv4_facts p start end)
  unfolding ipv4_facts ipv4_quirks
  four_held start end =
      let reading = ttl_held (v4.ttl p) (all 8) in
      record {
        ittl = reading.0;
        near = reading.1;
        olen = v4_olen p;
        quirks = small_add_if _ _ _ (small_add_if _ _ _ (small_add_if _ _ _ (small_add_if _ _ _ (small_add_if _ _ _ small_empty))));
      }

  six_held : (end : ℕ) → FactsHeld (ipv6_facts p end)
  unfolding ipv6_facts ipv6_quirks
  six_held end =
      let reading = ttl_held (v6.hop_limit p) (all 7) in
      record {
        ittl = reading.0;
        near = reading.1;
        olen = v6_olen p;
        quirks = small_add_if _ _ _ (small_add_if _ _ _ small_empty);
      }

-- ---- the TCP stage

-- All that is observed but for the count of the layout and for which quirks there are.
record NumbersHeld (o : TcpObservation) : Type 0 where
  held : ObservationHeld o
  quirks : Small o.quirks
  entries : (i : ℕ) → entry_good (byte_at o.olayout.kinds i) (byte_at o.olayout.bytes i) ≡ true
  near : NearEnough o.ittl

observation_held
    : (f : IpFacts) (t : List ℕ) (w : Walked) (peer : Option ℕ)
    → FactsHeld f
    → AllBytes t
    → WalkHeld w
    → NumbersHeld (observation_of f t w peer)
unfolding observation_of signature_seen
observation_held f t w peer facts all walk =
    record {
      held =
          record {
            signature =
                record {
                  ittl = facts.ittl;
                  olen = facts.olen;
                  mss = walk.mss;
                  wsize = word_of t 14 all;
                  wscale = walk.scale;
                };
            kinds = walk.rows.kinds;
            bytes = walk.rows.bytes;
            kinds_whole = walk.rows.kinds_whole;
            bytes_whole = walk.rows.bytes_whole;
          };
      quirks = walk.quirks;
      entries = walk.rows.good;
      near = facts.near;
    }

empty_held : NumbersHeld empty_observation
unfolding empty_observation empty_layout signature_seen
empty_held =
    record {
      held =
          record {
            signature = record { ittl = lit< tt; olen = lit< tt; mss = tt; wsize = lit< tt; wscale = tt };
            kinds = no_rows.kinds;
            bytes = no_rows.bytes;
            kinds_whole = no_rows.kinds_whole;
            bytes_whole = no_rows.bytes_whole;
          };
      quirks = small_empty;
      entries = no_rows.good;
      near = tt;
    }

header_small : (t : List ℕ) (q : QuirkSet) → Small q → Small (quirks_of_headers t q)
unfolding quirks_of_headers header_quirks
header_small t q small =
    small_add_if _ _ _
    (small_add_if _ _ _
    (small_add_if _ _ _ (small_add_if _ _ _ (small_add_if _ _ _ (small_add_if _ _ _ (small_add_if _ _ _ small))))))

in_mode
    : (mode : Mode) (f : IpFacts) (t : List ℕ) (syn : Bool) (peer : Option ℕ)
    → FactsHeld f
    → AllBytes t
    → NumbersHeld (observation_in mode f t syn peer)
unfolding walk_options walk_to
in_mode mode f t syn peer facts all =
    let q = quirks_of_headers t f.quirks in
    let s = take 40 (tcp.options t) in
    rw (← observed_walk mode f t syn peer)
    (observation_held f t _ peer facts all
    (walk_held (first_of (stops_before (stop_of mode)) s) syn q s (all_take 40 (tcp.options t) (all_part 20 (tcp.options_end t) t all))
    (header_small t f.quirks facts.quirks)))

-- ---- the reading

either
    : (t : Bool) (a b : Result Reading PacketRefusal)
    → NumbersHeld (observation_read a)
    → NumbersHeld (observation_read b)
    → NumbersHeld (observation_read (cond t a b))
either true a b x y = x
either false a b x y = y

by_flags
    : (observe : Bool → Option ℕ → TcpObservation)
    → ((syn : Bool) (peer : Option ℕ) → NumbersHeld (observe syn peer))
    → (t : List ℕ) (peer : Option ℕ)
    → NumbersHeld (observation_read (read_tcp_by observe t peer))
unfolding read_tcp_by
by_flags observe held t peer =
    either (flags_invalid (tcp.control t)) _ _ empty_held
    (either (is_syn_type (tcp.control t)) _ _ (held true None)
    (either (is_syn_ack_type (tcp.control t)) _ _ (held false (known_peer peer)) empty_held))

module _ (mode : Mode) (p : List ℕ) (peer : Option ℕ) (all : AllBytes p) where
  stage_held : (f : IpFacts) → FactsHeld f → NumbersHeld (observation_read (tcp_stage mode f (tcp_part f p) peer))
  stage_held f facts =
      let t = tcp_part f p in
      rw (stage_by mode f t peer)
      (either (mode.strict && contradicts_itself t) _ _ empty_held
      (by_flags (observation_in mode f t) (λ syn m. in_mode mode f t syn m facts (all_part f.start f.end p all)) t peer))

  after_ip_lem
      : {n : ℕ} {r : Result IpFacts PacketRefusal}
      → Given p n r
      → NumbersHeld (observation_read (after_ip (tcp_stage mode) r p peer))
  after_ip_lem (Given.refused small) = empty_held
  after_ip_lem (Given.four long words) = stage_held _ (four_held p all (v4.data_start p) (v4.data_end p))
  after_ip_lem (Given.six long) = stage_held _ (six_held p all (v6.payload_end p))

  numbers_held : NumbersHeld (observation_read (read_in mode p peer))
  unfolding read_in
  numbers_held = after_ip_lem (given p)

-- Quirks within the seventeen are such as a record may have.
within_good : (q : QuirkSet) → Small q → Within q → quirks_good (bits_of q) ≡ true
unfolding quirks_good Within
within_good q small within = (difference_empty q seventeen (rw seventeen_bits (lit< tt)) small).1 within

pub observed : (mode : Mode) (p : List ℕ) (peer : Option ℕ) → AllBytes p → Observed (observation_read (read_in mode p peer))
observed mode p peer all =
    let numbers = numbers_held mode p peer all in
    let sound = sound_in mode p peer in
    record {
      held = numbers.held;
      few = sound.few;
      quirks = within_good _ numbers.quirks sound.quirks;
      quirks_small = numbers.quirks;
      entries = λ i inside. numbers.entries i;
      near = numbers.near;
    }
