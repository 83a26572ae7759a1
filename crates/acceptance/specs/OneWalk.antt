-- Document 02, Wish 5: "Our two walks read the same bytes and disagree only on damage. Make them one that also gives the place of the first
-- option that runs past the end and of the first whose length byte is 0 or 1. The packet reader and the option-string reader draw their old
-- answers from it unchanged." What the strict entry makes of it stands in Modes.antt, "Demand 3 covers the places too" in Demand3.antt,
-- that its functions have exactly one result in Demand1.antt. `OneWalk` is the statement.
use Rattle.std.specs.Prelude.{◌≡◌, Bool, true, false, cond, ◌||◌, List, [], ◌∷◌, ℕ, ◌+◌, ◌^◌, ◌<◌, ◌≤◌, ltb, length, take, Option, Some}
use Rattle.std.specs.Prelude.{None, Result, Ok, Err}
use Rattle.basis.specs.Bytes.{byte_at}
use Rattle.quirks.specs.declared.Quirk.TheVariants as quirk
use Rattle.quirks.specs.declared.QuirkSet.{QuirkSet}
use Rattle.quirks.specs.Quirks.{bits_of, contains}
use Rattle.quirks.specs.Named.{empty}
use Rattle.rfc.specs.Rfc9293.{options}
use Rattle.one_option.specs.Options.{Opt, runs_past, short_length, option_at, OptionBegins}
use Rattle.syn_options.specs.declared.StopBefore.{StopBefore}
use Rattle.syn_options.specs.declared.OptionWalk.{OptionWalk}
use Rattle.syn_options.specs.declared.ParsedTcpOptions.{ParsedTcpOptions}
use Rattle.refusals.specs.declared.OptionsTooLong.{OptionsTooLong}
use Rattle.syn_options.specs.Walk.{walk_of, parsed_of, too_long, parse_options_raw, options_refusal}
use Rattle.syn_options.specs.Places.{places_of, no_places, earlier, TheFirst}
use Rattle.syn_options.specs.Stops.{nothing, past_the_end, damage, stopped, walked_of, walk_with, walk_stopping}
use Rattle.syn_options.specs.Stops.{walk_options, read_options}
use Rattle.ip.specs.declared.IpFacts.{IpFacts}
use Rattle.refusals.specs.declared.PacketRefusal.{PacketRefusal}
use Rattle.ip.specs.Ip.{read_ip}
use Rattle.flow.specs.Reading.{tcp_part, read_packet, observation_read}
use Rattle.sigrecord.specs.declared.Signature.{Signature}
use Rattle.matching.specs.declared.Features.{Features}
use Rattle.matching.specs.declared.SignatureFit.TheVariants as fit
use Rattle.matching.specs.Fit.{features_of, fit_of}

-- ---- the places

-- A place is said of where options begin (`OptionBegins`), not of a walk.
pub record ThePlaces : Type 0 where
  pub past : (s : List ℕ) → TheFirst runs_past s (places_of s).past
  pub short : (s : List ℕ) → TheFirst short_length s (places_of s).short
  -- An option is never both.
  pub never_both : (o : Opt) → short_length o ≡ true → runs_past o ≡ false
  -- The one past the end is the last.
  pub past_is_last
      : (s : List ℕ) (j k : ℕ) → OptionBegins k s → runs_past (option_at s k) ≡ true → OptionBegins j s → j ≤ k
  -- A last kind byte without a length byte runs past the end, and is not short.
  pub no_length_byte
      : (s : List ℕ) (k : ℕ)
      → length s ≡ k + 1
      → 1 < byte_at s k
      → (runs_past (option_at s k) ≡ true) × (short_length (option_at s k) ≡ false)
  -- Nothing behind an end-of-options is an option.
  pub end_is_last : (s : List ℕ) (j k : ℕ) → OptionBegins k s → byte_at s k ≡ 0 → OptionBegins j s → j ≤ k

-- ---- the readers

-- What `parse_options_raw` tells of a walk.
abbrev pub drawn : Result OptionWalk OptionsTooLong → Result ParsedTcpOptions OptionsTooLong
drawn (Ok walk) = Ok (parsed_of (walked_of walk))
drawn (Err e) = Err e

-- The MSS that it tells; none of a string that is refused.
abbrev pub mss_told : Result ParsedTcpOptions OptionsTooLong → Option ℕ
mss_told (Ok told) = told.mss
mss_told (Err _) = None

-- `02 04 05 b4 02 0a 01 02` and `02 04 ff ff 02 0a 01 02`: a whole MSS, and one that runs past the end with the number 258 in it.
abbrev pub an_ethernet_mss : List ℕ
an_ethernet_mss = 2 ∷ 4 ∷ 5 ∷ 0xb4 ∷ 2 ∷ 10 ∷ 1 ∷ 2 ∷ []

abbrev pub the_most_mss : List ℕ
the_most_mss = 2 ∷ 4 ∷ 0xff ∷ 0xff ∷ 2 ∷ 10 ∷ 1 ∷ 2 ∷ []

pub record TheReaders : Type 0 where
  -- The packet reader's walk (`walk_of false`) is the one that stops before nothing; it gives every place.
  pub packet
      : (syn : Bool) (q : QuirkSet) (s : List ℕ)
      → walk_options nothing syn q s ≡ walk_with (walk_of false syn q s) (places_of (take 40 s))
  -- The option-string reader's answer is drawn from the one that stops before what runs past the end,
  pub string : (s : List ℕ) → drawn (read_options past_the_end false empty s) ≡ parse_options_raw s
  -- and so it is the walk of the bytes before the first option past the end.
  pub string_whole
      : (s : List ℕ)
      → length s ≤ 40
      → (places_of s).past ≡ None
      → parse_options_raw s ≡ Ok (parsed_of (walk_of false false empty s))
  pub string_before
      : (s : List ℕ) (k : ℕ)
      → length s ≤ 40
      → (places_of s).past ≡ Some k
      → parse_options_raw s ≡ Ok (parsed_of (stopped (walk_of false false empty (take k s))))
  -- What a walk of all options says and the places alone would not do: two strings that agree in both, and not in the answer.
  pub same_walk : walk_options nothing false empty an_ethernet_mss ≡ walk_options nothing false empty the_most_mss
  pub ethernet : mss_told (parse_options_raw an_ethernet_mss) ≡ Some 1460
  pub most : mss_told (parse_options_raw the_most_mss) ≡ Some 65535
  -- The strict entry's walk is that of the bytes before the earlier place,
  pub strict
      : (syn : Bool) (q : QuirkSet) (s : List ℕ)
      → walk_options damage syn q s
      ≡ walk_stopping (earlier (places_of (take 40 s)).past (places_of (take 40 s)).short) syn q (take 40 s)
  -- which is the place of the first damaged option.
  pub strict_stops : (s : List ℕ) → TheFirst (λ (o : Opt). runs_past o || short_length o) s (earlier (places_of s).past (places_of s).short)
  -- Refusal 8, "option string over 40 bytes": given exactly then, with nothing beside.
  pub refused
      : (stop : StopBefore) (syn : Bool) (q : QuirkSet) (s : List ℕ)
      → options_refusal (read_options stop syn q s) ≡ cond (ltb 40 (length s)) 8 0
  pub gives_nothing
      : (stop : StopBefore) (syn : Bool) (q : QuirkSet) (s : List ℕ) → 40 < length s → read_options stop syn q s ≡ Err too_long

-- ---- a packet's options

-- The bytes of a packet that are options, forty at most; none if the IP stage refuses it.
abbrev pub options_given : Result IpFacts PacketRefusal → List ℕ → List ℕ
options_given (Err r) p = []
options_given (Ok f) p = take 40 (options (tcp_part f p))

abbrev pub options_in : List ℕ → List ℕ
options_in p = options_given (read_ip p) p

-- None of them is damaged.
abbrev pub SoundOptions : List ℕ → Type 0
SoundOptions p = places_of (options_in p) ≡ no_places

-- ---- the fit

-- `OptBad` is neither addable nor deletable: where a record fits at all, it has `bad` exactly if the observation has. (A set of quirks is a
-- number of 32 bits.)
pub record BadFits : Type 0 where
  pub both
      : (f : Features) (kinds bytes : List ℕ) (s : Signature) (count : ℕ) (entries : List ℕ)
      → bits_of f.quirks < 2 ^ 32
      → bits_of s.quirks < 2 ^ 32
      → (fit_of f kinds bytes s count entries ≡ fit.None → ⊥)
      → contains f.quirks quirk.OptBad ≡ contains s.quirks quirk.OptBad
  -- So a record with `bad` fits nothing that the plain entry reads.
  pub never_plainly
      : (p : List ℕ) (peer : Option ℕ) (kinds bytes : List ℕ) (s : Signature) (count : ℕ) (entries : List ℕ)
      → bits_of s.quirks < 2 ^ 32
      → contains s.quirks quirk.OptBad ≡ true
      → fit_of (features_of (observation_read (read_packet p peer))) kinds bytes s count entries ≡ fit.None

pub record OneWalk : Type 0 where
  pub places : ThePlaces
  pub readers : TheReaders
  pub bad : BadFits
