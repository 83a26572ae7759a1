-- The walk over the options: layout, MSS, scale and quirks (document 01, "Headers and options").
use Rattle.std.specs.Prelude.{◌≡◌, ℕ, ◌+◌, ◌<◌, ◌≤◌, Bool, true, false, cond, ◌&&◌, List, [], ◌∷◌, eqb, ltb, length, take, replicate, set}
use Rattle.std.specs.Prelude.{None, Result, Ok, Err}
use Rattle.quirks.specs.declared.QuirkSet.{QuirkSet}
use Rattle.quirks.specs.Named.{empty}
use Rattle.tcp.specs.declared.Layout.{Layout}
use Rattle.refusals.specs.declared.OptionsTooLong.{OptionsTooLong}
use Rattle.refusals.specs.declared.Refusal.TheVariants as refusal
use Rattle.refusals.specs.Refusals.{Verdict, number_of}
use Rattle.syn_options.specs.declared.ParsedTcpOptions.{ParsedTcpOptions}
use Rattle.one_option.specs.declared.OptionStep.{OptionStep}
use Rattle.one_option.specs.declared.Seen.{Seen}
use Rattle.one_option.specs.Options.{Opt, runs_past, options_of, step_of}
use Rattle.one_option.specs.See.{see_option}

-- ---- one option

-- The option at a place of a string: it ends behind its kind byte, and within the string.
pub record StepInside (s : List ℕ) (at : ℕ) (step : OptionStep) : Type 0 where
  pub is : step ≡ step_of s at
  pub behind : at < step.end
  pub within : step.end ≤ length s

-- ---- one entry

-- "A layout entry is an option kind and a byte: bytes left after kind 0, else 0."
unfoldable pub entry_byte : ℕ → ℕ → ℕ
entry_byte kind left = cond (eqb kind 0) left 0

-- The entry at the next place of a layout.
unfoldable pub put_entry : Layout → Opt → Layout
put_entry l o =
    record {
      kinds = set l.kinds l.count o.kind;
      bytes = set l.bytes l.count (entry_byte o.kind (length o.own));
      count = l.count + 1;
    }

-- ---- the walk

-- What a walk says: the layout, what it has seen, and whether it stopped before an option that runs past the end.
pub record Walked : Type 0 where
  pub olayout : Layout
  pub seen : Seen
  pub malformed : Bool

abbrev pub put_option : Bool → Walked → Opt → Walked
put_option syn w o =
    record { olayout = put_entry w.olayout o; seen = see_option syn w.seen o; malformed = w.malformed }

-- The walk of a row of options. With `stop` it "stops before an option that runs past the end and says malformed";
-- without, it "goes on after clipping".
unfoldable pub walk_from : Bool → Bool → Walked → List Opt → Walked
walk_from stop syn w [] = w
walk_from stop syn w (o ∷ os) =
    cond (stop && runs_past o)
    (record { olayout = w.olayout; seen = w.seen; malformed = true })
    (walk_from stop syn (put_option syn w o) os)

-- Nothing seen yet, but for quirks of the headers.
abbrev pub start_walk : QuirkSet → Walked
start_walk quirks =
    record {
      olayout = record { kinds = replicate 40 0; bytes = replicate 40 0; count = 0 };
      seen = record { mss = None; wscale = None; quirks = quirks };
      malformed = false;
    }

-- The walk of a string, of which at most forty bytes are options: a data offset gives no more.
unfoldable pub walk_of : Bool → Bool → QuirkSet → List ℕ → Walked
walk_of stop syn quirks s = walk_from stop syn (start_walk quirks) (options_of (take 40 s))

-- ---- parse_options_raw

-- The refusal says no more than that it is one.
abbrev pub too_long : OptionsTooLong
too_long = record {}

-- What a walk says of layout, MSS and scale.
abbrev pub parsed_of : Walked → ParsedTcpOptions
parsed_of w =
    record {
      olayout = w.olayout;
      mss = w.seen.mss;
      wscale = w.seen.wscale;
      malformed = w.malformed;
    }

-- Refusal 8, "option string over 40 bytes", gives nothing.
unfoldable pub parse_options_raw : List ℕ → Result ParsedTcpOptions OptionsTooLong
parse_options_raw s =
    cond (ltb 40 (length s)) (Err too_long) (Ok (parsed_of (walk_of true false empty s)))

-- Which refusal of the table the answer is, if any, and its number; 0 if it is none.
abbrev pub options_verdict : {A : Type 0} → Result A OptionsTooLong → Verdict
options_verdict (Ok _) = Verdict.accepted
options_verdict (Err _) = Verdict.refused refusal.OptionsTooLong

unfoldable pub options_refusal : {A : Type 0} → Result A OptionsTooLong → ℕ
options_refusal a = number_of (options_verdict a)
