-- A walk over an option string, as a struct of numbers.
use Rattle.std.specs.Prelude.{ℕ, ◌/◌, ◌%◌, Bool, false, List, eqb, replicate, Result, Ok, Err}
use Rattle.quirks.specs.Quirks.{bits_of}
use Rattle.quirks.specs.Named.{empty}
use Rattle.syn_options.specs.declared.StopBefore.{StopBefore}
use Rattle.syn_options.specs.declared.OptionWalk.{OptionWalk}
use Rattle.refusals.specs.declared.OptionsTooLong.{OptionsTooLong}
use Rattle.refusals.specs.declared.Refusal.TheVariants as refusal
use Rattle.refusals.specs.Refusals.{number}
use Rattle.syn_options.specs.Stops.{read_options}
use Rattle.witness.specs.declared.PlainWalk.{PlainWalk}
use Rattle.witness.specs.Written.{has, or_zero}

-- Bit 0: before an option that runs past the end; bit 1: before one of a short length.
abbrev pub stop_of : ℕ → StopBefore
stop_of bits = record { past = eqb (bits % 2) 1; short = eqb (bits / 2 % 2) 1 }

-- Beside a refusal all else is 0.
unfoldable pub plain_walk : Result OptionWalk OptionsTooLong → PlainWalk
plain_walk (Ok w) =
    record {
      count = w.olayout.count;
      past_at = or_zero w.places.past;
      short_at = or_zero w.places.short;
      quirks = bits_of w.seen.quirks;
      mss = or_zero w.seen.mss;
      refusal = 0;
      malformed = w.malformed;
      has_past = has w.places.past;
      has_short = has w.places.short;
      has_mss = has w.seen.mss;
      has_wscale = has w.seen.wscale;
      wscale = or_zero w.seen.wscale;
      kinds = w.olayout.kinds;
      bytes = w.olayout.bytes;
    }
plain_walk (Err r) =
    record {
      count = 0;
      past_at = 0;
      short_at = 0;
      quirks = 0;
      mss = 0;
      refusal = number refusal.OptionsTooLong;
      malformed = false;
      has_past = 0;
      has_short = 0;
      has_mss = 0;
      has_wscale = 0;
      wscale = 0;
      kinds = replicate 40 0;
      bytes = replicate 40 0;
    }

unfoldable pub walk_read : ℕ → Bool → List ℕ → PlainWalk
walk_read stop syn s = plain_walk (read_options (stop_of stop) syn empty s)
