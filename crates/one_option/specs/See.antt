-- What one option says of MSS, scale and quirks (document 01, "Headers and options").
use Rattle.std.specs.Prelude.{Bool, cond, not, ◌&&◌, eqb, leb, ltb, length, Option, Some, ℕ}
use Rattle.basis.specs.Bytes.{byte_at, be16, be32, any_nonzero}
use Rattle.quirks.specs.declared.Quirk.TheVariants as quirk
use Rattle.quirks.specs.declared.QuirkSet.{QuirkSet}
use Rattle.quirks.specs.Quirks.{add_if}
use Rattle.one_option.specs.declared.Seen.{Seen}
use Rattle.one_option.specs.Options.{Opt, data_of}

-- "A later MSS or scale replaces an earlier one only if its data suffices": kind 2 with two bytes (RFC 9293, section 3.7.1),
-- kind 3 with one (RFC 7323, section 2.2).
unfoldable pub later_mss : Option ℕ → Opt → Option ℕ
later_mss m o = cond (eqb o.kind 2 && leb 2 (length (data_of o))) (Some (be16 (data_of o) 0)) m

unfoldable pub later_scale : Option ℕ → Opt → Option ℕ
later_scale s o = cond (eqb o.kind 3 && leb 1 (length (data_of o))) (Some (byte_at (data_of o) 0)) s

-- A byte other than 0 after kind 0.
unfoldable pub trailing_nonzero : Opt → Bool
trailing_nonzero o = eqb o.kind 0 && any_nonzero o.own

-- A scale over 14 (RFC 7323, section 2.3).
unfoldable pub excessive_scaling : Opt → Bool
excessive_scaling o = eqb o.kind 3 && leb 1 (length (data_of o)) && ltb 14 (byte_at (data_of o) 0)

-- Timestamps (RFC 7323, section 3.2): the own one is the first four bytes of data, the peer's the next four.
unfoldable pub own_timestamp_zero : Opt → Bool
own_timestamp_zero o = eqb o.kind 8 && leb 4 (length (data_of o)) && eqb (be32 (data_of o) 0) 0

-- "PeerTimestampNonZero on a SYN only"
unfoldable pub peer_timestamp_nonzero : Bool → Opt → Bool
peer_timestamp_nonzero syn o = eqb o.kind 8 && leb 8 (length (data_of o)) && (syn && not (eqb (be32 (data_of o) 4) 0))

-- "Quirks once shown stay."
unfoldable pub later_quirks : Bool → QuirkSet → Opt → QuirkSet
later_quirks syn q o =
    add_if (peer_timestamp_nonzero syn o) quirk.PeerTimestampNonZero
    (add_if (own_timestamp_zero o) quirk.OwnTimestampZero
    (add_if (excessive_scaling o) quirk.ExcessiveWindowScaling
    (add_if (trailing_nonzero o) quirk.TrailinigNonZero q)))

-- What is known after one option more.
unfoldable pub see_option : Bool → Seen → Opt → Seen
see_option syn s o =
    record {
      mss = later_mss s.mss o;
      wscale = later_scale s.wscale o;
      quirks = later_quirks syn s.quirks o;
    }
