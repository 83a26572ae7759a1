-- Alike TCP parts (document 01, "Free bytes of demand 3"), field by field of RFC 9293, section 3.1. Free: both ports; the four
-- bits below the data offset; the checksum; the contents of the payload.
use Rattle.std.specs.Prelude.{◌≡◌, List, ℕ, length}
use Rattle.rfc.specs.Rfc9293.{sequence, acknowledgment, data_offset, urgent_pointer, options}
use Rattle.alike.specs.Free.{ZeroAlike}
use Rattle.alike.specs.Options.{Agree, AlikeOptions}

pub record AlikeTcp (t u : List ℕ) : Type 0 where
  pub same_length : length t ≡ length u
  pub sequence : ZeroAlike (sequence t) (sequence u)
  pub acknowledgment : ZeroAlike (acknowledgment t) (acknowledgment u)
  pub data_offset : data_offset t ≡ data_offset u
  pub control : Agree 13 14 t u
  pub window : Agree 14 16 t u
  pub urgent_pointer : ZeroAlike (urgent_pointer t) (urgent_pointer u)
  pub options : AlikeOptions (options t) (options u)
