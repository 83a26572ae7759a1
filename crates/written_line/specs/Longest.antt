-- The longest lines: of a record 434 bytes, of an observation, whose window is a plain number, 432.
use Rattle.std.specs.Prelude.{◌≡◌, List, [], ◌∷◌, ◌++◌, ℕ, zero, suc, length, replicate, Some, None, Ok}
use Rattle.basis.specs.Ascii.{ascii}
use Rattle.quirks.specs.Named.{seventeen}
use Rattle.tcp.specs.declared.IpVersion.TheVariants as version
use Rattle.tcp.specs.declared.PayloadSize.TheVariants as payload
use Rattle.ttl.specs.declared.Ttl.TheVariants as ttl
use Rattle.observable.specs.declared.TcpObservation.{TcpObservation}
use Rattle.siglist.specs.List.{check_list}
use Rattle.signature_line.specs.LineValues.{record_of}
use Rattle.signature_line.specs.OneRecord.{list_of_one}
use Rattle.written_line.specs.LineText.{record_text, observation_text}
use Rattle.written_line.specs.Numbers.{ObservationHeld}

-- Forty entries `eol+255`, every number the greatest of its field, all seventeen quirks.
abbrev pub longest_list : List ℕ
longest_list =
    list_of_one
    (record_of
    (4 ∷ 1 ∷ 255 ∷ 255 ∷ 255 ∷ 1 ∷ 255 ∷ 255 ∷ 3 ∷ 0 ∷ 255 ∷ 1 ∷ 255 ∷ 1 ∷ 31 ∷ 3 ∷ 240 ∷ 63 ∷ 0 ∷ 0 ∷ 40 ∷ 0 ∷ 0 ∷ 0 ∷ [])
    (replicate 40 0)
    (replicate 40 255))

abbrev pub longest_observation : TcpObservation
longest_observation =
    record {
      version = version.V4;
      ittl = ttl.Distance 255 255;
      olen = 255;
      mss = Some 65535;
      wsize = 65535;
      tot_hdr = 0;
      wscale = Some 255;
      olayout = record { kinds = replicate 40 0; bytes = replicate 40 255; count = 40 };
      quirks = seventeen;
      pclass = payload.NonZero;
      peer_mss = None;
      tos = 0;
    }

-- So many more entries `eol+255`, each behind a comma.
abbrev pub more_eols : ℕ → List ℕ
more_eols zero = []
more_eols (suc n) = ascii ",eol+255" ++ more_eols n

-- What stands behind the window of both lines.
abbrev pub behind_window : List ℕ
behind_window =
    ascii ",255:eol+255"
    ++ more_eols 39
    ++ ascii ":df,id+,id-,ecn,0+,flow,seq-,ack+,ack-,uptr+,urgf+,pushf+,ts1-,ts2+,opt+,exws,bad:+"

pub record LongestLines : Type 0 where
  pub good_list : check_list longest_list ≡ (Ok tt)
  pub record_line : record_text longest_list 0 ≡ ascii "4:255+255:255:65535:mss*255" ++ behind_window
  pub record_length : length (record_text longest_list 0) ≡ 434
  pub held : ObservationHeld longest_observation
  pub observation_line : observation_text longest_observation ≡ ascii "4:255+255:255:65535:65535" ++ behind_window
  pub observation_length : length (observation_text longest_observation) ≡ 432
