-- Alike option strings (document 01, "Free bytes of demand 3"): "either four-byte half, wholly present, of a timestamps option
-- that the walk reaches" may change while it stays zero or stays nonzero; all else agrees.
use Rattle.std.specs.Prelude.{◌≡◌, List, [], ◌∷◌, ℕ, ◌<◌, ◌≤◌, length}
use Rattle.basis.specs.Bytes.{byte_at, be32}
use Rattle.one_option.specs.Options.{Opt, options_of}
use Rattle.alike.specs.Free.{ZeroAlike}

-- Two strings agree at the places from the first up to the second, which is not among them.
abbrev pub Agree : ℕ → ℕ → List ℕ → List ℕ → Type 0
Agree from to s t = (i : ℕ) → from ≤ i → i < to → byte_at s i ≡ byte_at t i

-- The own bytes of two timestamps options (RFC 7323, section 3.2): the length byte, the own timestamp, the peer's timestamp.
-- A half that is not wholly present agrees byte by byte, and so does what lies past both.
pub record AlikeStamps (s t : List ℕ) : Type 0 where
  pub same_length : length s ≡ length t
  pub length_byte : Agree 0 1 s t
  pub own_stamp : 4 < length s → ZeroAlike (be32 s 1) (be32 t 1)
  pub own_cut : length s ≤ 4 → Agree 1 5 s t
  pub peer_stamp : 8 < length s → ZeroAlike (be32 s 5) (be32 t 5)
  pub peer_cut : length s ≤ 8 → Agree 5 9 s t
  pub beyond : Agree 9 (length s) s t

-- Two options: of one kind; the same, or both timestamps and alike.
pub data AlikeOption : Opt → Opt → Type 0 where
  same : {o : Opt} → AlikeOption o o
  stamps : {s t : List ℕ} → AlikeStamps s t → AlikeOption (record { kind = 8; own = s }) (record { kind = 8; own = t })

-- Two rows of options, option by option as the walk reaches them.
pub data AlikeRow : List Opt → List Opt → Type 0 where
  none : AlikeRow [] []
  more : {o p : Opt} {os ps : List Opt} → AlikeOption o p → AlikeRow os ps → AlikeRow (o ∷ os) (p ∷ ps)

-- Two option strings.
abbrev pub AlikeOptions : List ℕ → List ℕ → Type 0
AlikeOptions s t = AlikeRow (options_of s) (options_of t)
