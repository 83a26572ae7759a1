-- The way back from a number and a value: it gives every refusal again, so that no two share both.
use mathlib.Core.Path.{◌≡◌, refl, sym, ◌∙◌, ap}
use Prim.Native.Nat.{ℕ, ◌<◌}
use native.Mathlib.Omega.{arith}
use Rattle.refusals.specs.declared.PacketRefusal.TheVariants as packet
use Rattle.refusals.specs.declared.ListRefusal.TheVariants as list
use Rattle.refusals.specs.declared.Refusal.{Refusal}
use Rattle.refusals.specs.declared.Refusal.TheVariants as refusal
use Rattle.refusals.specs.Refusals.{number, Returned, value_of, returned, refusal_from, first_numbered, Verdict, number_of, returned_by}

pub back : (r : Refusal) → refusal_from (number r) (value_of (returned r)) ≡ r
unfolding refusal_from first_numbered
back (refusal.Packet packet.Version) = refl
back (refusal.Packet packet.TooShort) = refl
back (refusal.Packet packet.HeaderLength) = refl
back (refusal.Packet packet.UnsupportedProtocol) = refl
back (refusal.Packet packet.Fragment) = refl
back (refusal.Packet packet.TcpTooShort) = refl
back (refusal.Packet (packet.InvalidTcpFlags byte)) = refl
back (refusal.Packet packet.DataOffset) = refl
back (refusal.Packet packet.ExtensionHeaders) = refl
back refusal.OptionsTooLong = refl
back (refusal.List list.DoesNotFit) = refl
back (refusal.List (list.BadRecord i)) = refl
back refusal.LayoutTooLong = refl
back refusal.BundleDoesNotFit = refl
back (refusal.BadLine at) = refl
back refusal.BufferTooShort = refl
back refusal.NoRoomForKey = refl
back refusal.NotACapture = refl
back refusal.FrameTooLong = refl
back refusal.CaptureEndsEarly = refl
back refusal.RowTooShort = refl
back refusal.RowDiffers = refl
back refusal.NoSuchRecord = refl
back refusal.TooManySignatures = refl
back refusal.TooManyEntries = refl

-- So no two refusals share both.
same : (r s : Refusal) → number r ≡ number s → returned r ≡ returned s → r ≡ s
same r s n e =
    sym (back r) ∙ ap (λ (m : ℕ). refusal_from m (value_of (returned r))) n
    ∙ ap (λ (x : Returned). refusal_from (number s) (value_of x)) e ∙ back s

-- Every refusal has a number, of one byte.
pub numbered : (r : Refusal) → (0 < number r) × (number r < 256)
numbered (refusal.Packet packet.Version) = (omega arith, omega arith)
numbered (refusal.Packet packet.TooShort) = (omega arith, omega arith)
numbered (refusal.Packet packet.HeaderLength) = (omega arith, omega arith)
numbered (refusal.Packet packet.UnsupportedProtocol) = (omega arith, omega arith)
numbered (refusal.Packet packet.Fragment) = (omega arith, omega arith)
numbered (refusal.Packet packet.TcpTooShort) = (omega arith, omega arith)
numbered (refusal.Packet (packet.InvalidTcpFlags byte)) = (omega arith, omega arith)
numbered (refusal.Packet packet.DataOffset) = (omega arith, omega arith)
numbered (refusal.Packet packet.ExtensionHeaders) = (omega arith, omega arith)
numbered refusal.OptionsTooLong = (omega arith, omega arith)
numbered (refusal.List list.DoesNotFit) = (omega arith, omega arith)
numbered (refusal.List (list.BadRecord i)) = (omega arith, omega arith)
numbered refusal.LayoutTooLong = (omega arith, omega arith)
numbered refusal.BundleDoesNotFit = (omega arith, omega arith)
numbered (refusal.BadLine at) = (omega arith, omega arith)
numbered refusal.BufferTooShort = (omega arith, omega arith)
numbered refusal.NoRoomForKey = (omega arith, omega arith)
numbered refusal.NotACapture = (omega arith, omega arith)
numbered refusal.FrameTooLong = (omega arith, omega arith)
numbered refusal.CaptureEndsEarly = (omega arith, omega arith)
numbered refusal.RowTooShort = (omega arith, omega arith)
numbered refusal.RowDiffers = (omega arith, omega arith)
numbered refusal.NoSuchRecord = (omega arith, omega arith)
numbered refusal.TooManySignatures = (omega arith, omega arith)
numbered refusal.TooManyEntries = (omega arith, omega arith)

-- What holds of an answer's refusal, if it is one.
abbrev pub IfRefused : (Refusal → Type 0) → Verdict → Type 0
IfRefused P Verdict.accepted = Unit {0}
IfRefused P (Verdict.refused r) = P r

-- Where each refusal of an answer type gives its answer again, number and value tell a refusal from every other answer.
pub told_apart
    : {A : Type 0} (verdict : A → Verdict) (from : Refusal → A)
    → ((a : A) → IfRefused (λ (r : Refusal). from r ≡ a) (verdict a))
    → (a b : A)
    → 0 < number_of (verdict a)
    → number_of (verdict a) ≡ number_of (verdict b)
    → returned_by (verdict a) ≡ returned_by (verdict b)
    → a ≡ b
told_apart verdict from again a b = by_verdicts (verdict a) (verdict b) (again a) (again b)
  where
    by_verdicts
        : (v w : Verdict)
        → IfRefused (λ (r : Refusal). from r ≡ a) v
        → IfRefused (λ (r : Refusal). from r ≡ b) w
        → 0 < number_of v
        → number_of v ≡ number_of w
        → returned_by v ≡ returned_by w
        → a ≡ b
    by_verdicts Verdict.accepted w p q h n e = absurd (omega arith)
    by_verdicts (Verdict.refused r) Verdict.accepted p q h n e = absurd (omega arith)
    by_verdicts (Verdict.refused r) (Verdict.refused s) p q h n e = sym p ∙ ap from (same r s n e) ∙ q
