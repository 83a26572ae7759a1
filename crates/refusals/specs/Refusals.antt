-- The refusals of documents 01 ("Refusal numbers") and 02, and of a keeper's file where these have none: the number of each, what each
-- returns beside it, and the way back from both.
-- An answer's refusal is a `Verdict`, whose number is read off here: no other definition of an answer has one.
use Rattle.std.specs.Prelude.{ℕ, cond, List, [], ◌∷◌, eqb}
use Rattle.refusals.specs.declared.PacketRefusal.{PacketRefusal}
use Rattle.refusals.specs.declared.PacketRefusal.TheVariants as packet
use Rattle.refusals.specs.declared.ListRefusal.{ListRefusal}
use Rattle.refusals.specs.declared.ListRefusal.TheVariants as list
use Rattle.refusals.specs.declared.Refusal.{Refusal}
use Rattle.refusals.specs.declared.Refusal.TheVariants as refusal

-- ---- the column "No."

abbrev pub packet_number : PacketRefusal → ℕ
-- "packet empty, or top nibble of byte 0 not 4 or 6"
packet_number packet.Version = 1
-- "under 20 bytes (v4), under 40 (v6)"
packet_number packet.TooShort = 2
-- "v4 header length under 5 words"
packet_number packet.HeaderLength = 3
-- "protocol or next header not 6"
packet_number packet.UnsupportedProtocol = 4
-- "v4 fragment offset above 0, or more-fragments set"
packet_number packet.Fragment = 5
-- "TCP part under 20 bytes"
packet_number packet.TcpTooShort = 6
-- "flags invalid"
packet_number (packet.InvalidTcpFlags byte) = 7
-- Wish 2: "data offset is under 5 or 4 x data offset exceeds the TCP part"
packet_number packet.DataOffset = 14
-- Wish 13: "a header does not fit within both the IP length and the slice, is the ninth, or takes the total above 255"
packet_number packet.ExtensionHeaders = 22

abbrev pub list_number : ListRefusal → ℕ
-- "list header or its areas do not fit"
list_number list.DoesNotFit = 9
-- "a list record is bad"
list_number (list.BadRecord i) = 10

abbrev pub number : Refusal → ℕ
number (refusal.Packet r) = packet_number r
-- "option string over 40 bytes"
number refusal.OptionsTooLong = 8
number (refusal.List r) = list_number r
-- "observation's layout count over 40"
number refusal.LayoutTooLong = 11
-- "bundle over 65,535 bytes, or its header, list area or a packet does not fit"
number refusal.BundleDoesNotFit = 12
-- Wish 1: "the first byte at which no acceptable line of any length can go on"
number (refusal.BadLine at) = 13
-- Wish 7: "the line is longer than the buffer"
number refusal.BufferTooShort = 15
-- Wish 9: "the table has no room for one key or its count exceeds its room"
number refusal.NoRoomForKey = 16
-- Wish 10: "a whole global header with another magic or link type"
number refusal.NotACapture = 17
-- Wish 10: "a record header that asks for more than the buffer"
number refusal.FrameTooLong = 18
-- Wish 10: "an early end, the global header included"
number refusal.CaptureEndsEarly = 19
-- Wish 12: "if the row is too short"
number refusal.RowTooShort = 20
-- Wish 12: "unless the row's leading entries are exactly the ones building would write"
number refusal.RowDiffers = 21
-- Wish 7: "an index not in it"
number refusal.NoSuchRecord = 23
-- A keeper's file: "more signatures .. than a header can count"
number refusal.TooManySignatures = 24
-- "more .. entries than a header can count"
number refusal.TooManyEntries = 25

-- ---- the column "Also returns"

-- Nothing, "the flags byte", "index of the first, from 0", or "the offset of the first byte".
pub data Returned : Type 0 where
  nothing : Returned
  flags : ℕ → Returned
  index : ℕ → Returned
  offset : ℕ → Returned

abbrev pub packet_returned : PacketRefusal → Returned
packet_returned packet.Version = Returned.nothing
packet_returned packet.TooShort = Returned.nothing
packet_returned packet.HeaderLength = Returned.nothing
packet_returned packet.UnsupportedProtocol = Returned.nothing
packet_returned packet.Fragment = Returned.nothing
packet_returned packet.TcpTooShort = Returned.nothing
packet_returned (packet.InvalidTcpFlags byte) = Returned.flags byte
packet_returned packet.DataOffset = Returned.nothing
packet_returned packet.ExtensionHeaders = Returned.nothing

abbrev pub list_returned : ListRefusal → Returned
list_returned list.DoesNotFit = Returned.nothing
list_returned (list.BadRecord i) = Returned.index i

abbrev pub returned : Refusal → Returned
returned (refusal.Packet r) = packet_returned r
returned refusal.OptionsTooLong = Returned.nothing
returned (refusal.List r) = list_returned r
returned refusal.LayoutTooLong = Returned.nothing
returned refusal.BundleDoesNotFit = Returned.nothing
returned (refusal.BadLine at) = Returned.offset at
returned refusal.BufferTooShort = Returned.nothing
returned refusal.NoRoomForKey = Returned.nothing
returned refusal.NotACapture = Returned.nothing
returned refusal.FrameTooLong = Returned.nothing
returned refusal.CaptureEndsEarly = Returned.nothing
returned refusal.RowTooShort = Returned.nothing
returned refusal.RowDiffers = Returned.nothing
returned refusal.NoSuchRecord = Returned.nothing
returned refusal.TooManySignatures = Returned.nothing
returned refusal.TooManyEntries = Returned.nothing

-- What is returned, as a number; 0 is nothing.
abbrev pub value_of : Returned → ℕ
value_of Returned.nothing = 0
value_of (Returned.flags byte) = byte
value_of (Returned.index i) = i
value_of (Returned.offset at) = at

abbrev pub packet_value : PacketRefusal → ℕ
packet_value r = value_of (packet_returned r)

abbrev pub list_value : ListRefusal → ℕ
list_value r = value_of (list_returned r)

abbrev pub value : Refusal → ℕ
value r = value_of (returned r)

-- ---- the way back

-- Every refusal that could return this value.
abbrev pub every_refusal : ℕ → List Refusal
every_refusal value =
    refusal.Packet packet.Version
    ∷ refusal.Packet packet.TooShort
    ∷ refusal.Packet packet.HeaderLength
    ∷ refusal.Packet packet.UnsupportedProtocol
    ∷ refusal.Packet packet.Fragment
    ∷ refusal.Packet packet.TcpTooShort
    ∷ refusal.Packet (packet.InvalidTcpFlags value)
    ∷ refusal.OptionsTooLong
    ∷ refusal.List list.DoesNotFit
    ∷ refusal.List (list.BadRecord value)
    ∷ refusal.LayoutTooLong
    ∷ refusal.BundleDoesNotFit
    ∷ refusal.BadLine value
    ∷ refusal.Packet packet.DataOffset
    ∷ refusal.BufferTooShort
    ∷ refusal.NoRoomForKey
    ∷ refusal.NotACapture
    ∷ refusal.FrameTooLong
    ∷ refusal.CaptureEndsEarly
    ∷ refusal.RowTooShort
    ∷ refusal.RowDiffers
    ∷ refusal.Packet packet.ExtensionHeaders
    ∷ refusal.NoSuchRecord
    ∷ refusal.TooManySignatures
    ∷ refusal.TooManyEntries
    ∷ []

-- The first of a list with this number.
unfoldable pub first_numbered : ℕ → List Refusal → Refusal
first_numbered n [] = refusal.TooManyEntries
first_numbered n (r ∷ rest) = cond (eqb (number r) n) r (first_numbered n rest)

-- The refusal of a number and a value; of a number that no refusal has, the last.
unfoldable pub refusal_from : ℕ → ℕ → Refusal
refusal_from n value = first_numbered n (every_refusal value)

-- One case for a packet's refusal, one for a list's, and one for all others.
abbrev pub by_kind : {A : Type 0} → (PacketRefusal → A) → (ListRefusal → A) → A → Refusal → A
by_kind of_packet of_list other (refusal.Packet r) = of_packet r
by_kind of_packet of_list other refusal.OptionsTooLong = other
by_kind of_packet of_list other (refusal.List r) = of_list r
by_kind of_packet of_list other refusal.LayoutTooLong = other
by_kind of_packet of_list other refusal.BundleDoesNotFit = other
by_kind of_packet of_list other (refusal.BadLine at) = other
by_kind of_packet of_list other refusal.BufferTooShort = other
by_kind of_packet of_list other refusal.NoRoomForKey = other
by_kind of_packet of_list other refusal.NotACapture = other
by_kind of_packet of_list other refusal.FrameTooLong = other
by_kind of_packet of_list other refusal.CaptureEndsEarly = other
by_kind of_packet of_list other refusal.RowTooShort = other
by_kind of_packet of_list other refusal.RowDiffers = other
by_kind of_packet of_list other refusal.NoSuchRecord = other
by_kind of_packet of_list other refusal.TooManySignatures = other
by_kind of_packet of_list other refusal.TooManyEntries = other

-- ---- an answer's refusal

-- Whether an answer is a refusal, and which.
pub data Verdict : Type 0 where
  accepted : Verdict
  refused : Refusal → Verdict

abbrev pub packet_refused : PacketRefusal → Verdict
packet_refused r = Verdict.refused (refusal.Packet r)

abbrev pub list_refused : ListRefusal → Verdict
list_refused r = Verdict.refused (refusal.List r)

-- Its number; 0 is no refusal.
abbrev pub number_of : Verdict → ℕ
number_of Verdict.accepted = 0
number_of (Verdict.refused r) = number r

-- What it returns.
abbrev pub returned_by : Verdict → Returned
returned_by Verdict.accepted = Returned.nothing
returned_by (Verdict.refused r) = returned r
