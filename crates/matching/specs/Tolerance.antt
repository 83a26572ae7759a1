-- What a fit tolerates (document 01, module 7): a TTL out of range, and some quirks.
use Rattle.std.specs.Prelude.{cond, ◌&&◌, Option, Some, None}
use Rattle.quirks.specs.declared.QuirkSet.{QuirkSet}
use Rattle.quirks.specs.Quirks.{is_empty, difference}
use Rattle.quirks.specs.Named.{fuzzy_deletable, fuzzy_addable, mask_when_obs_v4, mask_when_obs_v6}
use Rattle.tcp.specs.declared.IpVersion.{IpVersion}
use Rattle.tcp.specs.declared.IpVersion.TheVariants as version
use Rattle.sigrecord.specs.declared.SigVersion.{SigVersion}
use Rattle.sigrecord.specs.declared.SigVersion.TheVariants as sigversion
use Rattle.distances.specs.declared.TtlFit.{TtlFit}
use Rattle.distances.specs.declared.TtlFit.TheVariants as ttlfit
use Rattle.matching.specs.declared.Tolerated.{Tolerated}
use Rattle.matching.specs.declared.SignatureFit.{SignatureFit}
use Rattle.matching.specs.declared.SignatureFit.TheVariants as answer

-- ---- the quirks

-- "For a record of any version, flow is dropped from its quirks when the packet is v4, and df, id+ and id- when v6."
unfoldable pub masked_quirks : QuirkSet → SigVersion → IpVersion → QuirkSet
masked_quirks quirks sigversion.Any version.V4 = difference quirks mask_when_obs_v4
masked_quirks quirks sigversion.Any version.V6 = difference quirks mask_when_obs_v6
masked_quirks quirks sigversion.V4 observed = quirks
masked_quirks quirks sigversion.V6 observed = quirks

-- "missing df or id+ and added id- or ecn are tolerated, any other quirk difference rejects"
unfoldable pub quirks_fit : QuirkSet → QuirkSet → Option Tolerated
quirks_fit observed signature =
    cond
    (is_empty (difference (difference signature observed) fuzzy_deletable)
    && is_empty (difference (difference observed signature) fuzzy_addable))
    (Some (record { added = difference observed signature; missing = difference signature observed }))
    None

-- ---- both

-- With the TTL in range: "Nothing tolerated is exact".
unfoldable pub judge_in_range : Tolerated → SignatureFit
judge_in_range q =
    cond (is_empty q.added && is_empty q.missing) answer.Exact
    (answer.Fuzzy (record { hops = None; added = q.added; missing = q.missing }))

-- "else fuzzy with a reason: the hop distance if out of range, the added and the missing quirks"
unfoldable pub judge : Option TtlFit → Option Tolerated → SignatureFit
judge None quirks = answer.None
judge (Some (ttlfit.InRange d)) None = answer.None
judge (Some (ttlfit.InRange d)) (Some q) = judge_in_range q
judge (Some (ttlfit.OutOfRange d)) None = answer.None
judge (Some (ttlfit.OutOfRange d)) (Some q) =
    answer.Fuzzy (record { hops = Some d; added = q.added; missing = q.missing })
