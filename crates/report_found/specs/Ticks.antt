-- A tick of a reader: what it announced, and what each port told.
-- Source: docs/OUTPUT.md.
use Rattle.std.specs.Prelude.{ℕ, ◌==◌, ◌&&◌, ◌||◌, nat_le, Bool, true, false, not, is_some, if◌then◌else◌, Option, Some, None}
use Rattle.irig_time.specs.declared.claim.Claim.{Claim}
use Rattle.irig_time.specs.declared.second.UtcSecond.{UtcSecond}
use Rattle.irig_time.specs.declared.second.TheConstants.{FIRST_DAY, LAST_DAY}
use Rattle.irig_time.specs.Days.{is_month_end}
use Rattle.irig_time.specs.Next.{next_of}
use Rattle.irig_time.specs.Seconds.{same_second}
use Rattle.irig_port.specs.declared.told.Told.{Told}
use Rattle.irig_port.specs.declared.told.Told.TheVariants as tells
use Rattle.irig_vote.specs.Vote.{is_told, vote_of}
use Rattle.report_found.specs.declared.kind.Kind.{Kind}
use Rattle.report_found.specs.declared.kind.Kind.TheVariants.{Agreed}
use Rattle.report_log.specs.declared.offset.Offset.{Offset}
use Rattle.report_found.specs.declared.tick.Tick.{Tick}
use Rattle.report_found.specs.Kinds.{kind_of_claim, kind_of, same_kind}
use Rattle.report_log.specs.Offsets.{offset_between}

-- what a port told, 0 to 4
abbrev pub told_by : ℕ → Tick → Told
told_by port t =
    if port == 0 then t.entry.told.a
    else (if port == 1 then t.entry.told.b
    else (if port == 2 then t.entry.told.c
    else (if port == 3 then t.entry.told.d else t.entry.told.e)))

-- its kind
abbrev pub kind_at : ℕ → Tick → Kind
kind_at port t = kind_of t.entry.truth (told_by port t)

-- whether the reader announced a second
abbrev pub is_announced : Tick → Bool
is_announced t = is_some t.entry.report.announce

-- whether a second is valid, as a test
abbrev pub is_valid : UtcSecond → Bool
is_valid u =
    nat_le FIRST_DAY u.day && (nat_le u.day LAST_DAY
    && (nat_le u.sod 86399 || ((u.sod == 86400) && is_month_end u.day)))

-- the second that begins at an edge, by the true claim of the one that ends there
abbrev pub second_after : Option Claim → Option UtcSecond
second_after None = None
second_after (Some claim) = if is_valid claim.at then next_of claim.at claim.mark else None

-- whether a second is announced that is not this one
abbrev pub is_another : Option UtcSecond → Option UtcSecond → Bool
is_another None second = false
is_another (Some announced) None = true
is_another (Some announced) (Some second) = not (same_second announced second)

-- whether the reader announced another second than the one that begins at the edge
abbrev pub is_untrue : Tick → Bool
is_untrue t = is_another t.entry.report.announce (second_after t.entry.truth)

-- ---- seconds

-- the second of the true frame that ended at the edge
abbrev pub frame_of : Option Claim → Option UtcSecond
frame_of None = None
frame_of (Some claim) = if is_valid claim.at then Some claim.at else None

-- the same of a tick
abbrev pub frame_at : Tick → Option UtcSecond
frame_at t = frame_of t.entry.truth

-- the second that begins at the edge
abbrev pub second_at : Tick → Option UtcSecond
second_at t = second_after t.entry.truth

-- the second that a port claims
abbrev pub claimed : Told → Option UtcSecond
claimed (tells.Claim claim) = Some claim.at
claimed tells.Silence = None
claimed (tells.Fault fault) = None
claimed (tells.Poor quality) = None

-- how far what a port claims is from that of the true frame
abbrev pub offset_at : ℕ → Tick → Option Offset
offset_at port t = offset_between (frame_at t) (claimed (told_by port t))

-- how far what the reader announces is from the second that begins
abbrev pub offset_announced : Tick → Option Offset
offset_announced t = offset_between (second_at t) t.entry.report.announce

-- ---- the vote

-- whether a port claims this
abbrev pub tells_claim : Option Claim → Told → Bool
tells_claim None told = false
tells_claim (Some claim) told = is_told claim told

-- the claim of most ports
abbrev pub vote_at : Tick → Option Claim
vote_at t = vote_of t.entry.told t.entry.redundancy

-- whether a port is one of them
abbrev pub is_carrier : Tick → ℕ → Bool
is_carrier t port = tells_claim (vote_at t) (told_by port t)

-- whether that claim is the true one, if there is one
abbrev pub is_true_vote : Option Claim → Option Claim → Bool
is_true_vote truth None = true
is_true_vote truth (Some claim) = same_kind (kind_of_claim truth claim) Agreed

-- whether the vote of a tick is the true one
abbrev pub votes_truly : Tick → Bool
votes_truly t = is_true_vote t.entry.truth (vote_at t)
