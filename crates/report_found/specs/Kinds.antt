-- What a port told at a tick, by kinds: the words of a log's port line.
-- Source: docs/OUTPUT.md.
use Rattle.std.specs.Prelude.{Bool, true, false, not, ◌||◌, if◌then◌else◌, Option, Some, None}
use Rattle.irig_time.specs.declared.claim.Claim.{Claim}
use Rattle.irig_time.specs.Seconds.{same_second}
use Rattle.irig_time.specs.Claims.{same_mark}
use Rattle.irig_port.specs.declared.told.Told.{Told}
use Rattle.irig_port.specs.declared.told.Told.TheVariants as tells
use Rattle.report_found.specs.declared.kind.Kind.{Kind}
use Rattle.report_found.specs.declared.kind.Kind.TheVariants.{Agreed, Silent, Faulty, Poor, AnotherSecond, AnotherMark}

-- a claim, where this is the true one
abbrev pub kind_of_claim : Option Claim → Claim → Kind
kind_of_claim None claim = AnotherSecond
kind_of_claim (Some truth) claim =
    if not (same_second claim.at truth.at) then AnotherSecond
    else (if not (same_mark claim.mark truth.mark) then AnotherMark else Agreed)

-- what a port told
abbrev pub kind_of : Option Claim → Told → Kind
kind_of truth tells.Silence = Silent
kind_of truth (tells.Fault fault) = Faulty
kind_of truth (tells.Poor quality) = Poor
kind_of truth (tells.Claim claim) = kind_of_claim truth claim

-- whether two kinds are the same
abbrev pub same_kind : Kind → Kind → Bool
same_kind Agreed Agreed = true
same_kind Silent Silent = true
same_kind Faulty Faulty = true
same_kind Poor Poor = true
same_kind AnotherSecond AnotherSecond = true
same_kind AnotherMark AnotherMark = true
same_kind _ _ = false

-- whether it is a claim, and not the true one
abbrev pub is_lie : Kind → Bool
is_lie kind = same_kind kind AnotherSecond || same_kind kind AnotherMark
