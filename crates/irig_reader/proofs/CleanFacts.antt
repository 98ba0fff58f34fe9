-- Edges that are clean and one that isn't, what a reader then says and what misled it, so that a wrong
-- definition does not check. It is noon of 2000-01-31.
use Rattle.std.proofs.Common.{◌≡◌, ◌+◌, ◌≤◌, ℕ, [], Option, Some, None, refl, sym, ap, ◌∙◌, arith}
use Rattle.irig_time.proofs.StandardFacts.{known_first_end}
use Rattle.irig_time.specs.declared.second.UtcSecond.{UtcSecond}
use Rattle.irig_time.specs.declared.mark.Mark.TheVariants.{Unspoken}
use Rattle.irig_time.specs.declared.claim.Claim.{Claim}
use Rattle.irig_time.specs.Timelines.{TimelineValue, times, second_at, truth_at}
use Rattle.irig_time.specs.Tables.{table}
use Rattle.irig_port.specs.declared.told.Told.{Told}
use Rattle.irig_port.specs.declared.told.Told.TheVariants as tells
use Rattle.irig_vote.specs.declared.redundancy.Redundancy.TheVariants.{One, Three, Five}
use Rattle.irig_vote.specs.declared.votes.Tells.{Tells}
use Rattle.irig_vote.specs.Vote.{f_of, ports_of, carriers, vote_of}
use Rattle.irig_hold.specs.Steps.{HoldValue, hold_value}
use Rattle.irig_reader.specs.declared.rules.ReaderRules.{ReaderRules}
use Rattle.irig_reader.specs.declared.report.Lock.TheVariants as lock
use Rattle.irig_reader.specs.declared.report.Cause.TheVariants as cause
use Rattle.irig_reader.specs.declared.rule.State.TheVariants.{Locked}
use Rattle.irig_reader.specs.Rule.{stop_step, announce_step, step_of}
use Rattle.irig_reader.specs.Clean.{IsClean}
use Rattle.irig_reader.proofs.OneEdge.{clean_by_few}

abbrev pub at : ℕ → UtcSecond
at sod = record { day = 30; sod = sod }

abbrev pub noon : TimelineValue
noon = times (at 43200) []

abbrev pub claim : ℕ → Claim
claim sod = record { at = at sod; mark = Unspoken }

abbrev tell : ℕ → Told
tell sod = tells.Claim (claim sod)

-- what three ports tell, and two more
abbrev three : Told → Told → Told → Tells
three a b c = record { a = a; b = b; c = c; d = tells.Silence; e = tells.Silence }

pub truth : truth_at noon 0 ≡ Some (claim 43200)
unfolding second_at
truth = rw known_first_end refl

-- the only port, whatever others would tell; it may be silent
pub alone : (told : Told) → IsClean noon 0 (three (tell 43200) told told) One
alone told = clean_by_few noon 0 (three (tell 43200) told told) One (claim 43200) truth (omega arith)

pub alone_silent : IsClean noon 0 (three tells.Silence tells.Silence tells.Silence) One
alone_silent = clean_by_few noon 0 (three tells.Silence tells.Silence tells.Silence) One (claim 43200) truth (omega arith)

-- one liar of three, and of five two that lie alike
pub one_lies : IsClean noon 0 (three (tell 43200) (tell 43205) (tell 43200)) Three
one_lies = clean_by_few noon 0 (three (tell 43200) (tell 43205) (tell 43200)) Three (claim 43200) truth (omega arith)

pub two_of_five_lie : IsClean noon 0 (record { a = tell 43200; b = tell 43205; c = tell 43200; d = tell 43205; e = tell 43200 }) Five
two_of_five_lie =
    clean_by_few noon 0 (record { a = tell 43200; b = tell 43205; c = tell 43200; d = tell 43205; e = tell 43200 }) Five (claim 43200) truth (omega arith)

-- two of three that lie alike
abbrev sod_of : Option Claim → ℕ
sod_of None = 0
sod_of (Some c) = c.at.sod

apart : ¬ (◌≡◌ {A = Option Claim} (Some (claim 43200)) (Some (claim 43205)))
apart is = omega (arith, ap (λ (o : Option Claim). sod_of o) is)

pub alone_lies : ¬ IsClean noon 0 (three (tell 43205) (tell 43200) (tell 43200)) One
alone_lies clean = apart (sym truth ∙ clean.no_other (claim 43205) (omega arith))

pub two_lie_alike : ¬ IsClean noon 0 (three (tell 43200) (tell 43205) (tell 43205)) Three
two_lie_alike clean = apart (sym truth ∙ clean.no_other (claim 43205) (omega arith))

-- and a reader follows them; one that stands at another second than the vote's is silent
abbrev rules : ReaderRules
rules = record { lock_after = 1; holdover = 5 }

abbrev pub hold : ℕ → HoldValue
hold sod = hold_value (at sod) 0 Unspoken

pub followed : step_of rules (table 0 []) (Locked (hold 43205)) (vote_of (three (tell 43200) (tell 43205) (tell 43205)) Three)
    ≡ announce_step (hold 43206) (at 43206) lock.Locked cause.Voted
unfolding step_of vote_of
followed = rw known_first_end refl

pub lost : step_of rules (table 0 []) (Locked (hold 43205)) (vote_of (three (tell 43200) (tell 43205) (tell 43200)) Three) ≡ stop_step cause.Jump
unfolding step_of vote_of
lost = refl

-- what then misled it: two ports tell a claim that is not the true one, and under one liar no two do
pub misled_by_two : (c : Claim) × (f_of Three + 1 ≤ carriers c (ports_of (three (tell 43200) (tell 43205) (tell 43205)) Three)) × ¬ (truth_at noon 0 ≡ Some c)
misled_by_two = (claim 43205, omega arith, λ told. apart (sym truth ∙ told))

pub one_misleads_none : ¬ ((c : Claim) × (f_of Three + 1 ≤ carriers c (ports_of (three (tell 43200) (tell 43205) (tell 43200)) Three)) × ¬ (truth_at noon 0 ≡ Some c))
one_misleads_none h = h.2 (one_lies.no_other h.0 h.1)

-- under one liar the vote is the true claim, and under two that lie alike it isn't
pub voted_truth : vote_of (three (tell 43200) (tell 43205) (tell 43200)) Three ≡ truth_at noon 0
unfolding vote_of
voted_truth = sym truth

pub voted_lie : ¬ (vote_of (three (tell 43200) (tell 43205) (tell 43205)) Three ≡ truth_at noon 0)
unfolding vote_of
voted_lie h = apart (sym truth ∙ sym h)
