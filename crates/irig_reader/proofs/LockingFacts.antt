-- Votes by which a silent reader locks and votes by which it doesn't, so that a wrong definition does
-- not check. It is noon of 2000-01-31, and once the end of 2016-12-31.
use Rattle.std.proofs.Common.{◌≡◌, ℕ, List, [], ◌∷◌, Option, Some, None, refl, sym, ap, ◌∙◌, arith}
use Rattle.irig_time.specs.declared.second.UtcSecond.{UtcSecond}
use Rattle.irig_time.specs.declared.mark.Mark.{Mark}
use Rattle.irig_time.specs.declared.mark.Mark.TheVariants.{Unspoken, NoLeap, Insert, Delete}
use Rattle.irig_time.specs.declared.claim.Claim.{Claim}
use Rattle.irig_time.specs.Next.{next_of}
use Rattle.irig_time.specs.Timelines.{second_at, truth_at}
use Rattle.irig_time.specs.Tables.{TableValue, table}
use Rattle.irig_time.proofs.StandardFacts.{known_first_end, known_month_end}
use Rattle.irig_reader.specs.declared.rules.ReaderRules.{ReaderRules}
use Rattle.irig_reader.specs.declared.report.Lock.TheVariants as lock
use Rattle.irig_reader.specs.declared.report.Cause.TheVariants as cause
use Rattle.irig_reader.specs.declared.rule.State.TheVariants.{Idle, Acquiring, Locked}
use Rattle.irig_reader.specs.declared.report.Report.{Report}
use Rattle.irig_reader.specs.Rule.{stop_step, announce_step, count_step, step_of, state_of, report_of}
use Rattle.irig_reader.specs.Locking.{IsSilentAfter, IsNextByMark, FollowsVotes, then_true, voted_report}
use Rattle.irig_reader.proofs.CleanFacts.{at, noon, claim, hold, truth}

abbrev vote : ℕ → Option Claim
vote sod = Some (claim sod)

abbrev lost : Option Claim
lost = None

abbrev nothing : TableValue
nothing = table 0 []

-- two votes lock
abbrev two : ReaderRules
two = record { lock_after = 2; holdover = 5 }

-- ---- seconds that follow one another

abbrev sod_of : Option UtcSecond → ℕ
sod_of None = 0
sod_of (Some u) = u.sod

at_noon : (mark : Mark) → next_of (at 43200) mark ≡ Some (at 43201)
at_noon Unspoken = rw known_first_end refl
at_noon NoLeap = rw known_first_end refl
at_noon Insert = rw known_first_end refl
at_noon Delete = rw known_first_end refl

pub next_second : IsNextByMark (at 43200) (at 43201)
next_second = record { mark = Unspoken; next = at_noon Unspoken }

pub not_the_one_after : ¬ IsNextByMark (at 43200) (at 43202)
not_the_one_after h = omega (arith, ap sod_of (sym (at_noon h.mark) ∙ h.next))

-- a day of December 2016, and the one after it
abbrev last : ℕ → UtcSecond
last sod = record { day = 6209; sod = sod }

-- 23:59:59 is followed by 23:59:60 and by the new year, 23:59:58 by the new year too
pub at_the_end : IsNextByMark (last 86399) (last 86400) × IsNextByMark (last 86399) (record { day = 6210; sod = 0 }) × IsNextByMark (last 86398) (record { day = 6210; sod = 0 })
at_the_end = (record { mark = Insert; next = rw known_month_end refl }, record { mark = NoLeap; next = rw known_month_end refl }, record { mark = Delete; next = rw known_month_end refl })

-- ---- votes in a row

pub in_a_row : FollowsVotes 2 (vote 43201 ∷ vote 43200 ∷ lost ∷ []) (at 43202)
in_a_row = (record { mark = Unspoken; next = rw known_first_end refl }, (next_second, tt))

pub one_was_lost : ¬ FollowsVotes 2 (vote 43201 ∷ lost ∷ vote 43200 ∷ []) (at 43202)
one_was_lost h = h.1

pub one_was_skipped : ¬ FollowsVotes 2 (vote 43202 ∷ vote 43200 ∷ []) (at 43203)
one_was_skipped h = not_the_one_after h.1.0

pub none_before : ¬ FollowsVotes 2 (vote 43201 ∷ []) (at 43202)
none_before h = h.1

-- ---- a reader that locks after two

first : step_of two nothing Idle (vote 43200) ≡ count_step two (hold 43201) 1
unfolding step_of
first = rw known_first_end refl

further : step_of two nothing (Acquiring (hold 43201) 1) (vote 43201) ≡ announce_step (hold 43202) (at 43202) lock.Locked cause.Voted
unfolding step_of
further = rw known_first_end refl

unlocked : step_of two nothing (Acquiring (hold 43201) 1) lost ≡ stop_step cause.NoVote
unfolding step_of
unlocked = refl

-- it is silent before its first tick, and after one vote, and not after two
pub silent_at_first : IsSilentAfter two nothing []
silent_at_first = tt

pub silent_after_one : IsSilentAfter two nothing (vote 43200 ∷ [])
silent_after_one = rw (first, report_of, state_of) refl

pub locked_by_two : report_of two nothing (vote 43201) (vote 43200 ∷ []) ≡ voted_report (at 43202)
locked_by_two = rw (first, further, report_of, state_of) refl

pub not_silent_after_two : ¬ IsSilentAfter two nothing (vote 43201 ∷ vote 43200 ∷ [])
not_silent_after_two h =
    let says : ◌≡◌ {A = Option UtcSecond} (Some (at 43202)) None = sym (ap (λ (r : Report). r.announce) locked_by_two) ∙ h in
    cc

-- a lost vote between begins anew
pub lost_between : (report_of two nothing lost (vote 43200 ∷ [])).announce ≡ None
lost_between = rw (first, unlocked, report_of, state_of) refl

-- ---- true votes

next_truth : truth_at noon 1 ≡ vote 43201
unfolding second_at
next_truth = rw known_first_end refl

pub two_true : then_true noon 0 2 (lost ∷ []) ≡ vote 43201 ∷ vote 43200 ∷ lost ∷ []
two_true = rw (truth, next_truth) refl

pub one_true : ¬ (then_true noon 0 1 [] ≡ vote 43201 ∷ [])
one_true h =
    let both : ◌≡◌ {A = List (Option Claim)} (vote 43200 ∷ []) (vote 43201 ∷ []) = rw truth at h in
    let same : ◌≡◌ {A = Option Claim} (vote 43200) (vote 43201) = cc in
    omega (arith, ap (λ (o : Option Claim). claimed_sod o) same)
  where
    claimed_sod : Option Claim → ℕ
    claimed_sod None = 0
    claimed_sod (Some c) = c.at.sod

-- ---- a locked reader that stands five seconds ahead

-- two votes that were five seconds ahead
abbrev ahead : List (Option Claim)
ahead = vote 43204 ∷ vote 43203 ∷ []

first_ahead : step_of two nothing Idle (vote 43203) ≡ count_step two (hold 43204) 1
unfolding step_of
first_ahead = rw known_first_end refl

locked_ahead : step_of two nothing (Acquiring (hold 43204) 1) (vote 43204) ≡ announce_step (hold 43205) (at 43205) lock.Locked cause.Voted
unfolding step_of
locked_ahead = rw known_first_end refl

jumps : step_of two nothing (Locked (hold 43205)) (vote 43200) ≡ stop_step cause.Jump
unfolding step_of
jumps = refl

anew : step_of two nothing Idle (vote 43201) ≡ count_step two (hold 43202) 1
unfolding step_of
anew = rw known_first_end refl

back : step_of two nothing (Acquiring (hold 43202) 1) (vote 43202) ≡ announce_step (hold 43203) (at 43203) lock.Locked cause.Voted
unfolding step_of
back = rw known_first_end refl

-- after a jump it is silent at the second true vote, and announces at the third
pub two_are_too_few : ¬ (report_of two nothing (vote 43201) (vote 43200 ∷ ahead) ≡ voted_report (at 43202))
two_are_too_few h =
    let silent : (report_of two nothing (vote 43201) (vote 43200 ∷ ahead)).announce ≡ None = rw (first_ahead, locked_ahead, jumps, anew, report_of, state_of) refl in
    let says : ◌≡◌ {A = Option UtcSecond} None (Some (at 43202)) = sym silent ∙ ap (λ (r : Report). r.announce) h in
    cc

pub three_are_enough : report_of two nothing (vote 43202) (vote 43201 ∷ vote 43200 ∷ ahead) ≡ voted_report (at 43203)
three_are_enough = rw (first_ahead, locked_ahead, jumps, anew, back, report_of, state_of) refl
