use Rattle.std.proofs.Common.{◌≡◌, ◌+◌, ◌-◌, ◌/◌, min, None, refl, ap, sym, ◌∙◌, arith}
use Rattle.irig_time.specs.Timelines.{TimelineValue, leap_of}
use Rattle.irig_time.specs.Stretches.{IsIndexed, Holds}
use Rattle.irig_time.proofs.TimeLaws.{few, found_is, length_bounds}
use Rattle.irig_time.proofs.NextLaws.{valid_second}
use Rattle.irig_time.proofs.SecondAt.{value_is}
use Rattle.irig_time.proofs.StretchLaws.{indexed_by, found_in, late_in, rising}
use Rattle.irig_time.proofs.timeline.Timeline.at.Goals.{After-deref, After-min-days}
use Rattle.irig_time.proofs.timeline.Timeline.at.Goals as goal

indexed : (c : After-deref) → IsIndexed c.args.self.now c.deref.result.now
indexed c = indexed_by _ c.args.self.now _ c.deref.result.now c.self.view_is c.deref.ensures.value c.self.invariant

-- what the second is found by, or is not
searched : (c : After-min-days) → let s = c.stretch_at-last.result in let t = c.args.self.now in let total = c.in_ok-total.total in
    Holds t total s.0 s.1 × (total ≡ t.start.sod + c.args.number) × (c.min-days.result ≡ min ((total - s.0.seconds) / 86400) (s.1 - s.0.day))
searched c =
    let t = c.args.self.now in
    let s = c.stretch_at-last.result in
    let start : t.start.sod ≡ c.self.inside.start.sod = sym (ap (λ (x : TimelineValue). x.start.sod) c.self.view_is) in (
      c.stretch_at-last.ensures t (indexed_by _ t _ c.deref.result.now c.self.view_is c.deref.ensures.value c.self.invariant).index,
      omega (arith, c.in_ok-total.ensures.1, c.from.ensures, start),
      c.min-days.ensures ∙ ap (min ((c.in_ok-total.total - s.0.seconds) / 86400)) c.from-2.ensures,
    )

pub stretch_at-last-requires : goal.stretch_at-last-requires
stretch_at-last-requires c = rising _ _ c.deref.result.now (indexed (goal.at.stretch_at-last-requires c).After-deref).index

pub returns-in_err-total-clause-second : goal.returns-in_err-total-clause-second
returns-in_err-total-clause-second c u =
    let t = c.args.self.now in
    let none = c.from_residual.ensures in
    let start : t.start.sod ≡ c.self.inside.start.sod = sym (ap (λ (x : TimelineValue). x.start.sod) c.self.view_is) in (
      λ e. absurd cc,
      λ h. absurd (c.in_err-total.ensures (omega (arith, few t c.args.number u h, c.from.ensures, start))),
    )

pub overflow_sub-rest : goal.overflow_sub-rest
overflow_sub-rest c = (c.stretch_at-last.ensures c.args.self.now (indexed (goal.at.overflow_sub-rest c).After-deref).index).begun

pub overflow_sub-last : goal.overflow_sub-last
overflow_sub-last c = (c.stretch_at-last.ensures c.args.self.now (indexed (goal.at.overflow_sub-last c).After-deref).index).within

pub returns-then-day-gt-LAST_DAY-clause-second : goal.returns-then-day-gt-LAST_DAY-clause-second
returns-then-day-gt-LAST_DAY-clause-second c u =
    let found = searched (goal.at.returns-then-day-gt-LAST_DAY-clause-second c).After-min-days in
    (λ e. absurd cc, λ h. absurd (late_in c.args.self.now c.args.number _ _ _ _ found.0 found.1 found.2 c.if-day-gt-LAST_DAY.true u h))

pub overflow_cast-result : goal.overflow_cast-result
overflow_cast-result c =
    let found = searched (goal.at.overflow_cast-result c).After-min-days in
    let a = found_in c.args.self.now c.args.number _ _ _ _ found.0 found.1 found.2 c.if-day-gt-LAST_DAY.false in
    omega (arith, a.sod, (length_bounds (leap_of c.args.self.now.leaps (c.stretch_at-last.result.0.day + c.min-days.result))).1)

pub returns-clause-second : goal.returns-clause-second
returns-clause-second c u =
    let found = searched (goal.at.returns-clause-second c).After-min-days in
    found_is c.args.self.now c.args.number _ u (found_in c.args.self.now c.args.number _ _ _ _ found.0 found.1 found.2 c.if-day-gt-LAST_DAY.false)

pub returns-clause-valid : goal.returns-clause-valid
returns-clause-valid c =
    let found = searched (goal.at.returns-clause-valid c).After-min-days in
    let t = indexed (goal.at.returns-clause-valid c).After-deref in
    valid_second c.args.self.now c.args.number _ t.timeline (found_in c.args.self.now c.args.number _ _ _ _ found.0 found.1 found.2 c.if-day-gt-LAST_DAY.false)

pub returns-in_err-total-clause-value : goal.returns-in_err-total-clause-value
returns-in_err-total-clause-value c = value_is c.args.self.now c.args.number c.from_residual.result (λ u. returns-in_err-total-clause-second c u)

pub returns-then-day-gt-LAST_DAY-clause-value : goal.returns-then-day-gt-LAST_DAY-clause-value
returns-then-day-gt-LAST_DAY-clause-value c = value_is c.args.self.now c.args.number None (λ u. returns-then-day-gt-LAST_DAY-clause-second c u)

pub returns-clause-value : goal.returns-clause-value
returns-clause-value c = value_is c.args.self.now c.args.number _ (λ u. returns-clause-second c u)

pub returns-clause-early : goal.returns-clause-early
returns-clause-early c = omega (arith, few c.args.self.now c.args.number _ ((returns-clause-second c _).0 refl))
