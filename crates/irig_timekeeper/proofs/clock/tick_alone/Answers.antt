use Rattle.std.specs.Prelude.{◌==◌}
use Rattle.std.proofs.Common.{◌≡◌, ◌∙◌, ℕ, ◌-◌, ◌<◌, Bool, false, Option, Some, None, refl, sym, ap, arith}
use Rattle.irig_time.specs.Tables.{TableValue}
use Rattle.irig_lines.specs.declared.interval.Interval.{Interval}
use Rattle.irig_lines.specs.declared.rate.Anchors.{Anchors}
use Rattle.irig_lines.specs.declared.setup.ClockRules.{ClockRules}
use Rattle.irig_lines.specs.Counting.{edges_own}
use Rattle.irig_lines.specs.declared.pace.Pace.{Pace}
use Rattle.irig_lines.specs.Paces.{edge_on, pace_on}
use Rattle.irig_lines.specs.Intervals.{carried_on}
use Rattle.irig_lines.specs.Rates.{anchors_on}
use Rattle.irig_timekeeper.specs.declared.clock.ClockState.{ClockState}
use Rattle.irig_timekeeper.specs.Clock.{after_own, beaten, is_held, knowing, serving_on, step_to}
use Rattle.irig_timekeeper.proofs.clock.tick_alone.Goals as goal

own_second : (c : ClockRules) (table : TableValue) (s : ClockState) (known : Option Interval) (anchors : Anchors) (edge behind n seconds : ℕ) → known ≡ carried_on c.drift_us n s.interval → anchors ≡ anchors_on n known s.anchors → s.edge_us ≡ Some edge
    → behind ≡ edge_on s.pace edge n → 0 < n → n ≡ seconds
    → serving_on n (beaten c (record s { interval = known; anchors = anchors }) s.lines None (step_to c table (record s { interval = known; anchors = anchors }) n None) (n - 1) behind s.bound_us) ≡ knowing c s seconds (after_own c table s seconds)
own_second c table s known anchors edge behind n seconds carried on there then some same =
    let more : (n == 0) ≡ false = grind (arith, some) in
    rw (sym same, on, carried, then, more, there) refl

-- what was learned serves on
finish : (n : ℕ) (x y : ClockState) (pace : Option Pace) (held : Bool) → x ≡ y → pace ≡ pace_on held n x.pace → held ≡ is_held x.reader → record x { pace = pace } ≡ serving_on n y
finish n x y pace held same on is = ap (λ (p : Option Pace). record x { pace = p }) (on ∙ ap (λ (h : Bool). pace_on h n x.pace) is) ∙ ap (serving_on n) same

pub returns-in-Some-clause-after : goal.returns-in-Some-clause-after
returns-in-Some-clause-after g c =
    finish c.edges_own-edges.result _ _ c.pace_on-state.result c.is_held.result c.beat_at-beat.ensures.after c.pace_on-state.ensures.value c.is_held.ensures
    ∙ own_second c.args.rules.now (g.T.Leaps.says c.args.table.now) c.args.state.now c.carried_on-state.result c.anchors_on-state.result c.in-Some.edge c.edge_on-edge_us.result c.edges_own-edges.result (edges_own c.args.state.now.pace c.args.state.now.edge_us c.args.now_us)
    c.carried_on-state.ensures.value c.anchors_on-state.ensures c.in-Some.is c.edge_on-edge_us.ensures c.if-edges-gt0.true c.edges_own-edges.ensures.value
