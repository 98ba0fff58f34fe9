use Rattle.std.proofs.Common.{◌∷◌, ◌++◌, subst, arith, refl}
use Rattle.irig_lines.specs.Lines.{IsTrueLately}
use Rattle.irig_lines.proofs.LineLaws.{true_by_any}
use Rattle.irig_timekeeper.specs.Life.{AreInOrder, device_of}
use Rattle.irig_timekeeper.specs.Life.Call.{Tick}
use Rattle.irig_timekeeper.proofs.LifeLaws.{begins, order_before}
use Rattle.irig_timekeeper.proofs.HealLaws.{healed, in_order, calm_since}
use Rattle.irig_timekeeper.proofs.HealedStamps.{stamped_since}
use Rattle.irig_timekeeper.proofs.RowLaws.{in_a_row_since}
use Rattle.irig_lives.proofs.laws.a_device_heals.Goals as goal

pub returns-clause-life : goal.returns-clause-life
returns-clause-life _ t edges made start mend now earlier later vote beat then u is plain order lately truth voted answer answers says =
    healed (IsTrueLately made.clock.within.us made.rules t edges) t edges 0 0 (device_of made) start (begins made.rules made.clock made.table made.lines start made.fresh) tt is (omega arith)
    (λ now half end pulses claim is_true frame soon. true_by_any made.clock made.rules t made.clock.drift_us edges half now end pulses claim is.steady is_true frame soon)
    (record { off = plain; none = refl }) (omega arith) earlier later mend now vote beat then u order lately truth voted answer answers says

pub returns-clause-order : goal.returns-clause-order
returns-clause-order _ t edges made start before now earlier later beat then u v h order since answer says answers again =
    in_order (IsTrueLately made.clock.within.us made.rules t edges) t edges 0 0 (device_of made) start (begins made.rules made.clock made.table made.lines start made.fresh) tt h.is (omega arith)
    (λ now half end pulses claim is_true frame soon. true_by_any made.clock made.rules t made.clock.drift_us edges half now end pulses claim h.is.steady is_true frame soon)
    (record { off = h.plain; none = refl }) h.earlier h.mend h.vote h.beat h.truth h.voted h.answer h.later before earlier later now beat then u v h.are h.since order since answer says answers again

pub returns-clause-calm : goal.returns-clause-calm
returns-clause-calm _ t edges made start now calls beat h order here answer =
    calm_since (IsTrueLately made.clock.within.us made.rules t edges) t edges 0 0 (device_of made) start (begins made.rules made.clock made.table made.lines start made.fresh) tt h.is (omega arith)
    (λ now half end pulses claim is_true frame soon. true_by_any made.clock made.rules t made.clock.drift_us edges half now end pulses claim h.is.steady is_true frame soon)
    (record { off = h.plain; none = refl }) h.earlier h.mend h.vote h.beat h.truth h.voted h.answer h.later calls now h.are h.since order here beat answer

pub returns-clause-stamps : goal.returns-clause-stamps
returns-clause-stamps _ t edges made start edge time now calls stamp h at when order past young e =
    let ordered = order_before start made.clock.redundancy h.later (Tick h.mend ∷ h.earlier) (subst (AreInOrder start made.clock.redundancy) h.are h.order) in
    stamped_since made.rules made.clock made.table made.lines start made.fresh (IsTrueLately made.clock.within.us made.rules t edges) t edges 0 0 0 h.is (omega arith) (omega arith) (omega arith)
    (λ now half end pulses claim is_true frame soon. true_by_any made.clock made.rules t made.clock.drift_us edges half now end pulses claim h.is.steady is_true frame soon) h.plain
    h.earlier h.mend h.vote h.beat h.truth ordered h.voted h.answer edge time now at when past young h.later calls h.are order h.since stamp e

pub returns-clause-row : goal.returns-clause-row
returns-clause-row _ t edges made start edge next calls beat then u row h order truth says none =
    let ordered = order_before start made.clock.redundancy row.later (Tick row.now ∷ (row.between ++ (Tick row.before ∷ row.earlier))) (subst (AreInOrder start made.clock.redundancy) row.are order) in
    in_a_row_since made.rules made.clock made.table made.lines start made.fresh (IsTrueLately made.clock.within.us made.rules t edges) t edges 0 0 h.is (omega arith)
    (λ now half end pulses claim is_true frame soon. true_by_any made.clock made.rules t made.clock.drift_us edges half now end pulses claim h.is.steady is_true frame soon)
    calls beat then edge next u row h.earlier h.later h.mend h.vote h.beat h.truth h.voted h.answer h.are h.since ordered truth (record { off = h.plain; none = refl }) says none
