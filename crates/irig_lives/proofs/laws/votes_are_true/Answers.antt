use Rattle.std.proofs.Common.{◌≡◌, ℕ, ◌+◌, ◌-◌, ◌%◌, ◌^◌, List, Some, subst, arith}
use Rattle.irig_sync.specs.Edges.{element_drift}
use Rattle.irig_sync.specs.Lines.{Pulse}
use Rattle.irig_time.specs.declared.second.UtcSecond.{UtcSecond}
use Rattle.irig_time.specs.Timelines.{TimelineValue}
use Rattle.irig_time.specs.TimelineFaults.{IsTimeline}
use Rattle.irig_vote.specs.Vote.{f_of}
use Rattle.irig_reader.specs.declared.report.Cause.TheVariants.{Voted}
use Rattle.irig_timekeeper.specs.declared.clock.Beat.{Beat}
use Rattle.irig_lines.specs.Edges.{IsQuartz}
use Rattle.irig_lines.specs.Widths.{vote_us}
use Rattle.irig_timekeeper.specs.Keeping.{Keeping, answer_at}
use Rattle.irig_lines.specs.Lines.{IsTrueLately}
use Rattle.irig_timekeeper.specs.Truth.{AreHeardTruly, IsToldTruly}
use Rattle.irig_lines.proofs.LineLaws.{true_by_any}
use Rattle.irig_timekeeper.proofs.VoteLaws.{vote_is_true}
use Rattle.irig_timekeeper.proofs.VotedLaws.{IsToldBy, nearer, tick_voted, tick_voted_by}
use Rattle.irig_lives.proofs.laws.votes_are_true.Goals as goal

pub returns-clause-vote : goal.returns-clause-vote
returns-clause-vote _ t edges k now pulses vote steady heard e =
    vote_is_true (IsTrueLately k.clock.within.us k.rules t edges now) k.rules t k.clock edges steady 0 0 (omega arith) now k.state.lines pulses
    (λ half end ps claim is frame soon. true_by_any k.clock k.rules t k.clock.drift_us edges half now end ps claim steady is frame soon) heard vote e

pub returns-clause-second : goal.returns-clause-second
returns-clause-second _ t edges k now pulses beat u steady sound heard answer voted says =
    let same : 0 + beat.bound_us ≡ beat.bound_us = omega arith in
    subst (λ (b : ℕ). IsToldTruly t edges b b now beat u) same
    (tick_voted (IsTrueLately k.clock.within.us k.rules t edges now) t edges k 0 0 (omega arith) now pulses beat u steady
    (λ half end ps claim is frame soon. true_by_any k.clock k.rules t k.clock.drift_us edges half now end ps claim steady is frame soon) sound heard answer voted says)

-- by any counter: whatever drift a frame is even by, it ends as near as that counter lets it
told_by : (t : TimelineValue) (d : ℕ) (edges : ℕ → ℕ) (k : Keeping) (now : ℕ) (pulses : ℕ → List Pulse) (beat : Beat) (u : UtcSecond) → IsQuartz d edges → IsTimeline t
    → AreHeardTruly (IsTrueLately k.clock.within.us k.rules t edges now) k.clock k.rules (f_of k.clock.redundancy) now k.state.lines pulses
    → answer_at k (now % 2 ^ 32) ≡ Some beat → beat.report.cause ≡ Voted → beat.report.announce ≡ Some u → IsToldBy k.clock d t edges 0 0 now beat u
told_by t d edges k now pulses beat u steady sound heard answer voted says =
    tick_voted_by (IsTrueLately k.clock.within.us k.rules t edges now) t edges k d 0 0 (omega arith) now pulses beat u steady
    (λ half end ps claim is frame soon. true_by_any k.clock k.rules t d edges half now end ps claim steady is frame soon) sound heard answer voted says

pub returns-clause-any_counter : goal.returns-clause-any_counter
returns-clause-any_counter _ t d edges k now pulses beat u steady sound heard answer voted says =
    let by = told_by t d edges k now pulses beat u steady sound heard answer voted says in
    let far = vote_us k.clock d in
    nearer t edges (0 + by.far) (0 + by.far) far far now beat u (omega (arith, by.few)) (omega (arith, by.few)) by.told

pub returns-clause-any_bound : goal.returns-clause-any_bound
returns-clause-any_bound _ t d edges k now pulses beat u steady sound heard answer voted says =
    let by = told_by t d edges k now pulses beat u steady sound heard answer voted says in
    let far = beat.bound_us + element_drift d - element_drift k.clock.drift_us in
    nearer t edges (0 + by.far) (0 + by.far) far far now beat u (omega (arith, by.bound)) (omega (arith, by.bound)) by.told
