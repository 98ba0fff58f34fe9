-- A second that a tick announces by a vote is true, from any state.
use Rattle.std.specs.Prelude.{◌==◌}
use Rattle.std.proofs.Common.{◌≡◌, ◌∙◌, ℕ, ◌+◌, ◌-◌, ◌%◌, ◌^◌, ◌≤◌, Bool, true, false, cond, List, Option, Some, None, refl, sym, ap, subst, arith}
use Rattle.irig_sync.specs.Lines.{Pulse}
use Rattle.irig_sync.specs.Edges.{element_drift}
use Rattle.irig_time.specs.declared.second.UtcSecond.{UtcSecond}
use Rattle.irig_time.specs.declared.claim.Claim.{Claim}
use Rattle.irig_time.specs.Tables.{TableValue}
use Rattle.irig_time.specs.Timelines.{TimelineValue, IsSecond, truth_at}
use Rattle.irig_time.specs.TimelineFaults.{IsTimeline}
use Rattle.irig_time.proofs.SecondAt.{claim_is}
use Rattle.irig_port.specs.declared.told.Told.TheVariants as tells
use Rattle.irig_vote.specs.declared.redundancy.Redundancy.TheVariants.{One}
use Rattle.irig_vote.specs.declared.votes.Tells.{Tells}
use Rattle.irig_vote.specs.Vote.{f_of, vote_of}
use Rattle.irig_vote.proofs.CountLaws.{same_itself, vote_counts}
use Rattle.irig_hold.specs.declared.hold.Turn.{Turn}
use Rattle.irig_hold.specs.declared.hold.Turn.TheVariants as turn
use Rattle.irig_hold.specs.Steps.{HoldValue, alone_by}
use Rattle.irig_reader.specs.declared.rules.ReaderRules.{ReaderRules}
use Rattle.irig_reader.specs.declared.report.Report.{Report}
use Rattle.irig_reader.specs.declared.report.Lock.{Lock}
use Rattle.irig_reader.specs.declared.report.Lock.TheVariants as lock
use Rattle.irig_reader.specs.declared.report.Cause.TheVariants as cause
use Rattle.irig_reader.specs.declared.rule.State.{State}
use Rattle.irig_reader.specs.declared.rule.State.TheVariants.{Idle, Acquiring, Locked}
use Rattle.irig_reader.specs.Rule.{step_of, locked_step}
use Rattle.irig_reader.proofs.OneEdge.{voted_seconds, clean_by_few}
use Rattle.irig_lines.specs.declared.lines.Vote.{Vote}
use Rattle.irig_timekeeper.specs.declared.clock.Beat.{Beat}
use Rattle.irig_lines.specs.declared.setup.ClockRules.{ClockRules}
use Rattle.irig_lines.specs.Edges.{IsQuartz}
use Rattle.irig_lines.specs.Counting.{edges_to_vote, edges_own}
use Rattle.irig_timekeeper.specs.Rule.{missed, against_table, step_checked}
use Rattle.irig_timekeeper.specs.Clock.{bound_of, beat_by, step_to, own_edge, answer_by, settled_at, rules_on}
use Rattle.irig_timekeeper.specs.declared.clock.ClockState.{ClockState}
use Rattle.irig_timekeeper.specs.Keeping.{Keeping, answer_at, vote_at}
use Rattle.irig_timekeeper.specs.Truth.{AreHeardTruly, IsToldTruly}
use Rattle.irig_lines.specs.Widths.{vote_us}
use Rattle.irig_timekeeper.proofs.VoteLaws.{TellsTrulyBy, TellsTruly, IsVoteNear, vote_is_near}
use Rattle.irig_timekeeper.proofs.CheckedSteps.{checked_cases}

-- ---- a true claim

one_port : Claim → Tells
one_port c = record { a = tells.Claim c; b = tells.Silence; c = tells.Silence; d = tells.Silence; e = tells.Silence }

rule_second : (t : TimelineValue) (n : ℕ) (rules : ReaderRules) (table : TableValue) (state : State) (c : Claim) (u : UtcSecond) → IsTimeline t → truth_at t n ≡ Some c
    → (step_of rules table state (Some c)).report.cause ≡ cause.Voted → (step_of rules table state (Some c)).report.announce ≡ Some u → IsSecond t (n + 1) u
unfolding one_port
rule_second t n rules table state c u sound truth voted says =
    let same = same_itself c in
    let vote : vote_of (one_port c) One ≡ Some c = (vote_counts (one_port c) One c).1 (rw same (omega arith)) in
    let clean = clean_by_few t n (one_port c) One c truth (rw same (omega arith)) in
    let report = ap (λ (v : Option Claim). (step_of rules table state v).report) (sym vote) in
    voted_seconds t n rules table state (one_port c) One u sound clean
    (subst (λ (r : Report). r.cause ≡ cause.Voted) report voted) (subst (λ (r : Report). r.announce ≡ Some u) report says)

pub voted_second : (t : TimelineValue) (n : ℕ) (prefers : Bool) (rules : ReaderRules) (table : TableValue) (state : State) (c : Claim) (u : UtcSecond) → IsTimeline t → truth_at t n ≡ Some c
    → (step_checked prefers rules table state (Some c)).report.cause ≡ cause.Voted → (step_checked prefers rules table state (Some c)).report.announce ≡ Some u → IsSecond t (n + 1) u
voted_second t n prefers rules table state c u sound truth =
    checked_cases prefers rules table state (Some c) (λ step. step.report.cause ≡ cause.Voted → step.report.announce ≡ Some u → IsSecond t (n + 1) u)
    (rule_second t n rules table state c u sound truth) (λ voted says. absurd cc)

-- ---- without a vote no second is told as voted

module _ (rules : ReaderRules) (table : TableValue) where
  held : (answer : Turn) (h h' : HoldValue) → ¬ ((locked_step (lock.Holdover h'.age) cause.Held answer h).report.cause ≡ cause.Voted)
  held (turn.Now u) h h' e = cc
  held turn.LeapGuard h h' e = cc
  held turn.Expired h h' e = cc
  held turn.RangeEnd h h' e = cc
  held turn.Jump h h' e = cc

  rule_never : (s : State) → ¬ ((step_of rules table s None).report.cause ≡ cause.Voted)
  unfolding step_of
  rule_never Idle e = cc
  rule_never (Acquiring h count) e = cc
  rule_never (Locked h) e = let o = alone_by table h rules.holdover in held o.answer o.new o.new e

  never_voted : (prefers : Bool) (s : State) → ¬ ((step_checked prefers rules table s None).report.cause ≡ cause.Voted)
  never_voted prefers s = checked_cases prefers rules table s None (λ step. ¬ (step.report.cause ≡ cause.Voted)) (rule_never s) (λ e. cc)

-- ---- a tick

-- the edge of a second that is told by a vote lies so far off, by a counter that runs d us a second wrong:
-- by the bound that is told, but for the drift of an element, and by no more than a vote does
pub record IsToldBy (c : ClockRules) (d : ℕ) (t : TimelineValue) (edges : ℕ → ℕ) (early late now : ℕ) (b : Beat) (u : UtcSecond) : Type 0 where
  pub far : ℕ
  pub bound : far + element_drift c.drift_us ≤ b.bound_us + element_drift d
  pub few : far ≤ vote_us c d
  pub told : IsToldTruly t edges (early + far) (late + far) now b u

pub tick_voted_by : (IsTrue : List Pulse → Type 0) (t : TimelineValue) (edges : ℕ → ℕ) (k : Keeping) (d early late : ℕ) → early + late ≤ 3002 → (now : ℕ) (pulses : ℕ → List Pulse) (b : Beat) (u : UtcSecond) → IsQuartz d edges
    → TellsTrulyBy IsTrue k.clock d k.rules t edges early late now → IsTimeline t → AreHeardTruly IsTrue k.clock k.rules (f_of k.clock.redundancy) now k.state.lines pulses
    → answer_at k (now % 2 ^ 32) ≡ Some b → b.report.cause ≡ cause.Voted → b.report.announce ≡ Some u → IsToldBy k.clock d t edges early late now b u
tick_voted_by IsTrue t edges k d early late room now pulses b u quartz truly sound heard answer voted says = of (vote_at k (now % 2 ^ 32)) refl answer
  where
    s : ClockState
    s = settled_at k.clock k.state (now % 2 ^ 32)

    by_own : (n : ℕ) (test : Bool) → (n == 0) ≡ test → cond test None (Some (beat_by k.clock s false (step_to k.clock k.table s n None) (n - 1) (own_edge s.pace s.edge_us n) s.bound_us)) ≡ Some b → IsToldBy k.clock d t edges early late now b u
    by_own n true e answer = absurd cc
    by_own n false e answer =
        let beat : beat_by k.clock s false (step_to k.clock k.table s n None) (n - 1) (own_edge s.pace s.edge_us n) s.bound_us ≡ b = cc in
        absurd (never_voted (rules_on k.clock s.pace k.state.reader n) k.table k.clock.prefers_frames (missed k.clock.prefers_frames (rules_on k.clock s.pace k.state.reader n) k.table (n - 1) k.state.reader) (ap (λ (x : Beat). x.report.cause) beat ∙ voted))

    by_vote : (v : Vote) → IsVoteNear k.clock d t edges early late now v → (n : ℕ) (test : Bool) → (n == 0) ≡ test → cond test None (Some (beat_by k.clock s (against_table k.table (Some v.claim)) (step_to k.clock k.table s n (Some v.claim)) (n - 1) v.edge_us v.bound_us)) ≡ Some b
        → IsToldBy k.clock d t edges early late now b u
    by_vote v vote n true e answer = absurd cc
    by_vote v vote n false e answer =
        let beat : beat_by k.clock s (against_table k.table (Some v.claim)) (step_to k.clock k.table s n (Some v.claim)) (n - 1) v.edge_us v.bound_us ≡ b = cc in
        let state = missed k.clock.prefers_frames (rules_on k.clock s.pace k.state.reader n) k.table (n - 1) k.state.reader in
        let truth : truth_at t vote.truth.second ≡ Some v.claim = (claim_is t vote.truth.second v.claim).1 vote.truth.truth in
        let lock : Lock = (step_to k.clock k.table s n (Some v.claim)).report.lock in
        let bound : b.bound_us ≡ bound_of k.clock.drift_us s.pace v.bound_us lock = ap (λ (x : Beat). x.bound_us) (sym beat) in
        record {
          far = vote.far;
          bound = omega (arith, vote.told, bound);
          few = vote.few;
          told = record {
            m = vote.truth.second + 1;
            edge = vote.edge;
            clock = ap (λ (x : Beat). x.edge_us) (sym beat) ∙ vote.clock;
            near = vote.truth.near;
            come = vote.come;
            soon = omega (arith, vote.soon);
            truth = voted_second t vote.truth.second k.clock.prefers_frames (rules_on k.clock s.pace k.state.reader n) k.table state v.claim u sound truth (ap (λ (x : Beat). x.report.cause) beat ∙ voted) (ap (λ (x : Beat). x.report.announce) beat ∙ says);
          };
        }

    of : (v : Option Vote) → vote_at k (now % 2 ^ 32) ≡ v → answer_by k.clock k.table s (now % 2 ^ 32) v ≡ Some b → IsToldBy k.clock d t edges early late now b u
    of None e answer = by_own (edges_own s.pace s.edge_us (now % 2 ^ 32)) _ refl answer
    of (Some v) e answer =
        by_vote v (vote_is_near IsTrue k.rules t k.clock d edges quartz early late room now k.state.lines pulses truly heard v e) (edges_to_vote s.edge_us v.edge_us) _ refl answer

-- what lies so near lies nearer than that
pub nearer : (t : TimelineValue) (edges : ℕ → ℕ) (before behind more more_behind now : ℕ) (b : Beat) (u : UtcSecond) → before ≤ more → behind ≤ more_behind → IsToldTruly t edges before behind now b u → IsToldTruly t edges more more_behind now b u
nearer t edges before behind more more_behind now b u low low_behind told = record {
  m = told.m;
  edge = told.edge;
  clock = told.clock;
  near = record { least = omega (arith, told.near.least, low); most = omega (arith, told.near.most, low_behind) };
  come = told.come;
  soon = told.soon;
  truth = told.truth;
}

-- by the drift of the setup
pub tick_voted : (IsTrue : List Pulse → Type 0) (t : TimelineValue) (edges : ℕ → ℕ) (k : Keeping) (early late : ℕ) → early + late ≤ 3002 → (now : ℕ) (pulses : ℕ → List Pulse) (b : Beat) (u : UtcSecond) → IsQuartz k.clock.drift_us edges
    → TellsTruly IsTrue k.clock k.rules t edges early late now → IsTimeline t → AreHeardTruly IsTrue k.clock k.rules (f_of k.clock.redundancy) now k.state.lines pulses
    → answer_at k (now % 2 ^ 32) ≡ Some b → b.report.cause ≡ cause.Voted → b.report.announce ≡ Some u → IsToldTruly t edges (early + b.bound_us) (late + b.bound_us) now b u
tick_voted IsTrue t edges k early late room now pulses b u quartz truly sound heard answer voted says =
    let by = tick_voted_by IsTrue t edges k k.clock.drift_us early late room now pulses b u quartz truly sound heard answer voted says in
    nearer t edges (early + by.far) (late + by.far) (early + b.bound_us) (late + b.bound_us) now b u (omega (arith, by.bound)) (omega (arith, by.bound)) by.told
