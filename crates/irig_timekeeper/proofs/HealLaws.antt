-- A true vote that counts an edge brings a device back to the truth, from wherever its lines led it.
use Rattle.std.specs.Prelude.{◌==◌}
use Rattle.std.proofs.Common.{◌≡◌, ◌∙◌, ℕ, zero, suc, ◌+◌, ◌-◌, ◌%◌, ◌^◌, ◌<◌, ◌≤◌, Bool, true, false, cond, List, [], ◌∷◌, ◌++◌, Option, Some, None, refl, sym, ap, subst, arith, inl, inr}
use Rattle.std.proofs.lemmas.Bool.{cases_Bool}
use Rattle.irig_sync.specs.Lines.{Pulse}
use Rattle.irig_time.specs.declared.second.UtcSecond.{UtcSecond}
use Rattle.irig_time.specs.declared.rules.Rules.{Rules}
use Rattle.irig_time.specs.declared.claim.Claim.{Claim}
use Rattle.irig_time.specs.Claims.{IsMarkedLate}
use Rattle.irig_time.specs.Tables.{TableValue}
use Rattle.irig_time.specs.Timelines.{TimelineValue}
use Rattle.irig_time.proofs.ClaimedSeconds.{claim_marked}
use Rattle.irig_time.proofs.SecondAt.{claim_is}
use Rattle.irig_hold.specs.Steps.{HoldValue}
use Rattle.irig_hold.specs.Truth.{HasHeardLate}
use Rattle.irig_vote.specs.Vote.{f_of}
use Rattle.irig_reader.specs.declared.rules.ReaderRules.{ReaderRules}
use Rattle.irig_reader.specs.declared.rule.State.{State}
use Rattle.irig_reader.specs.declared.report.Cause.TheVariants as cause
use Rattle.irig_reader.specs.declared.rule.Step.{Step}
use Rattle.irig_reader.specs.Rule.{count_step, step_of}
use Rattle.irig_reader.proofs.HeldEdges.{IfHold, late_step}
use Rattle.irig_reader.proofs.StepCases.{count_cases, vote_cases}
use Rattle.irig_lines.specs.declared.lines.KeptClaim.{KeptClaim}
use Rattle.irig_lines.specs.declared.lines.Lines.{Lines}
use Rattle.irig_lines.specs.declared.lines.Vote.{Vote}
use Rattle.irig_lines.specs.declared.pace.Pace.{Pace}
use Rattle.irig_lines.proofs.WidthLaws.{reach_few}
use Rattle.irig_timekeeper.specs.declared.clock.Beat.{Beat}
use Rattle.irig_lines.specs.declared.setup.ClockRules.{ClockRules}
use Rattle.irig_timekeeper.specs.declared.clock.ClockState.{ClockState}
use Rattle.irig_lines.specs.Lines.{IfKept}
use Rattle.irig_lines.specs.Widths.{reach_us, vote_us}
use Rattle.irig_lines.specs.Counting.{edges_to_vote, edges_own}
use Rattle.irig_timekeeper.specs.Rule.{missed, against_table, step_checked}
use Rattle.irig_lines.specs.Steps.{is_pulse, line_at, claim_kept, all_kept, still_kept, settled, agreed, if_come}
use Rattle.irig_timekeeper.specs.Clock.{bound_of, beat_by, step_to, after_vote, answer_to_vote, after_own, clock_by, answer_by, settled_at, rules_on}
use Rattle.irig_timekeeper.specs.Keeping.{Keeping, vote_at, after_tick, answer_at}
use Rattle.irig_timekeeper.specs.Truth.{IsTrueVote, IsOnTrack, IsToldInHoldover, IsLaterSecond, IsDevice}
use Rattle.irig_timekeeper.specs.Life.{Call, after_calls, pulses_on, last_tick, AreInOrder, AreTrueLately, AreTrueOver}
use Rattle.irig_timekeeper.specs.Life.Call.{Hear, Tick}
use Rattle.irig_lines.proofs.AgreeLaws.{EachKept, is_one}
use Rattle.irig_timekeeper.proofs.SureSteps.{mended_by_vote}
use Rattle.irig_timekeeper.proofs.VotedLaws.{voted_second}
use Rattle.irig_lines.proofs.PartLaws.{agreed_first}
use Rattle.irig_timekeeper.proofs.BoundLaws.{answer_bound}
use Rattle.irig_timekeeper.proofs.TrackLaws.{IsToldNewly, KeepsTrue}
use Rattle.irig_timekeeper.proofs.VoteLaws.{still, come, vote_is_true}
use Rattle.irig_lines.proofs.PartLaws.{one_more}
use Rattle.irig_timekeeper.proofs.LearnLaws.{IsPlain, plain_steps}
use Rattle.irig_timekeeper.proofs.LifeLaws.{StepsIn, IsSameSetup, AreLinesAt, IsEndAt, lines_after, TellAlwaysTruly, heard_truly, tick_in, track_on, order_before}
use Rattle.irig_timekeeper.proofs.CheckedSteps.{checked_cases}

-- ---- what lines keep speaks of a leap in a month's last minute alone

IsMarked : KeptClaim → Type 0
IsMarked y = IsMarkedLate y.claim

kept_marked : (EndsSo : ℕ → Type 0) (c : ClockRules) (rules : Rules) (kept : Option KeptClaim) (pulses : List Pulse) (y : KeptClaim) → IfKept EndsSo c rules kept pulses → kept ≡ Some y → IsMarked y
unfolding IsMarked
kept_marked EndsSo c rules None pulses y h e = absurd cc
kept_marked EndsSo c rules (Some x) pulses y h e =
    let same : x ≡ y = cc in
    subst (λ (v : KeptClaim). IsMarkedLate v.claim) same (claim_marked _ _ _ x.claim h.2.carries.claims)

module _ (c : ClockRules) (EndsSo : List Pulse → ℕ → Type 0) (rules : Rules) (lines : Lines) (pulses : ℕ → List Pulse) (kept : (i : ℕ) → i < 5 → IfKept (EndsSo (pulses i)) c rules (claim_kept c (line_at lines i).frame) (pulses i)) where
  marked_at : (clock i : ℕ) → i < 5 → (y : KeptClaim) → claim_kept c (still_kept clock (line_at lines i).frame) ≡ Some y → IsMarked y
  marked_at clock i low y e = kept_marked (EndsSo (pulses i)) c rules (claim_kept c (line_at lines i).frame) (pulses i) y (kept i low) (still c clock (line_at lines i).frame y e).0

  each_marked : (clock : ℕ) → EachKept IsMarked (all_kept c (settled clock lines))
  each_marked clock =
      one_more IsMarked _ _ (marked_at clock 0 (omega arith))
      (one_more IsMarked _ _ (marked_at clock 1 (omega arith))
      (one_more IsMarked _ _ (marked_at clock 2 (omega arith))
      (one_more IsMarked _ _ (marked_at clock 3 (omega arith))
      (one_more IsMarked _ _ (marked_at clock 4 (omega arith)) tt))))

  vote_marked : (clock : ℕ) (v : Vote) → if_come clock (agreed c (settled clock lines)) ≡ Some v → IsMarkedLate v.claim
  unfolding IsMarked
  vote_marked clock v e =
      let all = all_kept c (settled clock lines) in
      let first = agreed_first c (settled clock lines) v (come clock (agreed c (settled clock lines)) v e).0 in
      let claims = ap (λ (x : Vote). x.claim) first.2 in
      subst IsMarkedLate (sym claims) (is_one IsMarked (reach_us c) (f_of c.redundancy) all all first.0 (each_marked clock) first.1).1

-- ---- and so a reader heard of one there

module _ (prefers : Bool) (rules : ReaderRules) (table : TableValue) where
  late_checked : (s : State) (vote : Option Claim) → IfHold (step_of rules table s vote).state HasHeardLate → IfHold (step_checked prefers rules table s vote).state HasHeardLate
  late_checked s vote late = checked_cases prefers rules table s vote (λ step. IfHold step.state HasHeardLate) late tt

  late_missed : (n : ℕ) (s : State) → IfHold s HasHeardLate → IfHold (missed prefers rules table n s) HasHeardLate
  late_missed zero s late = late
  late_missed (suc n) s late = late_checked (missed prefers rules table n s) None (late_step rules table (missed prefers rules table n s) None (late_missed n s late) tt)

either_late : (b : Bool) (x y : ClockState) → IfHold x.reader HasHeardLate → IfHold y.reader HasHeardLate → IfHold (cond b x y).reader HasHeardLate
either_late true x y p q = p
either_late false x y p q = q

module _ (c : ClockRules) (table : TableValue) (s : ClockState) (late : IfHold s.reader HasHeardLate) where
  -- the rules where so many seconds are counted
  abbrev by : ℕ → ReaderRules
  by n = rules_on c s.pace s.reader n

  late_own : (n : ℕ) → IfHold (after_own c table s n).reader HasHeardLate
  late_own n = either_late (n == 0) s _ late (late_checked c.prefers_frames (by n) table (missed c.prefers_frames (by n) table (n - 1) s.reader) None (late_step (by n) table (missed c.prefers_frames (by n) table (n - 1) s.reader) None (late_missed c.prefers_frames (by n) table (n - 1) s.reader late) tt))

  late_voted : (v : Vote) (n : ℕ) → IsMarkedLate v.claim → IfHold (after_vote c table s v n).reader HasHeardLate
  late_voted v n marked = either_late (n == 0) _ _ late (late_checked c.prefers_frames (by n) table (missed c.prefers_frames (by n) table (n - 1) s.reader) (Some v.claim) (late_step (by n) table (missed c.prefers_frames (by n) table (n - 1) s.reader) (Some v.claim) (late_missed c.prefers_frames (by n) table (n - 1) s.reader late) marked))

late_ticked : (k : Keeping) (clock : ℕ) → IfHold k.state.reader HasHeardLate → ((v : Vote) → vote_at k clock ≡ Some v → IsMarkedLate v.claim) → IfHold (after_tick k clock).state.reader HasHeardLate
late_ticked k clock late marked = of (vote_at k clock) refl
  where
    of : (v : Option Vote) → vote_at k clock ≡ v → IfHold (clock_by k.clock k.table (settled_at k.clock k.state clock) clock v).reader HasHeardLate
    of None e = late_own k.clock k.table (settled_at k.clock k.state clock) late (edges_own (settled_at k.clock k.state clock).pace k.state.edge_us clock)
    of (Some v) e = late_voted k.clock k.table (settled_at k.clock k.state clock) late v (edges_to_vote k.state.edge_us v.edge_us) (marked v e)

module _ (new : Keeping) (start : ℕ) (begins : AreLinesAt new new (λ i. []) start start) where
  pub late_life : IfHold new.state.reader HasHeardLate → (calls : List Call) → AreInOrder start new.clock.redundancy calls → IfHold (after_calls new calls).state.reader HasHeardLate
  late_life late [] order = late
  late_life late (Hear port rise width ∷ calls) order =
      let before = late_life late calls order.2 in
      elim (cases_Bool (is_pulse width)) [ inl narrow ↦ rw narrow before | inr wide ↦ rw wide before ]
  late_life late (Tick now ∷ calls) order =
      let l = lines_after new start begins calls now order in
      let k = after_calls new calls in
      late_ticked k (now % 2 ^ 32) (late_life late calls order.3)
      (λ v e. vote_marked k.clock (λ ps. IsEndAt ps (last_tick start calls) now) k.rules k.state.lines (λ i. pulses_on i calls) (λ i low. (l.lines i low).kept) (now % 2 ^ 32) v e)

-- ---- a true vote that counts an edge

-- a second is announced by a vote with this cause alone
says_voted : (prefers : Bool) (rules : ReaderRules) (table : TableValue) (s : State) (c : Claim) (u : UtcSecond) → (step_checked prefers rules table s (Some c)).report.announce ≡ Some u → (step_checked prefers rules table s (Some c)).report.cause ≡ cause.Voted
says_voted prefers rules table s c u = checked_cases prefers rules table s (Some c) Says (vote_cases Says rules table s c (λ h e. counts h 1) (λ stop says. absurd cc) (λ h count w is e. counts _ (count + 1)) (λ h w is e says. refl)) (λ says. absurd cc)
  where
    Says : Step → Type 0
    Says step = step.report.announce ≡ Some u → step.report.cause ≡ cause.Voted

    counts : (h : HoldValue) (count : ℕ) → Says (count_step rules h count)
    counts h count = count_cases Says rules h count (λ enough says. refl) (λ more says. absurd cc)

-- it then stands at the truth, and what it announces is true
pub record Mends (t : TimelineValue) (d : ℕ) (edges : ℕ → ℕ) (early late : ℕ) (table : TableValue) (now : ℕ) (new : ClockState) (b : Beat) : Type 0 where
  pub track : IsOnTrack t edges early late d 0 table now new.reader new.bound_us new.pace new.edge_us
  pub told : (u : UtcSecond) → b.report.announce ≡ Some u → IsToldNewly t d edges early late 0 table now b u new.reader new.bound_us new.pace new.edge_us

module _ (t : TimelineValue) (edges : ℕ → ℕ) (early late : ℕ) (c : ClockRules) (table : TableValue) (s : ClockState) (is : IsDevice t c.drift_us edges c.reader_rules table) (heard : IfHold s.reader HasHeardLate) (now : ℕ) (v : Vote) (vote : IsTrueVote t edges early late now v) where
  -- the rules where so many seconds are counted
  abbrev rules_then : ℕ → ReaderRules
  rules_then n = rules_on c s.pace s.reader n

  stands : (n last : ℕ) (pace : Option Pace) → last ≤ vote.truth.second + 1 → IsOnTrack t edges early late c.drift_us last table now (step_to c table s n (Some v.claim)).state v.bound_us pace (Some v.edge_us)
  stands n last pace low =
      let before = late_missed c.prefers_frames (rules_then n) table (n - 1) s.reader heard in
      inr (
        vote.truth.second + 1,
        0,
        record {
          edge = vote.edge;
          at = record { clock = vote.clock; come = vote.come; soon = omega (arith, vote.soon) };
          near = record { least = omega (arith, vote.truth.near.least); most = omega (arith, vote.truth.near.most) };
          small = vote.small;
          truth = mended_by_vote t (rules_then n) table is.sound c.prefers_frames vote.truth.second (missed c.prefers_frames (rules_then n) table (n - 1) s.reader) v.claim vote.truth.truth before;
          grown = omega arith;
          few = omega arith;
          behind = low;
        },
      )

  says : (n : ℕ) (pace : Option Pace) (b : Beat) (u : UtcSecond) → beat_by c s (against_table table (Some v.claim)) (step_to c table s n (Some v.claim)) (n - 1) v.edge_us v.bound_us ≡ b → b.report.announce ≡ Some u
      → IsToldNewly t c.drift_us edges early late 0 table now b u (step_to c table s n (Some v.claim)).state v.bound_us pace (Some v.edge_us)
  says n pace b u beat e =
      let state = missed c.prefers_frames (rules_then n) table (n - 1) s.reader in
      let announces = ap (λ (x : Beat). x.report.announce) beat ∙ e in
      let bound : bound_of c.drift_us s.pace v.bound_us (step_to c table s n (Some v.claim)).report.lock ≡ b.bound_us = ap (λ (x : Beat). x.bound_us) beat in
      record {
        told = record {
          m = vote.truth.second + 1;
          edge = vote.edge;
          clock = ap (λ (x : Beat). x.edge_us) (sym beat) ∙ vote.clock;
          near = record { least = omega (arith, vote.truth.near.least, bound); most = omega (arith, vote.truth.near.most, bound) };
          come = vote.come;
          soon = omega (arith, vote.soon);
          truth = voted_second t vote.truth.second c.prefers_frames (rules_then n) table state v.claim u is.sound ((claim_is t vote.truth.second v.claim).1 vote.truth.truth) (says_voted c.prefers_frames (rules_then n) table state v.claim u announces) announces;
        };
        later = omega arith;
        track = stands n (vote.truth.second + 1) pace (omega arith);
      }

  heals_by : (n : ℕ) (pace : Option Pace) (b : Beat) → answer_to_vote c table s v n ≡ Some b → Mends t c.drift_us edges early late table now (record (after_vote c table s v n) { pace = pace }) b
  heals_by n pace b e = elim (cases_Bool (n == 0)) [
    | inl none ↦ let both : None ≡ Some b = rw none at e in absurd cc
    | inr some ↦
        let beat : beat_by c s (against_table table (Some v.claim)) (step_to c table s n (Some v.claim)) (n - 1) v.edge_us v.bound_us ≡ b = let told : Some (beat_by c s (against_table table (Some v.claim)) (step_to c table s n (Some v.claim)) (n - 1) v.edge_us v.bound_us) ≡ Some b = rw some at e in cc in
        rw some (record { track = stands n 0 pace (omega arith); told = λ u e. says n pace b u beat e })
  ]

-- a tick at which it comes, by the setup that the device was made with
module _ (t : TimelineValue) (edges : ℕ → ℕ) (early late : ℕ) (k : Keeping) (now : ℕ) (v : Vote) (b : Beat) where
  abbrev Heals : ClockRules → TableValue → Type 0
  Heals c table = IsDevice t c.drift_us edges c.reader_rules table → Mends t c.drift_us edges early late table now (after_tick k (now % 2 ^ 32)).state b

  heals_here : IfHold k.state.reader HasHeardLate → IsTrueVote t edges early late now v → vote_at k (now % 2 ^ 32) ≡ Some v → answer_at k (now % 2 ^ 32) ≡ Some b → Heals k.clock k.table
  heals_here heard vote voted answer is = of (vote_at k (now % 2 ^ 32)) voted answer
    where
      s : ClockState
      s = settled_at k.clock k.state (now % 2 ^ 32)

      of : (o : Option Vote) → o ≡ Some v → answer_by k.clock k.table s (now % 2 ^ 32) o ≡ Some b
          → Mends t k.clock.drift_us edges early late k.table now (clock_by k.clock k.table s (now % 2 ^ 32) o) b
      of None e answer = absurd cc
      of (Some x) e answer =
          let same : v ≡ x = cc in
          let h = heals_by t edges early late k.clock k.table s is heard now x (subst (λ (y : Vote). IsTrueVote t edges early late now y) same vote) (edges_to_vote s.edge_us x.edge_us) _ b answer in
          record { track = h.track; told = h.told }

  heals : (new : Keeping) → IsSameSetup new k → IfHold k.state.reader HasHeardLate → IsTrueVote t edges early late now v → vote_at k (now % 2 ^ 32) ≡ Some v → answer_at k (now % 2 ^ 32) ≡ Some b → Heals new.clock new.table
  heals new same heard vote voted answer =
      subst (λ (c : ClockRules). Heals c new.table) same.clock
      (subst (λ (x : TableValue). Heals k.clock x) same.table (heals_here heard vote voted answer))

module _ (IsTrue : ℕ → List Pulse → Type 0) (t : TimelineValue) (edges : ℕ → ℕ) (early late : ℕ) (new : Keeping) (start : ℕ) (begins : AreLinesAt new new (λ i. []) start start) (heard : IfHold new.state.reader HasHeardLate)
    (is : IsDevice t new.clock.drift_us edges new.clock.reader_rules new.table) (room : early + late ≤ 3002) (truly : TellAlwaysTruly IsTrue new.clock new.rules t edges early late) (plain : IsPlain new) where
  -- it goes on from its last edge as it should
  steps : (calls : List Call) → StepsIn edges early late new start calls
  steps calls = plain_steps edges early late new start plain is.steady calls

  pub mended : (earlier : List Call) (mend : ℕ) (v : Vote) (b : Beat) → AreInOrder start new.clock.redundancy (Tick mend ∷ earlier) → AreTrueLately IsTrue (f_of new.clock.redundancy) mend earlier
      → vote_at (after_calls new earlier) (mend % 2 ^ 32) ≡ Some v → answer_at (after_calls new earlier) (mend % 2 ^ 32) ≡ Some b
      → Mends t new.clock.drift_us edges early late new.table mend (after_calls new (Tick mend ∷ earlier)).state b
  mended earlier mend v b order lately voted answer =
      let l = lines_after new start begins earlier mend order in
      let k : Keeping = after_calls new earlier in
      let h = heard_truly IsTrue t edges early late new start begins earlier mend order lately in
      let vote = vote_is_true (IsTrue mend) new.rules t new.clock edges is.steady early late room mend k.state.lines (λ i. pulses_on i earlier) (truly mend) h v
      (ap (λ (c : ClockRules). if_come (mend % 2 ^ 32) (agreed c (settled (mend % 2 ^ 32) k.state.lines))) (sym l.same.clock) ∙ voted) in
      heals t edges early late k mend v b new l.same (late_life new start begins heard earlier order.3) vote voted answer is

  pub healed : new.state.bound_us ≤ vote_us new.clock new.clock.drift_us → (earlier later : List Call) (mend now : ℕ) (v : Vote) (b then : Beat) (u : UtcSecond) → AreInOrder start new.clock.redundancy (Tick now ∷ (later ++ (Tick mend ∷ earlier)))
      → AreTrueLately IsTrue (f_of new.clock.redundancy) mend earlier → AreTrueOver IsTrue (f_of new.clock.redundancy) (Tick now ∷ later) (Tick mend ∷ earlier)
      → vote_at (after_calls new earlier) (mend % 2 ^ 32) ≡ Some v → answer_at (after_calls new earlier) (mend % 2 ^ 32) ≡ Some b
      → answer_at (after_calls new (later ++ (Tick mend ∷ earlier))) (now % 2 ^ 32) ≡ Some then → then.report.announce ≡ Some u
      → IsToldInHoldover t edges early late new.clock now then u
  healed low earlier later mend now v b then u order lately truth voted answer answers says =
      let ordered = order_before start new.clock.redundancy later (Tick mend ∷ earlier) order.3 in
      let base = (mended earlier mend v b ordered lately voted answer).track in
      let track = track_on IsTrue t edges early late new start begins is room truly 0 (Tick mend ∷ earlier) base later order.3 truth.1 (steps (later ++ (Tick mend ∷ earlier))) in
      let told = ((tick_in IsTrue t edges early late new start begins is room truly 0 (later ++ (Tick mend ∷ earlier)) now order truth.0 track (steps (Tick now ∷ (later ++ (Tick mend ∷ earlier)))).0).told then u answers says).told in
      let has = answer_bound new low (later ++ (Tick mend ∷ earlier)) (now % 2 ^ 32) in
      record { told = told; bound = has.bound then answers; few = has.few then answers; small = omega (arith, has.small then answers, is.steady.few, reach_few new.clock) }

  -- ---- since then

  module _ (earlier : List Call) (mend : ℕ) (v : Vote) (b : Beat) (lately : AreTrueLately IsTrue (f_of new.clock.redundancy) mend earlier) (voted : vote_at (after_calls new earlier) (mend % 2 ^ 32) ≡ Some v) (answer : answer_at (after_calls new earlier) (mend % 2 ^ 32) ≡ Some b) where
    -- what a later tick leaves and answers
    pub tick_since : (later : List Call) (now : ℕ) → AreInOrder start new.clock.redundancy (Tick now ∷ (later ++ (Tick mend ∷ earlier))) → AreTrueLately IsTrue (f_of new.clock.redundancy) now (later ++ (Tick mend ∷ earlier))
        → AreTrueOver IsTrue (f_of new.clock.redundancy) later (Tick mend ∷ earlier)
        → KeepsTrue t new.clock.drift_us edges early late 0 new.table now (after_tick (after_calls new (later ++ (Tick mend ∷ earlier))) (now % 2 ^ 32)).state (answer_at (after_calls new (later ++ (Tick mend ∷ earlier))) (now % 2 ^ 32))
    tick_since later now order here truth =
        let ordered = order_before start new.clock.redundancy later (Tick mend ∷ earlier) order.3 in
        let base = (mended earlier mend v b ordered lately voted answer).track in
        tick_in IsTrue t edges early late new start begins is room truly 0 (later ++ (Tick mend ∷ earlier)) now order here (track_on IsTrue t edges early late new start begins is room truly 0 (Tick mend ∷ earlier) base later order.3 truth (steps (later ++ (Tick mend ∷ earlier)))) (steps (Tick now ∷ (later ++ (Tick mend ∷ earlier)))).0

    -- what that tick announces, or a later one
    abbrev Newly : ℕ → List Call → Type 0
    Newly now calls =
        AreInOrder start new.clock.redundancy (Tick now ∷ calls) → (x : Beat) (u : UtcSecond) → answer_at (after_calls new calls) (now % 2 ^ 32) ≡ Some x → x.report.announce ≡ Some u
        → IsToldNewly t new.clock.drift_us edges early late 0 new.table now x u (after_calls new (Tick now ∷ calls)).state.reader (after_calls new (Tick now ∷ calls)).state.bound_us (after_calls new (Tick now ∷ calls)).state.pace (after_calls new (Tick now ∷ calls)).state.edge_us

    pub newly : (later calls : List Call) (now : ℕ) → Tick now ∷ calls ≡ later ++ (Tick mend ∷ earlier) → AreTrueOver IsTrue (f_of new.clock.redundancy) later (Tick mend ∷ earlier) → Newly now calls
    newly [] calls now are truth =
        let time : mend ≡ now = cc in
        let before : earlier ≡ calls = cc in
        subst (λ (n : ℕ). Newly n calls) time (subst (Newly mend) before (λ order x u told announces. (mended earlier mend v x order lately voted told).told u announces))
    newly (Hear port rise width ∷ later) calls now are truth = absurd cc
    newly (Tick then ∷ later) calls now are truth =
        let time : then ≡ now = cc in
        let before : later ++ (Tick mend ∷ earlier) ≡ calls = cc in
        subst (λ (n : ℕ). Newly n calls) time (subst (Newly then) before (λ order x u told announces. (tick_since later then order truth.0 truth.1).told x u told announces))

    -- and then one behind it
    pub in_order : (first : List Call) (before : ℕ) (calls later : List Call) (now : ℕ) (x y : Beat) (u w : UtcSecond) → Tick before ∷ calls ≡ first ++ (Tick mend ∷ earlier) → AreTrueOver IsTrue (f_of new.clock.redundancy) first (Tick mend ∷ earlier)
        → AreInOrder start new.clock.redundancy (Tick now ∷ (later ++ (Tick before ∷ calls))) → AreTrueOver IsTrue (f_of new.clock.redundancy) (Tick now ∷ later) (Tick before ∷ calls)
        → answer_at (after_calls new calls) (before % 2 ^ 32) ≡ Some x → x.report.announce ≡ Some u → answer_at (after_calls new (later ++ (Tick before ∷ calls))) (now % 2 ^ 32) ≡ Some y → y.report.announce ≡ Some w → IsLaterSecond t u w
    in_order first before calls later now x y u w are truth order since told announces answers again =
        let base : List Call = Tick before ∷ calls in
        let ordered = order_before start new.clock.redundancy later base order.3 in
        let one = newly first calls before are truth ordered x u told announces in
        let M : ℕ = one.told.m in
        let track = track_on IsTrue t edges early late new start begins is room truly M base one.track later order.3 since.1 (steps (later ++ base)) in
        let two = (tick_in IsTrue t edges early late new start begins is room truly M (later ++ base) now order since.0 track (steps (Tick now ∷ (later ++ base))).0).told y w answers again in
        record { m = M; n = two.told.m; less = two.later; before = one.told.truth; then = two.told.truth }

    -- no later tick tells a jump
    pub calm_since : (later calls : List Call) (now : ℕ) → calls ≡ later ++ (Tick mend ∷ earlier) → AreTrueOver IsTrue (f_of new.clock.redundancy) later (Tick mend ∷ earlier) → AreInOrder start new.clock.redundancy (Tick now ∷ calls) → AreTrueLately IsTrue (f_of new.clock.redundancy) now calls
        → (x : Beat) → answer_at (after_calls new calls) (now % 2 ^ 32) ≡ Some x → ¬ (x.report.cause ≡ cause.Jump)
    calm_since later calls now are truth = subst Calm (sym are) (λ order here x told. (tick_since later now order here truth).calm x told)
      where
        Calm : List Call → Type 0
        Calm calls = AreInOrder start new.clock.redundancy (Tick now ∷ calls) → AreTrueLately IsTrue (f_of new.clock.redundancy) now calls → (x : Beat) → answer_at (after_calls new calls) (now % 2 ^ 32) ≡ Some x → ¬ (x.report.cause ≡ cause.Jump)
