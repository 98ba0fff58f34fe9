-- A holdover has lasted for the seconds since the last vote, and a stamp's bound counts them.
use Rattle.std.specs.Prelude.{◌==◌, ◌&&◌, nat_le}
use Rattle.std.proofs.Common.{◌≡◌, ◌∙◌, ℕ, zero, suc, ◌+◌, ◌-◌, ◌*◌, ◌%◌, ◌^◌, ◌≤◌, List, [], ◌∷◌, ◌++◌, Option, Some, None, refl, sym, ap, subst, arith, inl, inr, Bool}
use Rattle.std.proofs.lemmas.Bool.{cases_Bool}
use Rattle.irig_time.specs.declared.second.UtcSecond.{UtcSecond}
use Rattle.irig_time.specs.declared.mark.Mark.{Mark}
use Rattle.irig_time.specs.declared.claim.Claim.{Claim}
use Rattle.irig_time.specs.Next.{next_of}
use Rattle.irig_time.specs.Tables.{TableValue, spoken_mark}
use Rattle.irig_hold.specs.declared.hold.Turn.TheVariants as turn
use Rattle.irig_hold.specs.Steps.{HoldValue, hold_after, hold_or_stop, mark_or, outcome_of, voted_by, alone_by}
use Rattle.std.specs.Prelude.{Ok}
use Rattle.irig_hold.proofs.HoldLaws.{stop_is_no_now}
use Rattle.irig_reader.specs.declared.rules.ReaderRules.{ReaderRules}
use Rattle.irig_reader.specs.declared.rule.State.{State}
use Rattle.irig_reader.specs.declared.rule.State.TheVariants.{Idle, Acquiring, Locked}
use Rattle.irig_reader.specs.declared.rule.Step.{Step}
use Rattle.irig_reader.specs.Rule.{count_step, step_of, stop_step}
use Rattle.irig_reader.proofs.StepCases.{count_cases, vote_cases, none_cases}
use Rattle.irig_lines.specs.declared.lines.Vote.{Vote}
use Rattle.irig_timekeeper.specs.declared.stamp.Announced.{Announced}
use Rattle.irig_timekeeper.specs.declared.stamp.Stamp.{Stamp}
use Rattle.irig_timekeeper.specs.declared.clock.Beat.{Beat}
use Rattle.irig_lines.specs.declared.setup.ClockRules.{ClockRules}
use Rattle.irig_timekeeper.specs.declared.clock.ClockState.{ClockState}
use Rattle.irig_lines.specs.Widths.{vote_us}
use Rattle.irig_lines.specs.Counting.{edges_to_vote, edges_own}
use Rattle.irig_timekeeper.specs.Rule.{missed, step_behind, against_table, step_checked}
use Rattle.irig_lines.specs.Steps.{is_pulse}
use Rattle.irig_timekeeper.specs.Clock.{lasted, beat_by, step_to, after_vote, answer_to_vote, after_own, answer_alone, own_edge, clock_by, answer_by, settled_at, rules_on}
use Rattle.irig_timekeeper.specs.Stamps.{next_us, stamp_by, first_stamp}
use Rattle.irig_timekeeper.specs.Keeping.{Keeping, vote_at, after_tick, answer_at, stamp_at}
use Rattle.irig_timekeeper.specs.Life.{Call, Made, after_calls, device_of, life_of}
use Rattle.irig_timekeeper.specs.Life.Call.{Hear, Tick}
use Rattle.irig_timekeeper.specs.Since.{unless_voted, since_answer, since_vote, HasItsBound}
use Rattle.irig_timekeeper.proofs.BoundLaws.{answer_bound}
use Rattle.irig_timekeeper.proofs.DoubtedSteps.{rule_announces}
use Rattle.irig_timekeeper.proofs.StampLaws.{leaves_told, served_by, stays_behind, kept_second}
use Rattle.irig_timekeeper.proofs.CheckedSteps.{checked_cases}
use Rattle.irig_reader.specs.declared.report.Cause.TheVariants as cause

-- ---- the age of a hold

pub begun_age : (u : UtcSecond) (mark : Mark) (o : Option UtcSecond) (h : HoldValue) → hold_or_stop u 0 mark o ≡ Ok h → h.age ≡ 0
begun_age u mark None h e = absurd cc
begun_age u mark (Some v) h e = let same : hold_after u 0 mark v ≡ h = cc in sym (ap (λ (k : HoldValue). k.age) same)

outcome_age : (h : HoldValue) (u : UtcSecond) (age : ℕ) (mark : Mark) (o : Option UtcSecond) (w : UtcSecond) → (outcome_of h (hold_or_stop u age mark o)).answer ≡ turn.Now w → (outcome_of h (hold_or_stop u age mark o)).new.age ≡ age
outcome_age h u age mark None w e = absurd (stop_is_no_now u.day w e)
outcome_age h u age mark (Some v) w e = refl

pub voted_age : (table : TableValue) (h : HoldValue) (c : Claim) (w : UtcSecond) → (voted_by table h c).answer ≡ turn.Now w → (voted_by table h c).new.age ≡ 0
voted_age table h c w e =
    elim (cases_Bool ((c.at.day == h.last.day) && (c.at.sod == h.last.sod))) [
      | inl for ↦
          let mark : Mark = mark_or c.mark h.heard in
          rw for (outcome_age h h.last 0 mark (next_of h.last (spoken_mark table mark h.last.day)) w (rw for at e))
      | inr other ↦ let jump : turn.Jump ≡ turn.Now w = rw other at e in absurd cc
    ]

alone_age : (table : TableValue) (h : HoldValue) (limit : ℕ) (w : UtcSecond) → (alone_by table h limit).answer ≡ turn.Now w → (alone_by table h limit).new.age ≡ h.age + 1
alone_age table h limit w e =
    elim (cases_Bool (nat_le limit h.age)) [
      | inl long ↦ let stopped : turn.Expired ≡ turn.Now w = rw long at e in absurd cc
      | inr short ↦ rw short (outcome_age h h.last (h.age + 1) h.heard (next_of h.last (spoken_mark table h.heard h.last.day)) w (rw short at e))
    ]

-- ---- a step of the reader's rule

-- a locked reader's hold is so old
IsAged : ℕ → State → Type 0
IsAged n Idle = Unit {0}
IsAged n (Acquiring h count) = Unit {0}
IsAged n (Locked h) = h.age ≡ n

idle_aged : (n : ℕ) → IsAged n Idle
unfolding IsAged
idle_aged n = tt

-- it leaves the seconds since the last vote, if there were so many at most, and says so
record IsSinceStep (n : ℕ) (step : Step) : Type 0 where
  aged : IsAged (unless_voted step.report.cause n) step.state
  lasts : (u : UtcSecond) → step.report.announce ≡ Some u → lasted step.report.lock ≡ unless_voted step.report.cause n

module _ (prefers : Bool) (rules : ReaderRules) (table : TableValue) where
  counted : (n count : ℕ) (h : HoldValue) → h.age ≡ 0 → IsSinceStep n (count_step rules h count)
  unfolding IsAged
  counted n count h young = count_cases (IsSinceStep n) rules h count (λ enough. record { aged = young; lasts = λ u e. refl }) (λ more. record { aged = tt; lasts = λ u e. absurd cc })

  stop : (n : ℕ) → IsSinceStep n (stop_step cause.LeapGuard)
  unfolding IsAged
  stop n = record { aged = tt; lasts = λ u e. absurd cc }

  rule_voted : (n : ℕ) (s : State) (c : Claim) → IsSinceStep n (step_of rules table s (Some c))
  unfolding IsAged
  rule_voted n s c =
      vote_cases (IsSinceStep n) rules table s c (λ h e. counted n 1 h (begun_age c.at c.mark (next_of c.at (spoken_mark table c.mark c.at.day)) h e)) (λ stop. record { aged = tt; lasts = λ u e. absurd cc })
      (λ h count u is e. counted n (count + 1) (voted_by table h c).new (voted_age table h c u e)) (λ h u is e. record { aged = voted_age table h c u e; lasts = λ w says. refl })

  voted : (n : ℕ) (s : State) (c : Claim) → IsSinceStep n (step_checked prefers rules table s (Some c))
  voted n s c = checked_cases prefers rules table s (Some c) (IsSinceStep n) (rule_voted n s c) (stop n)

  older : (n : ℕ) (s : State) (h : HoldValue) (u : UtcSecond) → IsAged n s → s ≡ Locked h → (alone_by table h rules.holdover).answer ≡ turn.Now u → (alone_by table h rules.holdover).new.age ≡ n + 1
  unfolding IsAged
  older n s h u aged is e = let age : h.age ≡ n = subst (IsAged n) is aged in omega (arith, age, alone_age table h rules.holdover u e)

  rule_alone : (n : ℕ) (s : State) → IsAged n s → IsSinceStep (n + 1) (step_of rules table s None)
  unfolding IsAged
  rule_alone n s aged = none_cases (IsSinceStep (n + 1)) rules table s (λ c. record { aged = tt; lasts = λ u e. absurd cc }) (λ h u is e. record { aged = older n s h u aged is e; lasts = λ w says. older n s h u aged is e })

  alone : (n : ℕ) (s : State) → IsAged n s → IsSinceStep (n + 1) (step_checked prefers rules table s None)
  alone n s aged = checked_cases prefers rules table s None (IsSinceStep (n + 1)) (rule_alone n s aged) (stop (n + 1))

  alone_aged : (n : ℕ) (s : State) → IsAged n s → IsAged (n + 1) (step_checked prefers rules table s None).state
  unfolding IsAged
  alone_aged n s aged =
      checked_cases prefers rules table s None (λ step. IsAged (n + 1) step.state)
      (none_cases (λ step. IsAged (n + 1) step.state) rules table s (λ c. tt) (λ h u is e. older n s h u aged is e)) tt

  missed_aged : (j n : ℕ) (s : State) → IsAged n s → IsAged (n + j) (missed prefers rules table j s)
  missed_aged zero n s aged = let same : n ≡ n + 0 = omega arith in subst (λ (m : ℕ). IsAged m s) same aged
  missed_aged (suc j) n s aged =
      let same : n + j + 1 ≡ n + suc j = omega arith in
      subst (λ (m : ℕ). IsAged m (missed prefers rules table (suc j) s)) same (alone_aged (n + j) (missed prefers rules table j s) (missed_aged j n s aged))

  behind : (n j : ℕ) (s : State) (vote : Option Claim) → IsAged n s → IsSinceStep (n + j + 1) (step_behind prefers rules table j s vote)
  behind n j s None aged = alone (n + j) (missed prefers rules table j s) (missed_aged j n s aged)
  behind n j s (Some c) aged = voted (n + j + 1) (missed prefers rules table j s) c

-- ---- a tick

-- what it leaves and answers, behind so many seconds since the last vote
record IsSinceTick (since : ℕ) (new : ClockState) (answer : Option Beat) : Type 0 where
  aged : IsAged (since_answer answer since) new.reader
  lasts : (b : Beat) (u : UtcSecond) → answer ≡ Some b → b.report.announce ≡ Some u → lasted b.report.lock ≡ since_answer answer since

module _ (c : ClockRules) (table : TableValue) (s : ClockState) (since : ℕ) (aged : IsAged since s.reader) where
  waits : (new : ClockState) → s.reader ≡ new.reader → IsSinceTick since new None
  waits new same = record { aged = subst (IsAged since) same aged; lasts = λ b u e. absurd cc }

  tells : (n edge voted : ℕ) (vote : Option Claim) (new : ClockState) → (step_to c table s n vote).state ≡ new.reader → IsSinceTick since new (Some (beat_by c s (against_table table vote) (step_to c table s n vote) (n - 1) edge voted))
  tells n edge voted vote new same =
      let is = behind c.prefers_frames (rules_on c s.pace s.reader n) table since (n - 1) s.reader vote aged in
      record {
        aged = subst (IsAged (unless_voted (step_to c table s n vote).report.cause (since + (n - 1) + 1))) same is.aged;
        lasts = λ b u e says.
            let beat : beat_by c s (against_table table vote) (step_to c table s n vote) (n - 1) edge voted ≡ b = cc in
            ap (λ (x : Beat). lasted x.report.lock) (sym beat) ∙ is.lasts u (rule_announces s.doubt vote (step_behind c.prefers_frames (rules_on c s.pace s.reader n) table (n - 1) s.reader vote).report.announce u (ap (λ (x : Beat). x.report.announce) beat ∙ says));
      }

  since_own : (n : ℕ) → IsSinceTick since (after_own c table s n) (answer_alone c table s n)
  since_own n = elim (cases_Bool (n == 0)) [ inl none ↦ rw none (waits s refl) | inr some ↦ rw some (tells n (own_edge s.pace s.edge_us n) s.bound_us None _ refl) ]

  since_voted : (v : Vote) (n : ℕ) → IsSinceTick since (after_vote c table s v n) (answer_to_vote c table s v n)
  since_voted v n = elim (cases_Bool (n == 0)) [ inl none ↦ rw none (waits _ refl) | inr some ↦ rw some (tells n v.edge_us v.bound_us (Some v.claim) _ refl) ]

since_tick : (k : Keeping) (clock since : ℕ) → IsAged since k.state.reader → IsSinceTick since (after_tick k clock).state (answer_at k clock)
since_tick k clock since aged = of (vote_at k clock)
  where
    s : ClockState
    s = settled_at k.clock k.state clock

    of : (o : Option Vote) → IsSinceTick since (clock_by k.clock k.table s clock o) (answer_by k.clock k.table s clock o)
    of None = let h = since_own k.clock k.table s since aged (edges_own s.pace k.state.edge_us clock) in record { aged = h.aged; lasts = h.lasts }
    of (Some v) = let h = since_voted k.clock k.table s since aged v (edges_to_vote k.state.edge_us v.edge_us) in record { aged = h.aged; lasts = h.lasts }

-- ---- a life

module _ (made : Made) where
  abbrev new : Keeping
  new = device_of made

  aged_life : (calls : List Call) → IsAged (since_vote new calls) (after_calls new calls).state.reader
  aged_life [] = idle_aged 0
  aged_life (Hear port rise width ∷ calls) = elim (cases_Bool (is_pulse width)) [ inl narrow ↦ rw narrow (aged_life calls) | inr wide ↦ rw wide (aged_life calls) ]
  aged_life (Tick now ∷ calls) = (since_tick (after_calls new calls) (now % 2 ^ 32) (since_vote new calls) (aged_life calls)).aged

  pub lasts_since : (calls : List Call) (now : ℕ) (b : Beat) (u : UtcSecond) → answer_at (life_of made calls) (now % 2 ^ 32) ≡ Some b → b.report.announce ≡ Some u → lasted b.report.lock ≡ since_vote new (Tick now ∷ calls)
  lasts_since calls now b u answer says = (since_tick (after_calls new calls) (now % 2 ^ 32) (since_vote new calls) (aged_life calls)).lasts b u answer says

  -- what is kept was announced, and has its bound
  record IsBounded (calls : List Call) (a : Announced) : Type 0 where
    later : List Call
    now : ℕ
    earlier : List Call
    are : calls ≡ later ++ (Tick now ∷ earlier)
    beat : Beat
    answer : answer_at (life_of made earlier) (now % 2 ^ 32) ≡ Some beat
    says : beat.report.announce ≡ Some a.second
    bound : a.bound_us ≤ vote_us made.clock made.clock.drift_us + since_vote new (Tick now ∷ earlier) * made.clock.drift_us

  one_later : (call : Call) (calls : List Call) (a : Announced) → IsBounded calls a → IsBounded (call ∷ calls) a
  one_later call calls a is = record {
    later = call ∷ is.later;
    now = is.now;
    earlier = is.earlier;
    are = ap (λ (x : List Call). call ∷ x) is.are;
    beat = is.beat;
    answer = is.answer;
    says = is.says;
    bound = is.bound;
  }

  record AreBounded (calls : List Call) (s : ClockState) : Type 0 where
    last : (a : Announced) → s.last ≡ Some a → IsBounded calls a
    before : (a : Announced) → s.before ≡ Some a → IsBounded calls a

  still_bounded : (call : Call) (calls : List Call) (s then : ClockState) → then.last ≡ s.last → then.before ≡ s.before → AreBounded calls s → AreBounded (call ∷ calls) then
  still_bounded call calls s then last before are = record { last = λ a e. one_later call calls a (are.last a (sym last ∙ e)); before = λ a e. one_later call calls a (are.before a (sym before ∙ e)) }

  told_bounded : (calls : List Call) (now : ℕ) (b : Beat) (a : Announced) → answer_at (life_of made calls) (now % 2 ^ 32) ≡ Some b → (after_tick (life_of made calls) (now % 2 ^ 32)).state.last ≡ Some a → IsBounded (Tick now ∷ calls) a
  told_bounded calls now b a answer e =
      let k : Keeping = life_of made calls in
      let left = (leaves_told k (now % 2 ^ 32)).told b answer in
      let kept = kept_second b.edge_us b.bound_us b.report.announce a (sym left.0 ∙ e) in
      let has = answer_bound new (omega arith) calls (now % 2 ^ 32) in
      record {
        later = [];
        now = now;
        earlier = calls;
        are = refl;
        beat = b;
        answer = answer;
        says = kept.1 ∙ ap (λ (u : UtcSecond). Some u) (sym kept.2);
        bound = subst (λ (n : ℕ). a.bound_us ≤ vote_us made.clock made.clock.drift_us + n * made.clock.drift_us) (lasts_since calls now b kept.0 answer kept.1)
            (subst (λ (n : ℕ). n ≤ vote_us made.clock made.clock.drift_us + lasted b.report.lock * made.clock.drift_us) (sym kept.4) (has.bound b answer));
      }

  bounded_tick : (calls : List Call) (now : ℕ) → AreBounded calls (life_of made calls).state → AreBounded (Tick now ∷ calls) (after_tick (life_of made calls) (now % 2 ^ 32)).state
  bounded_tick calls now are = of (answer_at k (now % 2 ^ 32)) refl
    where
      k : Keeping
      k = life_of made calls

      of : (o : Option Beat) → answer_at k (now % 2 ^ 32) ≡ o → AreBounded (Tick now ∷ calls) (after_tick k (now % 2 ^ 32)).state
      of None e = let left = (leaves_told k (now % 2 ^ 32)).same e in still_bounded (Tick now) calls k.state _ left.0 left.1 are
      of (Some b) e =
          let left = (leaves_told k (now % 2 ^ 32)).told b e in
          record { last = λ a says. told_bounded calls now b a e says; before = λ a says. one_later (Tick now) calls a (are.last a (left.1 a says)) }

  bounded : (calls : List Call) → AreBounded calls (life_of made calls).state
  bounded [] = record { last = λ a e. absurd cc; before = λ a e. absurd cc }
  bounded (Hear port rise width ∷ calls) =
      let stays = stays_behind (life_of made calls) port (rise % 2 ^ 32) width in
      still_bounded (Hear port rise width) calls (life_of made calls).state _ stays.0 stays.1 (bounded calls)
  bounded (Tick now ∷ calls) = bounded_tick calls now (bounded calls)

  -- ---- a stamp

  stamped_by : (next time : ℕ) (calls : List Call) (o : Option Announced) (stamp : Stamp) → ((a : Announced) → o ≡ Some a → IsBounded calls a) → stamp_by o next time ≡ Some stamp → HasItsBound made calls stamp
  stamped_by next time calls None stamp are e = absurd cc
  stamped_by next time calls (Some a) stamp are e =
      let is = are a refl in
      let same = (served_by a next time stamp e).same in
      record {
        later = is.later;
        now = is.now;
        earlier = is.earlier;
        are = is.are;
        beat = is.beat;
        answer = is.answer;
        says = is.says ∙ ap (λ (x : Stamp). Some x.second) same;
        bound = subst (λ (x : Stamp). x.bound_us ≤ vote_us made.clock made.clock.drift_us + since_vote new (Tick is.now ∷ is.earlier) * made.clock.drift_us) same is.bound;
      }

  pub has_its_bound : (time : ℕ) (calls : List Call) (stamp : Stamp) → stamp_at (life_of made calls) (time % 2 ^ 32) ≡ Some stamp → HasItsBound made calls stamp
  has_its_bound time calls stamp e = of (stamp_by s.last 0 (time % 2 ^ 32)) refl e
    where
      s : ClockState
      s = (life_of made calls).state

      are : AreBounded calls s
      are = bounded calls

      of : (o : Option Stamp) → stamp_by s.last 0 (time % 2 ^ 32) ≡ o → first_stamp o (stamp_by s.before (next_us s.last s.before) (time % 2 ^ 32)) ≡ Some stamp → HasItsBound made calls stamp
      of (Some x) here e = stamped_by 0 (time % 2 ^ 32) calls s.last stamp are.last (here ∙ e)
      of None here e = stamped_by (next_us s.last s.before) (time % 2 ^ 32) calls s.before stamp are.before e
