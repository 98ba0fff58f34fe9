use Rattle.std.specs.Prelude.{◌==◌, not}
use Rattle.std.proofs.Common.{cond, ◌≡◌, ◌∙◌, ◌∷◌, ◌++◌, ℕ, Bool, true, false, List, Option, Some, None, sym, ap, subst, refl, arith, ◌+◌}
use Rattle.irig_sync.specs.Lines.{Pulse}
use Rattle.irig_time.specs.declared.claim.Claim.{Claim}
use Rattle.irig_time.specs.Timelines.{IsSecond}
use Rattle.irig_lines.specs.Clocks.{IsTrueByItsClock, IsTrueByItsQuality}
use Rattle.irig_reader.specs.declared.report.Report.{Report}
use Rattle.irig_lines.specs.Exactness.{fault_early_us, fault_late_us}
use Rattle.irig_lines.specs.Widths.{vote_us}
use Rattle.irig_timekeeper.specs.Clock.{claim_voted, vote_of_lines}
use Rattle.irig_lines.specs.declared.lines.Vote.{Vote}
use Rattle.irig_timekeeper.specs.declared.clock.Beat.{Beat}
use Rattle.irig_timekeeper.specs.Keeping.{Keeping, nothing_heard}
use Rattle.irig_lines.specs.Lines.{IsTrueLately, IsTrueOrFaulty}
use Rattle.irig_timekeeper.specs.declared.clock.ClockState.{ClockState}
use Rattle.irig_timekeeper.specs.Life.{device_of, life_of}
use Rattle.irig_timekeeper.specs.Truth.{KnowsEnd}
use Rattle.irig_timekeeper.specs.Life.Call.{Tick}
use Rattle.irig_lines.specs.declared.setup.ClockRules.{ClockRules}
use Rattle.irig_timekeeper.specs.Lived.{made_with}
use Rattle.irig_timekeeper.specs.Learning.{IsLearned}
use Rattle.irig_timekeeper.proofs.LearnLaws.{learned_is, steps_truly}
use Rattle.irig_timekeeper.proofs.DoubtLaws.{says_nothing}
use Rattle.irig_timekeeper.proofs.GuardedTicks.{tick_guards_vote}
use Rattle.irig_lines.proofs.LineLaws.{true_by_any}
use Rattle.irig_timekeeper.proofs.LivedLaws.{as_made}
use Rattle.irig_timekeeper.proofs.StateLaws.{true_at_tick}
use Rattle.irig_timekeeper.proofs.ClockLines.{qualities_are_even, qualities_tell_truly}
use Rattle.irig_timekeeper.proofs.StrayLaws.{never_strays, no_strays}
use Rattle.irig_timekeeper.proofs.VotedLaws.{nearer, tick_voted, tick_voted_by}
use Rattle.c_numbers.specs.declared.setup.IrigSetup.{IrigSetup}
use Rattle.c_numbers.specs.declared.table.IrigTable.{IrigTable}
use Rattle.c_numbers.specs.LeapTables.{table_in}
use Rattle.c_numbers.specs.Numbers.{sense_in}
use Rattle.c_numbers.specs.Reports.{report_in}
use Rattle.c_numbers.specs.Setups.{redundancy_in, rules_in, IsKeeperSetup}
use Rattle.c_keeper.specs.declared.second.IrigSecond.{IrigSecond}
use Rattle.c_keeper.specs.declared.timekeeper.IrigTimekeeper.{IrigTimekeeper}
use Rattle.c_keeper.specs.CheckWord.{check_of}
use Rattle.c_lines.specs.Lines.{frames_in}
use Rattle.c_keeper.specs.Lives.{calls_of}
use Rattle.c_keeper.specs.Lives.Moment.{Ticked}
use Rattle.c_keeper.specs.Seconds.{IsSecondOf}
use Rattle.c_keeper.specs.States.{masks_of}
use Rattle.c_keeper.specs.Timekeepers.{answer_in, clock_in, clock_state_in, AreWires}
use Rattle.c_keeper.proofs.AbsentLaws.{all_heard, pulses_there}
use Rattle.c_keeper.proofs.AnnouncedLaws.{has_announced, has_announced_by_wait}
use Rattle.c_keeper.proofs.LivedLaws.{lived_tick}
use Rattle.c_keeper.proofs.LivesLaws.{announced_beat, clock_lines, faulty_lines, quality_lines, tells_truly, tells_in_order, tells_calmly, tells_apart, whole_lines}
use Rattle.c_keeper.proofs.StampedLaws.{lasts_as}
use Rattle.c_keeper.proofs.ValueLaws.{answers_as, beat_of, clock_as, stands_as, steady_as}
use Rattle.c_reader.proofs.MaskLaws.{in_no_mask}
use Rattle.c_reader.proofs.timekeeper.irig_c_timekeeper_tick.Goals as goal

never : ◌≡◌ {A = Bool} false true → ⊥
never h = absurd cc

pub returns-then-not-is_accepted-clause-answered : goal.returns-then-not-is_accepted-clause-answered
returns-then-not-is_accepted-clause-answered c k h = absurd (never (sym c.if-not-is_accepted.true ∙ c.is_accepted.ensures.1 h.accepted))

pub returns-then-not-is_accepted-clause-answer : goal.returns-then-not-is_accepted-clause-answer
returns-then-not-is_accepted-clause-answer c = (λ done. absurd cc, λ is. absurd (never (sym c.if-not-is_accepted.true ∙ c.is_accepted.ensures.1 is)))

pub returns-then-not-is_accepted-clause-second : goal.returns-then-not-is_accepted-clause-second
returns-then-not-is_accepted-clause-second c k h = absurd (never (sym c.if-not-is_accepted.true ∙ c.is_accepted.ensures.1 h.accepted))

pub returns-then-not-is_accepted-clause-after : goal.returns-then-not-is_accepted-clause-after
returns-then-not-is_accepted-clause-after c k h = absurd (never (sym c.if-not-is_accepted.true ∙ c.is_accepted.ensures.1 h.accepted))

pub returns-clause-answer : goal.returns-clause-answer
returns-clause-answer c = (λ done. c.is_accepted.ensures.0 c.if-not-is_accepted.false, λ is. refl)

pub returns-clause-second : goal.returns-clause-second
returns-clause-second c k h =
    subst (λ (a : Option Beat). IsSecondOf c.tick_accepted.result a) (answers_as c.args.timekeeper.now k c.args.now_us h) c.tick_accepted.ensures.given.said

pub returns-clause-after : goal.returns-clause-after
unfolding check_of
returns-clause-after c k h =
    let t = c.args.timekeeper.now in
    let q = c.tick_accepted.new.timekeeper in
    let new = c.tick_accepted.ensures.left in
    record {
      rules = ap (λ (s : IrigSetup). rules_in s) new.setup ∙ h.rules;
      clock = clock_as t q new.setup new.wires ∙ h.clock;
      table = ap (λ (x : IrigTable). table_in x) new.table ∙ h.table;
      heard = new.heard k.heard h.heard;
      state = new.stands ∙ stands_as t k c.args.now_us h;
      accepted = record {
        setup = subst (λ (s : IrigSetup). IsKeeperSetup s) (sym new.setup) h.accepted.setup;
        wires = subst AreWires (sym new.wires) h.accepted.wires;
        steady = steady_as t q new.setup new.wires h.accepted.steady;
        bound = new.bound;
        known = new.known;
        is_state = new.is_state;
        last = new.last;
        before = new.before;
        ended = new.ended;
        ended_before = new.ended_before;
        absent = new.absent;
        sealed = c.tick_accepted.ensures.sealed;
      };
    }

-- ---- whatever lies in the numbers

pub returns-clause-valid : goal.returns-clause-valid
returns-clause-valid c done = c.tick_accepted.ensures.given.valid

pub returns-clause-said : goal.returns-clause-said
returns-clause-said c done = c.tick_accepted.ensures.given.said

pub returns-clause-stands : goal.returns-clause-stands
returns-clause-stands c done = c.tick_accepted.ensures.left.stands

pub returns-clause-voices : goal.returns-clause-voices
returns-clause-voices c beat done = c.tick_accepted.ensures.given.voices beat

pub returns-clause-against : goal.returns-clause-against
returns-clause-against c beat done = c.tick_accepted.ensures.given.against beat

pub returns-clause-strayed : goal.returns-clause-strayed
returns-clause-strayed c done = c.tick_accepted.ensures.given.strays

pub returns-clause-doubt : goal.returns-clause-doubt
returns-clause-doubt c done = c.tick_accepted.ensures.given.doubt

pub returns-clause-lines : goal.returns-clause-lines
returns-clause-lines c beat done = c.tick_accepted.ensures.given.lines beat

-- the value that the numbers are, of which nothing was heard
abbrev value_of : IrigTimekeeper → Keeping
value_of t = record {
  rules = rules_in t.setup;
  clock = clock_in t;
  table = table_in t.table;
  heard = nothing_heard;
  state = clock_state_in t;
}

-- a vote of lines has the claim
record HasClaim (vote : Option Vote) (claim : Claim) : Type 0 where
  pub by : Vote
  pub is : vote ≡ Some by
  pub claims : by.claim ≡ claim

vote_for : (vote : Option Vote) (claim : Claim) → claim_voted vote ≡ Some claim → HasClaim vote claim
vote_for None claim voted = absurd cc
vote_for (Some vote) claim voted = record { by = vote; is = refl; claims = (let both : Some vote.claim ≡ Some claim = voted in cc) }

pub returns-clause-guarded : goal.returns-clause-guarded
returns-clause-guarded c t n claim u done sound follows voted at knows says =
    let numbers = c.args.timekeeper.now in
    let told = announced_beat c.tick_accepted.result (answer_in numbers c.args.now_us) u c.tick_accepted.ensures.given.said says in
    let vote = vote_for (vote_of_lines (clock_in numbers) (clock_state_in numbers) c.args.now_us) claim voted in
    tick_guards_vote (value_of numbers) c.args.now_us told.0 told.1.is t sound (ap (λ (prefers : ℕ). not (prefers == 0)) follows) n u (ap (λ (r : Report). r.announce) (sym told.1.told.report) ∙ says)
    vote.by vote.is (subst (λ (x : Claim). IsSecond t n x.at) (sym vote.claims) at) (subst (λ (x : Claim). KnowsEnd t (table_in numbers.table) x.at.day) (sym vote.claims) knows)

-- without a vote of lines there is none of a claim
none_voted : (vote : Option Vote) → claim_voted vote ≡ None → vote ≡ None
none_voted None alone = refl
none_voted (Some vote) alone = absurd cc

-- a second is given that announces what the clock does
silent : (s : IrigSecond) (answer : Option Beat) → IsSecondOf s answer → ((b : Beat) → answer ≡ Some b → b.report.announce ≡ None) → (report_in s.report).announce ≡ None
silent s None nothing none = ap (λ (x : IrigSecond). (report_in x.report).announce) nothing
silent s (Some beat) told none = ap (λ (r : Report). r.announce) told.report ∙ none beat refl

pub returns-clause-doubted : goal.returns-clause-doubted
returns-clause-doubted c done some alone =
    let numbers = c.args.timekeeper.now in
    let k = value_of numbers in
    silent c.tick_accepted.result (answer_in numbers c.args.now_us) c.tick_accepted.ensures.given.said (λ b is. says_nothing k c.args.now_us b (omega (arith, some)) (none_voted (vote_of_lines (clock_in numbers) (clock_state_in numbers) c.args.now_us) alone) is)

pub returns-clause-truth : goal.returns-clause-truth
returns-clause-truth c t edges now pulses u done clock steady sound some told voted says =
    let numbers = c.args.timekeeper.now in
    let accepted = c.is_accepted.ensures.0 c.if-not-is_accepted.false in
    let exact : numbers.wires.within_us ≡ (clock_in numbers).within.us = omega (arith, accepted.wires.0, accepted.wires.1.0) in
    let IsTrue : List Pulse → Type 0 = IsTrueLately numbers.wires.within_us (rules_in numbers.setup) t edges now in
    let heard = all_heard IsTrue numbers now pulses (λ ps is. record { line = is.line; next = is.next; is_line = is.is_line; are = tt }) accepted.absent some in
    let k = value_of numbers in
    let found = beat_of c.tick_accepted.result (answer_in numbers c.args.now_us) c.tick_accepted.ensures.given.said told in
    let beat = found.0 in
    let is_told = tick_voted IsTrue t edges k 0 0 (omega arith) now (pulses_there (redundancy_in numbers.setup) pulses) beat u steady
    (λ half end ps claim is frame soon. true_by_any k.clock k.rules t k.clock.drift_us edges half now end ps claim steady (subst (λ (w : ℕ). IsTrueLately w (rules_in numbers.setup) t edges now ps) exact is) frame soon) sound heard
    (ap (λ (x : ℕ). answer_in numbers x) (sym clock) ∙ found.1.is)
    (ap (λ (r : Report). r.cause) (sym found.1.told.report) ∙ voted)
    (ap (λ (r : Report). r.announce) (sym found.1.told.report) ∙ says) in (
      beat,
      found.1.told,
      record {
        m = is_told.m;
        edge = is_told.edge;
        clock = is_told.clock;
        near = record { least = omega (arith, is_told.near.least, found.1.told.bound_us); most = omega (arith, is_told.near.most, found.1.told.bound_us) };
        come = is_told.come;
        soon = is_told.soon;
        truth = is_told.truth;
      },
    )

pub returns-clause-any_counter : goal.returns-clause-any_counter
returns-clause-any_counter c t d edges now pulses u done clock steady sound some told voted says =
    let numbers = c.args.timekeeper.now in
    let accepted = c.is_accepted.ensures.0 c.if-not-is_accepted.false in
    let exact : numbers.wires.within_us ≡ (clock_in numbers).within.us = omega (arith, accepted.wires.0, accepted.wires.1.0) in
    let IsTrue : List Pulse → Type 0 = IsTrueLately numbers.wires.within_us (rules_in numbers.setup) t edges now in
    let heard = all_heard IsTrue numbers now pulses (λ ps is. record { line = is.line; next = is.next; is_line = is.is_line; are = tt }) accepted.absent some in
    let k = value_of numbers in
    let found = beat_of c.tick_accepted.result (answer_in numbers c.args.now_us) c.tick_accepted.ensures.given.said told in
    let beat = found.0 in
    let far = vote_us k.clock d in
    let is_told = tick_voted_by IsTrue t edges k d 0 0 (omega arith) now (pulses_there (redundancy_in numbers.setup) pulses) beat u steady
    (λ half end ps claim is frame soon. true_by_any k.clock k.rules t d edges half now end ps claim steady (subst (λ (w : ℕ). IsTrueLately w (rules_in numbers.setup) t edges now ps) exact is) frame soon) sound heard
    (ap (λ (x : ℕ). answer_in numbers x) (sym clock) ∙ found.1.is)
    (ap (λ (r : Report). r.cause) (sym found.1.told.report) ∙ voted)
    (ap (λ (r : Report). r.announce) (sym found.1.told.report) ∙ says) in (
      beat,
      found.1.told,
      nearer t edges (0 + is_told.far) (0 + is_told.far) far far now beat u (omega (arith, is_told.few)) (omega (arith, is_told.few)) is_told.told,
    )

pub returns-then-not-is_accepted-clause-lived : goal.returns-then-not-is_accepted-clause-lived
returns-then-not-is_accepted-clause-lived c made past now h clock = absurd (never (sym c.if-not-is_accepted.true ∙ c.is_accepted.ensures.1 h.is.accepted))

pub returns-then-not-is_accepted-clause-life : goal.returns-then-not-is_accepted-clause-life
returns-then-not-is_accepted-clause-life c t edges made start now past u h clock = absurd (never (sym c.if-not-is_accepted.true ∙ c.is_accepted.ensures.1 h.is.accepted))

pub returns-then-not-is_accepted-clause-order : goal.returns-then-not-is_accepted-clause-order
returns-then-not-is_accepted-clause-order c t edges made start before now earlier later first u v h clock = absurd (never (sym c.if-not-is_accepted.true ∙ c.is_accepted.ensures.1 h.is.accepted))

pub returns-then-not-is_accepted-clause-calm : goal.returns-then-not-is_accepted-clause-calm
returns-then-not-is_accepted-clause-calm c t edges made start now past h clock = absurd (never (sym c.if-not-is_accepted.true ∙ c.is_accepted.ensures.1 h.is.accepted))

pub returns-then-not-is_accepted-clause-apart : goal.returns-then-not-is_accepted-clause-apart
returns-then-not-is_accepted-clause-apart c made start before now earlier later first h clock = absurd (never (sym c.if-not-is_accepted.true ∙ c.is_accepted.ensures.1 h.is.accepted))

pub returns-clause-lived : goal.returns-clause-lived
returns-clause-lived c made past now h clock =
    let t = c.args.timekeeper.now in
    lived_tick t _ made past c.args.now_us now c.tick_accepted.result (redundancy_in t.setup) (sense_in t.setup.sense) (frames_in t.lines)
    c.tick_accepted.ensures.given.said c.tick_accepted.ensures.given.voices (returns-clause-second c) (returns-clause-after c) h clock

pub returns-clause-none_apart : goal.returns-clause-none_apart
returns-clause-none_apart c t edges made start now line past done h clock well low truly =
    let numbers = c.args.timekeeper.now in
    let lived = returns-clause-lived c made past now h clock in
    let after : ClockState = (life_of (made_with made lived.lines lived.fresh) (Tick now ∷ calls_of past)).state in
    let rules_are = h.is.clock ∙ (as_made (device_of (made_with made h.lines h.fresh)) (calls_of past)).clock in
    in_no_mask c.tick_accepted.result (answer_in numbers c.args.now_us) made.clock after line low c.tick_accepted.ensures.given.said
    (λ beat is. c.tick_accepted.ensures.given.lines beat is ∙ (ap (λ (r : ClockRules). masks_of r (clock_state_in c.tick_accepted.new.timekeeper)) rules_are ∙ ap (λ (s : ClockState). masks_of made.clock s) lived.is.state))
    (true_at_tick (IsTrueLately made.clock.within.us) t edges (made_with made lived.lines lived.fresh) start now (calls_of past) (record { is = well.is; learns = well.learns; order = well.order; truth = well.truth })
    (λ now half end pulses claim is frame soon. true_by_any made.clock made.rules t made.clock.drift_us edges half now end pulses claim well.is.steady is frame soon)
    (steps_truly t edges (made_with made lived.lines lived.fresh) start (Tick now ∷ calls_of past) (record { is = well.is; learns = well.learns; order = well.order; truth = well.truth })) line low truly)

pub returns-clause-life : goal.returns-clause-life
returns-clause-life c t edges made start now past u h clock = tells_truly (IsTrueLately made.clock.within.us) 0 0 _ t edges made (whole_lines made) start now past c.tick_accepted.result u (returns-clause-lived c made past now h clock)

pub returns-clause-order : goal.returns-clause-order
returns-clause-order c t edges made start before now earlier later first u v h clock =
    tells_in_order (IsTrueLately made.clock.within.us) 0 0 _ t edges made (whole_lines made) start before now earlier later first c.tick_accepted.result u v (returns-clause-lived c made (later ++ (Ticked before first ∷ earlier)) now h clock)

pub returns-clause-calm : goal.returns-clause-calm
returns-clause-calm c t edges made start now past h clock = tells_calmly (IsTrueLately made.clock.within.us) 0 0 _ t edges made (whole_lines made) start now past c.tick_accepted.result (returns-clause-lived c made past now h clock)

pub returns-clause-apart : goal.returns-clause-apart
returns-clause-apart c made start before now earlier later first h clock =
    tells_apart _ made start before now earlier later first c.tick_accepted.result (returns-clause-lived c made (later ++ (Ticked before first ∷ earlier)) now h clock)

pub returns-then-not-is_accepted-clause-held : goal.returns-then-not-is_accepted-clause-held
returns-then-not-is_accepted-clause-held c made now past u h clock = absurd (never (sym c.if-not-is_accepted.true ∙ c.is_accepted.ensures.1 h.is.accepted))

pub returns-clause-held : goal.returns-clause-held
returns-clause-held c made now past u h clock = lasts_as _ made past now c.tick_accepted.result u (returns-clause-lived c made past now h clock)

pub returns-then-not-is_accepted-clause-announces : goal.returns-then-not-is_accepted-clause-announces
returns-then-not-is_accepted-clause-announces c t edges made start m most now moments before u h clock = absurd (never (sym c.if-not-is_accepted.true ∙ c.is_accepted.ensures.1 h.is.accepted))

pub returns-clause-announces : goal.returns-clause-announces
returns-clause-announces c t edges made start m most now moments before u h clock =
    has_announced _ t edges made start m most (Ticked now c.tick_accepted.result ∷ moments) before u (returns-clause-lived c made (moments ++ before) now h clock)

pub returns-then-not-is_accepted-clause-faulty : goal.returns-then-not-is_accepted-clause-faulty
returns-then-not-is_accepted-clause-faulty c t edges made start now past u h clock = absurd (never (sym c.if-not-is_accepted.true ∙ c.is_accepted.ensures.1 h.is.accepted))

pub returns-then-not-is_accepted-clause-faulty_order : goal.returns-then-not-is_accepted-clause-faulty_order
returns-then-not-is_accepted-clause-faulty_order c t edges made start before now earlier later first u v h clock = absurd (never (sym c.if-not-is_accepted.true ∙ c.is_accepted.ensures.1 h.is.accepted))

pub returns-then-not-is_accepted-clause-faulty_calm : goal.returns-then-not-is_accepted-clause-faulty_calm
returns-then-not-is_accepted-clause-faulty_calm c t edges made start now past h clock = absurd (never (sym c.if-not-is_accepted.true ∙ c.is_accepted.ensures.1 h.is.accepted))

pub returns-then-not-is_accepted-clause-announces_by_wait : goal.returns-then-not-is_accepted-clause-announces_by_wait
returns-then-not-is_accepted-clause-announces_by_wait c t edges made start m late now moments before u h clock = absurd (never (sym c.if-not-is_accepted.true ∙ c.is_accepted.ensures.1 h.is.accepted))

pub returns-clause-faulty : goal.returns-clause-faulty
returns-clause-faulty c t edges made start now past u h clock plain =
    tells_truly (IsTrueOrFaulty made.clock.within.us) (fault_early_us made.clock.within.us made.clock.drift_us) (fault_late_us made.clock.within.us made.clock.drift_us) _ t edges made (faulty_lines made plain) start now past c.tick_accepted.result u (returns-clause-lived c made past now h clock)

pub returns-clause-faulty_order : goal.returns-clause-faulty_order
returns-clause-faulty_order c t edges made start before now earlier later first u v h clock plain =
    tells_in_order (IsTrueOrFaulty made.clock.within.us) (fault_early_us made.clock.within.us made.clock.drift_us) (fault_late_us made.clock.within.us made.clock.drift_us) _ t edges made (faulty_lines made plain) start before now earlier later first c.tick_accepted.result u v (returns-clause-lived c made (later ++ (Ticked before first ∷ earlier)) now h clock)

pub returns-clause-faulty_calm : goal.returns-clause-faulty_calm
returns-clause-faulty_calm c t edges made start now past h clock plain =
    tells_calmly (IsTrueOrFaulty made.clock.within.us) (fault_early_us made.clock.within.us made.clock.drift_us) (fault_late_us made.clock.within.us made.clock.drift_us) _ t edges made (faulty_lines made plain) start now past c.tick_accepted.result (returns-clause-lived c made past now h clock)

pub returns-clause-announces_by_wait : goal.returns-clause-announces_by_wait
returns-clause-announces_by_wait c t edges made start m late now moments before u h clock =
    has_announced_by_wait _ t edges made start m late now c.tick_accepted.result moments before u (returns-clause-lived c made (moments ++ before) now h clock)

pub returns-then-not-is_accepted-clause-strays : goal.returns-then-not-is_accepted-clause-strays
returns-then-not-is_accepted-clause-strays c t edges made start now past h clock = absurd (never (sym c.if-not-is_accepted.true ∙ c.is_accepted.ensures.1 h.is.accepted))

pub returns-clause-strays : goal.returns-clause-strays
returns-clause-strays c t edges made start now past h clock well =
    let lived = returns-clause-lived c made past now h clock in
    c.tick_accepted.ensures.given.strays ∙ of (c.tick_accepted.result.is_told == 0)
    (ap (λ (s : ClockState). s.strays) lived.is.state
    ∙ never_strays t edges (made_with made lived.lines lived.fresh) start (Tick now ∷ calls_of past) (record { is = well.is; learns = well.learns; order = well.order; truth = well.truth }))
  where
    of : {n : ℕ} (b : Bool) → n ≡ 0 → cond b 0 n ≡ 0
    of true same = refl
    of false same = same

pub returns-then-not-is_accepted-clause-quality_strays : goal.returns-then-not-is_accepted-clause-quality_strays
returns-then-not-is_accepted-clause-quality_strays c t edges made start now past h clock = absurd (never (sym c.if-not-is_accepted.true ∙ c.is_accepted.ensures.1 h.is.accepted))

pub returns-clause-quality_strays : goal.returns-clause-quality_strays
returns-clause-quality_strays c t edges made start now past h clock well =
    let lived = returns-clause-lived c made past now h clock in
    c.tick_accepted.ensures.given.strays ∙ of (c.tick_accepted.result.is_told == 0)
    (ap (λ (s : ClockState). s.strays) lived.is.state
    ∙ no_strays (IsTrueByItsQuality made.clock) t edges (made_with made lived.lines lived.fresh) start (Tick now ∷ calls_of past) (qualities_tell_truly made.clock made.rules t edges) (qualities_are_even made.clock made.rules t edges)
    (record { is = well.is; learns = well.learns; order = well.order; truth = well.truth }))
  where
    of : {n : ℕ} (b : Bool) → n ≡ 0 → cond b 0 n ≡ 0
    of true same = refl
    of false same = same

pub returns-then-not-is_accepted-clause-clocks_off : goal.returns-then-not-is_accepted-clause-clocks_off
returns-then-not-is_accepted-clause-clocks_off c t edges made off start now past u few h clock = absurd (never (sym c.if-not-is_accepted.true ∙ c.is_accepted.ensures.1 h.is.accepted))

pub returns-then-not-is_accepted-clause-clocks_off_order : goal.returns-then-not-is_accepted-clause-clocks_off_order
returns-then-not-is_accepted-clause-clocks_off_order c t edges made off start before now earlier later first u v few h clock = absurd (never (sym c.if-not-is_accepted.true ∙ c.is_accepted.ensures.1 h.is.accepted))

pub returns-then-not-is_accepted-clause-clocks_off_calm : goal.returns-then-not-is_accepted-clause-clocks_off_calm
returns-then-not-is_accepted-clause-clocks_off_calm c t edges made off start now past few h clock = absurd (never (sym c.if-not-is_accepted.true ∙ c.is_accepted.ensures.1 h.is.accepted))

pub returns-clause-clocks_off : goal.returns-clause-clocks_off
returns-clause-clocks_off c t edges made off start now past u few h clock plain =
    tells_truly (IsTrueByItsClock off made.clock.within.us made.clock.drift_us) off off _ t edges made (clock_lines off made plain few) start now past c.tick_accepted.result u (returns-clause-lived c made past now h clock)

pub returns-clause-clocks_off_order : goal.returns-clause-clocks_off_order
returns-clause-clocks_off_order c t edges made off start before now earlier later first u v few h clock plain =
    tells_in_order (IsTrueByItsClock off made.clock.within.us made.clock.drift_us) off off _ t edges made (clock_lines off made plain few) start before now earlier later first c.tick_accepted.result u v (returns-clause-lived c made (later ++ (Ticked before first ∷ earlier)) now h clock)

pub returns-clause-clocks_off_calm : goal.returns-clause-clocks_off_calm
returns-clause-clocks_off_calm c t edges made off start now past few h clock plain =
    tells_calmly (IsTrueByItsClock off made.clock.within.us made.clock.drift_us) off off _ t edges made (clock_lines off made plain few) start now past c.tick_accepted.result (returns-clause-lived c made past now h clock)

pub returns-then-not-is_accepted-clause-quality : goal.returns-then-not-is_accepted-clause-quality
returns-then-not-is_accepted-clause-quality c t edges made start now past u h clock = absurd (never (sym c.if-not-is_accepted.true ∙ c.is_accepted.ensures.1 h.is.accepted))

pub returns-then-not-is_accepted-clause-quality_order : goal.returns-then-not-is_accepted-clause-quality_order
returns-then-not-is_accepted-clause-quality_order c t edges made start before now earlier later first u v h clock = absurd (never (sym c.if-not-is_accepted.true ∙ c.is_accepted.ensures.1 h.is.accepted))

pub returns-then-not-is_accepted-clause-quality_calm : goal.returns-then-not-is_accepted-clause-quality_calm
returns-then-not-is_accepted-clause-quality_calm c t edges made start now past h clock = absurd (never (sym c.if-not-is_accepted.true ∙ c.is_accepted.ensures.1 h.is.accepted))

pub returns-clause-quality : goal.returns-clause-quality
returns-clause-quality c t edges made start now past u h clock =
    tells_truly (IsTrueByItsQuality made.clock) 0 0 _ t edges made (quality_lines made) start now past c.tick_accepted.result u (returns-clause-lived c made past now h clock)

pub returns-clause-quality_order : goal.returns-clause-quality_order
returns-clause-quality_order c t edges made start before now earlier later first u v h clock =
    tells_in_order (IsTrueByItsQuality made.clock) 0 0 _ t edges made (quality_lines made) start before now earlier later first c.tick_accepted.result u v (returns-clause-lived c made (later ++ (Ticked before first ∷ earlier)) now h clock)

pub returns-clause-quality_calm : goal.returns-clause-quality_calm
returns-clause-quality_calm c t edges made start now past h clock =
    tells_calmly (IsTrueByItsQuality made.clock) 0 0 _ t edges made (quality_lines made) start now past c.tick_accepted.result (returns-clause-lived c made past now h clock)

pub returns-then-not-is_accepted-clause-learned : goal.returns-then-not-is_accepted-clause-learned
returns-then-not-is_accepted-clause-learned c t edges made start now past pace h clock = absurd (never (sym c.if-not-is_accepted.true ∙ c.is_accepted.ensures.1 h.is.accepted))

pub returns-clause-learned : goal.returns-clause-learned
returns-clause-learned c t edges made start now past pace h clock well is =
    let lived = returns-clause-lived c made past now h clock in
    let device = made_with made lived.lines lived.fresh in
    subst (λ (s : ClockState). IsLearned edges now s.edge_us pace) (sym lived.is.state)
    (learned_is t edges device start (Tick now ∷ calls_of past) pace (record { is = well.is; learns = well.learns; order = well.order; truth = well.truth })
    (ap (λ (s : ClockState). s.pace) (sym lived.is.state) ∙ is))
