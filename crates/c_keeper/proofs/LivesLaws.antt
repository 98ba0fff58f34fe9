-- What ticks of a life give C is what the laws of a device say of their answers.
use Rattle.std.proofs.Common.{◌≡◌, ◌∙◌, ◌∷◌, ◌++◌, [], ◌+◌, ◌*◌, ◌%◌, ◌^◌, ◌≤◌, ℕ, List, Option, Some, None, refl, sym, ap, subst, arith, inl, inr}
use Rattle.irig_sync.specs.Lines.{Pulse}
use Rattle.irig_time.specs.declared.second.UtcSecond.{UtcSecond}
use Rattle.irig_time.specs.declared.rules.Rules.{Rules}
use Rattle.irig_time.specs.Timelines.{TimelineValue}
use Rattle.irig_vote.specs.Vote.{f_of}
use Rattle.irig_reader.specs.declared.report.Cause.TheVariants as cause
use Rattle.irig_reader.specs.declared.report.Report.{Report}
use Rattle.irig_timekeeper.specs.declared.clock.Beat.{Beat}
use Rattle.irig_lines.specs.declared.lines.Lines.{Lines}
use Rattle.irig_lines.specs.declared.setup.ClockRules.{ClockRules}
use Rattle.irig_timekeeper.specs.Clock.{lasted}
use Rattle.irig_lines.specs.Exactness.{most_drift_us, fault_early_us, fault_late_us}
use Rattle.irig_lines.specs.Widths.{vote_us}
use Rattle.irig_lines.specs.Edges.{IsQuartz}
use Rattle.irig_timekeeper.specs.Keeping.{Keeping, answer_at}
use Rattle.irig_timekeeper.specs.Life.{Call, AreInOrder, AreTrueLately, AreTrueAtTicks, AreTrueOver, after_calls, device_of, LivesTruly}
use Rattle.irig_timekeeper.specs.Life.Call.{Hear, Tick}
use Rattle.irig_lines.specs.Lines.{IsTrueLately, IsTrueOrFaulty}
use Rattle.irig_timekeeper.specs.Lived.{MadeOf, made_with}
use Rattle.irig_lines.specs.Steps.{AreNewLines}
use Rattle.irig_timekeeper.specs.Truth.{IsToldInHoldover, IsLaterSecond, AreApartBeats}
use Rattle.irig_timekeeper.specs.Healing as device
use Rattle.irig_timekeeper.proofs.FaultLines.{either_tells_truly, fault_small}
use Rattle.irig_timekeeper.proofs.HealLaws.{healed, in_order, calm_since}
use Rattle.irig_timekeeper.proofs.LearnLaws.{steps_plainly, steps_so, steps_truly}
use Rattle.irig_timekeeper.proofs.LifeLaws.{StepsIn, TellAlwaysTruly, begins, device_calm, device_in_order, device_true}
use Rattle.irig_lines.proofs.LineLaws.{true_by_any}
use Rattle.irig_timekeeper.proofs.OrderLaws.{edges_apart}
use Rattle.c_numbers.specs.Reports.{report_in}
use Rattle.irig_lines.specs.Clocks.{IsTrueByItsClock, IsTrueByItsQuality}
use Rattle.irig_timekeeper.proofs.ClockLines.{clocks_tell_truly, qualities_are_even, qualities_tell_truly}
use Rattle.c_keeper.specs.declared.second.IrigSecond.{IrigSecond}
use Rattle.c_keeper.specs.declared.timekeeper.IrigTimekeeper.{IrigTimekeeper}
use Rattle.c_keeper.specs.Lives.{Moment, HasLived, HaveTold, HasHealed, GoesOnTruly, beat_in, calls_of}
use Rattle.c_keeper.specs.Lives.Moment.{Pulsed, Ticked, Waited}
use Rattle.c_keeper.specs.Seconds.{IsSecondOf, IsToldOf}
use Rattle.c_keeper.proofs.ValueLaws.{IsBeatOf, beat_of}

-- ---- the calls of a past

pub calls_more : (later earlier : List Moment) → calls_of (later ++ earlier) ≡ calls_of later ++ calls_of earlier
calls_more [] earlier = refl
calls_more (Pulsed line rise width place ∷ later) earlier = ap (λ (calls : List Call). Hear line rise width ∷ calls) (calls_more later earlier)
calls_more (Ticked now second ∷ later) earlier = ap (λ (calls : List Call). Tick now ∷ calls) (calls_more later earlier)
calls_more (Waited now wait ∷ later) earlier = calls_more later earlier

pub told_before : (new : Keeping) (later earlier : List Moment) → HaveTold new (later ++ earlier) → HaveTold new earlier
told_before new [] earlier told = told
told_before new (Pulsed line rise width place ∷ later) earlier told = told_before new later earlier told.1
told_before new (Ticked now second ∷ later) earlier told = told_before new later earlier told.1
told_before new (Waited now wait ∷ later) earlier told = told_before new later earlier told.1

-- at each tick of those and of these
true_at_all : (IsTrue : ℕ → List Pulse → Type 0) (f : ℕ) (later earlier : List Call) → AreTrueOver IsTrue f later earlier → AreTrueAtTicks IsTrue f earlier → AreTrueAtTicks IsTrue f (later ++ earlier)
true_at_all IsTrue f [] earlier over at = at
true_at_all IsTrue f (Hear line rise width ∷ later) earlier over at = true_at_all IsTrue f later earlier over at
true_at_all IsTrue f (Tick now ∷ later) earlier over at = (over.0, true_at_all IsTrue f later earlier over.1 at)

-- ---- what a tick gave

pub announced_beat : (s : IrigSecond) (answer : Option Beat) (u : UtcSecond) → IsSecondOf s answer → (report_in s.report).announce ≡ Some u → (beat : Beat) × IsBeatOf s answer beat
announced_beat s None u nothing says =
    let none : (report_in s.report).announce ≡ None = ap (λ (x : IrigSecond). (report_in x.report).announce) nothing in
    absurd cc
announced_beat s (Some beat) u is says = (beat, record { is = refl; told = is })

jump_beat : (s : IrigSecond) (answer : Option Beat) → IsSecondOf s answer → (report_in s.report).cause ≡ cause.Jump → (beat : Beat) × IsBeatOf s answer beat
jump_beat s None nothing jump =
    let none : (report_in s.report).cause ≡ cause.Voted = ap (λ (x : IrigSecond). (report_in x.report).cause) nothing in
    absurd cc
jump_beat s (Some beat) is jump = (beat, record { is = refl; told = is })

as_told : (s : IrigSecond) (beat : Beat) (t : TimelineValue) (edges : ℕ → ℕ) (early late : ℕ) (c : ClockRules) (now : ℕ) (u : UtcSecond) → IsToldOf s beat
    → IsToldInHoldover t edges early late c now beat u → IsToldInHoldover t edges early late c now (beat_in s) u
as_told s beat t edges early late c now u same h = record {
  bound = subst (λ (r : Report). s.bound_us ≤ vote_us c c.drift_us + lasted r.lock * c.drift_us) (sym same.report) (omega (arith, h.bound, same.bound_us));
  few = subst (λ (r : Report). lasted r.lock ≤ c.reader_rules.holdover) (sym same.report) h.few;
  small = omega (arith, h.small, same.bound_us);
  told = record {
    m = h.told.m;
    edge = h.told.edge;
    clock = same.edge_us ∙ h.told.clock;
    near = record { least = omega (arith, h.told.near.least, same.bound_us); most = omega (arith, h.told.near.most, same.bound_us) };
    come = h.told.come;
    soon = h.told.soon;
    truth = h.told.truth;
  };
}

-- ---- lines that are true so

-- what such lines keep is true, and ends as near its edge as that of a line that is so exact by a clock of
-- its quality, and at most so much earlier or later
pub record AreLinesSo (made : MadeOf) (IsTrue : Rules → TimelineValue → (ℕ → ℕ) → ℕ → List Pulse → Type 0) (early late : ℕ) : Type 0 where
  pub room : made.clock.drift_us ≤ most_drift_us → early + late ≤ 3002
  pub truly : (rules : Rules) (t : TimelineValue) (edges : ℕ → ℕ) → IsQuartz made.clock.drift_us edges → TellAlwaysTruly (IsTrue rules t edges) made.clock rules t edges early late
  pub goes_on : (t : TimelineValue) (edges : ℕ → ℕ) (lines : Lines) (fresh : AreNewLines lines) (start : ℕ) (calls : List Call) → LivesTruly IsTrue t edges (made_with made lines fresh) start calls → StepsIn edges early late (device_of (made_with made lines fresh)) start calls

pub whole_lines : (made : MadeOf) → AreLinesSo made (IsTrueLately made.clock.within.us) 0 0
whole_lines made = record {
  room = λ few. omega arith;
  truly = λ rules t edges steady now half end pulses claim is frame soon. true_by_any made.clock rules t made.clock.drift_us edges half now end pulses claim steady is frame soon;
  goes_on = λ t edges lines fresh start calls lives. steps_truly t edges (made_with made lines fresh) start calls lives;
}

-- they may have faults, of a device that learns nothing from them
pub faulty_lines : (made : MadeOf) → made.clock.wander_ppb ≡ 0 → AreLinesSo made (IsTrueOrFaulty made.clock.within.us) (fault_early_us made.clock.within.us made.clock.drift_us) (fault_late_us made.clock.within.us made.clock.drift_us)
faulty_lines made plain = record {
  room = λ few. (let most = fault_small made.clock.within made.clock.drift_us few in omega (arith, most.0, most.1));
  truly = λ rules t edges steady. either_tells_truly made.clock rules t edges steady;
  goes_on = λ t edges lines fresh start calls lives. steps_plainly t edges (made_with made lines fresh) start calls (fault_early_us made.clock.within.us made.clock.drift_us) (fault_late_us made.clock.within.us made.clock.drift_us) plain lives.is;
}

-- they may be so by clocks that are off, of such a device
pub clock_lines : (off : ℕ) (made : MadeOf) → made.clock.wander_ppb ≡ 0 → off ≤ 1000 → AreLinesSo made (IsTrueByItsClock off made.clock.within.us made.clock.drift_us) off off
clock_lines off made plain few = record {
  room = λ low. omega (arith, few);
  truly = λ rules t edges steady. clocks_tell_truly off made.clock rules t edges;
  goes_on = λ t edges lines fresh start calls lives. steps_plainly t edges (made_with made lines fresh) start calls off off plain lives.is;
}

-- or by clocks that are no further off than they say
pub quality_lines : (made : MadeOf) → AreLinesSo made (IsTrueByItsQuality made.clock) 0 0
quality_lines made = record {
  room = λ few. omega arith;
  truly = λ rules t edges steady. qualities_tell_truly made.clock rules t edges;
  goes_on = λ t edges lines fresh start calls lives. steps_so (IsTrueByItsQuality made.clock) t edges (made_with made lines fresh) start calls (qualities_tell_truly made.clock made.rules t edges) (qualities_are_even made.clock made.rules t edges) lives;
}

module _ (IsTrue : Rules → TimelineValue → (ℕ → ℕ) → ℕ → List Pulse → Type 0) (t : TimelineValue) (edges : ℕ → ℕ) (made : MadeOf) (start : ℕ) (lines : Lines) (fresh : AreNewLines lines) where
  abbrev pub new : Keeping
  new = device_of (made_with made lines fresh)

  -- it has healed as a device has
  abbrev pub as_device : (past : List Moment) → HaveTold new past → HasHealed IsTrue t edges made start past → device.HasHealed IsTrue t edges (made_with made lines fresh) start (calls_of past)
  as_device past told h =
      let mended = told_before new h.later (Ticked h.mend h.second ∷ h.earlier) (subst (HaveTold new) h.are told) in
      let beat = beat_of h.second _ mended.0.is h.told in
      let vote = mended.0.vote h.vote in
      record {
        is = h.is;
        plain = h.plain;
        order = h.order;
        later = calls_of h.later;
        mend = h.mend;
        earlier = calls_of h.earlier;
        are = ap calls_of h.are ∙ calls_more h.later (Ticked h.mend h.second ∷ h.earlier);
        vote = vote.0;
        voted = vote.1;
        beat = beat.0;
        answer = beat.1.is;
        truth = h.truth;
        since = h.since;
      }

  healed_tells : (early late : ℕ) → AreLinesSo made IsTrue early late → (now : ℕ) (calls : List Call) (beat : Beat) (u : UtcSecond) → device.HasHealed IsTrue t edges (made_with made lines fresh) start calls
      → AreInOrder start made.clock.redundancy (Tick now ∷ calls) → AreTrueLately (IsTrue made.rules t edges) (f_of made.clock.redundancy) now calls
      → answer_at (after_calls new calls) (now % 2 ^ 32) ≡ Some beat → beat.report.announce ≡ Some u
      → IsToldInHoldover t edges early late made.clock now beat u
  healed_tells early late so now calls beat u h =
      subst Tells (sym h.are) (λ order here answer says.
      healed (IsTrue made.rules t edges) t edges early late new start (begins made.rules made.clock made.table lines start fresh) tt h.is (so.room h.is.steady.few)
      (so.truly made.rules t edges h.is.steady) (record { off = h.plain; none = refl }) (omega arith)
      h.earlier h.later h.mend now h.vote h.beat beat u order h.truth (here, h.since) h.voted h.answer answer says)
    where
      Tells : List Call → Type 0
      Tells calls = AreInOrder start made.clock.redundancy (Tick now ∷ calls) → AreTrueLately (IsTrue made.rules t edges) (f_of made.clock.redundancy) now calls
          → answer_at (after_calls new calls) (now % 2 ^ 32) ≡ Some beat → beat.report.announce ≡ Some u
          → IsToldInHoldover t edges early late made.clock now beat u

module _ (IsTrue : Rules → TimelineValue → (ℕ → ℕ) → ℕ → List Pulse → Type 0) (early late : ℕ) (q : IrigTimekeeper) (t : TimelineValue) (edges : ℕ → ℕ) (made : MadeOf) (so : AreLinesSo made IsTrue early late) where
  -- what is announced in a life is true
  pub tells_truly : (start now : ℕ) (past : List Moment) (s : IrigSecond) (u : UtcSecond) → HasLived q made (Ticked now s ∷ past)
      → GoesOnTruly IsTrue t edges made start now [] past → (report_in s.report).announce ≡ Some u
      → IsToldInHoldover t edges early late made.clock now (beat_in s) u
  tells_truly start now past s u h g says =
      let beat = announced_beat s _ u h.told.0.is says in
      let announces = ap (λ (r : Report). r.announce) (sym beat.1.told.report) ∙ says in
      as_told s beat.0 t edges early late made.clock now u beat.1.told
      (elim g.sound [
        | inl well ↦ device_true made.rules made.clock made.table h.lines start h.fresh (IsTrue made.rules t edges) t edges early late well.is (so.room well.is.steady.few)
            (so.truly made.rules t edges well.is.steady) (calls_of past) now beat.0 u g.order (g.truth.0, well.truth)
            (so.goes_on t edges h.lines h.fresh start (Tick now ∷ calls_of past) (record { is = well.is; learns = well.learns; order = g.order; truth = (g.truth.0, well.truth) })) beat.1.is announces
        | inr mended ↦ healed_tells IsTrue t edges made start h.lines h.fresh early late so now (calls_of past) beat.0 u (as_device IsTrue t edges made start h.lines h.fresh past h.told.1 mended) g.order g.truth.0 beat.1.is announces
      ])

  -- and no tick says `jump`
  pub tells_calmly : (start now : ℕ) (past : List Moment) (s : IrigSecond) → HasLived q made (Ticked now s ∷ past)
      → GoesOnTruly IsTrue t edges made start now [] past → ¬ ((report_in s.report).cause ≡ cause.Jump)
  tells_calmly start now past s h g jump =
      let beat = jump_beat s _ h.told.0.is jump in
      let jumps = ap (λ (r : Report). r.cause) (sym beat.1.told.report) ∙ jump in
      elim g.sound [
        | inl well ↦ device_calm made.rules made.clock made.table h.lines start h.fresh (IsTrue made.rules t edges) t edges early late well.is (so.room well.is.steady.few)
            (so.truly made.rules t edges well.is.steady) (calls_of past) now beat.0 g.order (g.truth.0, well.truth)
            (so.goes_on t edges h.lines h.fresh start (Tick now ∷ calls_of past) (record { is = well.is; learns = well.learns; order = g.order; truth = (g.truth.0, well.truth) })) beat.1.is jumps
        | inr mended ↦
            let d = as_device IsTrue t edges made start h.lines h.fresh past h.told.1 mended in
            calm_since (IsTrue made.rules t edges) t edges early late (new IsTrue t edges made start h.lines h.fresh) start (begins made.rules made.clock made.table h.lines start h.fresh) tt d.is (so.room d.is.steady.few)
            (so.truly made.rules t edges d.is.steady) (record { off = d.plain; none = refl })
            d.earlier d.mend d.vote d.beat d.truth d.voted d.answer d.later (calls_of past) now d.are d.since g.order g.truth.0 beat.0 beat.1.is jumps
      ]

  -- a later tick announces a later second
  pub tells_in_order : (start before now : ℕ) (earlier later : List Moment) (first s : IrigSecond) (u v : UtcSecond)
      → HasLived q made (Ticked now s ∷ (later ++ (Ticked before first ∷ earlier))) → GoesOnTruly IsTrue t edges made start now later (Ticked before first ∷ earlier)
      → (report_in first.report).announce ≡ Some u → (report_in s.report).announce ≡ Some v → IsLaterSecond t u v
  tells_in_order start before now earlier later first s u v h g says then =
      let made_new = new IsTrue t edges made start h.lines h.fresh in
      let joined = calls_more later (Ticked before first ∷ earlier) in
      let told = told_before made_new later (Ticked before first ∷ earlier) h.told.1 in
      let one = announced_beat first _ u told.0.is says in
      let two = announced_beat s _ v h.told.0.is then in
      let order = subst (λ (calls : List Call). AreInOrder start made.clock.redundancy (Tick now ∷ calls)) joined g.order in
      let answers = subst (λ (calls : List Call). answer_at (after_calls made_new calls) (now % 2 ^ 32) ≡ Some two.0) joined two.1.is in
      let says_one = ap (λ (r : Report). r.announce) (sym one.1.told.report) ∙ says in
      let says_two = ap (λ (r : Report). r.announce) (sym two.1.told.report) ∙ then in
      elim g.sound [
        | inl well ↦
            let all_true = true_at_all (IsTrue made.rules t edges) (f_of made.clock.redundancy) (Tick now ∷ calls_of later) (Tick before ∷ calls_of earlier) g.truth well.truth in
            device_in_order made.rules made.clock made.table h.lines start h.fresh (IsTrue made.rules t edges) t edges early late well.is (so.room well.is.steady.few)
            (so.truly made.rules t edges well.is.steady) (calls_of earlier) (calls_of later) before now one.0 two.0 u v order
            all_true
            (so.goes_on t edges h.lines h.fresh start (Tick now ∷ (calls_of later ++ (Tick before ∷ calls_of earlier))) (record { is = well.is; learns = well.learns; order = order; truth = all_true }))
            one.1.is says_one answers says_two
        | inr mended ↦
            let d = as_device IsTrue t edges made start h.lines h.fresh (Ticked before first ∷ earlier) told mended in
            in_order (IsTrue made.rules t edges) t edges early late made_new start (begins made.rules made.clock made.table h.lines start h.fresh) tt d.is (so.room d.is.steady.few)
            (so.truly made.rules t edges d.is.steady) (record { off = d.plain; none = refl })
            d.earlier d.mend d.vote d.beat d.truth d.voted d.answer d.later before (calls_of earlier) (calls_of later) now one.0 two.0 u v d.are d.since order g.truth one.1.is says_one answers says_two
      ]

-- the edges that are told lie apart, whatever lines carry
pub tells_apart : (q : IrigTimekeeper) (made : MadeOf) (start before now : ℕ) (earlier later : List Moment) (first s : IrigSecond)
    → HasLived q made (Ticked now s ∷ (later ++ (Ticked before first ∷ earlier))) → AreInOrder start made.clock.redundancy (Tick now ∷ calls_of (later ++ (Ticked before first ∷ earlier)))
    → first.is_told ≡ 1 → s.is_told ≡ 1 → AreApartBeats before now (beat_in first) (beat_in s)
tells_apart q made start before now earlier later first s h order is then =
    let made_new = device_of (made_with made h.lines h.fresh) in
    let joined = calls_more later (Ticked before first ∷ earlier) in
    let told = told_before made_new later (Ticked before first ∷ earlier) h.told.1 in
    let one = beat_of first _ told.0.is is in
    let two = beat_of s _ h.told.0.is then in
    let apart = edges_apart made_new start (begins made.rules made.clock made.table h.lines start h.fresh) refl (calls_of earlier) (calls_of later) before now one.0 two.0
    (subst (λ (calls : List Call). AreInOrder start made.clock.redundancy (Tick now ∷ calls)) joined order) one.1.is
    (subst (λ (calls : List Call). answer_at (after_calls made_new calls) (now % 2 ^ 32) ≡ Some two.0) joined two.1.is) in
    record {
      edge = apart.edge;
      later = apart.later;
      told = record { clock = one.1.told.edge_us ∙ apart.told.clock; come = apart.told.come; soon = apart.told.soon };
      told_later = record { clock = two.1.told.edge_us ∙ apart.told_later.clock; come = apart.told_later.come; soon = apart.told_later.soon };
      apart = apart.apart;
    }
