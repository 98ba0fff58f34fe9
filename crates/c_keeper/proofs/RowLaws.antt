-- Between two seconds that are given in a row no event is without a stamp.
use Rattle.std.proofs.Common.{◌≡◌, ◌∙◌, ℕ, ◌+◌, ◌%◌, ◌^◌, ◌<◌, ◌≤◌, List, [], ◌∷◌, ◌++◌, Option, Some, None, refl, sym, ap, subst, arith, inl, inr}
use Rattle.irig_sync.specs.Lines.{Pulse}
use Rattle.irig_time.specs.declared.rules.Rules.{Rules}
use Rattle.irig_time.specs.declared.second.UtcSecond.{UtcSecond}
use Rattle.irig_time.specs.Timelines.{TimelineValue}
use Rattle.irig_reader.specs.declared.report.Report.{Report}
use Rattle.irig_lines.specs.Exactness.{fault_early_us, fault_late_us}
use Rattle.irig_timekeeper.specs.declared.clock.Beat.{Beat}
use Rattle.irig_timekeeper.specs.declared.stamp.Stamp.{Stamp}
use Rattle.irig_timekeeper.specs.Keeping.{Keeping, answer_at, stamp_at}
use Rattle.irig_timekeeper.specs.Life.{Call, AreInOrder, after_calls, device_of, life_of}
use Rattle.irig_timekeeper.specs.Life.Call.{Tick}
use Rattle.irig_lines.specs.Lines.{IsTrueLately, IsTrueOrFaulty}
use Rattle.irig_timekeeper.specs.Lived.{MadeOf, made_with}
use Rattle.irig_timekeeper.specs.Rows.{AreToldLast, TellNothing}
use Rattle.irig_timekeeper.proofs.LifeLaws.{device_true}
use Rattle.irig_timekeeper.proofs.RowLaws.{in_a_row_since, none_lost, told_in_a_row}
use Rattle.c_numbers.specs.Reports.{report_in}
use Rattle.c_keeper.specs.declared.second.IrigSecond.{IrigSecond}
use Rattle.c_keeper.specs.declared.timekeeper.IrigTimekeeper.{IrigTimekeeper}
use Rattle.c_keeper.specs.Lives.{Moment, GoesOnTruly, HasLived, HaveTold, calls_of}
use Rattle.c_keeper.specs.Lives.Moment.{Pulsed, Ticked, Waited}
use Rattle.c_keeper.specs.Rows.{AreGivenLast, GiveNothing}
use Rattle.c_keeper.specs.Seconds.{IsSecondOf}
use Rattle.c_keeper.proofs.ValueLaws.{IsBeatOf}
use Rattle.c_keeper.proofs.LivesLaws.{AreLinesSo, announced_beat, as_device, calls_more, faulty_lines, told_before, whole_lines}

-- a tick that gave no second told none
told_none : (s : IrigSecond) (answer : Option Beat) → IsSecondOf s answer → s.is_told ≡ 0 → answer ≡ None
told_none s None nothing none = refl
told_none s (Some beat) told none = let both : ◌≡◌ {A = ℕ} 1 0 = sym told.is_told ∙ none in absurd cc

-- so do moments that give nothing
gives_nothing : (new : Keeping) (moments past : List Moment) → HaveTold new (moments ++ past) → GiveNothing moments → TellNothing new (calls_of moments) (calls_of past)
gives_nothing new [] past told silent = tt
gives_nothing new (Pulsed line rise width place ∷ moments) past told silent = gives_nothing new moments past told.1 silent
gives_nothing new (Waited now wait ∷ moments) past told silent = gives_nothing new moments past told.1 silent
gives_nothing new (Ticked now second ∷ moments) past told silent = (
  told_none second _ (subst (λ (calls : List Call). IsSecondOf second (answer_at (after_calls new calls) (now % 2 ^ 32))) (calls_more moments past) told.0.is) silent.0,
  gives_nothing new moments past told.1 silent.1,
)

module _ (q : IrigTimekeeper) (made : MadeOf) (past : List Moment) (h : HasLived q made past) (one then : IrigSecond) (edge next : ℕ) (row : AreGivenLast past one then edge next)
    (u v : UtcSecond) (says : (report_in one.report).announce ≡ Some u) (says_then : (report_in then.report).announce ≡ Some v) where
  abbrev new : Keeping
  new = device_of (made_with made h.lines h.fresh)

  abbrev base : List Moment
  base = Ticked row.before one ∷ row.earlier

  abbrev mid : List Moment
  mid = row.between ++ base

  told_all : HaveTold new (row.later ++ (Ticked row.now then ∷ mid))
  told_all = subst (HaveTold new) row.are h.told

  told_then : HaveTold new (Ticked row.now then ∷ mid)
  told_then = told_before new row.later (Ticked row.now then ∷ mid) told_all

  told_base : HaveTold new base
  told_base = told_before new row.between base told_then.1

  first : (beat : Beat) × IsBeatOf one (answer_at (after_calls new (calls_of row.earlier)) (row.before % 2 ^ 32)) beat
  first = announced_beat one _ u told_base.0.is says

  last : (beat : Beat) × IsBeatOf then (answer_at (after_calls new (calls_of mid)) (row.now % 2 ^ 32)) beat
  last = announced_beat then _ v told_then.0.is says_then

  mid_is : calls_of mid ≡ calls_of row.between ++ calls_of base
  mid_is = calls_more row.between base

  -- so are the two of the value
  as_row : AreToldLast new (calls_of past) first.0 last.0 edge next
  as_row = record {
    later = calls_of row.later;
    now = row.now;
    between = calls_of row.between;
    before = row.before;
    earlier = calls_of row.earlier;
    are = ap calls_of row.are ∙ (calls_more row.later (Ticked row.now then ∷ mid) ∙ ap (λ (x : List Call). calls_of row.later ++ (Tick row.now ∷ x)) mid_is);
    told = first.1.is;
    silent = gives_nothing new row.between base told_then.1 row.silent;
    told_then = subst (λ (x : List Call). answer_at (after_calls new x) (row.now % 2 ^ 32) ≡ Some last.0) mid_is last.1.is;
    silent_since = subst (λ (x : List Call). TellNothing new (calls_of row.later) (Tick row.now ∷ x)) mid_is (gives_nothing new row.later (Ticked row.now then ∷ mid) told_all row.silent_since);
    at = record { clock = sym first.1.told.edge_us ∙ row.at.clock; come = row.at.come; soon = row.at.soon };
    at_then = record { clock = sym last.1.told.edge_us ∙ row.at_then.clock; come = row.at_then.come; soon = row.at_then.soon };
  }

  announces : first.0.report.announce ≡ Some u
  announces = ap (λ (r : Report). r.announce) (sym first.1.told.report) ∙ says

  module _ (IsTrue : Rules → TimelineValue → (ℕ → ℕ) → ℕ → List Pulse → Type 0) (early late : ℕ) (t : TimelineValue) (edges : ℕ → ℕ) (so : AreLinesSo made IsTrue early late) (start : ℕ)
      (lives : GoesOnTruly IsTrue t edges made start row.now row.between base) (none : then.missed ≡ 0) where
    order : AreInOrder start made.clock.redundancy (Tick row.now ∷ (calls_of row.between ++ calls_of base))
    order = subst (λ (x : List Call). AreInOrder start made.clock.redundancy (Tick row.now ∷ x)) mid_is lives.order

    close : next < edge + 1500000
    unfolding as_row
    close = elim lives.sound [
      | inl well ↦
          let truly = so.truly made.rules t edges well.is.steady in
          let told = (device_true made.rules made.clock made.table h.lines start h.fresh (IsTrue made.rules t edges) t edges early late well.is (so.room well.is.steady.few) truly (calls_of row.earlier) row.before first.0 u well.order well.truth (so.goes_on t edges h.lines h.fresh start (calls_of base) (record { is = well.is; learns = well.learns; order = well.order; truth = well.truth })) first.1.is announces).told in
          told_in_a_row made.rules made.clock made.table h.lines start h.fresh (IsTrue made.rules t edges) t edges early late well.is (so.room well.is.steady.few) truly (calls_of past) first.0 last.0 edge next u as_row order lives.truth told announces missed
      | inr mended ↦
          let d = as_device IsTrue t edges made start h.lines h.fresh base told_base mended in
          in_a_row_since made.rules made.clock made.table h.lines start h.fresh (IsTrue made.rules t edges) t edges early late d.is (so.room d.is.steady.few) (so.truly made.rules t edges d.is.steady)
          (calls_of past) first.0 last.0 edge next u as_row d.earlier d.later d.mend d.vote d.beat d.truth d.voted d.answer d.are d.since order lives.truth (record { off = d.plain; none = refl }) announces missed
    ]
      where
        missed : last.0.missed ≡ 0
        missed = sym last.1.told.missed ∙ none

    lost_none : (time : ℕ) → edge ≤ time → time ≤ next + 1000000 + then.bound_us → (stamp : Stamp) × (stamp_at (after_calls new (calls_of past)) (time % 2 ^ 32) ≡ Some stamp)
    lost_none time from upto =
        none_lost new (calls_of past) first.0 last.0 edge next u v as_row announces (ap (λ (r : Report). r.announce) (sym last.1.told.report) ∙ says_then) time close from (omega (arith, upto, last.1.told.bound_us))

  pub none_lost_truly : (t : TimelineValue) (edges : ℕ → ℕ) (start time : ℕ) → GoesOnTruly (IsTrueLately made.clock.within.us) t edges made start row.now row.between base → then.missed ≡ 0 → edge ≤ time → time ≤ next + 1000000 + then.bound_us
      → (stamp : Stamp) × (stamp_at (life_of (made_with made h.lines h.fresh) (calls_of past)) (time % 2 ^ 32) ≡ Some stamp)
  none_lost_truly t edges start time lives none = lost_none (IsTrueLately made.clock.within.us) 0 0 t edges (whole_lines made) start lives none time

  pub none_lost_faulty : made.clock.wander_ppb ≡ 0 → (t : TimelineValue) (edges : ℕ → ℕ) (start time : ℕ) → GoesOnTruly (IsTrueOrFaulty made.clock.within.us) t edges made start row.now row.between base → then.missed ≡ 0 → edge ≤ time → time ≤ next + 1000000 + then.bound_us
      → (stamp : Stamp) × (stamp_at (life_of (made_with made h.lines h.fresh) (calls_of past)) (time % 2 ^ 32) ≡ Some stamp)
  none_lost_faulty plain t edges start time lives none = lost_none (IsTrueOrFaulty made.clock.within.us) (fault_early_us made.clock.within.us made.clock.drift_us) (fault_late_us made.clock.within.us made.clock.drift_us) t edges (faulty_lines made plain) start lives none time
