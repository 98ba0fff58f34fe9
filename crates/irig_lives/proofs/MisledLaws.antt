-- Whatever its rules, a device is misled by more than f lines that send the time of a clock a second
-- behind: by its own laws it announces what that clock says.
use Rattle.irig_hold.proofs.HoldLaws.{claimed}
use Rattle.irig_time.proofs.TimeLaws.{one_second}
use Rattle.irig_port.specs.Limits.{IsWithin}
use Rattle.std.proofs.Common.{ℕ, ◌+◌, ◌*◌, ◌<◌, ◌≤◌, [], ◌∷◌, refl, ap, subst, arith, inl, Some, sym}
use Rattle.irig_time.specs.declared.second.UtcSecond.{UtcSecond}
use Rattle.irig_time.specs.declared.rules.Rules.{Rules}
use Rattle.irig_time.specs.Timelines.{TimelineValue, times, IsSecond}
use Rattle.irig_time.specs.TimelineFaults.{IsTimeline}
use Rattle.irig_time.specs.Tables.{TableValue, table}
use Rattle.irig_hold.specs.Truth.{IsTrueTable}
use Rattle.irig_vote.specs.Vote.{f_of}
use Rattle.irig_reader.specs.declared.report.Report.{Report}
use Rattle.irig_reader.specs.Rules.{IsReaderRules}
use Rattle.irig_lines.specs.declared.setup.ClockRules.{ClockRules}
use Rattle.irig_lines.specs.Lines.{IsTrueLately}
use Rattle.irig_timekeeper.specs.Truth.{IsDevice}
use Rattle.irig_timekeeper.specs.Life.{Made, AreTrueAtTicks}
use Rattle.irig_timekeeper.specs.Life.Call.{Tick}
use Rattle.irig_lives.specs.Misled.{IsMisled}
use Rattle.irig_timekeeper.proofs.LifeLaws.{truth_before}
use Rattle.irig_lives.proofs.SentPulses.{edges, steady}
use Rattle.irig_lives.proofs.SentSeconds as sent

-- ---- two timelines, a second apart

abbrev at : ℕ → UtcSecond
at sod = record { day = 6205; sod = sod }

abbrev from : ℕ → TimelineValue
from sod = times (at sod) []

-- what the lines tell, and what is true
abbrev lie : TimelineValue
lie = from 43200

abbrev pub truth : TimelineValue
truth = from 43201

lie_is : IsTimeline lie
lie_is = record { sound = refl }

truth_is : IsTimeline truth
truth_is = record { sound = refl }

-- no second is the m-th of both
apart : (m : ℕ) (u : UtcSecond) → IsSecond lie m u → ¬ IsSecond truth m u
apart m u one other = omega (arith, one.sum, other.sum)

abbrev no_table : TableValue
no_table = table 0 []

pub true_table : (sod : ℕ) → IsTrueTable (from sod) no_table
true_table sod = record { leaps = λ day end low high. absurd (omega (arith, low, high)) }

module _ (rules : Rules) (clock : ClockRules) (range : IsReaderRules clock.reader_rules) (few : clock.drift_us ≤ 100) (some : 1 ≤ clock.limits.limits.poor_from) (late : clock.limits.limits.not_before ≤ 6205) where
  pub device : IsDevice lie clock.drift_us edges clock.reader_rules no_table
  device = record { steady = steady clock.drift_us few; sound = lie_is; knows = inl (true_table 43200) }

  abbrev pub made : Made
  made = sent.made rules clock range no_table lie device

  second : (f : ℕ) → f < 100 → IsSecond lie f (at (43200 + f))
  second f low = record { from = omega arith; to = omega arith; sod = omega (arith, low); sum = omega arith }

  carried : (f : ℕ) → f < clock.reader_rules.lock_after + 2 → sent.Carried rules lie f (sent.frame rules lie lie_is f)
  carried f low = sent.carried rules lie lie_is f (at (43200 + f)) (second f (omega (arith, low, range.lock_after.1)))

  votes : (f : ℕ) (low : f < clock.reader_rules.lock_after + 2) → IsWithin (Some clock.limits.limits) (sent.frame rules lie lie_is f) (carried f low).0
  unfolding carried
  votes f low =
      let is = second f (omega (arith, low, range.lock_after.1)) in
      let own = carried f low in
      let same = ap (λ (u : UtcSecond). u.day) (one_second lie f own.0.at (at (43200 + f)) (claimed lie f own.0 own.1) is) in
      sent.is_within rules lie lie_is clock.limits.limits f (at (43200 + f)) is some (subst (λ (d : ℕ). clock.limits.limits.not_before ≤ d) (sym same) late)

  pub lines_mislead : IsMisled truth made (f_of clock.redundancy + 1)
  lines_mislead =
      let u : UtcSecond = at (43200 + (1 + 1 + clock.reader_rules.lock_after)) in
      let told = sent.told rules clock range no_table lie device (true_table 43200) (sent.frame rules lie lie_is) carried votes u (second (1 + 1 + clock.reader_rules.lock_after) (omega (arith, range.lock_after.1))) in
      let a = told.a in
      let others = sent.others_true rules clock range no_table lie device (true_table 43200) (sent.frame rules lie lie_is) carried votes truth in
      record {
        edges = edges;
        steady = steady clock.drift_us few;
        sound = truth_is;
        listed = refl;
        learns = sent.never_wanders clock;
        start = 9999000;
        calls = a.earlier;
        now = a.now;
        order = told.order;
        truth = truth_before (IsTrueLately clock.within.us rules truth edges) (f_of clock.redundancy + 1) a.later (Tick a.now ∷ a.earlier) (subst (AreTrueAtTicks (IsTrueLately clock.within.us rules truth edges) (f_of clock.redundancy + 1)) a.are others);
        beat = a.beat;
        answer = a.answer;
        u = u;
        says = ap (λ (r : Report). r.announce) a.says;
        m = told.m;
        edge = told.edge;
        told = told.at;
        near = told.near;
        untrue = apart told.m u told.second;
      }
