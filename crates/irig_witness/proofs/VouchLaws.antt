-- What is known of a device whose audit is kept.
use Rattle.std.proofs.Common.{◌≡◌, ℕ, ◌+◌, ◌*◌, ◌%◌, ◌^◌, ◌<◌, ◌≤◌, ◌∷◌, List, Some, true, arith}
use Rattle.irig_frame.specs.declared.symbol.Symbol.{Symbol}
use Rattle.irig_time.specs.declared.rules.Rules.{Rules}
use Rattle.irig_time.specs.declared.second.UtcSecond.{UtcSecond}
use Rattle.irig_time.specs.Tables.{TableValue}
use Rattle.irig_time.specs.Timelines.{TimelineValue}
use Rattle.irig_vote.specs.Vote.{f_of}
use Rattle.irig_lines.specs.declared.setup.ClockRules.{ClockRules}
use Rattle.irig_lines.specs.Lines.{IsTrueLately}
use Rattle.irig_lines.proofs.LineLaws.{true_by_any}
use Rattle.irig_timekeeper.specs.declared.clock.Beat.{Beat}
use Rattle.irig_timekeeper.specs.declared.stamp.Stamp.{Stamp}
use Rattle.irig_timekeeper.specs.Keeping.{answer_at, stamp_at}
use Rattle.irig_timekeeper.specs.Truth.{IsStampedTruly, IsToldInHoldover}
use Rattle.irig_timekeeper.specs.Life.{Call, Made, LivesTruly, life_of}
use Rattle.irig_timekeeper.specs.Life.Call.{Tick}
use Rattle.irig_timekeeper.specs.Lived.{MadeOf, LivesWell}
use Rattle.irig_timekeeper.proofs.LearnLaws.{steps_truly}
use Rattle.irig_timekeeper.proofs.LifeLaws.{TellAlwaysTruly, device_true}
use Rattle.irig_timekeeper.proofs.StampLaws.{stamped, near_instant}
use Rattle.irig_lives.specs.Decided.{in_order}
use Rattle.irig_lives.proofs.DecidedLaws.{both, order_is}
use Rattle.irig_wires.specs.Oscillator.{counter_at, edges_by}
use Rattle.irig_witness.specs.Witness.{TrueLines, is_kept}
use Rattle.irig_witness.specs.Promise.{IsStampedInTime, IsTrueDevice, IsTrueSetup, lines_of}
use Rattle.irig_witness.proofs.CallLaws.{true_at_ticks}
use Rattle.irig_witness.proofs.FrameLaws.{true_line_is}
use Rattle.irig_witness.proofs.OscillatorLaws.{instant, never_wanders, quartz}

module _ (t : TimelineValue) (x : TrueLines) (made : Made) (start : ℕ) (is : IsTrueDevice t made.rules made.clock made.table x) where
  pub lives : (calls : List Call) → is_kept made.clock x start calls ≡ true → LivesTruly (IsTrueLately made.clock.within.us) t x.edges made start calls
  lives calls kept =
      let e = both (in_order start made.clock.redundancy calls) _ kept in
      record {
        is = is.is;
        order = order_is start made.clock.redundancy calls e.0;
        learns = is.learns;
        truth = true_at_ticks made.clock.within.us x made.rules t is.lines (f_of made.clock.redundancy) calls e.1;
      }

  truly : TellAlwaysTruly (IsTrueLately made.clock.within.us made.rules t x.edges) made.clock made.rules t x.edges 0 0
  truly now half end pulses claim line frame soon = true_by_any made.clock made.rules t made.clock.drift_us x.edges half now end pulses claim is.is.steady line frame soon

  pub tells : (now : ℕ) (calls : List Call) (beat : Beat) (u : UtcSecond) → is_kept made.clock x start (Tick now ∷ calls) ≡ true
      → answer_at (life_of made calls) (now % 2 ^ 32) ≡ Some beat → beat.report.announce ≡ Some u
      → IsToldInHoldover t x.edges 0 0 made.clock now beat u
  tells now calls beat u kept answer says =
      let l = lives (Tick now ∷ calls) kept in
      device_true made.rules made.clock made.table made.lines start made.fresh (IsTrueLately made.clock.within.us made.rules t x.edges) t x.edges 0 0 is.is (omega arith) truly calls now beat u l.order l.truth (steps_truly t x.edges made start (Tick now ∷ calls) l) answer says

  pub stamps : (time now : ℕ) (calls : List Call) (stamp : Stamp) → is_kept made.clock x start calls ≡ true → in_order start made.clock.redundancy (Tick now ∷ calls) ≡ true
      → time ≤ now → now ≤ time + 1800000000 → stamp_at (life_of made calls) (time % 2 ^ 32) ≡ Some stamp → IsStampedTruly t x.edges 0 time stamp
  stamps time now calls stamp kept order past young e =
      let l = lives calls kept in
      stamped made.rules made.clock made.table made.lines start made.fresh t x.edges 0 0 0 is.is (omega arith) (omega arith) (IsTrueLately made.clock.within.us made.rules t x.edges) (omega arith) truly
      calls time now (order_is start made.clock.redundancy (Tick now ∷ calls) order) l.truth (steps_truly t x.edges made start calls l) past young stamp e

-- a device of a constant rate, beside what its generators send
pub device : (t : TimelineValue) (sent : ℕ → ℕ → List (List Symbol)) (first rate : ℕ) (rules : Rules) (c : ClockRules) (table : TableValue) → IsTrueSetup t rate c table
    → IsTrueDevice t rules c table (lines_of rules t sent first rate)
device t sent first rate rules c table is = record {
  is = record { steady = quartz c.drift_us first rate is.steady; sound = is.times; knows = is.knows };
  learns = never_wanders c first rate;
  lines = λ line. true_line_is rules t (sent line);
}

-- what is stamped truly by its counter is so by true time
pub in_time : (t : TimelineValue) (first rate n tau : ℕ) (stamp : Stamp) (c : ClockRules) (table : TableValue) → IsTrueSetup t rate c table → tau < 1000000
    → IsStampedTruly t (edges_by first rate) 0 (counter_at first rate (n * 1000000 + tau)) stamp → IsStampedInTime t c.drift_us n tau stamp
in_time t first rate n tau stamp c table is small s =
    let p = near_instant t c.drift_us (edges_by first rate) (quartz c.drift_us first rate is.steady) n tau (counter_at first rate (n * 1000000 + tau)) (instant c.drift_us first rate is.steady n tau small) stamp s in
    record { m = s.m; truth = s.truth; early = p.0; late = p.1 }

-- the same of a device of which its caller knows what it was made of
pub lives_well : (t : TimelineValue) (x : TrueLines) (made : MadeOf) (start : ℕ) (calls : List Call) → IsTrueDevice t made.rules made.clock made.table x → is_kept made.clock x start calls ≡ true
    → LivesWell (IsTrueLately made.clock.within.us) t x.edges made start calls
lives_well t x made start calls is kept =
    let e = both (in_order start made.clock.redundancy calls) _ kept in
    record {
      is = is.is;
      order = order_is start made.clock.redundancy calls e.0;
      learns = is.learns;
      truth = true_at_ticks made.clock.within.us x made.rules t is.lines (f_of made.clock.redundancy) calls e.1;
    }
