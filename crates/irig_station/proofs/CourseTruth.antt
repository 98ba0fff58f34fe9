-- What a device tells and stamps in its course is true, if its audit is kept beside what generators
-- sent so far.
use Rattle.std.proofs.Common.{◌≡◌, ℕ, ◌+◌, ◌*◌, ◌/◌, ◌%◌, ◌<◌, ◌≤◌, true, List, [], ◌∷◌, Option, Some, None, sym, arith, subst}
use Rattle.std.specs.Prelude.{All, nat_le}
use Rattle.std.proofs.lemmas.Bool.{leb-true}
use Rattle.std.proofs.lemmas.List.Elements.{All-nil}
use Rattle.irig_frame.specs.declared.symbol.Symbol.{Symbol}
use Rattle.irig_time.specs.declared.rules.Rules.{Rules}
use Rattle.irig_time.specs.Timelines.{TimelineValue}
use Rattle.irig_lines.specs.Steps.{no_lines}
use Rattle.irig_timekeeper.specs.declared.stamp.Stamp.{Stamp}
use Rattle.irig_timekeeper.specs.Life.Call.{Tick}
use Rattle.irig_timekeeper.specs.Lived.{made_with}
use Rattle.irig_lives.specs.Decided.{in_order}
use Rattle.irig_lives.proofs.DecidedLaws.{both}
use Rattle.irig_witness.specs.Promise.{IsStampedInTime, lines_of}
use Rattle.irig_witness.proofs.VouchLaws.{device, in_time, stamps}
use Rattle.irig_simulated.specs.Kinds.{Kind, count}
use Rattle.irig_simulated.specs.Courses.{Course, keeps_so_far, may_stamp, passed, stamp_said, ticked}
use Rattle.irig_simulated.specs.Truth.{IsToldOfItsEdge}
use Rattle.irig_simulated.proofs.CourseLaws.{are_new, goes_passed, goes_ticked}
use Rattle.irig_station.specs.SentSeconds.{SentSecond, frames_by, symbol_by}
use Rattle.irig_station.specs.StationPromise.{IsStampOfTime}
use Rattle.irig_station.proofs.SetupLaws.{IsTrueKind}

module _ (t : TimelineValue) (rules : Rules) (k : Kind) (is : IsTrueKind t rules k) (seconds : List (List SentSecond)) where
  abbrev so_far : ℕ → ℕ → Symbol
  so_far = symbol_by rules t seconds

  abbrev own : ℕ → ℕ → Symbol
  own = symbol_by k.made.rules t seconds

  own_rules : (x : Course) → keeps_so_far k so_far x ≡ true → keeps_so_far k own x ≡ true
  own_rules x kept = subst (λ (r : Rules). keeps_so_far k (symbol_by r t seconds) x ≡ true) (sym is.rules_are) kept

  abbrev AllTrue : Course → Type 0
  AllTrue x = All (IsToldOfItsEdge t) x.told

  nothing_told : (x : Course) → x.told ≡ [] → AllTrue x
  nothing_told x none = rw none (All-nil (IsToldOfItsEdge t))

  pub passed_true : (signal : (line element : ℕ) → Option Symbol) (stop : ℕ) (x : Course) → x.told ≡ [] → keeps_so_far k so_far (passed k signal stop x) ≡ true → AllTrue (passed k signal stop x)
  passed_true signal stop x none kept = (goes_passed t (frames_by seconds) k is.setup signal stop x (own_rules (passed k signal stop x) kept)).1 (nothing_told x none)

  pub ticked_true : (x : Course) → x.told ≡ [] → keeps_so_far k so_far (ticked k x) ≡ true → AllTrue (ticked k x)
  ticked_true x none kept = (goes_ticked t (frames_by seconds) k is.setup x (own_rules (ticked k x) kept)).1 (nothing_told x none)

  stamped_true : (x : Course) (time : ℕ) (stamp : Stamp) → may_stamp k so_far x time ≡ true → stamp_said k x time ≡ Some stamp → IsStampedInTime t k.made.clock.drift_us (time / 1000000) (time % 1000000) stamp
  stamped_true x time stamp may said =
      let a = both (keeps_so_far k so_far x) _ may in
      let b = both (in_order x.start k.made.clock.redundancy (Tick (count k x.now) ∷ x.calls)) _ a.1 in
      let c = both (nat_le (count k time) (count k x.now)) _ b.1 in
      let whole : time / 1000000 * 1000000 + time % 1000000 ≡ time = omega arith in
      let small : time % 1000000 < 1000000 = omega arith in
      let made = made_with k.made no_lines are_new in
      let x' = lines_of k.made.rules t (frames_by seconds) k.first k.rate in
      let past : count k time ≤ count k x.now = leb-true _ _ c.0 in
      let young : count k x.now ≤ count k time + 1800000000 = leb-true _ _ c.1 in
      let truly = stamps t x' made x.start (device t (frames_by seconds) k.first k.rate k.made.rules k.made.clock k.made.table is.setup) (count k time) (count k x.now) x.calls stamp (own_rules x a.0) b.0 past young said in
      in_time t k.first k.rate (time / 1000000) (time % 1000000) stamp k.made.clock k.made.table is.setup small (rw whole truly)

  pub stamp_true : (x : Course) (time : ℕ) (said : Option Stamp) → may_stamp k so_far x time ≡ true → stamp_said k x time ≡ said → IsStampOfTime t k.made.clock.drift_us time said
  stamp_true x time None may e = tt
  stamp_true x time (Some stamp) may e = stamped_true x time stamp may e
