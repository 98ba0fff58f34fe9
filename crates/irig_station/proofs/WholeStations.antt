-- A second comes whole to a device of a station if more than f generators send in it what true lines have, and
-- that claims something, over cables left in that are at most 448 us late. If enough seconds do, it announces.
use Rattle.std.proofs.Common.{append-nil, ◌≡◌, ◌∙◌, ℕ, zero, suc, ◌+◌, ◌-◌, ◌*◌, ◌<◌, ◌≤◌, Bool, true, List, [], ◌∷◌, ◌++◌, drop, get_or, length, length-append, Option, Some, None, refl, sym, ap, arith, inl, inr, subst}
use Rattle.std.specs.Prelude.{count_by, slice_get}
use Rattle.std.specs.List.{range_with_len}
use Rattle.std.proofs.Math.ListN.{get_or-append}
use Rattle.std.proofs.Math.Seq.{get_or-append_seam}
use Rattle.std.proofs.lemmas.Bool.{cases_lt}
use Rattle.std.proofs.lemmas.Option.{slice_get_read}
use Rattle.irig_frame.specs.declared.symbol.Symbol.{Symbol}
use Rattle.irig_sync.specs.Lines.{StandAt}
use Rattle.irig_time.specs.declared.claim.Claim.{Claim}
use Rattle.irig_time.specs.declared.rules.Rules.{Rules}
use Rattle.irig_time.specs.declared.second.UtcSecond.{UtcSecond}
use Rattle.irig_time.specs.Timelines.{IsSecond, IsTrueClaim, TimelineValue}
use Rattle.irig_port.specs.declared.limits.Limits.{Limits}
use Rattle.irig_port.specs.declared.told.Told.TheVariants as tells
use Rattle.irig_port.specs.Limits.{told_within}
use Rattle.irig_port.proofs.CarriesLaws.{carries_is_told}
use Rattle.irig_port.proofs.LimitLaws.{claim_within}
use Rattle.irig_lines.specs.Lines.{IsLineOf}
use Rattle.irig_vote.specs.Vote.{f_of}
use Rattle.irig_timekeeper.specs.Announcing.{ComesWhole, IsWhole}
use Rattle.irig_timekeeper.specs.Life.{Call, last_tick, pulses_on}
use Rattle.irig_timekeeper.specs.Life.Call.{Hear, Tick}
use Rattle.irig_timekeeper.specs.Loops.{latest}
use Rattle.irig_timekeeper.specs.Truth.{FollowsTruth}
use Rattle.irig_timekeeper.proofs.WaitLoops.{latest_upto}
use Rattle.irig_timekeeper.specs.Lived.{keeping_after}
use Rattle.irig_wires.specs.Wires.{late_at}
use Rattle.irig_wires.proofs.OscillatorLaws.{at_edges, monotone}
use Rattle.irig_witness.proofs.FrameLaws.{true_line_is}
use Rattle.irig_simulated.specs.Kinds.{Kind, MovesOn, count, edges_by_kind}
use Rattle.irig_simulated.specs.Courses.{Course}
use Rattle.irig_simulated.specs.Doings.{AreCounted, IsTickedInTime}
use Rattle.irig_simulated.proofs.LoopCourses.{on_loop}
use Rattle.irig_simulated.specs.Setups.{DevicePlan}
use Rattle.irig_simulated.specs.QuietLines.{IsAboutRight, latest_us}
use Rattle.irig_station.specs.declared.event.Event.{Event}
use Rattle.irig_station.specs.StationSetups.{IsStationSetup, StationSetup, kind_if, kind_of_device, redundancy_of_station}
use Rattle.irig_station.specs.SentSeconds.{frames_by, signal_by}
use Rattle.irig_station.specs.StationStandings.{late_of, symbols_so_far}
use Rattle.irig_station.specs.StationPlay.{audit_of_station, standing_after}
use Rattle.irig_station.specs.StationPromise.{AreWholeInARow, IsAnnounced}
use Rattle.irig_station.specs.declared.audit.Audit.TheVariants.{Kept}
use Rattle.irig_station.proofs.AnnounceLaws.{moves_in_time, stands}
use Rattle.irig_station.proofs.KeptDevices.{kept_announces}
use Rattle.irig_station.proofs.CarriedLaws.{told_all}
use Rattle.irig_station.proofs.EndLaws.{all_end}
use Rattle.irig_station.proofs.LeftInLaws.{AllLeaveIn, left_in}
use Rattle.irig_station.proofs.WholeLaws.{comes_whole, symbols_from}

-- ---- what a true line tells is true

so_many : (line : ℕ → Symbol) (m n : ℕ) → length (symbols_from line m n) ≡ n
so_many line m zero = refl
so_many line m (suc n) = (let rest = so_many line m n in omega (arith, length-append (symbols_from line m n) (line (m + n) ∷ []), rest))

there_is : (line : ℕ → Symbol) (m n i : ℕ) (d : Symbol) → i < n → get_or (symbols_from line m n) i d ≡ line (m + i)
there_is line m zero i d less = absurd (omega (arith, less))
there_is line m (suc n) i d less = elim (cases_lt i n) [
  | inl before ↦ get_or-append (symbols_from line m n) (line (m + n) ∷ []) d i (let count = so_many line m n in omega (arith, before, count)) ∙ there_is line m n i d before
  | inr from ↦
      let last : i ≡ length (symbols_from line m n) = (let count = so_many line m n in omega (arith, less, from, count)) in
      let place : n ≡ i = omega (arith, less, from) in
      ap (λ (j : ℕ). get_or (symbols_from line m n ++ line (m + n) ∷ []) j d) last ∙ get_or-append_seam (symbols_from line m n) (line (m + n)) [] d ∙ ap (λ (j : ℕ). line (m + j)) place
]

stand : (line : ℕ → Symbol) (m : ℕ) → StandAt line m (symbols_from line m 100)
stand line m i less = slice_get_read (symbols_from line m 100) 100 i (line (m + i)) (sym (so_many line m 100)) less (sym (there_is line m 100 i (line (m + i)) less))

claims_truly : (rules : Rules) (t : TimelineValue) (limits : Limits) (line : ℕ → Symbol) (f : ℕ) (claim : Claim) → IsLineOf rules t line → told_within (Some limits) rules (symbols_from line (100 * f) 100) ≡ tells.Claim claim → IsTrueClaim t (f + 1) claim
claims_truly rules t limits line f claim is told =
    let s = symbols_from line (100 * f) 100 in
    is.truth f s claim (stand line (100 * f)) ((carries_is_told rules s claim).0 ((claim_within (Some limits) rules s claim).0 told).0)

-- ---- a device of a station

same_rules : (s : StationSetup) (o : Option DevicePlan) → (kind_if s.rules (redundancy_of_station s) o).made.rules ≡ s.rules
same_rules s None = refl
same_rules s (Some d) = refl

as_exact : (s : StationSetup) (o : Option DevicePlan) → 450 ≤ (kind_if s.rules (redundancy_of_station s) o).made.clock.within.us
as_exact s None = omega arith
as_exact s (Some d) = omega arith

as_wide : (s : StationSetup) (o : Option DevicePlan) → (kind_if s.rules (redundancy_of_station s) o).made.clock.within.us ≤ 8000
as_wide s None = omega arith
as_wide s (Some d) = omega arith

-- what a generator sent so far, and what its line has if it is true
abbrev pub sent_so_far : StationSetup → List Event → (g element : ℕ) → Option Symbol
sent_so_far s ev g = signal_by (standing_after s ev).seconds g

abbrev pub true_so_far : StationSetup → List Event → (g element : ℕ) → Symbol
true_so_far s ev g = symbols_so_far s (standing_after s ev) g

-- over a cable that was left in to device r a generator sent in the f-th second what a true line has, and
-- that claims something that has a vote
pub record SendsWhole (s : StationSetup) (ev : List Event) (r f g : ℕ) : Type 0 where
  pub late : late_at (late_of (slice_get s.devices r)) g ≤ latest_us
  pub left : AllLeaveIn g r ev
  pub sends : (j : ℕ) → j < 100 → sent_so_far s ev g (100 * f + j) ≡ Some (true_so_far s ev g (100 * f + j))
  pub claim : Claim
  pub tells : told_within (Some (kind_of_device s r).made.clock.limits.limits) s.rules (symbols_from (true_so_far s ev g) (100 * f) 100) ≡ tells.Claim claim

module _ (s : StationSetup) (ev : List Event) (r : ℕ) (moves : MovesOn (kind_of_device s r)) (is : IsAboutRight (kind_of_device s r).rate) where
  abbrev kind : Kind
  kind = kind_of_device s r

  line_whole : (f g : ℕ) → g < 5 → 1000000 * (f + 1) < ((standing_after s ev).courses r).now → SendsWhole s ev r f g
      → (more : ℕ) × IsWhole kind.made.clock kind.made.rules s.times (edges_by_kind kind) (f + 1) (drop more (pulses_on g ((standing_after s ev).courses r).calls))
  line_whole f g low past sends =
      let x = standing_after s ev in
      let sent = sent_so_far s ev g in
      let line = true_so_far s ev g in
      let late = late_at (late_of (slice_get s.devices r)) g in
      let true_line : IsLineOf s.rules s.times line = true_line_is s.rules s.times (frames_by x.seconds g) in
      let slow : kind.rate ≤ 1001000 = (let most = is.most in omega (arith, most)) in
      let brings = left_in s r g low sends.late sent moves slow ev sends.left (λ e less. refl) in
      let told = told_all kind slow g low late sends.late sent (x.courses r) brings (x.courses r).now (omega arith) in
      let few = told.2 in
      let rules = same_rules s (slice_get s.devices r) in
      subst (λ (rules : Rules). (more : ℕ) × IsWhole kind.made.clock rules s.times (edges_by_kind kind) (f + 1) (drop more (pulses_on g (x.courses r).calls))) (sym rules)
      (comes_whole kind is late sends.late sent line true_line.right kind.made.clock s.rules s.times f sends.claim (as_exact s (slice_get s.devices r)) (as_wide s (slice_get s.devices r)) sends.sends (λ x some on. all_end s ev g (100 * f - 1) x (omega (arith, some)) on) sends.tells
      (claims_truly s.rules s.times kind.made.clock.limits.limits line f sends.claim true_line sends.tells) told.0 (pulses_on g (x.courses r).calls) told.1 (omega (arith, past, few)))

  -- the second before the (f + 1)-th edge comes whole
  pub second_whole : (f : ℕ) (whole : ℕ → Bool) → f_of kind.made.clock.redundancy < count_by whole (range_with_len 0 5) → ((g : ℕ) → g < 5 → whole g ≡ true → SendsWhole s ev r f g)
      → 1000000 * (f + 1) < ((standing_after s ev).courses r).now → ComesWhole s.times (edges_by_kind kind) (keeping_after kind.made []) (f + 1) ((standing_after s ev).courses r).calls
  second_whole f whole many sends past = record {
    whole = whole;
    many = many;
    frames = λ g low on. line_whole f g low past (sends g low on);
  }

-- ---- so the device announces

last_by : (start : ℕ) (calls : List Call) → last_tick start calls ≤ latest start calls
last_by start [] = omega arith
last_by start (Hear port rise width ∷ calls) = (let more = latest_upto start (Hear port rise width) calls in let rest = last_by start calls in omega (arith, more.0, rest))
last_by start (Tick now ∷ calls) = (let more = latest_upto start (Tick now) calls in omega (arith, more.1))

edges_rise : (k : Kind) (m n : ℕ) → m ≤ n → edges_by_kind k m ≤ edges_by_kind k n
edges_rise k m n less =
    let one = at_edges k.first k.rate m in
    let two = at_edges k.first k.rate n in
    let more = monotone k.first k.rate (m * 1000000) (n * 1000000) (omega (arith, less)) in
    omega (arith, one, two, more)

-- as many seconds as it locks after, and two more, were sent so, from the first on, and the audit is kept.
-- Which generators sent them may differ from one second to the next
module _ (s : StationSetup) (ev : List Event) (r : ℕ) (setup : IsStationSetup s) (in_time : IsTickedInTime (kind_of_device s r)) (about : IsAboutRight (kind_of_device s r).rate) where
  abbrev own : Kind
  own = kind_of_device s r

  abbrev locks : ℕ
  locks = own.made.clock.reader_rules.lock_after

  abbrev course : Course
  course = (standing_after s ev).courses r

  -- a tick shows by the counter that so much time has passed
  has_passed : (m : ℕ) → edges_by_kind own m + 3000 ≤ last_tick course.start course.calls → 1000000 * m < course.now
  has_passed m ticked =
      let on = stands s r ev in
      let moves = moves_in_time s setup r in_time in
      let by : latest course.start course.calls ≤ count own course.now = subst (λ (c : Course). latest c.start c.calls ≤ count own c.now) (sym on.course) (on_loop own moves.0 moves.1 (late_of (slice_get s.devices r)) on.doings).by in
      let last = last_by course.start course.calls in
      elim (cases_lt (1000000 * m) course.now) [
        | inl past ↦ past
        | inr early ↦ absurd (
            let edge = at_edges own.first own.rate m in
            let more = monotone own.first own.rate course.now (m * 1000000) (omega (arith, early)) in
            omega (arith, ticked, last, by, edge, more)
            )
      ]

  module _ (whole : (f g : ℕ) → Bool) (many : (f : ℕ) → f < locks + 2 → f_of own.made.clock.redundancy < count_by (whole f) (range_with_len 0 5)) (sends : (f g : ℕ) → f < locks + 2 → g < 5 → whole f g ≡ true → SendsWhole s ev r f g)
      (left : (g : ℕ) × (g < 5) × (whole 0 g ≡ true)) (ticked : edges_by_kind own (2 + locks) + 3000 ≤ last_tick course.start course.calls) where
    started : course.start ≡ count own 0
    started =
        let on = sends 0 left.0 (omega arith) left.1 left.2 in
        let moves = moves_in_time s setup r in_time in
        (left_in s r left.0 left.1 on.late (sent_so_far s ev left.0) moves.0 moves.1 ev on.left (λ e less. refl)).start

    comes : (f : ℕ) → f < locks + 2 → ComesWhole s.times (edges_by_kind own) (keeping_after own.made []) (f + 1) course.calls
    comes f few =
        let rise = edges_rise own (f + 1) (2 + locks) (omega (arith, few)) in
        second_whole s ev r (moves_in_time s setup r in_time).0 about f (whole f) (many f few) (λ g low on. sends f g few low on) (has_passed (f + 1) (omega (arith, rise, ticked)))

    in_a_row : AreWholeInARow s r course.start 1 course.calls []
    in_a_row =
        let none : course.calls ++ [] ≡ course.calls = append-nil course.calls in
        let start = started in
        let rate = about.least in
        record {
          some = omega arith;
          told = course.start;
          risen = λ line. tt;
          ticked = omega arith;
          past = omega (arith, start, rate);
          whole = λ n few.
              (let next : n + 1 ≡ 1 + n = omega arith in
              subst (ComesWhole s.times (edges_by_kind own) (keeping_after own.made []) (1 + n)) (sym none) (subst (λ (m : ℕ). ComesWhole s.times (edges_by_kind own) (keeping_after own.made []) m course.calls) next (comes n few)));
          last = subst (λ (calls : List Call). edges_by_kind own (2 + locks) + 3000 ≤ last_tick course.start calls) (sym none) ticked;
        }

    pub true_announces : (u : UtcSecond) → audit_of_station s ev ≡ Kept → AreCounted course.calls → FollowsTruth s.times own.made.clock.prefers_frames own.made.table → IsSecond s.times (2 + locks) u → IsAnnounced s r (2 + locks) u (standing_after s ev)
    true_announces u kept counted follows second = kept_announces s ev r 1 course.calls [] u setup kept in_time (sym (append-nil course.calls)) counted in_a_row follows second
