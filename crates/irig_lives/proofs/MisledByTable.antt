-- Whatever its rules, a device that holds over for 58 seconds or more is misled by its table at the end
-- of a month without a leap. f + 1 lines send true frames until it locks at 23:59:01, and then all are
-- dark. The table says that 23:59:59 is deleted.
use Rattle.irig_port.specs.Limits.{IsWithin}
use Rattle.std.proofs.Common.{◌≡◌, ◌∙◌, ℕ, ◌+◌, ◌-◌, ◌*◌, ◌%◌, ◌^◌, ◌<◌, ◌≤◌, List, [], ◌∷◌, Option, Some, None, refl, sym, ap, subst, arith, inl, inr}
use Rattle.std.specs.Prelude.{nat_lt, cond}
use Rattle.std.proofs.lemmas.Bool.{lt-ltb, le-ltb, cases_lt}
use Rattle.irig_timekeeper.specs.Clock.{age_of, rules_on}
use Rattle.irig_lines.specs.declared.pace.Pace.{Pace}
use Rattle.irig_sync.specs.Lines.{Pulse, IsAfter}
use Rattle.irig_time.specs.declared.second.UtcSecond.{UtcSecond}
use Rattle.irig_time.specs.declared.rules.Rules.{Rules}
use Rattle.irig_time.specs.declared.leap.Leap.{Leap}
use Rattle.irig_time.specs.declared.leap.Leap.TheVariants as leap
use Rattle.irig_time.specs.declared.mark.Mark.TheVariants.{Unspoken}
use Rattle.irig_time.specs.Timelines.{TimelineValue, times, IsSecond, true_mark}
use Rattle.irig_time.specs.TimelineFaults.{IsTimeline}
use Rattle.irig_time.specs.Tables.{TableValue, table}
use Rattle.irig_time.proofs.StandardFacts.{known_first_end}
use Rattle.irig_time.proofs.TimeLaws.{one_second}
use Rattle.irig_hold.specs.Steps.{HoldValue}
use Rattle.irig_hold.specs.Truth.{IsOnTime}
use Rattle.irig_hold.proofs.HoldLaws.{claimed}
use Rattle.irig_vote.specs.Vote.{f_of}
use Rattle.irig_reader.specs.declared.rule.State.{State}
use Rattle.irig_reader.specs.declared.rule.State.TheVariants.{Idle, Locked}
use Rattle.irig_reader.specs.Rules.{IsReaderRules}
use Rattle.irig_lines.specs.declared.setup.ClockRules.{ClockRules}
use Rattle.irig_lines.specs.Counting.{edges_own}
use Rattle.irig_lines.specs.Lines.{IsTrueLately}
use Rattle.irig_timekeeper.proofs.LearnLaws.{IsPlain, plain_steps, stays_plain}
use Rattle.irig_timekeeper.proofs.SoundLaws.{none_sound}
use Rattle.irig_timekeeper.specs.Rule.{step_behind}
use Rattle.irig_timekeeper.specs.Keeping.{Keeping}
use Rattle.irig_timekeeper.specs.Truth.{IsDevice, IsEdgeAt, IsOnTrack, StandsAt}
use Rattle.irig_timekeeper.specs.Life.{Call, Made, pulses_on, AreInOrder, AreTrueLately, AreTrueAtTicks, after_calls, device_of}
use Rattle.irig_timekeeper.specs.Life.Call.{Tick}
use Rattle.irig_lives.specs.Misled.{IsMisled}
use Rattle.irig_lines.proofs.LineLaws.{true_by_any}
use Rattle.irig_timekeeper.proofs.StrayLaws.{never_doubts}
use Rattle.irig_timekeeper.proofs.LifeLaws.{truth_before, begins, lines_after, ticks}
use Rattle.irig_lives.proofs.LifeFacts.{new_lines, are_new}
use Rattle.irig_lives.proofs.LockedLaws.{left_by, says_alone, IsAloneAt, many_alone}
use Rattle.irig_lives.proofs.SentPulses.{edges, steady}
use Rattle.irig_lives.proofs.SentSeconds as sent
use Rattle.irig_timekeeper.proofs.TimeLaws.{own_come, own_count, own_edge_at}

abbrev at : ℕ → UtcSecond
at sod = record { day = 30; sod = sod }

-- 2000-02-01T00:00:00Z
abbrev new_month : UtcSecond
new_month = record { day = 31; sod = 0 }

abbrev deletions : List (ℕ × Leap)
deletions = (30, leap.Delete) ∷ []

abbrev deletion : TableValue
deletion = table 30 deletions

-- ---- what was true, stays so

still_true : (within : ℕ) (rules : Rules) (t : TimelineValue) (now then : ℕ) (pulses : List Pulse) → now ≤ then → IsTrueLately within rules t edges now pulses → IsTrueLately within rules t edges then pulses
still_true within rules t now then pulses later is = record { line = is.line; next = is.next; is_line = is.is_line; are = sent.still_lately within is.line now then is.next later pulses is.are }

still_after : (ps : List Pulse) (now then : ℕ) → now ≤ then → IsAfter ps now → IsAfter ps then
still_after [] now then later after = tt
still_after (p ∷ ps) now then later after = omega (arith, later, after)

module _ (rules : Rules) (clock : ClockRules) (range : IsReaderRules clock.reader_rules) (few : clock.drift_us ≤ 100) (plain : clock.wander_ppb ≡ 0) (long : 58 ≤ clock.reader_rules.holdover) (some : 1 ≤ clock.limits.limits.poor_from) (late : clock.limits.limits.not_before ≤ 30) where
  abbrev locks : ℕ
  locks = clock.reader_rules.lock_after

  abbrev first : ℕ
  first = 86339 - locks

  fits : first + locks ≡ 86339
  fits = omega (arith, range.lock_after.1)

  -- what is true, and what the table says
  abbrev pub truth : TimelineValue
  truth = times (at first) []

  abbrev lie : TimelineValue
  lie = times (at first) deletions

  truth_is : IsTimeline truth
  truth_is = record { sound = rw (lt-ltb first 86400 (omega (arith, fits))) refl }

  lie_is : IsTimeline lie
  lie_is = record { sound = rw (known_first_end, lt-ltb first 86399 (omega (arith, fits, range.lock_after.0))) refl }

  pub device : IsDevice lie clock.drift_us edges clock.reader_rules deletion
  device = record { steady = steady clock.drift_us few; sound = lie_is; knows = inl (record { leaps = λ day end from to. refl }) }

  abbrev pub made : Made
  made = sent.made rules clock range deletion lie device

  -- both have the same seconds up to 23:59:58
  second : (f : ℕ) → f < locks + 60 → IsSecond lie f (at (first + f))
  second f low = record { from = omega arith; to = omega arith; sod = omega (arith, fits, low); sum = omega arith }

  true_second : (f : ℕ) → f < locks + 60 → IsSecond truth f (at (first + f))
  true_second f low = record { from = omega arith; to = omega arith; sod = omega (arith, fits, low); sum = omega arith }

  next_month : IsSecond lie (locks + 60) new_month
  next_month = record { from = omega arith; to = omega arith; sod = omega arith; sum = omega (arith, fits) }

  no_month : ¬ IsSecond truth (locks + 60) new_month
  no_month is = omega (arith, fits, is.sum)

  -- ---- the frames are true to both

  carried : (f : ℕ) → f < locks + 2 → sent.Carried rules lie f (sent.frame rules lie lie_is f)
  carried f low = sent.carried rules lie lie_is f (at (first + f)) (second f (omega (arith, low)))

  votes : (f : ℕ) (low : f < locks + 2) → IsWithin (Some clock.limits.limits) (sent.frame rules lie lie_is f) (carried f low).0
  unfolding carried
  votes f low =
      let is = second f (omega (arith, low)) in
      let own = carried f low in
      let same = ap (λ (u : UtcSecond). u.day) (one_second lie f own.0.at (at (first + f)) (claimed lie f own.0 own.1) is) in
      sent.is_within rules lie lie_is clock.limits.limits f (at (first + f)) is some (subst (λ (d : ℕ). clock.limits.limits.not_before ≤ d) (sym same) late)

  unmarked : (leaps : List (ℕ × Leap)) (f : ℕ) → f < locks + 2 → true_mark leaps (at (first + f)) ≡ Unspoken
  unmarked leaps f low = rw (known_first_end, lt-ltb (first + f) 86341 (omega (arith, low, fits))) refl

  carried_truth : (f : ℕ) → f < locks + 2 → sent.Carried rules truth f (sent.frame rules lie lie_is f)
  carried_truth f low =
      let own = carried f low in
      let is : own.0.at ≡ at (first + f) = one_second lie f own.0.at (at (first + f)) (claimed lie f own.0 own.1) (second f (omega (arith, low))) in (
        own.0,
        record {
          second = (f, refl, subst (IsSecond truth f) (sym is) (true_second f (omega (arith, low))));
          mark = own.1.mark ∙ ap (true_mark deletions) is ∙ unmarked deletions f low ∙ sym (unmarked [] f low) ∙ ap (true_mark []) (sym is);
        },
        own.2,
      )

  -- ---- 23:59:01 is announced

  abbrev told : sent.IsTold rules clock range deletion lie device (record { leaps = λ day end from to. refl }) (sent.frame rules lie lie_is) carried votes (at (first + (1 + 1 + locks)))
  told = sent.told rules clock range deletion lie device (record { leaps = λ day end from to. refl }) (sent.frame rules lie lie_is) carried votes (at (first + (1 + 1 + locks))) (second (1 + 1 + locks) (omega arith))

  abbrev n : ℕ
  n = 1 + 1 + locks

  abbrev new : Keeping
  new = device_of made

  learns_none : IsPlain new
  learns_none = record { off = plain; none = refl }

  -- where that leaves the device
  stands : (now : ℕ) (s : State) (voted : ℕ) (pace : Option Pace) (o : Option ℕ) (e : ℕ) (h : HoldValue) → o ≡ Some e → s ≡ Locked h → h.last ≡ at (first + n) → h.age ≡ 0 → IsOnTrack lie edges 0 0 clock.drift_us 0 deletion now s voted pace o → IsAloneAt lie n 0 s
  stands now s voted pace None e h edge is last age track = absurd cc
  stands now s voted pace (Some x) e h edge is last age (inl idle) = let both : Locked h ≡ Idle = sym is ∙ idle.0 in absurd cc
  stands now s voted pace (Some x) e h edge is last age (inr on) =
      let sure = subst (λ (y : State). StandsAt lie edges 0 0 clock.drift_us 0 deletion now y voted pace x on.0 on.1) is on.2 in
      let there = subst (IsSecond lie on.0) last sure.truth.on_time.last in
      let same : on.0 ≡ n = omega (arith, there.sum, (second n (omega arith)).sum) in
      record { h = h; is = is; on_time = subst (λ (w : ℕ). IsOnTime lie w h) same sure.truth.on_time; age_is = age }

  -- the seconds that it then tells by the table
  abbrev then_second : ℕ → UtcSecond
  then_second i = cond (nat_lt i 58) (at (first + (n + i))) new_month

  then_seconds : (i : ℕ) → i ≤ 58 → IsSecond lie (n + i) (then_second i)
  then_seconds i low = elim (cases_lt i 58) [
    | inl less ↦ rw (lt-ltb i 58 less) (second (n + i) (omega (arith, less)))
    | inr more ↦
        let last : i ≡ 58 = omega (arith, low, more) in
        let end : locks + 60 ≡ n + 58 = omega arith in
        subst (λ (j : ℕ). IsSecond lie (n + j) (then_second j)) (sym last) (subst (λ (j : ℕ). IsSecond lie j new_month) end next_month)
  ]

  of_that_day : (i : ℕ) (h : HoldValue) → i ≤ 57 → IsOnTime lie (n + i) h → h.last.day ≤ 30
  of_that_day i h low on_time =
      let same = ap (λ (u : UtcSecond). u.day) (one_second lie (n + i) h.last (at (first + (n + i))) on_time.last (second (n + i) (omega (arith, low)))) in
      omega (arith, same)

  -- ---- and 58 seconds later 00:00:00

  pub table_misleads : IsMisled truth made (f_of clock.redundancy)
  table_misleads =
      let a = told.a in
      let calls : List Call = Tick a.now ∷ a.earlier in
      let now : ℕ = told.edge + 58006000 in
      let k : Keeping = after_calls new calls in
      let e : ℕ = a.beat.edge_us in
      let left = left_by (after_calls new a.earlier) (a.now % 2 ^ 32) (at (first + n)) a.beat a.answer a.says in
      let track = (ticks rules clock deletion new_lines 9999000 are_new (IsTrueLately clock.within.us rules lie edges) lie edges 0 0 device (omega arith)
      (λ time half end pulses claim is frame soon. true_by_any clock rules lie clock.drift_us edges half time end pulses claim device.steady is frame soon) a.earlier a.now told.order told.truth (plain_steps edges 0 0 new 9999000 learns_none device.steady calls)).track in
      let dark : IsPlain k = stays_plain new learns_none calls in
      let alone = stands a.now k.state.reader k.state.bound_us k.state.pace k.state.edge_us e left.h left.edge left.reader left.last left.age track in
      let many = (many_alone clock.reader_rules deletion lie lie_is (record { leaps = λ day end from to. refl }) clock.prefers_frames n 57 k.state.reader then_second alone (omega (arith, long)) then_seconds of_that_day).1 in
      let late : a.now ≤ now = omega (arith, told.at.soon) in
      let order : AreInOrder 9999000 clock.redundancy (Tick now ∷ calls) = (late, omega (arith, told.at.come), (λ line. still_after (pulses_on line a.earlier) (a.now + 4000) (now + 4000) (omega (arith, late)) (told.order.2 line)), told.order) in
      let setup = (lines_after new 9999000 (begins rules clock deletion new_lines 9999000 are_new) calls now order).same in
      let says : (step_behind k.clock.prefers_frames k.clock.reader_rules k.table 57 k.state.reader None).report.announce ≡ Some new_month =
      ap (λ (c : ClockRules). (step_behind c.prefers_frames c.reader_rules k.table 57 k.state.reader None).report.announce) setup.clock
      ∙ ap (λ (x : TableValue). (step_behind clock.prefers_frames clock.reader_rules x 57 k.state.reader None).report.announce) setup.table ∙ many in
      let come : own_come None told.edge now ≡ 58 = omega arith in
      let count : edges_own None (Some e) (now % 2 ^ 32) ≡ 58 = own_count a.now now late (omega (arith, told.at.come)) e told.edge told.at None ∙ come in
      let certain = never_doubts lie edges made 9999000 calls (record { is = device; learns = inl plain; order = told.order; truth = told.truth }) in
      let young : age_of k.state.reader ≡ 0 = ap age_of left.reader ∙ left.age in
      let unspent : (reader : State) → age_of reader ≡ 0 → rules_on clock None reader 58 ≡ clock.reader_rules = λ reader none. rw (none, le-ltb 490000 (0 * clock.drift_us + 58 * clock.drift_us) (omega (arith, few))) refl in
      let goes : rules_on k.clock None k.state.reader 58 ≡ k.clock.reader_rules = subst (λ (c : ClockRules). rules_on c None k.state.reader 58 ≡ c.reader_rules) (sym setup.clock) (unspent k.state.reader young) in
      let then = says_alone k (now % 2 ^ 32) e 57 new_month left.lines left.dark left.edge certain dark.none count goes says in
      let edge = own_edge_at a.now now late (omega (arith, told.at.come)) e told.edge told.at None none_sound 58 (sym come) (omega arith) in
      let same : told.m ≡ n = omega (arith, told.second.sum, (second n (omega arith)).sum) in
      let truths = truth_before (IsTrueLately clock.within.us rules truth edges) (f_of clock.redundancy) a.later calls
      (subst (AreTrueAtTicks (IsTrueLately clock.within.us rules truth edges) (f_of clock.redundancy)) a.are (sent.all_true rules clock range deletion lie device (record { leaps = λ day end from to. refl }) (sent.frame rules lie lie_is) carried votes truth carried_truth)) in
      let lately : AreTrueLately (IsTrueLately clock.within.us rules truth edges) (f_of clock.redundancy) now calls = record {
        untrue = truths.0.untrue;
        few = truths.0.few;
        true_lines = λ i low right. still_true clock.within.us rules truth a.now now (pulses_on i a.earlier) late (truths.0.true_lines i low right);
      } in
      record {
        edges = edges;
        steady = steady clock.drift_us few;
        sound = truth_is;
        listed = rw known_first_end refl;
        learns = inl plain;
        start = 9999000;
        calls = calls;
        now = now;
        order = order;
        truth = (lately, truths);
        beat = then.beat;
        answer = then.answer;
        u = new_month;
        says = then.says;
        m = locks + 60;
        edge = told.edge + 58 * 1000000;
        told = subst (λ (x : ℕ). IsEdgeAt x (told.edge + 58 * 1000000) now) (sym then.edge) edge;
        near = record { least = omega (arith, told.near.least, same, left.bound, then.bound); most = omega (arith, told.near.most, same, left.bound, then.bound) };
        untrue = no_month;
      }
