-- What a line was seen to send last: a whole frame of its pulses, until that ended 1.5 s ago.
use Rattle.std.specs.Prelude.{◌==◌}
use Rattle.std.proofs.Common.{◌≡◌, ◌∙◌, ℕ, suc, ◌+◌, ◌-◌, ◌%◌, ◌^◌, ◌<◌, ◌≤◌, true, false, List, [], ◌∷◌, drop, Option, Some, None, refl, sym, ap, subst, arith, inl, inr}
use Rattle.std.proofs.lemmas.Bool.{cases_Bool, eqb-true, eqb-false, ltb-false}
use Rattle.irig_frame.specs.declared.symbol.Symbol.{Symbol}
use Rattle.irig_sync.specs.Sync.{clock_gap, place_of}
use Rattle.irig_sync.specs.Lines.{Pulse, pulse_at, place_after, AreOnTime, IsAfter, IsSoon, symbols_of_last}
use Rattle.irig_sync.proofs.LineLaws.{place_at_time}
use Rattle.irig_time.specs.declared.rules.Rules.{Rules}
use Rattle.irig_time.specs.declared.claim.Claim.{Claim}
use Rattle.irig_time.specs.Carries.{Carries}
use Rattle.irig_port.specs.declared.limits.Limits.{Limits}
use Rattle.irig_port.specs.declared.told.Told.TheVariants as tells
use Rattle.irig_port.specs.Limits.{told_within, quality_in}
use Rattle.irig_port.specs.Hearing.{IsRun}
use Rattle.irig_port.proofs.RunLaws.{hears}
use Rattle.irig_port.proofs.CarriesLaws.{carries_is_told}
use Rattle.irig_port.proofs.LimitLaws.{claim_within}
use Rattle.irig_reader.proofs.FedLaws.{at_most_five}
use Rattle.irig_lines.specs.declared.lines.KeptFrame.{KeptFrame}
use Rattle.irig_lines.specs.declared.lines.Line.{Line}
use Rattle.irig_lines.specs.declared.lines.Lines.{Lines}
use Rattle.irig_lines.specs.declared.setup.ClockRules.{ClockRules}
use Rattle.irig_lines.specs.Counting.{is_gone}
use Rattle.irig_lines.specs.Lines.{rise_before, KnowsBegin, AreEven, IsLastBefore}
use Rattle.irig_port.specs.declared.told.Told.{Told}
use Rattle.irig_lines.specs.Steps.{is_pulse, is_even, line_at, line_heard, quality_told, whole_frame, frame_behind, still_seen, settled}
use Rattle.irig_timekeeper.specs.Keeping.{Keeping, heard_by, heard_then, after_pulse, after_tick}
use Rattle.irig_timekeeper.specs.Life.{Call, after_calls, pulses_on, last_tick, AreInOrder}
use Rattle.irig_timekeeper.specs.Life.Call.{Hear, Tick}
use Rattle.irig_lines.proofs.WholeLaws.{begin_here}
use Rattle.irig_timekeeper.proofs.FrameLaws.{even_by}
use Rattle.irig_timekeeper.proofs.LifeLaws.{AreLinesAt, line_soon, lines_after, line_same, line_other, line_settles, line_takes, ticked, own_pulses, others_pulses, no_pulse, has_risen, unheard}

-- a frame claims this: a hundred pulses in a row carry the claim, behind which so many came, and it is even
-- if they are; it ends at most 14 ms behind the next tick, and 1.5 s before the last one
pub record IsSeenOf (c : ClockRules) (rules : Rules) (claim : Claim) (f : KeptFrame) (tick now : ℕ) (pulses : List Pulse) : Type 0 where
  pub end : ℕ
  pub at : f.end_us ≡ end % 2 ^ 32
  pub late : ℕ
  pub on_time : AreOnTime 100 (drop late pulses)
  pub carries : Carries rules (symbols_of_last 100 (drop late pulses)) claim
  pub last : IsLastBefore end (drop late pulses)
  pub says : quality_in (symbols_of_last 100 (drop late pulses)) ≡ f.quality
  pub even : AreEven c.within.us c.drift_us (drop late pulses) → f.is_even ≡ true
  pub ahead : end ≤ now + 14000
  pub soon : tick ≤ end + 1500000

-- so does what a line was seen to send, if it claims a second
abbrev pub IfSeen : ClockRules → Rules → (tick now : ℕ) → List Pulse → Option KeptFrame → Type 0
IfSeen c rules tick now pulses None = Unit {0}
IfSeen c rules tick now pulses (Some f) = (claim : Claim) → f.told ≡ tells.Claim claim → IsSeenOf c rules claim f tick now pulses

module _ (c : ClockRules) (rules : Rules) where
  seen_later : (tick now time : ℕ) (pulses : List Pulse) (seen : Option KeptFrame) → now ≤ time → IfSeen c rules tick now pulses seen → IfSeen c rules tick time pulses seen
  seen_later tick now time pulses None on h = tt
  seen_later tick now time pulses (Some f) on h = λ claim told.
      let s = h claim told in
      record { end = s.end; at = s.at; late = s.late; on_time = s.on_time; carries = s.carries; last = s.last; says = s.says; even = s.even; ahead = omega (arith, s.ahead, on); soon = s.soon }

  -- a pulse more
  one_behind : (tick now : ℕ) (p : Pulse) (pulses : List Pulse) (seen : Option KeptFrame) → IfSeen c rules tick now pulses seen → IfSeen c rules tick now (p ∷ pulses) seen
  one_behind tick now p pulses None h = tt
  one_behind tick now p pulses (Some f) h = λ claim told.
      let s = h claim told in
      record { end = s.end; at = s.at; late = suc s.late; on_time = s.on_time; carries = s.carries; last = s.last; says = s.says; even = s.even; ahead = s.ahead; soon = s.soon }

  -- a frame's last one
  whole_seen : (limits : Option Limits) (heard : List Symbol) (begin place rise width tick now : ℕ) (pulses : List Pulse) → c.drift_us ≤ 100 → IsRun heard place (pulse_at rise width ∷ pulses) → 1 ≤ place → KnowsBegin begin pulses → place_after (pulse_at rise width ∷ pulses) ≡ 100 → rise ≤ now + 4000 → tick ≤ rise + 500000
      → IfSeen c rules tick now (pulse_at rise width ∷ pulses) (Some (whole_frame c begin (rise % 2 ^ 32) (told_within limits rules heard) (quality_in heard)))
  whole_seen limits heard begin place rise width tick now pulses steady run some begins at risen near = λ claim told. elim run.step [
    | inl out ↦ absurd (omega (arith, out, some))
    | inr inside ↦
        let all : List Pulse = pulse_at rise width ∷ pulses in
        let none : drop run.late all ≡ all = ap (λ (n : ℕ). drop n all) inside.0 in
        let carries = (carries_is_told rules heard claim).0 ((claim_within limits rules heard claim).0 told).0 in
        let whole : run.count ≡ 100 = sym run.all ∙ carries.reads.len in
        let symbols : heard ≡ symbols_of_last 100 all = run.symbols ∙ ap (symbols_of_last run.count) none ∙ ap (λ (n : ℕ). symbols_of_last n all) whole in
        record {
          end = rise + 10000;
          at = wraps rise;
          late = 0;
          on_time = subst (λ (n : ℕ). AreOnTime n all) whole (subst (AreOnTime run.count) none run.on_time);
          carries = subst (λ (s : List Symbol). Carries rules s claim) symbols carries;
          last = refl;
          says = ap quality_in (sym symbols) ∙ sym (ap (λ (x : Told). quality_told x (quality_in heard)) told);
          even = λ even. subst (λ (b : ℕ). is_even c b (rise % 2 ^ 32) ≡ true) (sym (begin_here begin 98 (pulse_at rise width) pulses begins at)) (even_by c (rise_before 99 all) rise steady even.0 even.1);
          ahead = omega (arith, risen);
          soon = omega (arith, near);
        }
  ]
    where
      wraps : (rise : ℕ) → (rise % 2 ^ 32 + 10000) % 2 ^ 32 ≡ (rise + 10000) % 2 ^ 32
      wraps rise = omega arith

  -- what is then seen
  seen_more : (limits : Option Limits) (heard : List Symbol) (begin place rise width tick now : ℕ) (pulses : List Pulse) (seen : Option KeptFrame) → c.drift_us ≤ 100 → IsRun heard place (pulse_at rise width ∷ pulses) → KnowsBegin begin pulses → place ≡ place_after (pulse_at rise width ∷ pulses) → rise ≤ now + 4000 → tick ≤ rise + 500000 → IfSeen c rules tick now pulses seen
      → IfSeen c rules tick now (pulse_at rise width ∷ pulses) (frame_behind c place begin (rise % 2 ^ 32) (told_within limits rules heard) (quality_in heard) seen)
  seen_more limits heard begin place rise width tick now pulses seen steady run begins is risen near h = elim (cases_Bool (place == 100)) [
    | inl whole ↦
        let at : place ≡ 100 = eqb-true place 100 whole in
        rw whole (whole_seen limits heard begin place rise width tick now pulses steady run (omega (arith, at)) begins (sym is ∙ at) risen near)
    | inr inside ↦ rw inside (one_behind tick now (pulse_at rise width) pulses seen h)
  ]

  -- a tick
  not_gone : (end now : ℕ) → end ≤ now + 14000 → now + 14000 < end + 2 ^ 32 → is_gone (end % 2 ^ 32) (now % 2 ^ 32) ≡ false → now ≤ end + 1500000
  not_gone end now order turn e =
      let gap : (clock_gap (end % 2 ^ 32) (now % 2 ^ 32) + 14000) % 2 ^ 32 ≡ now + 14000 - end = omega (arith, order, turn) in
      let most = ltb-false 1514000 ((clock_gap (end % 2 ^ 32) (now % 2 ^ 32) + 14000) % 2 ^ 32) e in
      omega (arith, gap, most, order)

  seen_still : (tick now : ℕ) (pulses : List Pulse) (seen : Option KeptFrame) → now + 504000 < tick + 1800000000 → IfSeen c rules tick now pulses seen → IfSeen c rules now now pulses (still_seen (now % 2 ^ 32) seen)
  seen_still tick now pulses None half h = tt
  seen_still tick now pulses (Some f) half h = elim (cases_Bool (is_gone f.end_us (now % 2 ^ 32))) [
    | inl gone ↦ rw gone tt
    | inr there ↦ rw there (λ claim told.
        let s = h claim told in
        let soon = not_gone s.end now s.ahead (omega (arith, s.soon, half)) (subst (λ (e : ℕ). is_gone e (now % 2 ^ 32) ≡ false) s.at there) in
        record { end = s.end; at = s.at; late = s.late; on_time = s.on_time; carries = s.carries; last = s.last; says = s.says; even = s.even; ahead = s.ahead; soon = soon })
  ]

-- ---- a life

module _ (new : Keeping) (start : ℕ) (begun : AreLinesAt new new (λ i. []) start start) (steady : new.clock.drift_us ≤ 100) (i : ℕ) (small : i < 5) where
  abbrev Seen : List Call → ℕ → Type 0
  Seen calls now = IfSeen new.clock new.rules (last_tick start calls) now (pulses_on i calls) (line_at (after_calls new calls).state.lines i).seen

  module _ (port rise width : ℕ) (calls : List Call) (now : ℕ) (order : AreInOrder start new.clock.redundancy (Tick now ∷ (Hear port rise width ∷ calls))) (before : Seen calls now) where
    abbrev k : Keeping
    k = after_calls new calls

    abbrev line : Line
    line = line_at k.state.lines i

    all : AreLinesAt new k (λ i. pulses_on i calls) (last_tick start calls) now
    all = lines_after new start begun calls now (unheard start new.clock.redundancy port rise width now calls order)

    -- its own pulse
    own : is_pulse width ≡ true → (i == port) ≡ true → Seen (Hear port rise width ∷ calls) now
    own narrow same =
        let at : i ≡ port = eqb-true i port same in
        let l = all.lines i small in
        let risen = has_risen port rise width (now + 4000) calls order.2 narrow in
        let after : IsAfter (pulses_on i calls) rise = subst (λ (j : ℕ). IsAfter (pulses_on j calls) rise) (sym at) (order.3.1 narrow).0 in
        let soon : IsSoon l.told rise = line_soon rise l risen order.1 (after, (order.3.1 narrow).1) in
        let place : place_of line.sync (rise % 2 ^ 32) width ≡ place_after (pulse_at rise width ∷ pulses_on i calls) = place_at_time line.sync (pulses_on i calls) l.told rise width l.hearing.sync after soon in
        let hearing = hears (heard_by k.heard i) line.sync _ (pulses_on i calls) l.told rise _ width _ refl refl l.hearing refl after soon in
        let more = seen_more k.clock k.rules (Some k.clock.limits.limits) (heard_then k i (rise % 2 ^ 32) width) line.begin_us (place_of line.sync (rise % 2 ^ 32) width) rise width (last_tick start calls) now (pulses_on i calls) line.seen
        (subst (λ (c : ClockRules). c.drift_us ≤ 100) (sym all.same.clock) steady) hearing.run l.begins place risen (order.3.1 narrow).1
        (subst (λ (c : ClockRules). IfSeen c k.rules (last_tick start calls) now (pulses_on i calls) line.seen) (sym all.same.clock) (subst (λ (r : Rules). IfSeen new.clock r (last_tick start calls) now (pulses_on i calls) line.seen) (sym all.same.rules) before)) in
        let moved = subst (λ (c : ClockRules). IfSeen c new.rules (last_tick start calls) now (pulse_at rise width ∷ pulses_on i calls) (line_heard k.clock line (rise % 2 ^ 32) width (told_within (Some k.clock.limits.limits) k.rules (heard_then k i (rise % 2 ^ 32) width)) (quality_in (heard_then k i (rise % 2 ^ 32) width))).seen) all.same.clock
        (subst (λ (r : Rules). IfSeen k.clock r (last_tick start calls) now (pulse_at rise width ∷ pulses_on i calls) (line_heard k.clock line (rise % 2 ^ 32) width (told_within (Some k.clock.limits.limits) k.rules (heard_then k i (rise % 2 ^ 32) width)) (quality_in (heard_then k i (rise % 2 ^ 32) width))).seen) all.same.rules more) in
        let there : line_at (after_pulse k port (rise % 2 ^ 32) width).state.lines i ≡ line_heard k.clock line (rise % 2 ^ 32) width (told_within (Some k.clock.limits.limits) k.rules (heard_then k i (rise % 2 ^ 32) width)) (quality_in (heard_then k i (rise % 2 ^ 32) width)) =
        subst (λ (j : ℕ). line_at (after_pulse k j (rise % 2 ^ 32) width).state.lines i ≡ line_heard k.clock line (rise % 2 ^ 32) width (told_within (Some k.clock.limits.limits) k.rules (heard_then k i (rise % 2 ^ 32) width)) (quality_in (heard_then k i (rise % 2 ^ 32) width))) at (rw narrow (line_same k.state.lines i _ small)) in
        subst (λ (ps : List Pulse). IfSeen new.clock new.rules (last_tick start calls) now ps (line_at (after_pulse k port (rise % 2 ^ 32) width).state.lines i).seen) (sym (own_pulses i port rise width calls narrow same))
        (subst (λ (x : Line). IfSeen new.clock new.rules (last_tick start calls) now (pulse_at rise width ∷ pulses_on i calls) x.seen) (sym there) moved)

    -- that of another line
    others : is_pulse width ≡ true → (i == port) ≡ false → Seen (Hear port rise width ∷ calls) now
    others narrow other =
        let low : port < 5 = omega (arith, order.3.0, at_most_five new.clock.redundancy) in
        let there : line_at (after_pulse k port (rise % 2 ^ 32) width).state.lines i ≡ line = rw narrow (line_other k.state.lines port _ i low small (eqb-false i port other)) in
        subst (λ (ps : List Pulse). IfSeen new.clock new.rules (last_tick start calls) now ps (line_at (after_pulse k port (rise % 2 ^ 32) width).state.lines i).seen) (sym (others_pulses i port rise width calls other))
        (subst (λ (x : Line). IfSeen new.clock new.rules (last_tick start calls) now (pulses_on i calls) x.seen) (sym there) before)

    -- what is too wide is no pulse
    wide : is_pulse width ≡ false → Seen (Hear port rise width ∷ calls) now
    wide stuck =
        let there : line ≡ line_at (after_pulse k port (rise % 2 ^ 32) width).state.lines i = rw stuck refl in
        subst (λ (ps : List Pulse). IfSeen new.clock new.rules (last_tick start calls) now ps (line_at (after_pulse k port (rise % 2 ^ 32) width).state.lines i).seen) (sym (no_pulse i port rise width calls stuck))
        (subst (λ (x : Line). IfSeen new.clock new.rules (last_tick start calls) now (pulses_on i calls) x.seen) there before)

  -- what a tick leaves
  seen_there : (k : Keeping) (clock : ℕ) → (line_at (after_tick k clock).state.lines i).seen ≡ still_seen clock (line_at k.state.lines i).seen
  seen_there k clock = elim (ticked k clock) [
    | inl stays ↦ ap (λ (x : Lines). (line_at x i).seen) stays ∙ ap (λ (x : Line). x.seen) (sym (line_settles clock k.state.lines i small))
    | inr gives ↦ ap (λ (x : Lines). (line_at x i).seen) gives ∙ ap (λ (x : Line). x.seen) (sym (line_takes (settled clock k.state.lines) i small)) ∙ ap (λ (x : Line). x.seen) (sym (line_settles clock k.state.lines i small))
  ]

  pub seen_in : (line_at new.state.lines i).seen ≡ None → (calls : List Call) (now : ℕ) → AreInOrder start new.clock.redundancy (Tick now ∷ calls) → Seen calls now
  seen_in none [] now order = subst (IfSeen new.clock new.rules start now []) (sym none) tt
  seen_in none (Hear port rise width ∷ calls) now order =
      let before = seen_in none calls now (unheard start new.clock.redundancy port rise width now calls order) in
      elim (cases_Bool (is_pulse width)) [
        | inr stuck ↦ wide port rise width calls now order before stuck
        | inl narrow ↦ elim (cases_Bool (i == port)) [
          | inl same ↦ own port rise width calls now order before narrow same
          | inr other ↦ others port rise width calls now order before narrow other
        ]
      ]
  seen_in none (Tick time ∷ calls) now order =
      let before = seen_in none calls time order.3 in
      let still = seen_still new.clock new.rules (last_tick start calls) time (pulses_on i calls) (line_at (after_calls new calls).state.lines i).seen order.3.1 before in
      let there = subst (IfSeen new.clock new.rules time time (pulses_on i calls)) (sym (seen_there (after_calls new calls) (time % 2 ^ 32))) still in
      seen_later new.clock new.rules time time now (pulses_on i calls) (line_at (after_tick (after_calls new calls) (time % 2 ^ 32)).state.lines i).seen order.0 there
