-- A true line's frames are even, and so no counter is found unsteady that is as steady as the setup says.
use Rattle.std.specs.Prelude.{◌==◌, not, count_by, nat_lt, is_none}
use Rattle.std.specs.List.{range_with_len}
use Rattle.std.proofs.Common.{◌≡◌, ◌∙◌, ℕ, zero, suc, ◌+◌, ◌%◌, ◌^◌, ◌<◌, ◌≤◌, Bool, true, false, cond, List, [], ◌∷◌, drop, length, Option, Some, None, refl, sym, ap, subst, arith, inl, inr}
use Rattle.std.proofs.lemmas.Bool.{cases_Bool, eqb-true, eqb-false}
use Rattle.std.proofs.lemmas.List.Sums.{sum_by-cons}
use Rattle.irig_sync.specs.Sync.{place_of}
use Rattle.irig_sync.specs.Lines.{Pulse, pulse_at, place_after, AreOnTime, IsAfter, IsSoon}
use Rattle.irig_sync.proofs.LineLaws.{place_at_time}
use Rattle.irig_port.specs.declared.told.Told.{Told}
use Rattle.irig_port.specs.Limits.{told_within, quality_in}
use Rattle.irig_vote.specs.Vote.{f_of}
use Rattle.irig_lines.specs.declared.lines.KeptFrame.{KeptFrame}
use Rattle.irig_lines.specs.declared.lines.Line.{Line}
use Rattle.irig_lines.specs.declared.lines.Lines.{Lines}
use Rattle.irig_lines.specs.declared.setup.ClockRules.{ClockRules}
use Rattle.irig_timekeeper.specs.declared.clock.ClockState.{ClockState}
use Rattle.irig_lines.specs.Counting.{is_late, edges_own}
use Rattle.irig_lines.specs.Lines.{rise_before, KnowsBegin, IsLastBefore, AreEven}
use Rattle.irig_lines.specs.Steps.{is_pulse, is_even, frame_behind, line_at, line_heard, still_kept, settled, taken, is_uneven, frames_of, are_uneven}
use Rattle.irig_timekeeper.specs.Clock.{vote_of_lines, is_unsteady}
use Rattle.irig_timekeeper.specs.Keeping.{Keeping, heard_then, after_pulse, after_tick}
use Rattle.irig_timekeeper.specs.Life.{Call, after_calls, pulses_on, last_tick, AreInOrder, AreTrueLately}
use Rattle.irig_timekeeper.specs.Life.Call.{Hear, Tick}
use Rattle.irig_lines.proofs.AgreeLaws.{one_of, none_of, at_most_one}
use Rattle.irig_lines.proofs.WholeLaws.{next_in_frame, alone_first, begin_here}
use Rattle.irig_timekeeper.proofs.VoteLaws.{frame_settled, not_late}
use Rattle.irig_timekeeper.proofs.LifeLaws.{AreLinesAt, line_soon, lines_after, line_same, line_takes, ticked, and_false, own_pulses, others_pulses, no_pulse, has_risen, unheard}
use Rattle.irig_timekeeper.proofs.OrderLaws.{five, others_pulse}
use Rattle.irig_timekeeper.proofs.FrameLaws.{even_by}

-- ---- a frame that is kept, whatever it tells

-- a hundred pulses in a row were heard, so many before the newest of these, by the time of a tick to come;
-- the first and the last of them tell whether the frame is even
pub record IsWholeFrame (c : ClockRules) (frame : KeptFrame) (pulses : List Pulse) (tick now : ℕ) : Type 0 where
  pub late : ℕ
  pub rise : ℕ
  pub on_time : AreOnTime 100 (drop late pulses)
  pub last : IsLastBefore (rise + 10000) (drop late pulses)
  pub even : frame.is_even ≡ is_even c (rise_before 99 (drop late pulses) % 2 ^ 32) (rise_before 0 (drop late pulses) % 2 ^ 32)
  pub end : frame.end_us ≡ (rise + 10000) % 2 ^ 32
  pub risen : rise ≤ now + 4000
  pub near : tick ≤ rise + 500000

-- so a line keeps one, if it keeps one
abbrev pub IfWhole : ClockRules → Option KeptFrame → List Pulse → (tick now : ℕ) → Type 0
IfWhole c None pulses tick now = Unit {0}
IfWhole c (Some frame) pulses tick now = IsWholeFrame c frame pulses tick now

whole_waits : (c : ClockRules) (o : Option KeptFrame) (pulses : List Pulse) (tick now time : ℕ) → now ≤ time → IfWhole c o pulses tick now → IfWhole c o pulses tick time
whole_waits c None pulses tick now time on w = tt
whole_waits c (Some frame) pulses tick now time on w = record { late = w.late; rise = w.rise; on_time = w.on_time; last = w.last; even = w.even; end = w.end; risen = omega (arith, w.risen, on); near = w.near }

-- a pulse more
whole_more : (c : ClockRules) (o : Option KeptFrame) (p : Pulse) (pulses : List Pulse) (tick now : ℕ) → IfWhole c o pulses tick now → IfWhole c o (p ∷ pulses) tick now
whole_more c None p pulses tick now w = tt
whole_more c (Some frame) p pulses tick now w = record { late = suc w.late; rise = w.rise; on_time = w.on_time; last = w.last; even = w.even; end = w.end; risen = w.risen; near = w.near }

-- in a frame each pulse is on time
on_time_in : (n : ℕ) (p : Pulse) (ps : List Pulse) → place_after (p ∷ ps) ≡ n → AreOnTime n (p ∷ ps)
on_time_in zero p ps at = tt
on_time_in (suc zero) p ps at = tt
on_time_in (suc (suc n)) p [] at = absurd (alone_first p n at)
on_time_in (suc (suc n)) p (q ∷ ps) at = let next = next_in_frame p q ps n at in (next.0, on_time_in (suc n) q ps next.1)

-- a frame's last pulse
whole_heard : (c : ClockRules) (begin place rise width : ℕ) (told : Told) (quality : ℕ) (o : Option KeptFrame) (pulses : List Pulse) (tick now : ℕ) → KnowsBegin begin pulses → place ≡ place_after (pulse_at rise width ∷ pulses) → rise ≤ now + 4000 → tick ≤ rise + 500000
    → IfWhole c o pulses tick now → IfWhole c (frame_behind c place begin (rise % 2 ^ 32) told quality o) (pulse_at rise width ∷ pulses) tick now
whole_heard c begin place rise width told quality o pulses tick now begins is risen near before = elim (cases_Bool (place == 100)) [
  | inr inside ↦ rw inside (whole_more c o (pulse_at rise width) pulses tick now before)
  | inl whole ↦
      let at : place_after (pulse_at rise width ∷ pulses) ≡ 100 = sym is ∙ eqb-true place 100 whole in
      let first : begin ≡ rise_before 99 (pulse_at rise width ∷ pulses) % 2 ^ 32 = begin_here begin 98 (pulse_at rise width) pulses begins at in
      rw whole (record {
        late = 0;
        rise = rise;
        on_time = on_time_in 100 (pulse_at rise width) pulses at;
        last = refl;
        even = ap (λ (b : ℕ). is_even c b (rise % 2 ^ 32)) first;
        end = omega arith;
        risen = risen;
        near = near;
      })
]

-- a frame that is not late at a tick
kept_soon : (c : ClockRules) (frame : KeptFrame) (pulses : List Pulse) (tick now : ℕ) → now + 504000 < tick + 1800000000 → (w : IsWholeFrame c frame pulses tick now) → is_late frame.end_us (now % 2 ^ 32) ≡ false → now ≤ w.rise + 110000
kept_soon c frame pulses tick now half w in_time =
    let soon = not_late (w.rise + 10000) now (omega (arith, w.risen)) (omega (arith, w.near, half)) (subst (λ (e : ℕ). is_late e (now % 2 ^ 32) ≡ false) w.end in_time) in
    omega (arith, soon)

whole_settles : (c : ClockRules) (o : Option KeptFrame) (pulses : List Pulse) (tick now : ℕ) → now + 504000 < tick + 1800000000 → IfWhole c o pulses tick now → IfWhole c (still_kept (now % 2 ^ 32) o) pulses now now
whole_settles c None pulses tick now half w = tt
whole_settles c (Some frame) pulses tick now half w = elim (cases_Bool (is_late frame.end_us (now % 2 ^ 32))) [
  | inl late ↦ rw late tt
  | inr in_time ↦
      let soon = kept_soon c frame pulses tick now half w in_time in
      rw in_time (record { late = w.late; rise = w.rise; on_time = w.on_time; last = w.last; even = w.even; end = w.end; risen = w.risen; near = omega (arith, soon) })
]

-- ---- of a true line

-- at any time the frames of such a line are even
abbrev pub AreEvenAlways : (ℕ → List Pulse → Type 0) → (within d : ℕ) → Type 0
AreEvenAlways IsTrue within d = (now end : ℕ) (pulses : List Pulse) → IsTrue now pulses → (late : ℕ) → AreOnTime 100 (drop late pulses) → IsLastBefore end (drop late pulses) → now ≤ end + 100000 → AreEven within d (drop late pulses)

module _ (IsTrue : ℕ → List Pulse → Type 0) (c : ClockRules) (few : c.drift_us ≤ 100) (evenly : AreEvenAlways IsTrue c.within.us c.drift_us) (tick now : ℕ) (half : now + 504000 < tick + 1800000000) where
  true_is_even : (o : Option KeptFrame) (pulses : List Pulse) → IsTrue now pulses → IfWhole c o pulses tick now → is_uneven (still_kept (now % 2 ^ 32) o) ≡ false
  true_is_even None pulses is w = refl
  true_is_even (Some frame) pulses is w = elim (cases_Bool (is_late frame.end_us (now % 2 ^ 32))) [
    | inl late ↦ rw late refl
    | inr in_time ↦
        let soon = kept_soon c frame pulses tick now half w in_time in
        let rose = evenly now (w.rise + 10000) pulses is w.late w.on_time w.last (omega (arith, soon)) in
        let even = w.even ∙ even_by c (rise_before 99 (drop w.late pulses)) (rise_before 0 (drop w.late pulses)) few rose.0 rose.1 in
        rw (in_time, even) refl
  ]

-- ---- a life

module _ (new : Keeping) (start : ℕ) (begins : AreLinesAt new new (λ i. []) start start) (fresh : (i : ℕ) → i < 5 → (line_at new.state.lines i).frame ≡ None) where
  module _ (i : ℕ) (small : i < 5) where
    kept_by : List Call → Option KeptFrame
    kept_by calls = (line_at (after_calls new calls).state.lines i).frame

    own_heard : (port rise width : ℕ) (calls : List Call) (now : ℕ) → AreInOrder start new.clock.redundancy (Tick now ∷ (Hear port rise width ∷ calls)) → is_pulse width ≡ true → (i == port) ≡ true
        → IfWhole new.clock (kept_by calls) (pulses_on i calls) (last_tick start calls) now → IfWhole new.clock (kept_by (Hear port rise width ∷ calls)) (pulses_on i (Hear port rise width ∷ calls)) (last_tick start calls) now
    unfolding kept_by
    own_heard port rise width calls now order narrow same before =
        let k : Keeping = after_calls new calls in
        let line : Line = line_at k.state.lines i in
        let pulses : List Pulse = pulses_on i calls in
        let all = lines_after new start begins calls now (unheard start new.clock.redundancy port rise width now calls order) in
        let l = all.lines i small in
        let at : i ≡ port = eqb-true i port same in
        let after : IsAfter pulses rise = subst (λ (j : ℕ). IsAfter (pulses_on j calls) rise) (sym at) (order.3.1 narrow).0 in
        let risen = has_risen port rise width (now + 4000) calls order.2 narrow in
        let soon : IsSoon l.told rise = line_soon rise l risen order.1 (after, (order.3.1 narrow).1) in
        let place : place_of line.sync (rise % 2 ^ 32) width ≡ place_after (pulse_at rise width ∷ pulses) = place_at_time line.sync pulses l.told rise width l.hearing.sync after soon in
        let told : Told = told_within (Some k.clock.limits.limits) k.rules (heard_then k i (rise % 2 ^ 32) width) in
        let says : ℕ = quality_in (heard_then k i (rise % 2 ^ 32) width) in
        let own : line_at (after_pulse k port (rise % 2 ^ 32) width).state.lines i ≡ line_heard k.clock line (rise % 2 ^ 32) width told says =
        subst (λ (j : ℕ). line_at (after_pulse k j (rise % 2 ^ 32) width).state.lines i ≡ line_heard k.clock line (rise % 2 ^ 32) width told says) at (rw narrow (line_same k.state.lines i _ small)) in
        let frame : frame_behind new.clock (place_of line.sync (rise % 2 ^ 32) width) line.begin_us (rise % 2 ^ 32) told says line.frame ≡ (line_at (after_pulse k port (rise % 2 ^ 32) width).state.lines i).frame =
        ap (λ (c : ClockRules). frame_behind c (place_of line.sync (rise % 2 ^ 32) width) line.begin_us (rise % 2 ^ 32) told says line.frame) (sym all.same.clock) ∙ ap (λ (x : Line). x.frame) (sym own) in
        subst (λ (ps : List Pulse). IfWhole new.clock (line_at (after_pulse k port (rise % 2 ^ 32) width).state.lines i).frame ps (last_tick start calls) now) (sym (own_pulses i port rise width calls narrow same))
        (subst (λ (o : Option KeptFrame). IfWhole new.clock o (pulse_at rise width ∷ pulses) (last_tick start calls) now) frame
        (whole_heard new.clock line.begin_us (place_of line.sync (rise % 2 ^ 32) width) rise width told says line.frame pulses (last_tick start calls) now l.begins place risen (order.3.1 narrow).1 before))

    wide_heard : (port rise width : ℕ) (calls : List Call) (tick now : ℕ) → is_pulse width ≡ false → IfWhole new.clock (kept_by calls) (pulses_on i calls) tick now → IfWhole new.clock (kept_by (Hear port rise width ∷ calls)) (pulses_on i (Hear port rise width ∷ calls)) tick now
    unfolding kept_by
    wide_heard port rise width calls tick now wide before =
        subst (λ (ps : List Pulse). IfWhole new.clock (line_at (after_pulse (after_calls new calls) port (rise % 2 ^ 32) width).state.lines i).frame ps tick now) (sym (no_pulse i port rise width calls wide)) (rw wide before)

    others_heard : (port rise width : ℕ) (calls : List Call) (tick now : ℕ) → port < 5 → (i == port) ≡ false → IfWhole new.clock (kept_by calls) (pulses_on i calls) tick now → IfWhole new.clock (kept_by (Hear port rise width ∷ calls)) (pulses_on i (Hear port rise width ∷ calls)) tick now
    unfolding kept_by
    others_heard port rise width calls tick now low other before =
        let line = others_pulse (after_calls new calls) port i (rise % 2 ^ 32) width low small (eqb-false i port other) in
        subst (λ (ps : List Pulse). IfWhole new.clock (line_at (after_pulse (after_calls new calls) port (rise % 2 ^ 32) width).state.lines i).frame ps tick now) (sym (others_pulses i port rise width calls other))
        (subst (λ (x : Line). IfWhole new.clock x.frame (pulses_on i calls) tick now) (sym line) before)

    ticked_on : (calls : List Call) (now : ℕ) → IfWhole new.clock (still_kept (now % 2 ^ 32) (kept_by calls)) (pulses_on i calls) now now → IfWhole new.clock (kept_by (Tick now ∷ calls)) (pulses_on i calls) now now
    unfolding kept_by
    ticked_on calls now w =
        let k : Keeping = after_calls new calls in
        elim (ticked k (now % 2 ^ 32)) [
          | inl stays ↦
              let frame : still_kept (now % 2 ^ 32) (line_at k.state.lines i).frame ≡ (line_at (after_tick k (now % 2 ^ 32)).state.lines i).frame = sym (frame_settled (now % 2 ^ 32) k.state.lines i small) ∙ ap (λ (x : Lines). (line_at x i).frame) (sym stays) in
              subst (λ (o : Option KeptFrame). IfWhole new.clock o (pulses_on i calls) now now) frame w
          | inr gives ↦
              let frame : None ≡ (line_at (after_tick k (now % 2 ^ 32)).state.lines i).frame = ap (λ (x : Line). x.frame) (line_takes (settled (now % 2 ^ 32) k.state.lines) i small) ∙ ap (λ (x : Lines). (line_at x i).frame) (sym gives) in
              subst (λ (o : Option KeptFrame). IfWhole new.clock o (pulses_on i calls) now now) frame tt
        ]

    whole_after : (calls : List Call) (now : ℕ) → AreInOrder start new.clock.redundancy (Tick now ∷ calls) → IfWhole new.clock (kept_by calls) (pulses_on i calls) (last_tick start calls) now
    unfolding kept_by
    whole_after [] now order = subst (λ (o : Option KeptFrame). IfWhole new.clock o [] start now) (sym (fresh i small)) tt
    whole_after (Hear port rise width ∷ calls) now order =
        let before = whole_after calls now (unheard start new.clock.redundancy port rise width now calls order) in
        elim (cases_Bool (i == port)) [
          | inr other ↦ others_heard port rise width calls (last_tick start calls) now (omega (arith, order.3.0, five new.clock.redundancy)) other before
          | inl same ↦ elim (cases_Bool (is_pulse width)) [
            | inl narrow ↦ own_heard port rise width calls now order narrow same before
            | inr wide ↦ wide_heard port rise width calls (last_tick start calls) now wide before
          ]
        ]
    whole_after (Tick time ∷ calls) now order =
        whole_waits new.clock (kept_by (Tick time ∷ calls)) (pulses_on i calls) time time now order.0
        (ticked_on calls time (whole_settles new.clock (kept_by calls) (pulses_on i calls) (last_tick start calls) time order.3.1 (whole_after calls time order.3)))

  -- at most as many are uneven as are untrue
  module _ (untrue : ℕ → Bool) where
    abbrev AreEvenFrom : ℕ → List (Option KeptFrame) → Type 0
    AreEvenFrom from [] = Unit {0}
    AreEvenFrom from (o ∷ xs) = (untrue from ≡ false → is_uneven o ≡ false) × AreEvenFrom (from + 1) xs

    as_few : (from : ℕ) (xs : List (Option KeptFrame)) → AreEvenFrom from xs → count_by is_uneven xs ≤ count_by untrue (range_with_len from (length xs))
    as_few from [] even = omega arith
    as_few from (o ∷ xs) even =
        let left = sum_by-cons (λ k. cond (untrue k) 1 0) from (range_with_len (from + 1) (length xs)) in
        let uneven = sum_by-cons (λ x. cond (is_uneven x) 1 0) o xs in
        let rest = as_few (from + 1) xs even.1 in
        elim (cases_Bool (untrue from)) [
          | inl lies ↦ omega (arith, left, uneven, rest, one_of (untrue from) lies, at_most_one (is_uneven o))
          | inr right ↦ omega (arith, left, uneven, rest, none_of (untrue from) right, none_of (is_uneven o) (even.0 right))
        ]

  -- at a tick at which at most f lines are untrue the counter is not found unsteady
  module _ (IsTrue : ℕ → List Pulse → Type 0) (slow : new.clock.drift_us ≤ 100) (evenly : AreEvenAlways IsTrue new.clock.within.us new.clock.drift_us) where
    few_uneven : (calls : List Call) (now : ℕ) → AreInOrder start new.clock.redundancy (Tick now ∷ calls) → AreTrueLately IsTrue (f_of new.clock.redundancy) now calls
        → are_uneven new.clock (settled (now % 2 ^ 32) (after_calls new calls).state.lines) ≡ false
    unfolding kept_by
    few_uneven calls now order lately =
        let even : (i : ℕ) → i < 5 → lately.untrue i ≡ false → is_uneven (still_kept (now % 2 ^ 32) (line_at (after_calls new calls).state.lines i).frame) ≡ false =
        λ i low right. true_is_even IsTrue new.clock slow evenly (last_tick start calls) now order.1 _ (pulses_on i calls) (lately.true_lines i low right) (whole_after i low calls now order) in
        let few = as_few lately.untrue 0 (frames_of (settled (now % 2 ^ 32) (after_calls new calls).state.lines)) (even 0 (omega arith), (even 1 (omega arith), (even 2 (omega arith), (even 3 (omega arith), (even 4 (omega arith), tt))))) in
        no_more (f_of new.clock.redundancy) (count_by is_uneven (frames_of (settled (now % 2 ^ 32) (after_calls new calls).state.lines))) (omega (arith, few, lately.few))
      where
        no_more : (f n : ℕ) → n ≤ f → nat_lt f n ≡ false
        no_more f n low = grind (arith, low)

    pub stays_steady : (calls : List Call) (now : ℕ) → AreInOrder start new.clock.redundancy (Tick now ∷ calls) → AreTrueLately IsTrue (f_of new.clock.redundancy) now calls
        → is_unsteady (after_calls new calls).clock (after_calls new calls).state (now % 2 ^ 32) ≡ false
    stays_steady calls now order lately =
        let s : ClockState = (after_calls new calls).state in
        let steady : is_unsteady new.clock s (now % 2 ^ 32) ≡ false = and_false (is_none (vote_of_lines new.clock s (now % 2 ^ 32))) _ (and_false (not (edges_own s.pace s.edge_us (now % 2 ^ 32) == 0)) _ (few_uneven calls now order lately)) in
        subst (λ (c : ClockRules). is_unsteady c s (now % 2 ^ 32) ≡ false) (sym (lines_after new start begins calls now order).same.clock) steady

-- nor while lines keep nothing
pub dark_is_steady : (k : Keeping) (clock : ℕ) (lines : Lines) → k.state.lines ≡ taken lines → is_unsteady k.clock k.state clock ≡ false
dark_is_steady k clock lines dark =
    and_false (is_none (vote_of_lines k.clock k.state clock)) _ (and_false (not (edges_own k.state.pace k.state.edge_us clock == 0)) _
    (ap (λ (x : Lines). are_uneven k.clock (settled clock x)) dark ∙ none (f_of k.clock.redundancy)))
  where
    none : (f : ℕ) → nat_lt f 0 ≡ false
    none f = grind arith
