-- Pulses make of a line what they do without those of others.
use Rattle.std.specs.Prelude.{◌==◌, not}
use Rattle.std.proofs.Common.{◌≡◌, ◌∙◌, ℕ, zero, suc, ◌+◌, ◌-◌, ◌%◌, ◌^◌, ◌<◌, ◌≤◌, Bool, true, false, List, [], ◌∷◌, ◌++◌, length, length-append, take, Option, Some, refl, sym, ap, subst, arith, inl, inr}
use Rattle.std.proofs.lemmas.Bool.{cases_Bool, eqb-true, eqb-false, eq-eqb, ne_eqb, lt-ltb}
use Rattle.std.proofs.lemmas.List.{take_all}
use Rattle.irig_frame.specs.declared.symbol.Symbol.{Symbol}
use Rattle.irig_frame.specs.Symbols.{symbol_of}
use Rattle.irig_sync.specs.Lines.{Pulse, pulse_at}
use Rattle.irig_sync.specs.declared.sync.Sync.{Sync}
use Rattle.irig_sync.specs.Sync.{clock_gap, is_on_time, is_marker, flag, place_of, place_at}
use Rattle.irig_time.specs.declared.rules.Rules.{Rules}
use Rattle.irig_port.specs.declared.told.Told.{Told}
use Rattle.irig_port.specs.Limits.{told_within, quality_in}
use Rattle.irig_port.specs.Heard.{symbols_of, symbols_heard}
use Rattle.irig_port.specs.Hearing.{heard_at}
use Rattle.irig_port.specs.declared.port.Port.{Ghosts}
use Rattle.irig_lines.specs.declared.setup.ClockRules.{ClockRules}
use Rattle.irig_lines.specs.declared.lines.KeptFrame.{KeptFrame}
use Rattle.irig_lines.specs.declared.lines.Line.{Line}
use Rattle.irig_lines.specs.declared.lines.Lines.{Lines}
use Rattle.irig_lines.specs.Steps.{is_pulse, line_at, line_heard, begin_behind, frame_behind}
use Rattle.irig_timekeeper.specs.declared.clock.ClockState.{ClockState}
use Rattle.irig_timekeeper.specs.declared.keeper.Timekeeper.{Timekeeper}
use Rattle.irig_timekeeper.specs.Keepers.{IsKeeping, Goes}
use Rattle.irig_timekeeper.specs.Keeping.{Heard, Keeping, heard_by, with_heard, with_lines, one_pulse_more, after_pulse, after_tick, place_told}
use Rattle.irig_timekeeper.specs.Life.{Call, after_calls, pulses_on, device_of}
use Rattle.irig_timekeeper.specs.Life.Call.{Hear, Tick}
use Rattle.irig_timekeeper.specs.Lived.{MadeOf, HasLived, made_with}
use Rattle.irig_timekeeper.specs.Unfinished.{AreHears, AreSameByLine, AreOfAFrame, pulses_by, symbols_by, hears, most, lines_unfinished, unfinished}
use Rattle.irig_timekeeper.proofs.LifeLaws.{line_same, line_other, heard_same, heard_other, own_pulses, others_pulses}
use Rattle.irig_timekeeper.proofs.LivedLaws.{as_made}

-- ---- one line

-- a line, and what its port heard
pub record Ear : Type 0 where
  pub line : Line
  pub heard : List Symbol

-- the two of these
abbrev pub ear_with : Line → List Symbol → Ear
ear_with line heard = record { line = line; heard = heard }

-- that of a port
abbrev pub ear_of : Keeping → ℕ → Ear
ear_of k i = ear_with (line_at k.state.lines i) (heard_by k.heard i)

-- what the port heard behind a pulse
abbrev pub then_heard : Ear → Pulse → List Symbol
then_heard e p = heard_at (place_of e.line.sync (p.rise % 2 ^ 32) p.width) e.heard p.width

module _ (c : ClockRules) (rules : Rules) where
  -- behind a pulse
  abbrev pub ear_behind : Ear → Pulse → Ear
  ear_behind e p = record {
    line = line_heard c e.line (p.rise % 2 ^ 32) p.width (told_within (Some c.limits.limits) rules (then_heard e p)) (quality_in (then_heard e p));
    heard = then_heard e p;
  }

  -- behind pulses, the newest first
  abbrev pub ear_after : Ear → List Pulse → Ear
  ear_after e [] = e
  ear_after e (p ∷ ps) = ear_behind (ear_after e ps) p

same_ear : (l m : Line) (s t : List Symbol) → l ≡ m → s ≡ t → ear_with l s ≡ ear_with m t
same_ear l m s t p q = ap (λ (x : Line). ear_with x s) p ∙ ap (ear_with m) q

own_ear : (k : Keeping) (port rise width : ℕ) → port < 5 → is_pulse width ≡ true → ear_of (after_pulse k port (rise % 2 ^ 32) width) port ≡ ear_behind k.clock k.rules (ear_of k port) (pulse_at rise width)
own_ear k port rise width low narrow = rw narrow (same_ear _ _ _ _ (line_same k.state.lines port _ low) (heard_same k.heard port _ low))

others_ear : (k : Keeping) (port rise width i : ℕ) → port < 5 → i < 5 → ¬ (i ≡ port) → is_pulse width ≡ true → ear_of (after_pulse k port (rise % 2 ^ 32) width) i ≡ ear_of k i
others_ear k port rise width i low small other narrow = rw narrow (same_ear _ _ _ _ (line_other k.state.lines port _ i low small other) (heard_other k.heard port _ i low small other))

-- after calls of hearing a line is what its own pulses make of it
pub by_line : (k : Keeping) (i : ℕ) (hs : List Call) → i < 5 → AreHears 5 hs → ear_of (after_calls k hs) i ≡ ear_after k.clock k.rules (ear_of k i) (pulses_on i hs)
by_line k i [] small h = refl
by_line k i (Hear port rise width ∷ hs) small h =
    let before = by_line k i hs small h.2 in
    let made = as_made k hs in
    elim (cases_Bool (i == port)) [
      | inl same ↦
          let at : i ≡ port = eqb-true i port same in
          let own = subst (λ (j : ℕ). ear_of (after_pulse (after_calls k hs) j (rise % 2 ^ 32) width) i ≡ ear_behind (after_calls k hs).clock (after_calls k hs).rules (ear_of (after_calls k hs) i) (pulse_at rise width)) at (own_ear (after_calls k hs) i rise width small h.1) in
          own
          ∙ ap (λ (c : ClockRules). ear_behind c (after_calls k hs).rules (ear_of (after_calls k hs) i) (pulse_at rise width)) made.clock
          ∙ ap (λ (r : Rules). ear_behind k.clock r (ear_of (after_calls k hs) i) (pulse_at rise width)) made.rules
          ∙ ap (λ (e : Ear). ear_behind k.clock k.rules e (pulse_at rise width)) before
          ∙ ap (ear_after k.clock k.rules (ear_of k i)) (sym (own_pulses i port rise width hs h.1 same))
      | inr other ↦
          others_ear (after_calls k hs) port rise width i h.0 small (eqb-false i port other) h.1
          ∙ before
          ∙ ap (ear_after k.clock k.rules (ear_of k i)) (sym (others_pulses i port rise width hs other))
    ]
by_line k i (Tick now ∷ hs) small h = absurd h

-- ---- five lines

-- calls of hearing leave all but lines, and what ports heard
pub only_lines : (k : Keeping) (hs : List Call) → AreHears 5 hs → after_calls k hs ≡ record k { heard = (after_calls k hs).heard; state = with_lines k.state (after_calls k hs).state.lines }
only_lines k [] h = refl
only_lines k (Hear port rise width ∷ hs) h = rw h.1 (ap (λ (x : Keeping). record x {
  heard = (one_pulse_more (after_calls k hs) port (rise % 2 ^ 32) width).heard;
  state = with_lines x.state (one_pulse_more (after_calls k hs) port (rise % 2 ^ 32) width).state.lines;
}) (only_lines k hs h.2))
only_lines k (Tick now ∷ hs) h = absurd h

pub same_lines : (x y : Lines) → ((i : ℕ) → i < 5 → line_at x i ≡ line_at y i) → x ≡ y
same_lines x y e =
    ap (λ (l : Line). record x { a = l }) (e 0 (omega arith))
    ∙ ap (λ (l : Line). record x { a = y.a; b = l }) (e 1 (omega arith))
    ∙ ap (λ (l : Line). record x { a = y.a; b = y.b; c = l }) (e 2 (omega arith))
    ∙ ap (λ (l : Line). record x { a = y.a; b = y.b; c = y.c; d = l }) (e 3 (omega arith))
    ∙ ap (λ (l : Line). record y { e = l }) (e 4 (omega arith))

pub same_heard : (x y : Heard) → ((i : ℕ) → i < 5 → heard_by x i ≡ heard_by y i) → x ≡ y
same_heard x y e =
    ap (λ (s : List Symbol). record x { a = s }) (e 0 (omega arith))
    ∙ ap (λ (s : List Symbol). record x { a = y.a; b = s }) (e 1 (omega arith))
    ∙ ap (λ (s : List Symbol). record x { a = y.a; b = y.b; c = s }) (e 2 (omega arith))
    ∙ ap (λ (s : List Symbol). record x { a = y.a; b = y.b; c = y.c; d = s }) (e 3 (omega arith))
    ∙ ap (λ (s : List Symbol). record y { e = s }) (e 4 (omega arith))

-- so whatever has these lines and heard this is what calls of hearing leave
pub so_after : (k : Keeping) (hs : List Call) (heard : Heard) (lines : Lines) → AreHears 5 hs
    → ((i : ℕ) → i < 5 → ear_of (after_calls k hs) i ≡ ear_with (line_at lines i) (heard_by heard i))
    → after_calls k hs ≡ record k { heard = heard; state = with_lines k.state lines }
so_after k hs heard lines h e =
    only_lines k hs h
    ∙ ap (λ (x : Heard). record k { heard = x; state = with_lines k.state (after_calls k hs).state.lines }) (same_heard _ heard (λ i small. ap (λ (e : Ear). e.heard) (e i small)))
    ∙ ap (λ (x : Lines). record k { heard = heard; state = with_lines k.state x }) (same_lines _ lines (λ i small. ap (λ (e : Ear). e.line) (e i small)))

pub same_after : (k : Keeping) (these those : List Call) → AreHears 5 these → AreHears 5 those → AreSameByLine these those → after_calls k these ≡ after_calls k those
same_after k these those h h' same =
    so_after k these (after_calls k those).heard (after_calls k those).state.lines h (λ i small.
    by_line k i these small h ∙ ap (ear_after k.clock k.rules (ear_of k i)) (same i small) ∙ sym (by_line k i those small h'))
    ∙ sym (only_lines k those h')

pub after_both : (k : Keeping) (later calls : List Call) → after_calls k (later ++ calls) ≡ after_calls (after_calls k calls) later
after_both k [] calls = refl
after_both k (Hear port rise width ∷ later) calls = ap (λ (x : Keeping). after_pulse x port (rise % 2 ^ 32) width) (after_both k later calls)
after_both k (Tick now ∷ later) calls = ap (λ (x : Keeping). after_tick x (now % 2 ^ 32)) (after_both k later calls)

module _ {P : Type 0} {g : Ghosts P} (keeper : Timekeeper P g) (made : MadeOf) where
  pub lived_in_any_order : (these those calls : List Call) → AreHears 5 these → AreHears 5 those → AreSameByLine these those → HasLived keeper made (these ++ calls) → HasLived keeper made (those ++ calls)
  lived_in_any_order these those calls h h' same l =
      let k : Keeping = device_of (made_with made l.lines l.fresh) in
      record {
        lines = l.lines;
        fresh = l.fresh;
        none = l.none;
        is = subst (IsKeeping keeper) (after_both k these calls ∙ same_after (after_calls k calls) these those h h' same ∙ sym (after_both k those calls)) l.is;
      }

-- ---- a frame but its last pulse

module _ (c : ClockRules) (rules : Rules) where
  -- behind a pulse with this place
  abbrev ear_at : Ear → Pulse → (place : ℕ) → Ear
  ear_at e p place = ear_with (record {
    sync = record { rise_us = p.rise % 2 ^ 32; place = place; was_marker = flag (is_marker p.width) };
    begin_us = begin_behind place (p.rise % 2 ^ 32) e.line.begin_us;
    frame = frame_behind c place e.line.begin_us (p.rise % 2 ^ 32) (told_within (Some c.limits.limits) rules (heard_at place e.heard p.width)) (quality_in (heard_at place e.heard p.width)) e.line.frame;
    seen = frame_behind c place e.line.begin_us (p.rise % 2 ^ 32) (told_within (Some c.limits.limits) rules (heard_at place e.heard p.width)) (quality_in (heard_at place e.heard p.width)) e.line.seen;
    is_heard = true;
  }) (heard_at place e.heard p.width)

  by_place : (e : Ear) (p : Pulse) (place : ℕ) → place_of e.line.sync (p.rise % 2 ^ 32) p.width ≡ place → ear_behind c rules e p ≡ ear_at e p place
  by_place e p place at = ap (ear_at e p) at

first_place : (on_time : Bool) (marker : Bool) (last : Bool) (place : ℕ) → marker ≡ true → last ≡ false → place_at on_time marker (not last) place ≡ 1
first_place on_time marker last place is was = rw (is, was) refl

was : (b : Bool) → not (flag b == 0) ≡ b
was true = refl
was false = refl

on_time_is : (gap : ℕ) → 9000 ≤ gap → gap < 11000 → is_on_time gap ≡ true
on_time_is gap least most = grind (arith, least, most)

gap_between : (a b : ℕ) → a + 9000 ≤ b → b < a + 11000 → clock_gap (a % 2 ^ 32) (b % 2 ^ 32) ≡ b - a
gap_between a b least less = omega (arith, least, less)

place_next : (marker before : Bool) (i : ℕ) → (before ≡ true → marker ≡ false) → i < 98 → place_at true marker before (suc i) ≡ suc (suc i)
place_next true true i apart low = absurd (let none = apart refl in cc)
place_next true false i apart low = grind (arith, low)
place_next false before i apart low = grind (arith, low)

same_begin : (place rise begin : ℕ) → 1 < place → begin_behind place rise begin ≡ begin
same_begin place rise begin more = rw (ne_eqb place 1 (λ at. omega (arith, more, at))) refl

same_frame : (c : ClockRules) (place begin rise : ℕ) (told : Told) (quality : ℕ) (frame : Option KeptFrame) → place < 100 → frame_behind c place begin rise told quality frame ≡ frame
same_frame c place begin rise told quality frame less = rw (ne_eqb place 100 (λ at. omega (arith, less, at))) refl

one_more : (place width : ℕ) (s : List Symbol) → 1 < place → length s < 101 → heard_at place s width ≡ s ++ symbol_of width ∷ []
one_more place width s more room = rw (ne_eqb place 0 (λ at. omega (arith, more, at)), ne_eqb place 1 (λ at. omega (arith, more, at)), lt-ltb (length s) 101 room) refl

abbrev sync_of : (rise place was_marker : ℕ) → Sync
sync_of rise place was_marker = record { rise_us = rise; place = place; was_marker = was_marker }

abbrev line_of : Sync → ℕ → (frame seen : Option KeptFrame) → Line
line_of sync begin frame seen = record { sync = sync; begin_us = begin; frame = frame; seen = seen; is_heard = true }

same_line : (sync : Sync) (b b' : ℕ) (f f' s s' : Option KeptFrame) → b ≡ b' → f ≡ f' → s ≡ s' → line_of sync b f s ≡ line_of sync b' f' s'
same_line sync b b' f f' s s' p q r =
    ap (λ (x : ℕ). line_of sync x f s) p ∙ ap (λ (x : Option KeptFrame). line_of sync b' x s) q ∙ ap (line_of sync b' f') r

same_sync : (rise place there : ℕ) (marker : Bool) → place ≡ there → marker ≡ false → sync_of rise place (flag marker) ≡ sync_of rise there 0
same_sync rise place there marker at none = ap (λ (n : ℕ). sync_of rise n (flag marker)) at ∙ ap (λ (b : Bool). sync_of rise there (flag b)) none

pub so_many : (width : ℕ → ℕ) (n : ℕ) → length (symbols_by width n) ≡ n
so_many width zero = refl
so_many width (suc n) = omega (arith, length-append (symbols_by width n) (symbol_of (width n) ∷ []), so_many width n)

module _ (e : Ear) (rise width : ℕ → ℕ) (may : (e.line.sync.was_marker == 0) ≡ false) (frame : AreOfAFrame rise width) where
  -- behind the i-th of them, from 0
  abbrev pub ear_within : ℕ → Ear
  ear_within i = ear_with (record {
    sync = record { rise_us = rise i % 2 ^ 32; place = suc i; was_marker = flag (is_marker (width i)) };
    begin_us = rise 0 % 2 ^ 32;
    frame = e.line.frame;
    seen = e.line.seen;
    is_heard = true;
  }) (symbols_by width (suc i))

  pub place_first : place_of e.line.sync (rise 0 % 2 ^ 32) (width 0) ≡ 1
  place_first = first_place (is_on_time (clock_gap e.line.sync.rise_us (rise 0 % 2 ^ 32))) (is_marker (width 0)) (e.line.sync.was_marker == 0) e.line.sync.place frame.first may

  pub place_within : (i : ℕ) → i < 98 → place_of (ear_within i).line.sync (rise (suc i) % 2 ^ 32) (width (suc i)) ≡ suc (suc i)
  place_within i low =
      let on = frame.on_time i (omega (arith, low)) in
      let gap = gap_between (rise i) (rise (suc i)) on.0 on.1 in
      let at = ap is_on_time gap ∙ on_time_is (rise (suc i) - rise i) (omega (arith, on.0)) (omega (arith, on.0, on.1)) in
      ap (λ (b : Bool). place_at b (is_marker (width (suc i))) (not (flag (is_marker (width i)) == 0)) (suc i)) at
      ∙ ap (λ (b : Bool). place_at true (is_marker (width (suc i))) b (suc i)) (was (is_marker (width i)))
      ∙ place_next (is_marker (width (suc i))) (is_marker (width i)) i (frame.apart i (omega (arith, low))) low

  module _ (c : ClockRules) (rules : Rules) where
    within_next : (i : ℕ) → i < 98 → ear_at c rules (ear_within i) (pulse_at (rise (suc i)) (width (suc i))) (suc (suc i)) ≡ ear_within (suc i)
    within_next i low =
        let more : 1 < suc (suc i) = omega arith in
        let less : suc (suc i) < 100 = omega (arith, low) in
        same_ear _ _ _ _ (same_line _ _ _ _ _ _ _ (same_begin (suc (suc i)) _ _ more) (same_frame c (suc (suc i)) _ _ _ _ _ less) (same_frame c (suc (suc i)) _ _ _ _ _ less))
        (one_more (suc (suc i)) (width (suc i)) (symbols_by width (suc i)) more (omega (arith, low, so_many width (suc i))))

    pub within : (i : ℕ) → i < 99 → ear_after c rules e (pulses_by rise width (suc i)) ≡ ear_within i
    within zero low = by_place c rules e (pulse_at (rise 0) (width 0)) 1 place_first
    within (suc i) low =
        ap (λ (x : Ear). ear_behind c rules x (pulse_at (rise (suc i)) (width (suc i)))) (within i (omega (arith, low)))
        ∙ by_place c rules (ear_within i) (pulse_at (rise (suc i)) (width (suc i))) (suc (suc i)) (place_within i (omega (arith, low)))
        ∙ within_next i (omega (arith, low))

-- the place of the next pulse of a frame, whatever came on other lines between
pub place_in_frame : (k : Keeping) (line i : ℕ) (rise width : ℕ → ℕ) (hs : List Call) → AreHears 5 hs → line < 5 → AreOfAFrame rise width → ((line_at k.state.lines line).sync.was_marker == 0) ≡ false → i < most
    → pulses_on line hs ≡ pulses_by rise width i → place_told (after_calls k hs) line (rise i % 2 ^ 32) (width i) ≡ i + 1
place_in_frame k line i rise width hs h low frame may few came =
    let pulse = frame.pulses i few in
    let there = by_line k line hs low h ∙ ap (ear_after k.clock k.rules (ear_of k line)) came in
    let next : suc i ≡ i + 1 = omega arith in
    rw pulse (ap (λ (e : Ear). place_of e.line.sync (rise i % 2 ^ 32) (width i)) there ∙ at i few ∙ next)
  where
    at : (i : ℕ) → i < most → place_of (ear_after k.clock k.rules (ear_of k line) (pulses_by rise width i)).line.sync (rise i % 2 ^ 32) (width i) ≡ suc i
    at zero few = place_first (ear_of k line) rise width may frame
    at (suc i) few =
        ap (λ (e : Ear). place_of e.line.sync (rise (suc i) % 2 ^ 32) (width (suc i))) (within (ear_of k line) rise width may frame k.clock k.rules i (omega (arith, few)))
        ∙ place_within (ear_of k line) rise width may frame i (omega (arith, few))

-- ---- the calls that tell them

module _ (rise width : ℕ → ℕ) (frame : AreOfAFrame rise width) (line : ℕ) where
  pub are_hears : (ports n : ℕ) → line < ports → n ≤ most → AreHears ports (hears line (pulses_by rise width n))
  are_hears ports zero low few = tt
  are_hears ports (suc n) low few = (low, frame.pulses n (omega (arith, few)), are_hears ports n low (omega (arith, few)))

  pub own_hears : (n : ℕ) → n ≤ most → pulses_on line (hears line (pulses_by rise width n)) ≡ pulses_by rise width n
  own_hears zero few = refl
  own_hears (suc n) few =
      own_pulses line line (rise n) (width n) (hears line (pulses_by rise width n)) (frame.pulses n (omega (arith, few))) (eq-eqb line line refl)
      ∙ ap (λ (ps : List Pulse). pulse_at (rise n) (width n) ∷ ps) (own_hears n (omega (arith, few)))

  pub others_hear : (n i : ℕ) → (i == line) ≡ false → pulses_on i (hears line (pulses_by rise width n)) ≡ []
  others_hear zero i other = refl
  others_hear (suc n) i other = others_pulses i line (rise n) (width n) (hears line (pulses_by rise width n)) other ∙ others_hear n i other

  -- what they leave
  pub after_unfinished : (k : Keeping) (i : ℕ) → i ≡ 98 → line < 5 → ((line_at k.state.lines line).sync.was_marker == 0) ≡ false
      → after_calls k (hears line (pulses_by rise width (suc i))) ≡ unfinished k line (rise 0 % 2 ^ 32) (rise i % 2 ^ 32) (symbols_by width (suc i))
  after_unfinished k i last low may = so_after k (hears line (pulses_by rise width (suc i))) (with_heard k.heard line (symbols_by width (suc i))) (lines_unfinished k.state.lines line (rise 0 % 2 ^ 32) (rise i % 2 ^ 32)) told each
    where
      few : suc i ≤ most
      few = omega (arith, last)

      told : AreHears 5 (hears line (pulses_by rise width (suc i)))
      told = are_hears 5 (suc i) low few

      ends : ear_within (ear_of k line) rise width may frame i ≡ ear_with (line_at (lines_unfinished k.state.lines line (rise 0 % 2 ^ 32) (rise i % 2 ^ 32)) line) (heard_by (with_heard k.heard line (symbols_by width (suc i))) line)
      ends =
          let none : is_marker (width i) ≡ false = subst (λ (n : ℕ). is_marker (width n) ≡ false) (sym last) frame.last in
          same_ear _ _ _ _
          (ap (λ (s : Sync). line_of s (rise 0 % 2 ^ 32) (line_at k.state.lines line).frame (line_at k.state.lines line).seen) (same_sync (rise i % 2 ^ 32) (suc i) most (is_marker (width i)) (omega (arith, last)) none)
          ∙ sym (line_same k.state.lines line _ low))
          (sym (heard_same k.heard line _ low))

      each : (j : ℕ) → j < 5 → ear_of (after_calls k (hears line (pulses_by rise width (suc i)))) j ≡ ear_with (line_at (lines_unfinished k.state.lines line (rise 0 % 2 ^ 32) (rise i % 2 ^ 32)) j) (heard_by (with_heard k.heard line (symbols_by width (suc i))) j)
      each j small = elim (cases_Bool (j == line)) [
        | inl same ↦ subst (λ (j : ℕ). ear_of (after_calls k (hears line (pulses_by rise width (suc i)))) j ≡ ear_with (line_at (lines_unfinished k.state.lines line (rise 0 % 2 ^ 32) (rise i % 2 ^ 32)) j) (heard_by (with_heard k.heard line (symbols_by width (suc i))) j)) (sym (eqb-true j line same))
            (by_line k line (hears line (pulses_by rise width (suc i))) low told
            ∙ ap (ear_after k.clock k.rules (ear_of k line)) (own_hears (suc i) few)
            ∙ within (ear_of k line) rise width may frame k.clock k.rules i (omega (arith, last))
            ∙ ends)
        | inr other ↦
            by_line k j (hears line (pulses_by rise width (suc i))) small told
            ∙ ap (ear_after k.clock k.rules (ear_of k j)) (others_hear (suc i) j other)
            ∙ sym (same_ear _ _ _ _ (line_other k.state.lines line _ j low small (eqb-false j line other)) (heard_other k.heard line _ j low small (eqb-false j line other)))
      ]

-- what a port then heard
heard_so : (widths : List ℕ) (width : ℕ → ℕ) (n : ℕ) → n ≤ 101 → symbols_of widths ≡ symbols_by width n → symbols_heard widths ≡ symbols_by width n
heard_so widths width n few same = ap (take 101) same ∙ take_all 101 (symbols_by width n) (omega (arith, few, so_many width n))

-- a timekeeper that is what they leave has lived through them
module _ {P : Type 0} {g : Ghosts P} (old new : Timekeeper P g) (made : MadeOf) (calls : List Call) (h : HasLived old made calls) where
  pub lived_unfinished : (rise width : ℕ → ℕ) (line first last : ℕ) (widths : List ℕ) → AreOfAFrame rise width → line < 5 → symbols_of widths ≡ symbols_by width most → first ≡ rise 0 % 2 ^ 32 → last ≡ rise 98 % 2 ^ 32
      → ((line_at old.state.lines line).sync.was_marker == 0) ≡ false → Goes old new (λ k. unfinished k line first last (symbols_heard widths)) → HasLived new made (hears line (pulses_by rise width most) ++ calls)
  lived_unfinished rise width line first last widths frame low shown begun ended may goes =
      let d : Keeping = device_of (made_with made h.lines h.fresh) in
      let k : Keeping = after_calls d calls in
      let may_it = subst (λ (s : ClockState). ((line_at s.lines line).sync.was_marker == 0) ≡ false) h.is.state may in
      let there = ap (λ (r : ℕ). unfinished k line r last (symbols_heard widths)) begun
      ∙ ap (λ (r : ℕ). unfinished k line (rise 0 % 2 ^ 32) r (symbols_heard widths)) ended
      ∙ ap (unfinished k line (rise 0 % 2 ^ 32) (rise 98 % 2 ^ 32)) (heard_so widths width most (omega arith) shown)
      ∙ sym (after_unfinished rise width frame line k 98 refl low may_it)
      ∙ sym (after_both d (hears line (pulses_by rise width most)) calls) in
      record { lines = h.lines; fresh = h.fresh; none = h.none; is = subst (IsKeeping new) there (goes k h.is) }
