-- A tick that finds nothing to do says nothing, and leaves the clock as it is.
use Rattle.std.specs.Prelude.{◌||◌, ◌&&◌, not, nat_le, nat_lt}
use Rattle.std.proofs.Common.{◌≡◌, ◌∙◌, ◌==◌, ℕ, ◌+◌, ◌-◌, ◌*◌, ◌/◌, ◌%◌, ◌<◌, ◌≤◌, Bool, true, false, if◌then◌else◌, Option, Some, None, is_none, refl, ap, sym, arith, inl, inr}
use Rattle.std.proofs.lemmas.Bool.{cases_Bool, eq-eqb, eqb-true}
use Rattle.irig_sync.specs.declared.sync.Sync.{Sync}
use Rattle.irig_sync.specs.Sync.{clock_gap, is_idle}
use Rattle.irig_time.specs.declared.rules.Rules.{Rules}
use Rattle.irig_time.specs.Tables.{TableValue}
use Rattle.irig_port.specs.declared.limits.Limits.{Limits}
use Rattle.irig_lines.specs.declared.lines.KeptFrame.{KeptFrame}
use Rattle.irig_lines.specs.declared.lines.Line.{Line}
use Rattle.irig_lines.specs.declared.lines.Lines.{Lines}
use Rattle.irig_lines.specs.declared.lines.Vote.{Vote}
use Rattle.irig_lines.specs.declared.setup.ClockRules.{ClockRules}
use Rattle.irig_lines.specs.Counting.{edges_own, is_gone}
use Rattle.irig_lines.specs.declared.interval.Interval.{Interval}
use Rattle.irig_lines.specs.Intervals.{carried_on}
use Rattle.irig_lines.specs.Rates.{aged, anchors_on}
use Rattle.irig_lines.specs.declared.rate.Anchor.{Anchor}
use Rattle.irig_lines.specs.Steps.{agreed, are_uneven, if_come, line_settled, settled, still_kept, still_seen}
use Rattle.irig_lines.proofs.PartLaws.{split}
use Rattle.irig_timekeeper.specs.declared.clock.ClockState.{ClockState}
use Rattle.irig_timekeeper.specs.Clock.{after_own, anchors_unless, answer_by, clock_after, clock_answer, clock_by, doubted_s, is_unsteady, knowing, settled_at, vote_of_lines, pace_unless}
use Rattle.c_numbers.specs.LeapTables.{table_in}
use Rattle.c_numbers.specs.Setups.{rules_in}
use Rattle.c_lines.specs.declared.line.IrigLine.{IrigLine}
use Rattle.c_lines.specs.declared.line.IrigLines.{IrigLines}
use Rattle.c_keeper.specs.declared.timekeeper.IrigTimekeeper.{IrigTimekeeper}
use Rattle.c_lines.specs.Lines.{frame_in, line_in, lines_in}
use Rattle.c_lines.specs.Quiet.{are_quiet, is_quiet_line}
use Rattle.c_keeper.specs.declared.anchors.IrigAnchor.{IrigAnchor}
use Rattle.c_keeper.specs.Anchors.{anchor_in, anchors_in, are_young, is_young}
use Rattle.c_keeper.specs.Quiet.{IsAtRest}
use Rattle.irig_lines.specs.declared.pace.Pace.{Pace}
use Rattle.c_keeper.specs.Paces.{pace_in}
use Rattle.c_keeper.specs.Timekeepers.{clock_in, clock_state_in, edge_in, interval_in, HasShortInterval}

-- ---- a line

-- what is not there is not kept, and what is not gone is still seen
no_frame : (none : Bool) (f : KeptFrame) → none ≡ true → (if none then None else Some f) ≡ None
no_frame true f is = refl
no_frame false f is = absurd cc

kept : (now : ℕ) (frame : Option KeptFrame) → frame ≡ None → still_kept now frame ≡ frame
kept now None is = refl
kept now (Some f) is = absurd cc

stays : (gone : Bool) (f : KeptFrame) → not gone ≡ true → (if gone then None else Some f) ≡ Some f
stays true f is = absurd cc
stays false f is = refl

seen : (now : ℕ) (none : Bool) (f : KeptFrame) → (none || not (is_gone f.end_us now)) ≡ true
    → still_seen now (if none then None else Some f) ≡ (if none then None else Some f)
seen now true f is = refl
seen now false f is = stays (is_gone f.end_us now) f is

-- it is not idle, or it is known to be
rests : (idle silent : Bool) (s : Sync) → (not idle || (silent && (s.place == 0 && s.was_marker == 1))) ≡ true
    → (if idle then record s { place = 0; was_marker = 1 } else s) ≡ s
rests false silent s is = refl
rests true silent s is =
    let numbers = (split (s.place == 0) (s.was_marker == 1) (split silent (s.place == 0 && s.was_marker == 1) is).1) in
    let place : 0 ≡ s.place = sym (eqb-true s.place 0 numbers.0) in
    let marker : 1 ≡ s.was_marker = sym (eqb-true s.was_marker 1 numbers.1) in
    λ i. record s { place = place i; was_marker = marker i }

heard : (idle silent rest : Bool) → (not idle || (silent && rest)) ≡ true → (not silent && not idle) ≡ not silent
heard false true rest is = refl
heard false false rest is = refl
heard true true rest is = refl
heard true false rest is = absurd cc

-- a quiet line has no vote, and a tick leaves it as it is
record IsQuiet (now : ℕ) (l : Line) : Type 0 where
  pub frame : l.frame ≡ None
  pub same : line_settled now l ≡ l

quiet_line : (now : ℕ) (limits : Option Limits) (rules : Rules) (l : IrigLine) → is_quiet_line now l ≡ true → IsQuiet now (line_in limits rules l)
quiet_line now limits rules l is =
    let f : KeptFrame = frame_in limits rules l in
    let idle : Bool = is_idle (clock_gap l.sync.rise_us now) in
    let rest : Bool = l.sync.place == 0 && l.sync.was_marker == 1 in
    let parts = split (l.has_frame == 0) ((l.is_seen == 0 || not (is_gone l.end_us now)) && (not idle || (l.is_heard == 0 && rest))) is in
    let others = split (l.is_seen == 0 || not (is_gone l.end_us now)) (not idle || (l.is_heard == 0 && rest)) parts.1 in
    let none : (line_in limits rules l).frame ≡ None = no_frame (l.has_frame == 0) f parts.0 in
    let frame = kept now (line_in limits rules l).frame none in
    let seen = seen now (l.is_seen == 0) f others.0 in
    let sync = rests idle (l.is_heard == 0) l.sync others.1 in
    let heard = heard idle (l.is_heard == 0) rest others.1 in
    record {
      frame = none;
      same = λ i. record (line_in limits rules l) { sync = sync i; frame = frame i; seen = seen i; is_heard = heard i };
    }

record AreQuiet (now : ℕ) (ls : Lines) : Type 0 where
  pub a : IsQuiet now ls.a
  pub b : IsQuiet now ls.b
  pub c : IsQuiet now ls.c
  pub d : IsQuiet now ls.d
  pub e : IsQuiet now ls.e

quiet_lines : (now : ℕ) (limits : Option Limits) (rules : Rules) (ls : IrigLines) → are_quiet now ls ≡ true → AreQuiet now (lines_in limits rules ls)
quiet_lines now limits rules ls is =
    let a = split (is_quiet_line now ls.a) (is_quiet_line now ls.b && (is_quiet_line now ls.c && (is_quiet_line now ls.d && is_quiet_line now ls.e))) is in
    let b = split (is_quiet_line now ls.b) (is_quiet_line now ls.c && (is_quiet_line now ls.d && is_quiet_line now ls.e)) a.1 in
    let third = split (is_quiet_line now ls.c) (is_quiet_line now ls.d && is_quiet_line now ls.e) b.1 in
    let d = split (is_quiet_line now ls.d) (is_quiet_line now ls.e) third.1 in
    record {
      a = quiet_line now limits rules ls.a a.0;
      b = quiet_line now limits rules ls.b b.0;
      c = quiet_line now limits rules ls.c third.0;
      d = quiet_line now limits rules ls.d d.0;
      e = quiet_line now limits rules ls.e d.1;
    }

same_lines : (now : ℕ) (ls : Lines) → AreQuiet now ls → settled now ls ≡ ls
same_lines now ls h = λ i. record { a = h.a.same i; b = h.b.same i; c = h.c.same i; d = h.d.same i; e = h.e.same i }

-- ---- a tick

agree_on_nothing : (c : ClockRules) (now : ℕ) (ls : Lines) → AreQuiet now ls → agreed c ls ≡ None
agree_on_nothing c now ls h = rw (h.a.frame, h.b.frame, h.c.frame, h.d.frame, h.e.frame) refl

no_vote : (c : ClockRules) (now : ℕ) (s : ClockState) → AreQuiet now s.lines → vote_of_lines c s now ≡ None
no_vote c now s h =
    ap (λ (ls : Lines). if_come now (agreed c ls)) (same_lines now s.lines h)
    ∙ ap (λ (vote : Option Vote). if_come now vote) (agree_on_nothing c now s.lines h)

steady : (none uneven : Bool) (edges : ℕ) → edges ≡ 0 → (none && (not (edges == 0) && uneven)) ≡ false
steady true uneven edges zero = rw zero refl
steady false uneven edges zero = refl

settled_same : (c : ClockRules) (now : ℕ) (s : ClockState) → AreQuiet now s.lines → edges_own s.pace s.edge_us now ≡ 0 → settled_at c s now ≡ s
settled_same c now s h none =
    let lines = same_lines now s.lines h in
    let no : is_unsteady c s now ≡ false = steady (is_none (vote_of_lines c s now)) (are_uneven c (settled now s.lines)) (edges_own s.pace s.edge_us now) none in
    let strays : (if is_unsteady c s now then (s.strays + 1) % 4294967296 else s.strays) ≡ s.strays = ap (λ (b : Bool). if b then (s.strays + 1) % 4294967296 else s.strays) no in
    let doubt : (if is_unsteady c s now then doubted_s c else s.doubt) ≡ s.doubt = ap (λ (b : Bool). if b then doubted_s c else s.doubt) no in
    let anchors : anchors_unless (is_unsteady c s now) s.anchors ≡ s.anchors = ap (λ (b : Bool). anchors_unless b s.anchors) no in
    let pace : pace_unless (is_unsteady c s now) s.pace ≡ s.pace = ap (λ (b : Bool). pace_unless b s.pace) no in
    λ i. record s { lines = lines i; anchors = anchors i; pace = pace i; strays = strays i; doubt = doubt i }

quiet_answer : (c : ClockRules) (table : TableValue) (now : ℕ) (s : ClockState) → AreQuiet now s.lines → edges_own s.pace s.edge_us now ≡ 0 → clock_answer c table s now ≡ None
quiet_answer c table now s h none =
    ap (λ (vote : Option Vote). answer_by c table (settled_at c s now) now vote) (no_vote c now s h)
    ∙ (ap (λ (x : ClockState). answer_by c table x now None) (settled_same c now s h none) ∙ rw none refl)

quiet_after : (c : ClockRules) (table : TableValue) (now : ℕ) (s : ClockState) → AreQuiet now s.lines → edges_own s.pace s.edge_us now ≡ 0 → carried_on c.drift_us 0 s.interval ≡ s.interval
    → anchors_on 0 s.interval s.anchors ≡ s.anchors → clock_after c table s now ≡ s
quiet_after c table now s h none known serve =
    let anchors = ap (λ (x : Option Interval). anchors_on 0 x s.anchors) known ∙ serve in
    ap (λ (vote : Option Vote). clock_by c table (settled_at c s now) now vote) (no_vote c now s h)
    ∙ (ap (λ (x : ClockState). clock_by c table x now None) (settled_same c now s h none)
    ∙ (ap (λ (edges : ℕ). knowing c s edges (after_own c table s edges)) none
    ∙ (λ i. record s { interval = known i; anchors = anchors i })))

-- an interval that is so short is no other one after no second
carried_nowhere : (d begin long : ℕ) → begin < 4294967296 → long ≤ 980000 → carried_on d 0 (Some (record { begin_us = begin; long_us = long })) ≡ Some (record { begin_us = begin; long_us = long })
carried_nowhere d begin long fits short =
    let no_longer : long + 2 * (0 * d) ≡ long = omega arith in
    let no_later : (begin + (0 * 1000000 - 0 * d)) % 4294967296 ≡ begin = omega (arith, fits) in
    let not_long : nat_lt 980000 (long + 2 * (0 * d)) ≡ false = not_less (long + 2 * (0 * d)) (omega (arith, short)) in
    ap (λ (b : Bool). if b then None else Some (record { begin_us = (begin + (0 * 1000000 - 0 * d)) % 4294967296; long_us = long + 2 * (0 * d) })) not_long
    ∙ (λ i. Some (record { begin_us = no_later i; long_us = no_longer i }))
  where
    not_less : (g : ℕ) → g ≤ 980000 → nat_lt 980000 g ≡ false
    not_less g low = grind (arith, low)

known_still : (t : IrigTimekeeper) (d : ℕ) → HasShortInterval t → t.begin_us < 4294967296 → carried_on d 0 (interval_in t) ≡ interval_in t
known_still t d short fits = by (t.has_interval == 0) refl
  where
    never : ◌≡◌ {A = Bool} false true → ⊥
    never h = absurd cc

    by : (none : Bool) → (t.has_interval == 0) ≡ none → carried_on d 0 (if none then None else Some (record { begin_us = t.begin_us; long_us = t.long_us })) ≡ (if none then None else Some (record { begin_us = t.begin_us; long_us = t.long_us }))
    by true is = refl
    by false is = elim short [
      | inl none ↦ absurd (never (sym is ∙ eq-eqb t.has_interval 0 none))
      | inr few ↦ carried_nowhere d t.begin_us t.long_us fits (omega (arith, few))
    ]

-- anchors that still serve are the same after no second
aged_nowhere : (has : ℕ) (a : IrigAnchor) → is_young has a ≡ true → aged 0 (anchor_in has a) ≡ anchor_in has a
aged_nowhere has a is = by (has == 0) is
  where
    no_older : (seconds : ℕ) → seconds + 0 ≡ seconds
    no_older seconds = omega arith

    not_less : (g : ℕ) → nat_le g 2000 ≡ true → nat_lt 2000 g ≡ false
    not_less g low = grind (arith, low)

    by : (none : Bool) → (none || nat_le a.seconds 2000) ≡ true
        → aged 0 (if none then None else Some (record { begin_us = a.begin_us; long_us = a.long_us; seconds = a.seconds })) ≡ (if none then None else Some (record { begin_us = a.begin_us; long_us = a.long_us; seconds = a.seconds }))
    by true is = refl
    by false is =
        ap (λ (n : ℕ). if nat_lt 2000 n then None else Some (record { begin_us = a.begin_us; long_us = a.long_us; seconds = n })) (no_older a.seconds)
        ∙ ap (λ (b : Bool). if b then None else Some (record { begin_us = a.begin_us; long_us = a.long_us; seconds = a.seconds })) (not_less a.seconds is)

anchors_still : (t : IrigTimekeeper) → are_young t.has_interval t.anchors ≡ true → anchors_on 0 (interval_in t) (anchors_in t.anchors) ≡ anchors_in t.anchors
anchors_still t is = by (t.has_interval == 0) is
  where
    none : (b : Bool) (x : Anchor) → b ≡ true → None ≡ (if b then None else Some x)
    none true x is = refl
    none false x is = absurd cc

    by : (unknown : Bool) → (if unknown then t.anchors.has_old == 0 && t.anchors.has_young == 0 else (is_young t.anchors.has_old t.anchors.old && is_young t.anchors.has_young t.anchors.young)) ≡ true
        → anchors_on 0 (if unknown then None else Some (record { begin_us = t.begin_us; long_us = t.long_us })) (anchors_in t.anchors) ≡ anchors_in t.anchors
    by true is =
        let both = split (t.anchors.has_old == 0) (t.anchors.has_young == 0) is in
        let old = none (t.anchors.has_old == 0) (record { begin_us = t.anchors.old.begin_us; long_us = t.anchors.old.long_us; seconds = t.anchors.old.seconds }) both.0 in
        let young = none (t.anchors.has_young == 0) (record { begin_us = t.anchors.young.begin_us; long_us = t.anchors.young.long_us; seconds = t.anchors.young.seconds }) both.1 in
        λ i. record { old = old i; young = young i }
    by false is =
        let both = split (is_young t.anchors.has_old t.anchors.old) (is_young t.anchors.has_young t.anchors.young) is in
        let old = aged_nowhere t.anchors.has_old t.anchors.old both.0 in
        let young = aged_nowhere t.anchors.has_young t.anchors.young both.1 in
        λ i. record { old = old i; young = young i }

-- whether a second has come by the own counter does not depend on what was learned
none_by_any : (pace : Option Pace) (o : Option ℕ) (now : ℕ) → edges_own None o now ≡ 0 → edges_own pace o now ≡ 0
none_by_any pace None now none = refl
none_by_any None (Some e) now none = none
none_by_any (Some p) (Some e) now none = elim (cases_Bool (nat_lt (clock_gap e now) 2147483648)) [
  | inl near ↦
      let nothing : (clock_gap e now - 6000) / 1000000 ≡ 0 = rw near at none in
      let low : nat_lt (clock_gap e now) 1006000 ≡ true = less (clock_gap e now) (omega (arith, nothing)) in
      rw (near, low) refl
  | inr far ↦ rw far refl
]
  where
    less : (g : ℕ) → g < 1006000 → nat_lt g 1006000 ≡ true
    less g h = grind (arith, h)

-- it says nothing, and nothing changes
pub at_rest : (t : IrigTimekeeper) (now : ℕ) → edges_own None (edge_in t) now ≡ 0 → are_young t.has_interval t.anchors ≡ true → are_quiet now t.lines ≡ true → HasShortInterval t → t.begin_us < 4294967296 → IsAtRest t now
at_rest t now none young is short fits =
    let lines = quiet_lines now (Some (clock_in t).limits.limits) (rules_in t.setup) t.lines is in
    let nothing = none_by_any (pace_in t.pace) (edge_in t) now none in
    record {
      answer = quiet_answer (clock_in t) (table_in t.table) now (clock_state_in t) lines nothing;
      state = quiet_after (clock_in t) (table_in t.table) now (clock_state_in t) lines nothing (known_still t (clock_in t).drift_us short fits) (anchors_still t young);
    }
