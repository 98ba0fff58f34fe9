-- The life of a device.
use Rattle.std.specs.Prelude.{◌==◌, ◌&&◌}
use Rattle.std.proofs.Common.{◌≡◌, ◌∙◌, ◌⊎◌, ℕ, zero, suc, ◌+◌, ◌%◌, ◌^◌, ◌<◌, ◌≤◌, Bool, true, false, cond, List, [], ◌∷◌, ◌++◌, length, Option, Some, None, refl, sym, ap, subst, arith, inl, inr, append-nil}
use Rattle.std.proofs.lemmas.Bool.{cases_Bool, cases_lt, eqb-true, eqb-false, eq-eqb, ne_eqb}
use Rattle.irig_frame.specs.declared.symbol.Symbol.{Symbol}
use Rattle.irig_sync.specs.declared.sync.Sync.{Sync}
use Rattle.irig_sync.specs.Sync.{clock_gap, place_of, is_idle, idle_of}
use Rattle.irig_sync.specs.Lines.{Pulse, pulse_at, place_after, IsAfter, IsSoon}
use Rattle.irig_sync.proofs.LineLaws.{place_at_time}
use Rattle.irig_time.specs.declared.second.UtcSecond.{UtcSecond}
use Rattle.irig_time.specs.declared.rules.Rules.{Rules}
use Rattle.irig_time.specs.Timelines.{TimelineValue}
use Rattle.irig_time.specs.Tables.{TableValue}
use Rattle.irig_port.specs.Limits.{told_within, quality_in}
use Rattle.irig_port.specs.Hearing.{heard_at, heard_of_last, IsHearing}
use Rattle.irig_port.proofs.RunLaws.{hears, first_hears, idle_hears}
use Rattle.irig_vote.specs.declared.redundancy.Redundancy.{Redundancy}
use Rattle.irig_vote.specs.Vote.{f_of}
use Rattle.irig_reader.specs.declared.report.Cause.TheVariants as cause
use Rattle.irig_reader.proofs.FedLaws.{at_most_five}
use Rattle.irig_lines.specs.declared.lines.KeptFrame.{KeptFrame}
use Rattle.irig_lines.specs.declared.lines.KeptClaim.{KeptClaim}
use Rattle.irig_lines.specs.declared.lines.Line.{Line}
use Rattle.irig_lines.specs.declared.lines.Lines.{Lines}
use Rattle.irig_lines.specs.declared.lines.Vote.{Vote}
use Rattle.irig_lines.proofs.WidthLaws.{reach_few}
use Rattle.irig_timekeeper.specs.declared.clock.Beat.{Beat}
use Rattle.irig_lines.specs.declared.setup.ClockRules.{ClockRules}
use Rattle.irig_timekeeper.specs.declared.clock.ClockState.{ClockState}
use Rattle.irig_lines.specs.Lines.{KnowsBegin, IfKept, IsInTurnOf}
use Rattle.irig_lines.specs.Counting.{is_late, edges_to_vote, edges_own}
use Rattle.irig_lines.specs.Steps.{is_pulse, line_at, with_line, line_heard, still_kept, claim_kept, line_settled, settled, line_taken, taken, IsNewLine, AreNewLines}
use Rattle.irig_timekeeper.specs.Clock.{clock_by, settled_at}
use Rattle.irig_timekeeper.specs.Keeping.{Heard, Keeping, heard_by, with_heard, heard_then, one_pulse_more, after_pulse, vote_at, after_tick, answer_at, new_keeping, nothing_heard}
use Rattle.irig_timekeeper.specs.Truth.{AreHeardTruly, IsOnTrack, IsToldInHoldover, IsLaterSecond, IsDevice}
use Rattle.irig_timekeeper.specs.Life.{Call, after_calls, pulses_on, last_tick, HaveRisen, AreInOrder, AreTrueLately, AreTrueAtTicks, AreTrueOver}
use Rattle.irig_timekeeper.specs.Life.Call.{Hear, Tick}
use Rattle.irig_lines.proofs.LineLaws.{kept_more}
use Rattle.irig_lines.proofs.WholeLaws.{whole_of, AreSorted, whole_here, not_whole, begin_more, even_here}
use Rattle.irig_timekeeper.proofs.VoteLaws.{TellsTruly, still, not_late}
use Rattle.irig_timekeeper.proofs.BoundLaws.{answer_bound}
use Rattle.irig_lines.specs.Paces.{IsSound}
use Rattle.irig_timekeeper.proofs.SoundLaws.{none_sound, tick_sound}
use Rattle.irig_timekeeper.proofs.TrackLaws.{StepsAt, KeepsTrue, tick_true}

-- ---- one line

-- the end lies at most 14 ms behind the next tick, and half a second before the last one; it is that
-- of the last whole frame
abbrev pub IsEndAt : List Pulse → ℕ → ℕ → ℕ → Type 0
IsEndAt pulses tick now end = (end ≤ now + 14000) × (tick ≤ end + 500000) × (end ≡ whole_of pulses)

-- a line heard these pulses, by the time of a tick to come; its synchroniser was told last of a time
-- since the last tick, but for half a second: of that tick, or of the last pulse. Nobody emptied its
-- port. In a frame it knows when the first pulse rose
pub record IsLineAt (c : ClockRules) (rules : Rules) (heard : List Symbol) (line : Line) (pulses : List Pulse) (tick now : ℕ) : Type 0 where
  pub told : ℕ
  pub hearing : IsHearing heard line.sync pulses told
  pub all : heard ≡ heard_of_last (length pulses) pulses
  pub sorted : AreSorted pulses
  pub begins : KnowsBegin line.begin_us pulses
  pub kept : IfKept (IsEndAt pulses tick now) c rules (claim_kept c line.frame) pulses
  pub past : told ≤ now + 4000
  pub near : tick ≤ told + 500000
  pub last : (more time : ℕ) → tick ≤ time + more → IsAfter pulses time → told ≤ time + more

-- so a pulse that comes in order comes in the turn of the clock
pub line_soon : {c : ClockRules} {rules : Rules} {heard : List Symbol} {line : Line} {pulses : List Pulse} {tick now : ℕ} (rise : ℕ) → (l : IsLineAt c rules heard line pulses tick now) → rise ≤ now + 4000 → now + 504000 < tick + 1800000000 → IsAfter pulses rise × (tick ≤ rise + 500000) → IsSoon l.told rise
line_soon rise l risen half told = (l.last 500000 rise told.1 told.0, omega (arith, l.near, half, risen))

-- at a tick that comes before the rise of its last pulse a line is not idle
still_live : (heard : List Symbol) (s : Sync) (pulses : List Pulse) (told now : ℕ) → IsHearing heard s pulses told → now < told → told ≤ now + 4000 → ((time : ℕ) → now ≤ time → IsAfter pulses time → told ≤ time) → IsHearing heard (idle_of s (now % 2 ^ 32)) pulses told
still_live heard s [] told now h ahead near last = absurd (let upto = last now (omega arith) tt in omega (arith, upto, ahead))
still_live heard s (p ∷ ps) told now h ahead near last = elim (cases_lt now p.rise) [
  | inr risen ↦ absurd (let upto = last now (omega arith) risen in omega (arith, upto, ahead))
  | inl before ↦
      let upto = last p.rise (omega (arith, before)) (omega arith) in
      elim h.sync [
        | inr out ↦ absurd (omega (arith, out.1, upto))
        | inl live ↦
            let gap : 2 ^ 31 ≤ clock_gap s.rise_us (now % 2 ^ 32) = far s.rise_us p.rise live.0.last.0 before (omega (arith, live.1.0, near)) in
            rw (not_idle (clock_gap s.rise_us (now % 2 ^ 32)) gap) h
      ]
]
  where
    far : (r rise : ℕ) → r ≡ rise % 2 ^ 32 → now < rise → rise ≤ now + 4000 → 2 ^ 31 ≤ clock_gap r (now % 2 ^ 32)
    far r rise clock before near = omega (arith, clock, before, near)

    not_idle : (g : ℕ) → 2 ^ 31 ≤ g → is_idle g ≡ false
    not_idle g h = grind (arith, h)

module _ (c : ClockRules) (rules : Rules) where
  line_hears : (heard : List Symbol) (line : Line) (pulses : List Pulse) (tick now rise width : ℕ) → IsLineAt c rules heard line pulses tick now
      → rise ≤ now + 4000 → now + 504000 < tick + 1800000000 → IsAfter pulses rise × (tick ≤ rise + 500000)
      → IsLineAt c rules (heard_at (place_of line.sync (rise % 2 ^ 32) width) heard width) (line_heard c line (rise % 2 ^ 32) width (told_within (Some c.limits.limits) rules (heard_at (place_of line.sync (rise % 2 ^ 32) width) heard width)) (quality_in (heard_at (place_of line.sync (rise % 2 ^ 32) width) heard width))) (pulse_at rise width ∷ pulses) tick now
  line_hears heard line pulses tick now rise width l risen half in_order =
      let soon : IsSoon l.told rise = line_soon rise l risen half in_order in
      let hearing = hears heard line.sync _ pulses l.told rise _ width _ refl refl l.hearing refl in_order.0 soon in
      let p : Pulse = pulse_at rise width in
      let place : place_of line.sync (rise % 2 ^ 32) width ≡ place_after (p ∷ pulses) = place_at_time line.sync pulses l.told rise width l.hearing.sync in_order.0 soon in
      record {
        told = rise;
        hearing = hearing;
        all = ap (λ (s : List Symbol). heard_at (place_of line.sync (rise % 2 ^ 32) width) s width) l.all ∙ ap (λ (n : ℕ). heard_at n (heard_of_last (length pulses) pulses) width) place;
        sorted = (in_order.0, l.sorted);
        begins = begin_more line.begin_us _ p pulses l.begins place;
        kept = kept_more (IsEndAt pulses tick now) (IsEndAt (p ∷ pulses) tick now) c line.begin_us _
            (λ inside end e. (e.0, e.1, e.2 ∙ sym (not_whole p pulses (λ at. inside (place ∙ at)))))
            rules line.frame _ rise width pulses hearing.run l.kept
            (λ at even. even_here c line.begin_us p pulses l.begins (sym place ∙ at) even)
            (λ at. (omega (arith, risen), omega (arith, in_order.1), sym (whole_here p pulses (sym place ∙ at))));
        past = risen;
        near = in_order.1;
        last = λ more time late after. omega (arith, after);
      }

  line_waits : (heard : List Symbol) (line : Line) (pulses : List Pulse) (tick now time : ℕ) → IsLineAt c rules heard line pulses tick now → now ≤ time → IsLineAt c rules heard line pulses tick time
  line_waits heard line pulses tick now time l on = record {
    told = l.told;
    hearing = l.hearing;
    all = l.all;
    sorted = l.sorted;
    begins = l.begins;
    kept = eased (IsEndAt pulses tick now) (IsEndAt pulses tick time) (λ end e. (omega (arith, e.0, on), e.1, e.2)) (claim_kept c line.frame) pulses l.kept;
    past = omega (arith, l.past, on);
    near = l.near;
    last = l.last;
  }
    where
      eased : (EndsSo Ends : ℕ → Type 0) → ((end : ℕ) → EndsSo end → Ends end) → (kept : Option KeptClaim) (pulses : List Pulse) → IfKept EndsSo c rules kept pulses → IfKept Ends c rules kept pulses
      eased EndsSo Ends more None pulses h = tt
      eased EndsSo Ends more (Some kept) pulses h = (h.0, h.1, h.2, more h.0 h.3)

  -- at a tick
  still_in_turn : (kept : Option KeptClaim) (pulses : List Pulse) (tick now : ℕ) → now + 504000 < tick + 1800000000 → IfKept (IsEndAt pulses tick now) c rules kept pulses → IfKept (IsInTurnOf now) c rules kept pulses
  still_in_turn None pulses tick now half h = tt
  still_in_turn (Some kept) pulses tick now half h = (h.0, h.1, h.2, (h.3.0, omega (arith, h.3.1, half)))

  still_there : (frame : Option KeptFrame) (pulses : List Pulse) (tick now : ℕ) → now + 504000 < tick + 1800000000 → IfKept (IsEndAt pulses tick now) c rules (claim_kept c frame) pulses
      → IfKept (IsEndAt pulses now now) c rules (claim_kept c (still_kept (now % 2 ^ 32) frame)) pulses
  still_there frame pulses tick now half h = by (claim_kept c (still_kept (now % 2 ^ 32) frame)) refl
    where
      by : (o : Option KeptClaim) → claim_kept c (still_kept (now % 2 ^ 32) frame) ≡ o → IfKept (IsEndAt pulses now now) c rules o pulses
      by None e = tt
      by (Some kept) e =
          let was = still c (now % 2 ^ 32) frame kept e in
          let h' = subst (λ (o : Option KeptClaim). IfKept (IsEndAt pulses tick now) c rules o pulses) was.0 h in
          let soon = not_late h'.0 now h'.3.0 (omega (arith, h'.3.1, half)) (subst (λ (e : ℕ). is_late e (now % 2 ^ 32) ≡ false) h'.1 was.1) in
          (h'.0, h'.1, h'.2, (h'.3.0, omega (arith, soon), h'.3.2))

  line_ticks : (heard : List Symbol) (line : Line) (pulses : List Pulse) (tick now : ℕ) → IsLineAt c rules heard line pulses tick now → tick ≤ now → now + 504000 < tick + 1800000000
      → IsLineAt c rules heard (line_settled (now % 2 ^ 32) line) pulses now now
  line_ticks heard line pulses tick now l order half = elim (cases_lt now l.told) [
    | inl ahead ↦ record {
      told = l.told;
      hearing = still_live heard line.sync pulses l.told now l.hearing ahead l.past (λ time late after. (let last = l.last 0 time (omega (arith, order, late)) after in omega (arith, last)));
      all = l.all;
      sorted = l.sorted;
      begins = l.begins;
      kept = still_there line.frame pulses tick now half l.kept;
      past = l.past;
      near = omega (arith, ahead);
      last = λ more time upto after. l.last more time (omega (arith, order, upto)) after;
    }
    | inr past ↦
        let soon : IsSoon l.told now = (omega (arith, past), omega (arith, l.near, half)) in
        record {
          told = now;
          hearing = idle_hears heard line.sync pulses l.told now l.hearing past soon;
          all = l.all;
          sorted = l.sorted;
          begins = l.begins;
          kept = still_there line.frame pulses tick now half l.kept;
          past = omega arith;
          near = omega arith;
          last = λ more time upto after. upto;
        }
  ]

  line_gives : (heard : List Symbol) (line : Line) (pulses : List Pulse) (time : ℕ) → IsLineAt c rules heard line pulses time time → IsLineAt c rules heard (line_taken line) pulses time time
  line_gives heard line pulses time l = record { told = l.told; hearing = l.hearing; all = l.all; sorted = l.sorted; begins = l.begins; kept = tt; past = l.past; near = l.near; last = l.last }

-- the same line by other words
moved : (c : ClockRules) (rules rules' : Rules) (heard heard' : List Symbol) (line line' : Line) (pulses pulses' : List Pulse) (tick now : ℕ) → rules ≡ rules' → heard ≡ heard' → line ≡ line' → pulses ≡ pulses'
    → IsLineAt c rules heard line pulses tick now → IsLineAt c rules' heard' line' pulses' tick now
moved c rules rules' heard heard' line line' pulses pulses' tick now r h l p is =
    subst (λ (x : Rules). IsLineAt c x heard' line' pulses' tick now) r
    (subst (λ (x : List Symbol). IsLineAt c rules x line' pulses' tick now) h
    (subst (λ (x : Line). IsLineAt c rules heard x pulses' tick now) l
    (subst (λ (x : List Pulse). IsLineAt c rules heard line x tick now) p is)))

-- ---- five lines

pub line_same : (lines : Lines) (port : ℕ) (l : Line) → port < 5 → line_at (with_line lines port l) port ≡ l
line_same lines zero l low = refl
line_same lines (suc zero) l low = refl
line_same lines (suc (suc zero)) l low = refl
line_same lines (suc (suc (suc zero))) l low = refl
line_same lines (suc (suc (suc (suc zero)))) l low = refl
line_same lines (suc (suc (suc (suc (suc i))))) l low = absurd (omega (arith, low))

pub heard_same : (heard : Heard) (port : ℕ) (s : List Symbol) → port < 5 → heard_by (with_heard heard port s) port ≡ s
heard_same heard zero s low = refl
heard_same heard (suc zero) s low = refl
heard_same heard (suc (suc zero)) s low = refl
heard_same heard (suc (suc (suc zero))) s low = refl
heard_same heard (suc (suc (suc (suc zero)))) s low = refl
heard_same heard (suc (suc (suc (suc (suc i))))) s low = absurd (omega (arith, low))

pub line_other : (lines : Lines) (port : ℕ) (l : Line) (i : ℕ) → port < 5 → i < 5 → ¬ (i ≡ port) → line_at (with_line lines port l) i ≡ line_at lines i
line_other lines zero l i low small other = rw (ne_eqb i 0 other) refl
line_other lines (suc zero) l i low small other = rw (ne_eqb i 1 other) refl
line_other lines (suc (suc zero)) l i low small other = rw (ne_eqb i 2 other) refl
line_other lines (suc (suc (suc zero))) l i low small other = rw (ne_eqb i 3 other) refl
line_other lines (suc (suc (suc (suc zero)))) l zero low small other = refl
line_other lines (suc (suc (suc (suc zero)))) l (suc zero) low small other = refl
line_other lines (suc (suc (suc (suc zero)))) l (suc (suc zero)) low small other = refl
line_other lines (suc (suc (suc (suc zero)))) l (suc (suc (suc zero))) low small other = refl
line_other lines (suc (suc (suc (suc zero)))) l (suc (suc (suc (suc zero)))) low small other = absurd (other refl)
line_other lines (suc (suc (suc (suc zero)))) l (suc (suc (suc (suc (suc i))))) low small other = absurd (omega (arith, small))
line_other lines (suc (suc (suc (suc (suc p))))) l i low small other = absurd (omega (arith, low))

pub heard_other : (heard : Heard) (port : ℕ) (s : List Symbol) (i : ℕ) → port < 5 → i < 5 → ¬ (i ≡ port) → heard_by (with_heard heard port s) i ≡ heard_by heard i
heard_other heard zero s i low small other = rw (ne_eqb i 0 other) refl
heard_other heard (suc zero) s i low small other = rw (ne_eqb i 1 other) refl
heard_other heard (suc (suc zero)) s i low small other = rw (ne_eqb i 2 other) refl
heard_other heard (suc (suc (suc zero))) s i low small other = rw (ne_eqb i 3 other) refl
heard_other heard (suc (suc (suc (suc zero)))) s zero low small other = refl
heard_other heard (suc (suc (suc (suc zero)))) s (suc zero) low small other = refl
heard_other heard (suc (suc (suc (suc zero)))) s (suc (suc zero)) low small other = refl
heard_other heard (suc (suc (suc (suc zero)))) s (suc (suc (suc zero))) low small other = refl
heard_other heard (suc (suc (suc (suc zero)))) s (suc (suc (suc (suc zero)))) low small other = absurd (other refl)
heard_other heard (suc (suc (suc (suc zero)))) s (suc (suc (suc (suc (suc i))))) low small other = absurd (omega (arith, small))
heard_other heard (suc (suc (suc (suc (suc p))))) s i low small other = absurd (omega (arith, low))

pub line_settles : (clock : ℕ) (lines : Lines) (i : ℕ) → i < 5 → line_settled clock (line_at lines i) ≡ line_at (settled clock lines) i
line_settles clock lines zero low = refl
line_settles clock lines (suc zero) low = refl
line_settles clock lines (suc (suc zero)) low = refl
line_settles clock lines (suc (suc (suc zero))) low = refl
line_settles clock lines (suc (suc (suc (suc zero)))) low = refl
line_settles clock lines (suc (suc (suc (suc (suc i))))) low = absurd (omega (arith, low))

pub line_takes : (lines : Lines) (i : ℕ) → i < 5 → line_taken (line_at lines i) ≡ line_at (taken lines) i
line_takes lines zero low = refl
line_takes lines (suc zero) low = refl
line_takes lines (suc (suc zero)) low = refl
line_takes lines (suc (suc (suc zero))) low = refl
line_takes lines (suc (suc (suc (suc zero)))) low = refl
line_takes lines (suc (suc (suc (suc (suc i))))) low = absurd (omega (arith, low))

-- ---- what a tick leaves as it was

abbrev pub IsTicked : ClockState → ClockState → ℕ → Type 0
IsTicked old new clock = (new.lines ≡ settled clock old.lines) ⊎ (new.lines ≡ taken (settled clock old.lines))

either_ticked : (old : ClockState) (clock : ℕ) (b : Bool) (x y : ClockState) → IsTicked old x clock → IsTicked old y clock → IsTicked old (cond b x y) clock
either_ticked old clock true x y p q = p
either_ticked old clock false x y p q = q

pub ticked : (k : Keeping) (clock : ℕ) → IsTicked k.state (after_tick k clock).state clock
ticked k clock = of (vote_at k clock)
  where
    of : (v : Option Vote) → IsTicked k.state (clock_by k.clock k.table (settled_at k.clock k.state clock) clock v) clock
    of None = either_ticked k.state clock (edges_own (settled_at k.clock k.state clock).pace k.state.edge_us clock == 0) _ _ (inl refl) (inl refl)
    of (Some v) = either_ticked k.state clock (edges_to_vote k.state.edge_us v.edge_us == 0) _ _ (inr refl) (inr refl)

-- ---- what lines keep, after calls in order

pub record IsSameSetup (old new : Keeping) : Type 0 where
  pub rules : new.rules ≡ old.rules
  pub clock : new.clock ≡ old.clock
  pub table : new.table ≡ old.table

-- after calls, of which the last tick was of this time, by the time of a tick to come
pub record AreLinesAt (new k : Keeping) (pulses : ℕ → List Pulse) (tick now : ℕ) : Type 0 where
  pub same : IsSameSetup new k
  pub lines : (i : ℕ) → i < 5 → IsLineAt k.clock k.rules (heard_by k.heard i) (line_at k.state.lines i) (pulses i) tick now
  pub sound : IsSound k.state.pace

pub and_false : (a b : Bool) → b ≡ false → (a && b) ≡ false
and_false true b e = e
and_false false b e = refl

lines_wait : (new k : Keeping) (pulses : ℕ → List Pulse) (tick now time : ℕ) → AreLinesAt new k pulses tick now → now ≤ time → AreLinesAt new k pulses tick time
lines_wait new k pulses tick now time l on = record {
  same = l.same;
  lines = λ i low. line_waits k.clock k.rules (heard_by k.heard i) (line_at k.state.lines i) (pulses i) tick now time (l.lines i low) on;
  sound = l.sound;
}

module _ (new k : Keeping) (calls : List Call) (tick now port rise width : ℕ) (l : AreLinesAt new k (λ i. pulses_on i calls) tick now) where
  -- what is too wide is no pulse
  stuck : is_pulse width ≡ false → AreLinesAt new (after_pulse k port (rise % 2 ^ 32) width) (λ i. pulses_on i (Hear port rise width ∷ calls)) tick now
  stuck wide =
      let k_stays : k ≡ after_pulse k port (rise % 2 ^ 32) width = rw wide refl in
      subst (λ (x : Keeping). AreLinesAt new x (λ i. pulses_on i (Hear port rise width ∷ calls)) tick now) k_stays (record {
        same = l.same;
        lines = λ i low.
            let none : pulses_on i calls ≡ pulses_on i (Hear port rise width ∷ calls) = rw (and_false (i == port) (is_pulse width) wide) refl in
            moved k.clock k.rules k.rules _ _ _ _ _ _ tick now refl refl refl none (l.lines i low);
        sound = l.sound;
      })

  module _ (low : port < 5) (risen : rise ≤ now + 4000) (half : now + 504000 < tick + 1800000000) (narrow : is_pulse width ≡ true) (in_order : IsAfter (pulses_on port calls) rise × (tick ≤ rise + 500000)) where
    abbrev there_line : Line
    there_line = line_heard k.clock (line_at k.state.lines port) (rise % 2 ^ 32) width (told_within (Some k.clock.limits.limits) k.rules (heard_then k port (rise % 2 ^ 32) width)) (quality_in (heard_then k port (rise % 2 ^ 32) width))

    there : IsLineAt k.clock k.rules (heard_then k port (rise % 2 ^ 32) width) there_line (pulse_at rise width ∷ pulses_on port calls) tick now
    there = line_hears k.clock k.rules (heard_by k.heard port) (line_at k.state.lines port) (pulses_on port calls) tick now rise width (l.lines port low) risen half in_order

    on_it : (i : ℕ) → (i == port) ≡ true → pulse_at rise width ∷ pulses_on i calls ≡ pulses_on i (Hear port rise width ∷ calls)
    on_it i same = rw (same, narrow) refl

    on_others : (i : ℕ) → (i == port) ≡ false → pulses_on i calls ≡ pulses_on i (Hear port rise width ∷ calls)
    on_others i other = rw other refl

    then : (i : ℕ) → i < 5 → IsLineAt k.clock k.rules (heard_by (with_heard k.heard port (heard_then k port (rise % 2 ^ 32) width)) i) (line_at (with_line k.state.lines port there_line) i) (pulses_on i (Hear port rise width ∷ calls)) tick now
    then i small = elim (cases_Bool (i == port)) [
      | inl same ↦
          let at : i ≡ port = eqb-true i port same in
          moved k.clock k.rules k.rules _ _ _ _ _ _ tick now refl
          (sym (heard_same k.heard port _ low) ∙ ap (heard_by (with_heard k.heard port (heard_then k port (rise % 2 ^ 32) width))) (sym at))
          (sym (line_same k.state.lines port _ low) ∙ ap (line_at (with_line k.state.lines port there_line)) (sym at))
          (ap (λ (j : ℕ). pulse_at rise width ∷ pulses_on j calls) (sym at) ∙ on_it i same)
          there
      | inr other ↦
          let apart = eqb-false i port other in
          moved k.clock k.rules k.rules _ _ _ _ _ _ tick now refl
          (sym (heard_other k.heard port _ i low small apart))
          (sym (line_other k.state.lines port _ i low small apart))
          (on_others i other)
          (l.lines i small)
    ]

    one_more : AreLinesAt new (after_pulse k port (rise % 2 ^ 32) width) (λ i. pulses_on i (Hear port rise width ∷ calls)) tick now
    one_more =
        let more : one_pulse_more k port (rise % 2 ^ 32) width ≡ after_pulse k port (rise % 2 ^ 32) width = rw narrow refl in
        subst (λ (x : Keeping). AreLinesAt new x (λ i. pulses_on i (Hear port rise width ∷ calls)) tick now) more (record {
          same = record { rules = l.same.rules; clock = l.same.clock; table = l.same.table };
          lines = then;
          sound = l.sound;
        })

-- a tick
lines_tick : (new k : Keeping) (calls : List Call) (tick now : ℕ) → AreLinesAt new k (λ i. pulses_on i calls) tick now → tick ≤ now → now + 504000 < tick + 1800000000
    → AreLinesAt new (after_tick k (now % 2 ^ 32)) (λ i. pulses_on i (Tick now ∷ calls)) now now
lines_tick new k calls tick now l order half = record {
  same = record { rules = l.same.rules; clock = l.same.clock; table = l.same.table };
  lines = λ i low.
      let settles = line_ticks k.clock k.rules (heard_by k.heard i) (line_at k.state.lines i) (pulses_on i calls) tick now (l.lines i low) order half in
      elim (ticked k (now % 2 ^ 32)) [
        | inl stays ↦
            moved k.clock k.rules k.rules _ _ _ _ _ _ now now refl refl
            (line_settles (now % 2 ^ 32) k.state.lines i low ∙ ap (λ (x : Lines). line_at x i) (sym stays)) refl settles
        | inr gives ↦
            moved k.clock k.rules k.rules _ _ _ _ _ _ now now refl refl
            (ap line_taken (line_settles (now % 2 ^ 32) k.state.lines i low) ∙ line_takes (settled (now % 2 ^ 32) k.state.lines) i low ∙ ap (λ (x : Lines). line_at x i) (sym gives)) refl
            (line_gives k.clock k.rules _ _ _ now settles)
      ];
  sound = tick_sound k l.sound (now % 2 ^ 32);
}

-- ---- a tick to come says by when pulses rose

later_after : (pulses : List Pulse) (time now : ℕ) → IsAfter pulses time → time ≤ now → IsAfter pulses now
later_after [] time now after on = tt
later_after (p ∷ ps) time now after on = omega (arith, after, on)

pub own_pulses : (i port rise width : ℕ) (calls : List Call) → is_pulse width ≡ true → (i == port) ≡ true → pulses_on i (Hear port rise width ∷ calls) ≡ pulse_at rise width ∷ pulses_on i calls
own_pulses i port rise width calls narrow same = rw (same, narrow) refl

pub others_pulses : (i port rise width : ℕ) (calls : List Call) → (i == port) ≡ false → pulses_on i (Hear port rise width ∷ calls) ≡ pulses_on i calls
others_pulses i port rise width calls other = rw other refl

pub no_pulse : (i port rise width : ℕ) (calls : List Call) → is_pulse width ≡ false → pulses_on i (Hear port rise width ∷ calls) ≡ pulses_on i calls
no_pulse i port rise width calls wide = rw (and_false (i == port) (is_pulse width) wide) refl

-- it itself
pub has_risen : (port rise width now : ℕ) (calls : List Call) → HaveRisen now (Hear port rise width ∷ calls) → is_pulse width ≡ true → rise ≤ now
has_risen port rise width now calls risen narrow = subst (λ (ps : List Pulse). IsAfter ps now) (own_pulses port port rise width calls narrow (eq-eqb port port refl)) (risen port)

-- and those before it
risen_before : (port rise width now : ℕ) (calls : List Call) → (is_pulse width ≡ true → IsAfter (pulses_on port calls) rise) → HaveRisen now (Hear port rise width ∷ calls) → HaveRisen now calls
risen_before port rise width now calls after risen i = elim (cases_Bool (i == port)) [
  | inr other ↦ subst (λ (ps : List Pulse). IsAfter ps now) (others_pulses i port rise width calls other) (risen i)
  | inl same ↦ elim (cases_Bool (is_pulse width)) [
    | inr wide ↦ subst (λ (ps : List Pulse). IsAfter ps now) (no_pulse i port rise width calls wide) (risen i)
    | inl narrow ↦ later_after (pulses_on i calls) rise now (subst (λ (j : ℕ). IsAfter (pulses_on j calls) rise) (sym (eqb-true i port same)) (after narrow)) (has_risen port rise width now calls risen narrow)
  ]
]

-- so a tick that is in order behind a pulse is so without it
pub unheard : (start : ℕ) (r : Redundancy) (port rise width now : ℕ) (calls : List Call) → AreInOrder start r (Tick now ∷ (Hear port rise width ∷ calls)) → AreInOrder start r (Tick now ∷ calls)
unheard start r port rise width now calls order = (order.0, order.1, risen_before port rise width (now + 4000) calls (λ narrow. (order.3.1 narrow).0) order.2, order.3.2)

pub lines_after : (new : Keeping) (start : ℕ) → AreLinesAt new new (λ i. []) start start → (calls : List Call) (now : ℕ) → AreInOrder start new.clock.redundancy (Tick now ∷ calls) → AreLinesAt new (after_calls new calls) (λ i. pulses_on i calls) (last_tick start calls) now
lines_after new start begins [] now order = lines_wait new new (λ i. []) start start now begins order.0
lines_after new start begins (Hear port rise width ∷ calls) now order =
    let l = lines_after new start begins calls now (unheard start new.clock.redundancy port rise width now calls order) in
    elim (cases_Bool (is_pulse width)) [
      | inl narrow ↦ one_more new (after_calls new calls) calls (last_tick start calls) now port rise width l (omega (arith, order.3.0, at_most_five new.clock.redundancy)) (has_risen port rise width (now + 4000) calls order.2 narrow) order.1 narrow (order.3.1 narrow)
      | inr wide ↦ stuck new (after_calls new calls) calls (last_tick start calls) now port rise width l wide
    ]
lines_after new start begins (Tick time ∷ calls) now order =
    lines_wait new (after_tick (after_calls new calls) (time % 2 ^ 32)) (λ i. pulses_on i calls) time time now
    (lines_tick new (after_calls new calls) calls (last_tick start calls) time (lines_after new start begins calls time order.3) order.3.0 order.3.1) order.0

-- ---- a life, of which at each tick at most f lines are not such true lines

-- at any time such a line's frames claim the true second before an edge, and end as near it as a true
-- line's do, and at most so much earlier or later
abbrev pub TellAlwaysTruly : (ℕ → List Pulse → Type 0) → ClockRules → Rules → TimelineValue → (ℕ → ℕ) → (early late : ℕ) → Type 0
TellAlwaysTruly IsTrue c rules t edges early late = (now : ℕ) → TellsTruly (IsTrue now) c rules t edges early late now

-- at each tick without a vote a device goes on from its last edge as it should
abbrev pub StepsIn : (ℕ → ℕ) → (early late : ℕ) → Keeping → (start : ℕ) → List Call → Type 0
StepsIn edges early late new start [] = Unit {0}
StepsIn edges early late new start (Hear port rise width ∷ calls) = StepsIn edges early late new start calls
StepsIn edges early late new start (Tick now ∷ calls) = StepsAt edges early late (after_calls new calls) (last_tick start calls) now × StepsIn edges early late new start calls

module _ (IsTrue : ℕ → List Pulse → Type 0) (t : TimelineValue) (edges : ℕ → ℕ) (early late : ℕ) where
  -- a tick, by the setup that a device was made with
  module _ (new k : Keeping) (M tick now : ℕ) (pulses : ℕ → List Pulse) (order : tick ≤ now) (soon : now ≤ tick + 1800000000) (room : early + late ≤ 3002) where
    abbrev TicksTruly : ClockRules → TableValue → Rules → Type 0
    TicksTruly c table rules =
        TellsTruly (IsTrue now) c rules t edges early late now → IsDevice t c.drift_us edges c.reader_rules table → IsOnTrack t edges early late c.drift_us M table tick k.state.reader k.state.bound_us k.state.pace k.state.edge_us
        → AreHeardTruly (IsTrue now) c rules (f_of c.redundancy) now k.state.lines pulses
        → StepsAt edges early late k tick now → KeepsTrue t c.drift_us edges early late M table now (after_tick k (now % 2 ^ 32)).state (answer_at k (now % 2 ^ 32))

    ticks_truly : IsSameSetup new k → TicksTruly new.clock new.table new.rules
    ticks_truly same =
        subst (λ (c : ClockRules). TicksTruly c new.table new.rules) same.clock
        (subst (λ (x : TableValue). TicksTruly k.clock x new.rules) same.table
        (subst (λ (r : Rules). TicksTruly k.clock k.table r) same.rules
        (λ truly is on heard steps. tick_true (IsTrue now) t edges early late k M tick now pulses room truly is order soon on heard steps)))

  module _ (new : Keeping) (start : ℕ) (begins : AreLinesAt new new (λ i. []) start start) where
    -- what its lines brought, at a tick
    pub heard_truly : (calls : List Call) (time : ℕ) → AreInOrder start new.clock.redundancy (Tick time ∷ calls) → AreTrueLately IsTrue (f_of new.clock.redundancy) time calls
        → AreHeardTruly (IsTrue time) new.clock new.rules (f_of new.clock.redundancy) time (after_calls new calls).state.lines (λ i. pulses_on i calls)
    heard_truly calls time order lately =
        let k : Keeping = after_calls new calls in
        let l = lines_after new start begins calls time order in
        record {
          untrue = lately.untrue;
          few = lately.few;
          true_lines = lately.true_lines;
          kept = λ i low.
              subst (λ (c : ClockRules). IfKept (IsInTurnOf time) c new.rules (claim_kept c (line_at k.state.lines i).frame) (pulses_on i calls)) l.same.clock
              (subst (λ (x : Rules). IfKept (IsInTurnOf time) k.clock x (claim_kept k.clock (line_at k.state.lines i).frame) (pulses_on i calls)) l.same.rules
              (still_in_turn k.clock k.rules (claim_kept k.clock (line_at k.state.lines i).frame) (pulses_on i calls) (last_tick start calls) time order.1 (l.lines i low).kept));
        }

    abbrev pub IsTrack : ℕ → ℕ → Keeping → Type 0
    IsTrack M tick k = IsOnTrack t edges early late new.clock.drift_us M new.table tick k.state.reader k.state.bound_us k.state.pace k.state.edge_us

    module _ (is : IsDevice t new.clock.drift_us edges new.clock.reader_rules new.table) (room : early + late ≤ 3002) (truly : TellAlwaysTruly IsTrue new.clock new.rules t edges early late) where
      -- what a tick answers in a life
      pub tick_in : (M : ℕ) (calls : List Call) (now : ℕ) → AreInOrder start new.clock.redundancy (Tick now ∷ calls) → AreTrueLately IsTrue (f_of new.clock.redundancy) now calls → IsTrack M (last_tick start calls) (after_calls new calls) → StepsAt edges early late (after_calls new calls) (last_tick start calls) now
          → KeepsTrue t new.clock.drift_us edges early late M new.table now (after_tick (after_calls new calls) (now % 2 ^ 32)).state (answer_at (after_calls new calls) (now % 2 ^ 32))
      tick_in M calls now order lately track steps =
          let l = lines_after new start begins calls now order in
          ticks_truly new (after_calls new calls) M (last_tick start calls) now (λ i. pulses_on i calls) order.0 (omega (arith, order.1)) room l.same (truly now) is track (heard_truly calls now order lately) steps

      hears_on : (M tick port rise width : ℕ) (k : Keeping) → IsTrack M tick k → IsTrack M tick (after_pulse k port (rise % 2 ^ 32) width)
      hears_on M tick port rise width k track = elim (cases_Bool (is_pulse width)) [ inl narrow ↦ rw narrow track | inr wide ↦ rw wide track ]

      -- from where it stands behind some calls
      pub track_on : (M : ℕ) (base : List Call) → IsTrack M (last_tick start base) (after_calls new base) → (later : List Call) → AreInOrder start new.clock.redundancy (later ++ base)
          → AreTrueOver IsTrue (f_of new.clock.redundancy) later base → StepsIn edges early late new start (later ++ base) → IsTrack M (last_tick start (later ++ base)) (after_calls new (later ++ base))
      track_on M base track [] order truth steps = track
      track_on M base track (Hear port rise width ∷ later) order truth steps =
          hears_on M (last_tick start (later ++ base)) port rise width (after_calls new (later ++ base)) (track_on M base track later order.2 truth steps)
      track_on M base track (Tick now ∷ later) order truth steps = (tick_in M (later ++ base) now order truth.0 (track_on M base track later order.3 truth.1 steps.1) steps.0).track

-- ---- one announcement and a later one

pub order_before : (start : ℕ) (r : Redundancy) (later base : List Call) → AreInOrder start r (later ++ base) → AreInOrder start r base
order_before start r [] base order = order
order_before start r (Hear port rise width ∷ later) base order = order_before start r later base order.2
order_before start r (Tick now ∷ later) base order = order_before start r later base order.3

-- what is true at each tick, is so at those before and at those after
pub truth_before : (IsTrue : ℕ → List Pulse → Type 0) (f : ℕ) (later base : List Call) → AreTrueAtTicks IsTrue f (later ++ base) → AreTrueAtTicks IsTrue f base
truth_before IsTrue f [] base truth = truth
truth_before IsTrue f (Hear port rise width ∷ later) base truth = truth_before IsTrue f later base truth
truth_before IsTrue f (Tick now ∷ later) base truth = truth_before IsTrue f later base truth.1

pub steps_before : (edges : ℕ → ℕ) (early late : ℕ) (new : Keeping) (start : ℕ) (later base : List Call) → StepsIn edges early late new start (later ++ base) → StepsIn edges early late new start base
steps_before edges early late new start [] base steps = steps
steps_before edges early late new start (Hear port rise width ∷ later) base steps = steps_before edges early late new start later base steps
steps_before edges early late new start (Tick now ∷ later) base steps = steps_before edges early late new start later base steps.1

pub truth_over : (IsTrue : ℕ → List Pulse → Type 0) (f : ℕ) (later base : List Call) → AreTrueAtTicks IsTrue f (later ++ base) → AreTrueOver IsTrue f later base
truth_over IsTrue f [] base truth = tt
truth_over IsTrue f (Hear port rise width ∷ later) base truth = truth_over IsTrue f later base truth
truth_over IsTrue f (Tick now ∷ later) base truth = (truth.0, truth_over IsTrue f later base truth.1)

-- ---- from the beginning

nothing_by : (i : ℕ) → i < 5 → heard_by nothing_heard i ≡ []
nothing_by zero low = refl
nothing_by (suc zero) low = refl
nothing_by (suc (suc zero)) low = refl
nothing_by (suc (suc (suc zero))) low = refl
nothing_by (suc (suc (suc (suc zero)))) low = refl
nothing_by (suc (suc (suc (suc (suc i))))) low = absurd (omega (arith, low))

new_line : (c : ClockRules) (rules : Rules) (line : Line) (start : ℕ) → IsNewLine line → IsLineAt c rules [] line [] start start
new_line c rules line start is = record {
  told = start;
  hearing = first_hears line.sync start is.sync;
  all = refl;
  sorted = tt;
  begins = λ n at. absurd (omega (arith, at));
  kept = subst (λ (o : Option KeptFrame). IfKept (IsEndAt [] start start) c rules (claim_kept c o) []) (sym is.frame) tt;
  past = omega arith;
  near = omega arith;
  last = λ more time upto after. upto;
}

pub each_new : (lines : Lines) → AreNewLines lines → (i : ℕ) → i < 5 → IsNewLine (line_at lines i)
each_new lines fresh zero low = fresh.a
each_new lines fresh (suc zero) low = fresh.b
each_new lines fresh (suc (suc zero)) low = fresh.c
each_new lines fresh (suc (suc (suc zero))) low = fresh.d
each_new lines fresh (suc (suc (suc (suc zero)))) low = fresh.e
each_new lines fresh (suc (suc (suc (suc (suc i))))) low = absurd (omega (arith, low))

module _ (rules : Rules) (clock : ClockRules) (table : TableValue) (lines : Lines) (start : ℕ) (fresh : AreNewLines lines) where
  abbrev new : Keeping
  new = new_keeping rules clock table lines

  pub begins : AreLinesAt new new (λ i. []) start start
  begins = record {
    same = record { rules = refl; clock = refl; table = refl };
    lines = λ i low. moved clock rules rules _ _ _ _ _ _ start start refl (sym (nothing_by i low)) refl refl (new_line clock rules (line_at lines i) start (each_new lines fresh i low));
    sound = none_sound;
  }

  module _ (IsTrue : ℕ → List Pulse → Type 0) (t : TimelineValue) (edges : ℕ → ℕ) (early late : ℕ) (is : IsDevice t clock.drift_us edges clock.reader_rules table) (room : early + late ≤ 3002) (truly : TellAlwaysTruly IsTrue clock rules t edges early late) where
    -- where it stands, and what a tick answers
    pub ticks : (calls : List Call) (now : ℕ) → AreInOrder start clock.redundancy (Tick now ∷ calls) → AreTrueAtTicks IsTrue (f_of clock.redundancy) (Tick now ∷ calls) → StepsIn edges early late new start (Tick now ∷ calls)
        → KeepsTrue t clock.drift_us edges early late 0 table now (after_tick (after_calls new calls) (now % 2 ^ 32)).state (answer_at (after_calls new calls) (now % 2 ^ 32))
    ticks calls now order truth steps =
        let none : calls ++ [] ≡ calls = append-nil calls in
        let all = subst (AreTrueAtTicks IsTrue (f_of clock.redundancy)) (sym none) truth.1 in
        let track = track_on IsTrue t edges early late new start begins is room truly 0 [] (refl, refl) calls (subst (AreInOrder start clock.redundancy) (sym none) order.3) (truth_over IsTrue (f_of clock.redundancy) calls [] all) (subst (StepsIn edges early late new start) (sym none) steps.1) in
        tick_in IsTrue t edges early late new start begins is room truly 0 calls now order truth.0 (subst (λ (x : List Call). IsTrack IsTrue t edges early late new start begins 0 (last_tick start x) (after_calls new x)) none track) steps.0

    pub device_true : (calls : List Call) (now : ℕ) (b : Beat) (u : UtcSecond) → AreInOrder start clock.redundancy (Tick now ∷ calls) → AreTrueAtTicks IsTrue (f_of clock.redundancy) (Tick now ∷ calls) → StepsIn edges early late new start (Tick now ∷ calls)
        → answer_at (after_calls new calls) (now % 2 ^ 32) ≡ Some b → b.report.announce ≡ Some u → IsToldInHoldover t edges early late clock now b u
    device_true calls now b u order truth steps answer says =
        let has = answer_bound new (omega arith) calls (now % 2 ^ 32) in
        record { told = ((ticks calls now order truth steps).told b u answer says).told; bound = has.bound b answer; few = has.few b answer; small = omega (arith, has.small b answer, is.steady.few, reach_few clock) }

    pub device_calm : (calls : List Call) (now : ℕ) (b : Beat) → AreInOrder start clock.redundancy (Tick now ∷ calls) → AreTrueAtTicks IsTrue (f_of clock.redundancy) (Tick now ∷ calls) → StepsIn edges early late new start (Tick now ∷ calls)
        → answer_at (after_calls new calls) (now % 2 ^ 32) ≡ Some b → ¬ (b.report.cause ≡ cause.Jump)
    device_calm calls now b order truth steps answer = (ticks calls now order truth steps).calm b answer

    pub device_in_order : (earlier later : List Call) (before now : ℕ) (b b' : Beat) (u u' : UtcSecond) → AreInOrder start clock.redundancy (Tick now ∷ (later ++ (Tick before ∷ earlier)))
        → AreTrueAtTicks IsTrue (f_of clock.redundancy) (Tick now ∷ (later ++ (Tick before ∷ earlier))) → StepsIn edges early late new start (Tick now ∷ (later ++ (Tick before ∷ earlier)))
        → answer_at (after_calls new earlier) (before % 2 ^ 32) ≡ Some b → b.report.announce ≡ Some u
        → answer_at (after_calls new (later ++ (Tick before ∷ earlier))) (now % 2 ^ 32) ≡ Some b' → b'.report.announce ≡ Some u' → IsLaterSecond t u u'
    device_in_order earlier later before now b b' u u' order truth steps answer says answer' says' =
        let steps_first = steps_before edges early late new start later (Tick before ∷ earlier) steps.1 in
        let base : List Call = Tick before ∷ earlier in
        let ordered = order_before start clock.redundancy later base order.3 in
        let true_so_far = truth_before IsTrue (f_of clock.redundancy) later base truth.1 in
        let first = (ticks earlier before ordered true_so_far steps_first).told b u answer says in
        let M : ℕ = first.told.m in
        let track = track_on IsTrue t edges early late new start begins is room truly M base first.track later order.3 (truth_over IsTrue (f_of clock.redundancy) later base truth.1) steps.1 in
        let second = (tick_in IsTrue t edges early late new start begins is room truly M (later ++ base) now order truth.0 track steps.0).told b' u' answer' says' in
        record { m = M; n = second.told.m; less = second.later; before = first.told.truth; then = second.told.truth }
