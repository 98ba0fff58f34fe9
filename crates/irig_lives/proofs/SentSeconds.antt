-- A device whose first f + 1 lines send the seconds of a clock, as many in a row as it locks after and
-- two more, and nothing behind them, and whose other lines are dark: it announces the last of them.
use Rattle.irig_gen.specs.Zones.{zone_at}
use Rattle.irig_port.specs.declared.limits.Limits.{Limits}
use Rattle.irig_control.specs.Control.{control_of}
use Rattle.irig_control.specs.declared.control.Control.{Control}
use Rattle.irig_port.proofs.LimitLaws.{claim_within}
use Rattle.std.proofs.Common.{◌≡◌, ◌∙◌, ℕ, ◌+◌, ◌-◌, ◌*◌, ◌/◌, ◌%◌, ◌<◌, ◌≤◌, Bool, false, List, [], ◌∷◌, ◌++◌, drop, length, Option, Some, None, pos, refl, sym, ap, subst, arith, inl, inr, append-nil}
use Rattle.std.specs.Prelude.{nat_lt, count_by, get_or, unwrap_or}
use Rattle.std.specs.List.{range_with_len}
use Rattle.std.proofs.lemmas.Bool.{lt-ltb, ltb-true, ltb-false, cases_Bool}
use Rattle.std.proofs.lemmas.List.{same_lists}
use Rattle.std.proofs.lemmas.List.FromFn.{length-map-range_with_len}
use Rattle.std.proofs.lemmas.Option.{get_or_from_slice_get, slice_get-get_or}
use Rattle.irig_frame.specs.declared.symbol.Symbol.{Symbol}
use Rattle.irig_frame.specs.declared.symbol.Symbol.TheVariants.{Bad}
use Rattle.irig_sync.specs.Lines.{Pulse, symbols_of_last}
use Rattle.irig_sync.proofs.FaultLaws.{row, row-get}
use Rattle.irig_time.specs.declared.second.UtcSecond.{UtcSecond}
use Rattle.irig_time.specs.declared.rules.Rules.{Rules}
use Rattle.irig_time.specs.declared.claim.Claim.{Claim}
use Rattle.irig_time.specs.Carries.{Carries}
use Rattle.irig_time.specs.Timelines.{TimelineValue, IsSecond, IsTrueClaim, leap_of}
use Rattle.irig_time.specs.TimelineFaults.{IsTimeline}
use Rattle.irig_time.specs.Tables.{TableValue}
use Rattle.irig_gen.specs.Frames.{GeneratorValue, gen, IsFrameOrNone, control_at}
use Rattle.irig_gen.specs.Sent.{frame_of}
use Rattle.irig_gen.proofs.SentLaws.{frame_of_is}
use Rattle.irig_gen.proofs.GenLaws.{true_frames, control_back, control_fits}
use Rattle.irig_port.specs.Limits.{told_within, IsWithin, quality_in}
use Rattle.irig_port.proofs.CarriesLaws.{carries_is_told}
use Rattle.irig_hold.specs.Truth.{IsTrueTable}
use Rattle.irig_vote.specs.declared.redundancy.Redundancy.{Redundancy}
use Rattle.irig_vote.specs.declared.redundancy.Redundancy.TheVariants.{One, Three, Five}
use Rattle.irig_vote.specs.Vote.{f_of, ports_in}
use Rattle.irig_reader.specs.declared.report.Report.{Report}
use Rattle.irig_reader.specs.Rules.{IsReaderRules}
use Rattle.irig_lines.specs.declared.setup.ClockRules.{ClockRules}
use Rattle.irig_lines.specs.Lines.{ArePulsesLately, IsLineOf, IsTrueLately, line_of}
use Rattle.irig_lines.specs.Paces.{WandersAsSet}
use Rattle.irig_timekeeper.proofs.LearnLaws.{steps_truly}
use Rattle.irig_timekeeper.specs.Announcing.{IsWhole, ComesWhole, Announces}
use Rattle.irig_timekeeper.specs.Truth.{IsDevice, IsEdgeAt}
use Rattle.irig_timekeeper.specs.Life.{Call, Made, pulses_on, last_tick, AreInOrder, AreTrueAtTicks, device_of}
use Rattle.irig_timekeeper.specs.Life.Call.{Tick}
use Rattle.irig_timekeeper.specs.Loops.{ComeInARow}
use Rattle.irig_lines.proofs.LineLaws.{true_by_any}
use Rattle.irig_timekeeper.proofs.LifeLaws.{device_true, order_before, truth_before, truth_over}
use Rattle.irig_lives.proofs.LifeFacts.{new_lines, are_new}
use Rattle.irig_timekeeper.proofs.LoopLaws.{polling_announces}
use Rattle.irig_lives.proofs.SentLines.{sent_is_checked, checked_is_line}
use Rattle.irig_lives.proofs.SentPulses.{edges, tick, sent, lately, drop_sent, recent, split, are_recent, so_recent, heard, leaves, elements, sent_on, none_on, last_of, in_order, at_ticks, ticks_each, told_in_time}
use Rattle.irig_lines.specs.Edges.{IsNear}

-- ---- the frames of a clock

abbrev pub Carried : Rules → TimelineValue → ℕ → List Symbol → Type 0
Carried rules t f s = (claim : Claim) × IsTrueClaim t (f + 1) claim × Carries rules s claim

module _ (rules : Rules) (t : TimelineValue) (sound : IsTimeline t) where
  abbrev generator : GeneratorValue
  generator = gen (record { half_hours = pos 0; dst = false }) [] rules 0 None 0

  pub frame : ℕ → List Symbol
  frame f = unwrap_or (frame_of None generator t f) []

  pub carried : (f : ℕ) (u : UtcSecond) → IsSecond t f u → Carried rules t f (frame f)
  unfolding frame
  carried f u second = by (frame_of None generator t f) (frame_of_is None generator t f (record { sound = refl }) sound)
    where
      by : (o : Option (List Symbol)) → IsFrameOrNone None generator t f o → Carried rules t f (unwrap_or o [])
      by None none = absurd (none u second)
      by (Some s) is = true_frames generator t f s (record { sound = refl }) sound is

  -- they say quality 0, and so have a vote of any device that does not ask for a later day
  says_no_quality : (f : ℕ) (u : UtcSecond) → IsSecond t f u → quality_in (frame f) ≡ 0
  unfolding frame
  says_no_quality f u second = by (frame_of None generator t f) (frame_of_is None generator t f (record { sound = refl }) sound)
    where
      by : (o : Option (List Symbol)) → IsFrameOrNone None generator t f o → quality_in (unwrap_or o []) ≡ 0
      by None none = absurd (none u second)
      by (Some s) is =
          let k = control_at generator t is.second in
          let sent = control_back is.frame.coded.control k (control_fits rules.sense (zone_at generator.zone generator.changes is.second) generator.changes (leap_of t.leaps is.second.day) is.second (omega arith)) is.frame.unused is.frame.control in
          ap (λ (w : ℕ). (control_of w).quality) (sym is.frame.reads.control) ∙ ap (λ (c : Control). c.quality) sent

  pub is_within : (limits : Limits) (f : ℕ) (u : UtcSecond) (second : IsSecond t f u) → 1 ≤ limits.poor_from → limits.not_before ≤ (carried f u second).0.at.day → IsWithin (Some limits) (frame f) (carried f u second).0
  is_within limits f u second some late = (let none = says_no_quality f u second in omega (arith, none, some), late)

-- ---- f + 1 lines

abbrev pub sends : Redundancy → ℕ → Bool
sends r i = nat_lt i (f_of r + 1)

pub count_sends : (r : Redundancy) → count_by (sends r) (range_with_len 0 5) ≡ f_of r + 1
count_sends One = refl
count_sends Three = refl
count_sends Five = refl

enough : (r : Redundancy) → f_of r + 1 ≤ ports_in r
enough One = omega arith
enough Three = omega arith
enough Five = omega arith

-- what is true of late stays so
pub still_lately : (within : ℕ) (line : ℕ → Symbol) (now then k : ℕ) → now ≤ then → (ps : List Pulse) → ArePulsesLately within line edges now k ps → ArePulsesLately within line edges then k ps
still_lately within line now then k later [] are = tt
still_lately within line now then k later (p ∷ ps) (inl old) = inl (omega (arith, later, old.0), still_lately within line now then k later ps old.1)
still_lately within line now then k later (p ∷ ps) (inr new) = inr (new.0, new.1, new.2, still_lately within line now then new.0 later ps new.3)

-- that counter does not wander
pub never_wanders : (clock : ClockRules) → WandersAsSet clock edges
never_wanders clock = inr (
  λ n. 1000 * edges n,
  record { clock = λ n. omega arith; steady = λ i j near far. omega arith },
)

module _ (rules : Rules) (clock : ClockRules) (range : IsReaderRules clock.reader_rules) (sheet : TableValue) (t : TimelineValue) (is : IsDevice t clock.drift_us edges clock.reader_rules sheet) where
  abbrev pub made : Made
  made = record { rules = rules; clock = clock; table = sheet; lines = new_lines; fresh = are_new }

  abbrev n : ℕ
  n = f_of clock.redundancy + 1

  abbrev pub seconds : ℕ
  seconds = clock.reader_rules.lock_after + 2

  module _ (right : IsTrueTable t sheet) (frame : ℕ → List Symbol) (carried : (f : ℕ) → f < seconds → Carried rules t f (frame f)) (votes : (f : ℕ) (low : f < seconds) → IsWithin (Some clock.limits.limits) (frame f) (carried f low).0) where
    abbrev line : ℕ → Symbol
    line = line_of frame seconds

    is_line : IsLineOf rules t line
    is_line = checked_is_line rules t line (sent_is_checked rules t seconds frame carried)

    -- ---- their pulses

    stands : (f i : ℕ) → f < seconds → i < 100 → line (100 * f + i) ≡ get_or (frame f) i Bad
    stands f i early low =
        let which : (100 * f + i) / 100 ≡ f = omega (arith, low) in
        let place : (100 * f + i) % 100 ≡ i = omega (arith, low) in
        rw (which, place, lt-ltb f seconds early) refl

    as_sent : (f : ℕ) → f < seconds → row line (100 * f) 100 ≡ frame f
    as_sent f early =
        let hundred : length (frame f) ≡ 100 = (carried f early).2.reads.len in
        let long = length-map-range_with_len line (100 * f) 100 in
        same_lists (row line (100 * f) 100) (frame f) (omega (arith, hundred, long)) (λ i d less.
        (let low : i < 100 = omega (arith, less, long) in
        let there : i < length (frame f) = omega (arith, low, hundred) in
        get_or_from_slice_get (row line (100 * f) 100) i (line (100 * f + i)) d (row-get line (100 * f) 100 i low) ∙ stands f i early low
        ∙ sym (get_or_from_slice_get (frame f) i (get_or (frame f) i Bad) d (slice_get-get_or (frame f) i Bad there))))

    whole : (f : ℕ) → f < seconds → IsWhole clock rules t edges (f + 1) (sent line is_line.right (100 * f + 100))
    whole f early =
        let own = carried f early in
        let same : symbols_of_last 100 (sent line is_line.right (100 * f + 100)) ≡ frame f = heard line is_line.right f ∙ as_sent f early in
        record {
          line = line;
          right = is_line.right;
          f = f;
          here = refl;
          frame = recent line is_line.right (100 * f) 100;
          earlier = sent line is_line.right (100 * f);
          parts = split line is_line.right (100 * f) 100;
          hundred = so_recent line is_line.right (100 * f) 100;
          are = are_recent line is_line.right (100 * f) clock.within.us clock.within.some 100;
          first = leaves line is_line.right clock.within.us f;
          claim = own.0;
          tells = ap (told_within (Some clock.limits.limits) rules) same ∙ (claim_within (Some clock.limits.limits) rules (frame f) own.0).1 ((carries_is_told rules (frame f) own.0).1 own.2, votes f early);
          truth = own.1;
        }

    -- ---- the calls

    abbrev first_calls : ℕ → List Call
    first_calls k = elements line is_line.right n k

    pub calls : List Call
    calls = first_calls (100 * seconds + 2)

    ordered : AreInOrder 9999000 clock.redundancy calls
    unfolding calls
    ordered = in_order line is_line.right n clock.redundancy (enough clock.redundancy) (100 * seconds + 2)

    -- all lines are true to a timeline whose claims they carry, and all but these lines to any
    pub all_true : (t' : TimelineValue) → ((f : ℕ) → f < seconds → Carried rules t' f (frame f)) → AreTrueAtTicks (IsTrueLately clock.within.us rules t' edges) (f_of clock.redundancy) calls
    unfolding calls
    all_true t' carries = at_ticks line is_line.right n (IsTrueLately clock.within.us rules t' edges) (f_of clock.redundancy) (λ k. record { untrue = λ i. false; few = omega arith; true_lines = λ i less right. by k i }) (100 * seconds + 2)
      where
        is_line' : IsLineOf rules t' line
        is_line' = checked_is_line rules t' line (sent_is_checked rules t' seconds frame carries)

        by : (k i : ℕ) → IsTrueLately clock.within.us rules t' edges (tick k) (pulses_on i (first_calls k))
        by k i = elim (cases_Bool (sends clock.redundancy i)) [
          | inl low ↦ subst (IsTrueLately clock.within.us rules t' edges (tick k)) (sym (sent_on line is_line.right n i k (ltb-true i n low))) (record { line = line; next = k; is_line = is_line'; are = lately line is_line.right clock.within.us clock.within.some (tick k) k })
          | inr far ↦ subst (IsTrueLately clock.within.us rules t' edges (tick k)) (sym (none_on line is_line.right n i k (ltb-false i n far))) (record { line = line; next = k; is_line = is_line'; are = tt })
        ]

    pub others_true : (t' : TimelineValue) → AreTrueAtTicks (IsTrueLately clock.within.us rules t' edges) n calls
    unfolding calls
    others_true t' = at_ticks line is_line.right n (IsTrueLately clock.within.us rules t' edges) n (λ k. record { untrue = sends clock.redundancy; few = (let e = count_sends clock.redundancy in omega (arith, e)); true_lines = by k }) (100 * seconds + 2)
      where
        nothing_sent : IsLineOf rules t' (line_of (λ f. []) 0)
        nothing_sent = checked_is_line rules t' (line_of (λ f. []) 0) (sent_is_checked rules t' 0 (λ f. []) (λ f low. absurd (omega (arith, low))))

        by : (k i : ℕ) → i < 5 → sends clock.redundancy i ≡ false → IsTrueLately clock.within.us rules t' edges (tick k) (pulses_on i (first_calls k))
        by k i less far = subst (IsTrueLately clock.within.us rules t' edges (tick k)) (sym (none_on line is_line.right n i k (ltb-false i n far))) (record { line = line_of (λ f. []) 0; next = k; is_line = nothing_sent; are = tt })

    -- ---- they announce

    comes : (f : ℕ) → f < seconds → ComesWhole t edges (device_of made) (1 + f) calls
    unfolding calls
    comes f low =
        let next : f + 1 ≡ 1 + f = omega arith in
        let count : ℕ = 100 * seconds + 2 in
        record {
          whole = sends clock.redundancy;
          many = (let e = count_sends clock.redundancy in omega (arith, e));
          frames = λ i less own.
              (let here : i < n = ltb-true i n own in
              let all : 100 * f + 100 + (count - (100 * f + 100)) ≡ count = omega (arith, low) in
              let left : drop (count - (100 * f + 100)) (pulses_on i (first_calls count)) ≡ sent line is_line.right (100 * f + 100) =
              ap (drop (count - (100 * f + 100))) (sent_on line is_line.right n i count here ∙ ap (sent line is_line.right) (sym all)) ∙ drop_sent line is_line.right (count - (100 * f + 100)) (100 * f + 100) in
              (count - (100 * f + 100), subst (IsWhole clock rules t edges (1 + f)) (sym left) (subst (λ (m : ℕ). IsWhole clock rules t edges m (sent line is_line.right (100 * f + 100))) next (whole f low))));
        }

    alone : calls ≡ calls ++ []
    alone = sym (append-nil calls)

    in_a_row : ComeInARow (IsTrueLately clock.within.us) t edges made 9999000 1 calls []
    unfolding calls
    in_a_row = record {
      is = is;
      order = subst (AreInOrder 9999000 clock.redundancy) alone ordered;
      truth = truth_over (IsTrueLately clock.within.us rules t edges) (f_of clock.redundancy) calls [] (subst (AreTrueAtTicks (IsTrueLately clock.within.us rules t edges) (f_of clock.redundancy)) alone (all_true t carried));
      some = omega arith;
      locks = range.lock_after.0;
      told = 9999000;
      risen = λ i. tt;
      ticked = omega arith;
      past = omega arith;
      whole = λ f low. subst (ComesWhole t edges (device_of made) (1 + f)) alone (comes f low);
      last = ends;
    }
      where
        ends : edges (1 + 1 + clock.reader_rules.lock_after) + 3000 ≤ last_tick 9999000 (calls ++ [])
        ends = let last = ap (last_tick 9999000) (append-nil calls) ∙ last_of line is_line.right n (100 * seconds + 2) in omega (arith, last)

    pub announced : (u : UtcSecond) → IsSecond t (1 + 1 + clock.reader_rules.lock_after) u → Announces edges (device_of made) (1 + 1 + clock.reader_rules.lock_after) u calls
    unfolding calls
    announced u second =
        subst (Announces edges (device_of made) (1 + 1 + clock.reader_rules.lock_after) u) (append-nil calls)
        (polling_announces t edges made 9999000 1 10000 calls [] u in_a_row (inr right) (omega arith) (ticks_each line is_line.right n (100 * seconds + 2)) (told_in_time line is_line.right n (100 * seconds + 2)) second)

    -- a tick that announces a second of the clock, near its edge
    pub record IsTold (u : UtcSecond) : Type 0 where
      pub a : Announces edges (device_of made) (1 + 1 + clock.reader_rules.lock_after) u calls
      pub order : AreInOrder 9999000 clock.redundancy (Tick a.now ∷ a.earlier)
      pub truth : AreTrueAtTicks (IsTrueLately clock.within.us rules t edges) (f_of clock.redundancy) (Tick a.now ∷ a.earlier)
      pub m : ℕ
      pub edge : ℕ
      pub at : IsEdgeAt a.beat.edge_us edge a.now
      pub near : IsNear edges a.beat.bound_us a.beat.bound_us m edge
      pub second : IsSecond t m u

    pub told : (u : UtcSecond) → IsSecond t (1 + 1 + clock.reader_rules.lock_after) u → IsTold u
    told u second =
        let a = announced u second in
        let says : a.beat.report.announce ≡ Some u = ap (λ (r : Report). r.announce) a.says in
        let order = order_before 9999000 clock.redundancy a.later (Tick a.now ∷ a.earlier) (subst (AreInOrder 9999000 clock.redundancy) a.are ordered) in
        let truth = truth_before (IsTrueLately clock.within.us rules t edges) (f_of clock.redundancy) a.later (Tick a.now ∷ a.earlier) (subst (AreTrueAtTicks (IsTrueLately clock.within.us rules t edges) (f_of clock.redundancy)) a.are (all_true t carried)) in
        let told = device_true rules clock sheet new_lines 9999000 are_new (IsTrueLately clock.within.us rules t edges) t edges 0 0 is (omega arith)
        (λ now half end pulses claim is_true frame soon. true_by_any clock rules t clock.drift_us edges half now end pulses claim is.steady is_true frame soon) a.earlier a.now a.beat u order truth (steps_truly t edges made 9999000 (Tick a.now ∷ a.earlier) (record { is = is; learns = never_wanders clock; order = order; truth = truth })) a.answer says in
        record {
          a = a;
          order = order;
          truth = truth;
          m = told.told.m;
          edge = told.told.edge;
          at = record { clock = told.told.clock; come = told.told.come; soon = told.told.soon };
          near = record { least = omega (arith, told.told.near.least); most = omega (arith, told.told.near.most) };
          second = told.told.truth;
        }
