-- A device that has learned its counter, and one that learns nothing, go on from their last edge as they
-- should.
use Rattle.std.specs.Prelude.{◌==◌}
use Rattle.std.proofs.Common.{◌≡◌, ◌∙◌, ℕ, ◌+◌, ◌-◌, ◌*◌, ◌%◌, ◌^◌, ◌<◌, ◌≤◌, List, [], ◌∷◌, Option, Some, None, refl, sym, subst, arith, inl, inr}
use Rattle.std.proofs.Math.Nat.{mul-le-mul_right}
use Rattle.std.proofs.lemmas.Bool.{cases_Bool, cases_lt}
use Rattle.irig_sync.specs.Lines.{Pulse}
use Rattle.irig_time.specs.declared.rules.Rules.{Rules}
use Rattle.irig_time.specs.Timelines.{TimelineValue}
use Rattle.irig_vote.specs.Vote.{f_of}
use Rattle.irig_reader.specs.declared.rules.ReaderRules.{ReaderRules}
use Rattle.irig_lines.specs.declared.interval.Interval.{Interval}
use Rattle.irig_lines.specs.declared.lines.Vote.{Vote}
use Rattle.irig_lines.specs.declared.pace.Pace.{Pace}
use Rattle.irig_lines.specs.declared.rate.Rate.{Rate}
use Rattle.irig_lines.specs.declared.rate.Anchors.{Anchors}
use Rattle.irig_lines.specs.declared.setup.ClockRules.{ClockRules}
use Rattle.irig_lines.specs.Counting.{edges_own}
use Rattle.irig_lines.specs.Edges.{IsQuartz, IsNear}
use Rattle.irig_lines.specs.Lines.{IsTrueLately}
use Rattle.irig_lines.specs.Paces.{WandersAsSet, ahead_us, grown_us, learned, rest_on}
use Rattle.irig_lines.specs.Steps.{is_pulse, line_at}
use Rattle.irig_lines.proofs.CountingLaws.{apart, rises}
use Rattle.irig_lines.proofs.LineLaws.{true_by_any}
use Rattle.irig_lines.proofs.PaceLaws.{goes_on, near_grown, near_still}
use Rattle.irig_timekeeper.specs.declared.clock.ClockState.{ClockState}
use Rattle.irig_timekeeper.specs.Clock.{after_own, clock_by, is_unsteady, settled_at, age_of}
use Rattle.irig_timekeeper.specs.Keeping.{Keeping, vote_at, after_pulse, after_tick}
use Rattle.irig_timekeeper.specs.Learning.{IsLearned}
use Rattle.irig_timekeeper.specs.Life.{Call, Made, after_calls, device_of, last_tick, AreInOrder, AreTrueAtTicks, LivesTruly, life_of}
use Rattle.irig_timekeeper.specs.Life.Call.{Hear, Tick}
use Rattle.irig_timekeeper.specs.Truth.{IsDevice, IsEdgeAt}
use Rattle.irig_timekeeper.proofs.EvenLaws.{AreEvenAlways}
use Rattle.irig_timekeeper.proofs.LifeLaws.{AreLinesAt, StepsIn, TellAlwaysTruly, begins, each_new}
use Rattle.irig_timekeeper.proofs.StrayLaws.{IfEdge, IfLearned, KnowsTruly, even_lately, is_sound, knows, knows_on}
use Rattle.irig_timekeeper.proofs.TimeLaws.{lasts_so, own_count, own_edge_at, same_edge}
use Rattle.irig_timekeeper.proofs.TrackLaws.{KeepsPace, StepsAt}

-- ---- by nothing that was learned

pub plain_keeps : (edges : ℕ → ℕ) (early late d : ℕ) → IsQuartz d edges → (edge voted age n : ℕ) → KeepsPace edges early late d None edge voted age n
plain_keeps edges early late d quartz edge voted age n = record {
  sound = λ p e. absurd cc;
  near = λ w more k small near grown few held some upto.
      let far = apart d edges quartz w n in
      let grows = mul-le-mul_right d upto in
      record { least = omega (arith, far.most, near.least, grown, grows); most = omega (arith, far.least, near.most, grown, grows) };
}

-- a device that learns nothing
pub record IsPlain (k : Keeping) : Type 0 where
  pub off : k.clock.wander_ppb ≡ 0
  pub none : k.state.pace ≡ None

learns_nothing : (c : ClockRules) (rate : Option Rate) → c.wander_ppb ≡ 0 → learned c rate ≡ None
learns_nothing c None off = refl
learns_nothing c (Some rate) off = rw off refl

-- so it is with its lines settled
pub plain_settled : (k : Keeping) → k.state.pace ≡ None → (clock : ℕ) → (settled_at k.clock k.state clock).pace ≡ None
plain_settled k none clock = elim (cases_Bool (is_unsteady k.clock k.state clock)) [ inl unsteady ↦ rw unsteady refl | inr steady ↦ rw steady none ]

module _ (k : Keeping) (is : IsPlain k) where
  plain_tick : (clock : ℕ) → IsPlain (after_tick k clock)
  plain_tick clock = record { off = is.off; none = of (vote_at k clock) refl }
    where
      s : ClockState
      s = settled_at k.clock k.state clock

      own : (n : ℕ) → (after_own k.clock k.table s n).pace ≡ None
      own n = elim (cases_Bool (n == 0)) [ inl none ↦ rw none (plain_settled k is.none clock) | inr some ↦ rw (some, plain_settled k is.none clock) refl ]

      of : (o : Option Vote) → vote_at k clock ≡ o → (clock_by k.clock k.table s clock o).pace ≡ None
      of None e = own (edges_own s.pace s.edge_us clock)
      of (Some v) e = learns_nothing k.clock _ is.off

  plain_pulse : (port rise width : ℕ) → IsPlain (after_pulse k port rise width)
  plain_pulse port rise width = elim (cases_Bool (is_pulse width)) [ inl narrow ↦ rw narrow (record { off = is.off; none = is.none }) | inr wide ↦ rw wide is ]

  -- from its last edge
  plain_at : (edges : ℕ → ℕ) (early late : ℕ) → IsQuartz k.clock.drift_us edges → (tick now : ℕ) → StepsAt edges early late k tick now
  plain_at edges early late quartz tick now alone e edge is_edge at =
      let none = plain_settled k is.none (now % 2 ^ 32) in
      rw none (plain_keeps edges early late k.clock.drift_us quartz edge k.state.bound_us (age_of k.state.reader) _)

-- its setup stays
set_up : (new : Keeping) (calls : List Call) → (after_calls new calls).clock ≡ new.clock
set_up new [] = refl
set_up new (Hear port rise width ∷ calls) = elim (cases_Bool (is_pulse width)) [ inl narrow ↦ rw narrow (set_up new calls) | inr wide ↦ rw wide (set_up new calls) ]
set_up new (Tick now ∷ calls) = set_up new calls

pub stays_plain : (new : Keeping) → IsPlain new → (calls : List Call) → IsPlain (after_calls new calls)
stays_plain new is [] = is
stays_plain new is (Hear port rise width ∷ calls) = plain_pulse (after_calls new calls) (stays_plain new is calls) port (rise % 2 ^ 32) width
stays_plain new is (Tick now ∷ calls) = plain_tick (after_calls new calls) (stays_plain new is calls) (now % 2 ^ 32)

pub plain_steps : (edges : ℕ → ℕ) (early late : ℕ) (new : Keeping) (start : ℕ) → IsPlain new → IsQuartz new.clock.drift_us edges → (calls : List Call) → StepsIn edges early late new start calls
plain_steps edges early late new start is quartz [] = tt
plain_steps edges early late new start is quartz (Hear port rise width ∷ calls) = plain_steps edges early late new start is quartz calls
plain_steps edges early late new start is quartz (Tick now ∷ calls) =
    let same = set_up new calls in (
      plain_at (after_calls new calls) (stays_plain new is calls) edges early late (subst (λ (c : ClockRules). IsQuartz c.drift_us edges) (sym same) quartz) (last_tick start calls) now,
      plain_steps edges early late new start is quartz calls,
    )

-- ---- by what was learned

module _ (c : ClockRules) (edges : ℕ → ℕ) (quartz : IsQuartz c.drift_us edges) (w age voted edge : ℕ) (known : Option Interval) where
  keeps : (pace : Option Pace) → IfLearned edges c w age voted edge known pace → (n : ℕ) → (1 ≤ n → n ≤ 1803) → KeepsPace edges 0 0 c.drift_us pace edge voted age n
  keeps None h n few = plain_keeps edges 0 0 c.drift_us quartz edge voted age n
  keeps (Some p) h n few = record {
    sound = is_sound c edges quartz w age voted edge known (Some p) h;
    near = λ w' more k small near grown low held some upto.
        let there = same_second w' more small near low (omega (arith, held)) in
        let on = goes_on edges (c.reader_rules.holdover + 2000) c.drift_us voted w h.a edge p h.paced n (omega (arith, h.few, few some)) in
        let then = near_grown edges (c.reader_rules.holdover + 2000) c.drift_us voted (w + n) (h.a + n) (edge + ahead_us (Some p) n) (rest_on n p) on (omega (arith, some)) k (omega (arith, h.young, upto)) in
        subst (λ (i : ℕ). IsNear edges (0 + voted + grown_us c.drift_us (Some p) k) (0 + voted + grown_us c.drift_us (Some p) k) (i + n) (edge + ahead_us (Some p) n)) there (record { least = omega (arith, then.least); most = omega (arith, then.most) });
  }
    where
      -- there is one second so near
      same_second : (i more : ℕ) → voted ≤ 2899 → IsNear edges (0 + voted + more) (0 + voted + more) i edge → more ≤ 490000 → grown_us c.drift_us (Some p) age ≤ 490000 → w ≡ i
      same_second i more small near low held =
          let mine = near_still edges (c.reader_rules.holdover + 2000) c.drift_us voted w h.a edge p h.paced age h.young in
          elim (cases_lt w i) [
            | inl less ↦
                let there : w + (i - w) ≡ i = omega (arith, less) in
                let rise = subst (λ (x : ℕ). edges w + (i - w) * 999900 ≤ edges x) there (rises c.drift_us edges quartz w (i - w)) in
                absurd (omega (arith, rise, less, near.least, mine.most, small, low, held))
            | inr not_less ↦ elim (cases_lt i w) [
              | inl less ↦
                  let there : i + (w - i) ≡ w = omega (arith, less) in
                  let rise = subst (λ (x : ℕ). edges i + (w - i) * 999900 ≤ edges x) there (rises c.drift_us edges quartz i (w - i)) in
                  absurd (omega (arith, rise, less, near.most, mine.least, small, low, held))
              | inr same ↦ omega (arith, not_less, same)
            ]
          ]

module _ (t : TimelineValue) (edges : ℕ → ℕ) (new : Keeping) (start : ℕ) (begins : AreLinesAt new new (λ i. []) start start) (fresh : (i : ℕ) → i < 5 → (line_at new.state.lines i).frame ≡ None) (is : IsDevice t new.clock.drift_us edges new.clock.reader_rules new.table)
    (IsTrue : ℕ → List Pulse → Type 0) (truly : TellAlwaysTruly IsTrue new.clock new.rules t edges 0 0) (evenly : AreEvenAlways IsTrue new.clock.within.us new.clock.drift_us) (wanders : WandersAsSet new.clock edges) (from : KnowsTruly edges start new.clock new.state) where
  learned_at : (calls : List Call) (now : ℕ) → AreInOrder start new.clock.redundancy (Tick now ∷ calls) → AreTrueAtTicks IsTrue (f_of new.clock.redundancy) calls → StepsAt edges 0 0 (after_calls new calls) (last_tick start calls) now
  learned_at calls now order truth alone e edge is_edge at =
      elim (cases_Bool (is_unsteady k.clock k.state (now % 2 ^ 32))) [
        | inl unsteady ↦ rw unsteady (plain_keeps edges 0 0 k.clock.drift_us quartz edge k.state.bound_us (age_of k.state.reader) _)
        | inr steady ↦ rw steady (of k.state.edge_us h.known is_edge)
      ]
    where
      k : Keeping
      k = after_calls new calls

      same : k.clock ≡ new.clock
      same = set_up new calls

      quartz : IsQuartz k.clock.drift_us edges
      quartz = subst (λ (c : ClockRules). IsQuartz c.drift_us edges) (sym same) is.steady

      h : KnowsTruly edges (last_tick start calls) k.clock k.state
      h = knows_on t edges new start begins fresh is IsTrue truly evenly wanders from calls order.3 truth

      soon : now ≤ last_tick start calls + 1800000000
      soon = omega (arith, order.1)

      of : (o : Option ℕ) → IfEdge edges k.clock (last_tick start calls) o k.state.interval k.state.anchors (age_of k.state.reader) k.state.bound_us k.state.pace → o ≡ Some e
          → KeepsPace edges 0 0 k.clock.drift_us k.state.pace edge k.state.bound_us (age_of k.state.reader) (edges_own k.state.pace o (now % 2 ^ 32))
      of None known is_edge = absurd cc
      of (Some e') known is_edge =
          let here : e' ≡ e = cc in
          let there : known.0 ≡ edge = same_edge e known.0 edge (last_tick start calls) (subst (λ (x : ℕ). IsEdgeAt x known.0 (last_tick start calls)) here known.2) at in
          let n : ℕ = edges_own k.state.pace (Some e') (now % 2 ^ 32) in
          let sound = is_sound k.clock edges quartz known.1 (age_of k.state.reader) k.state.bound_us known.0 k.state.interval k.state.pace known.5 in
          let few : 1 ≤ n → n ≤ 1803 = λ some.
          let then = own_edge_at (last_tick start calls) now order.0 soon e' known.0 known.2 k.state.pace sound n (own_count (last_tick start calls) now order.0 soon e' known.0 known.2 k.state.pace) some in
          omega (arith, (lasts_so k.state.pace sound n).least, then.come, known.2.soon, soon) in
          subst (λ (x : ℕ). KeepsPace edges 0 0 k.clock.drift_us k.state.pace x k.state.bound_us (age_of k.state.reader) n) there
          (keeps k.clock edges quartz known.1 (age_of k.state.reader) k.state.bound_us known.0 k.state.interval k.state.pace known.5 n few)

  pub learned_steps : (calls : List Call) → AreInOrder start new.clock.redundancy calls → AreTrueAtTicks IsTrue (f_of new.clock.redundancy) calls → StepsIn edges 0 0 new start calls
  learned_steps [] order truth = tt
  learned_steps (Hear port rise width ∷ calls) order truth = learned_steps calls order.2 truth
  learned_steps (Tick now ∷ calls) order truth = (learned_at calls now order truth.1, learned_steps calls order.3 truth.1)

-- ---- a life

module _ (IsTrue : Rules → TimelineValue → (ℕ → ℕ) → ℕ → List Pulse → Type 0) (t : TimelineValue) (edges : ℕ → ℕ) (made : Made) (start : ℕ) (calls : List Call) where
  -- of lines that tell truly, and have even frames
  pub steps_so : TellAlwaysTruly (IsTrue made.rules t edges) made.clock made.rules t edges 0 0 → AreEvenAlways (IsTrue made.rules t edges) made.clock.within.us made.clock.drift_us → LivesTruly IsTrue t edges made start calls → StepsIn edges 0 0 (device_of made) start calls
  steps_so truly evenly lives =
      learned_steps t edges (device_of made) start (begins made.rules made.clock made.table made.lines start made.fresh) (λ i low. (each_new made.lines made.fresh i low).frame) lives.is (IsTrue made.rules t edges) truly evenly lives.learns
      (record { strays = refl; doubt = refl; small = omega arith; known = (refl, refl) }) calls lives.order lives.truth

-- of a device that learns nothing
pub steps_plainly : (t : TimelineValue) (edges : ℕ → ℕ) (made : Made) (start : ℕ) (calls : List Call) (early late : ℕ) → made.clock.wander_ppb ≡ 0 → IsDevice t made.clock.drift_us edges made.clock.reader_rules made.table → StepsIn edges early late (device_of made) start calls
steps_plainly t edges made start calls early late plain is = plain_steps edges early late (device_of made) start (record { off = plain; none = refl }) is.steady calls

-- of lines that are true by the seconds of UTC
pub steps_truly : (t : TimelineValue) (edges : ℕ → ℕ) (made : Made) (start : ℕ) (calls : List Call) → LivesTruly (IsTrueLately made.clock.within.us) t edges made start calls → StepsIn edges 0 0 (device_of made) start calls
steps_truly t edges made start calls lives =
    steps_so (IsTrueLately made.clock.within.us) t edges made start calls
    (λ now half end pulses claim line frame soon. true_by_any made.clock made.rules t made.clock.drift_us edges half now end pulses claim lives.is.steady line frame soon)
    (even_lately made.clock.within made.rules t made.clock.drift_us edges lives.is.steady) lives

-- what is learned is so
module _ (t : TimelineValue) (edges : ℕ → ℕ) (made : Made) (start : ℕ) (calls : List Call) (p : Pace) (lives : LivesTruly (IsTrueLately made.clock.within.us) t edges made start calls) where
  by_edge : (c : ClockRules) (o : Option ℕ) (known : Option Interval) (anchors : Anchors) (age voted : ℕ) (pace : Option Pace) → IfEdge edges c (last_tick start calls) o known anchors age voted pace → pace ≡ Some p → IsLearned edges (last_tick start calls) o p
  by_edge c None known anchors age voted pace h is = let both : None ≡ Some p = sym h.1 ∙ is in absurd cc
  by_edge c (Some e) known anchors age voted None h is = absurd cc
  by_edge c (Some e) known anchors age voted (Some q) h is =
      let same : q ≡ p = cc in
      subst (IsLearned edges (last_tick start calls) (Some e)) same (record {
        w = h.1;
        e = e;
        edge = h.0;
        told = refl;
        at = h.2;
        ns = h.5.paced.ns;
        clock = h.5.paced.clock;
        each = λ i low high. (let second = h.5.paced.each i low (omega (arith, high, h.5.few)) in record { least = second.least; most = second.most });
      })

  pub learned_is : (life_of made calls).state.pace ≡ Some p → IsLearned edges (last_tick start calls) (life_of made calls).state.edge_us p
  learned_is is =
      let s = (life_of made calls).state in
      by_edge (life_of made calls).clock s.edge_us s.interval s.anchors (age_of s.reader) s.bound_us s.pace (knows t edges made start calls lives).known is
