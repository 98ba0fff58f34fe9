-- Pulses of several lines may be told in any order of lines.
use Rattle.std.specs.Prelude.{◌==◌, not, ◌&&◌, nat_lt, nat_le}
use Rattle.std.proofs.Common.{◌≡◌, ◌∙◌, ℕ, ◌+◌, ◌<◌, ◌≤◌, Bool, true, false, List, [], ◌∷◌, ◌++◌, refl, sym, ap, subst, arith, inl, inr}
use Rattle.std.proofs.lemmas.Bool.{and_from, cases_Bool, eq-eqb, eqb-true, lt-ltb}
use Rattle.irig_frame.specs.declared.symbol.Symbol.{Symbol}
use Rattle.irig_sync.specs.Lines.{Pulse, pulse_at}
use Rattle.irig_port.specs.declared.port.Port.{Ghosts}
use Rattle.irig_vote.specs.declared.redundancy.Redundancy.{Redundancy}
use Rattle.irig_vote.specs.Vote.{f_of, ports_in}
use Rattle.irig_lines.specs.declared.lines.Line.{Line}
use Rattle.irig_lines.specs.declared.setup.ClockRules.{ClockRules}
use Rattle.irig_lines.specs.Steps.{is_pulse, line_at}
use Rattle.irig_timekeeper.specs.Life.{Call, last_tick, pulses_on}
use Rattle.irig_timekeeper.specs.Life.Call.{Hear, Tick}
use Rattle.irig_timekeeper.specs.Lived.{MadeOf}
use Rattle.irig_timekeeper.specs.Unfinished.{AreHears, AreSameByLine}
use Rattle.irig_timekeeper.proofs.OrderLaws.{five}
use Rattle.irig_timekeeper.proofs.UnfinishedLaws.{lived_in_any_order}
use Rattle.irig_lives.specs.Decided.{in_order, is_after}
use Rattle.irig_lives.proofs.DecidedLaws.{both}
use Rattle.irig_witness.specs.declared.device.Device.{Device}
use Rattle.irig_witness.specs.declared.line.LineWitness.{LineWitness}
use Rattle.irig_witness.specs.declared.watch.Watch.{Watch}
use Rattle.irig_witness.specs.Witness.{TrueLines, after_rise, line_witness, were_true}
use Rattle.irig_witness.specs.Watches.{IsWatchOf}
use Rattle.irig_witness.specs.Devices.{IsDeviceOf, lines_on}
use Rattle.irig_witness.specs.Unfinished.{may_begin, takes_frame}

-- ---- what is known of a line is by its own pulses

abbrev witness_by : (within : ℕ) → TrueLines → (line : ℕ) → LineWitness → List Pulse → LineWitness
witness_by within x line a [] = a
witness_by within x line a (p ∷ ps) =
    after_rise within (x.symbol line) x.edges (witness_by within x line a ps) (x.near p.rise) p.rise p.width

by_pulses : (within : ℕ) (x : TrueLines) (line : ℕ) (these calls : List Call)
    → line_witness within x line (these ++ calls) ≡ witness_by within x line (line_witness within x line calls) (pulses_on line these)
by_pulses within x line [] calls = refl
by_pulses within x line (Hear port rise width ∷ these) calls = elim (cases_Bool (line == port && is_pulse width)) [
  | inl here ↦ rw here (ap (λ (a : LineWitness). after_rise within (x.symbol line) x.edges a (x.near rise) rise width) (by_pulses within x line these calls))
  | inr other ↦ rw other (by_pulses within x line these calls)
]
by_pulses within x line (Tick now ∷ these) calls = by_pulses within x line these calls

pulses_joined : (line : ℕ) (these calls : List Call) → pulses_on line (these ++ calls) ≡ pulses_on line these ++ pulses_on line calls
pulses_joined line [] calls = refl
pulses_joined line (Hear port rise width ∷ these) calls = elim (cases_Bool (line == port && is_pulse width)) [
  | inl here ↦ rw here (ap (λ (ps : List Pulse). pulse_at rise width ∷ ps) (pulses_joined line these calls))
  | inr other ↦ rw other (pulses_joined line these calls)
]
pulses_joined line (Tick now ∷ these) calls = pulses_joined line these calls

-- ---- they leave ticks as they were

last_same : (ports start : ℕ) (these calls : List Call) → AreHears ports these → last_tick start (these ++ calls) ≡ last_tick start calls
last_same ports start [] calls h = refl
last_same ports start (Hear port rise width ∷ these) calls h = last_same ports start these calls h.2
last_same ports start (Tick now ∷ these) calls h = absurd h

true_same : (ports within f : ℕ) (x : TrueLines) (these calls : List Call) → AreHears ports these → were_true within f x (these ++ calls) ≡ were_true within f x calls
true_same ports within f x [] calls h = refl
true_same ports within f x (Hear port rise width ∷ these) calls h = true_same ports within f x these calls h.2
true_same ports within f x (Tick now ∷ these) calls h = absurd h

-- ---- they are in order if each line's are

-- these pulses of a line, which come behind those and the last tick, are in order
abbrev are_behind : (tick : ℕ) → (before : List Pulse) → List Pulse → Bool
are_behind tick before [] = true
are_behind tick before (p ∷ ps) =
    (is_after (ps ++ before) p.rise && nat_le tick (p.rise + 500000)) && are_behind tick before ps

-- those of a line that are told by calls
abbrev is_line_behind : (start : ℕ) → (calls these : List Call) → (line : ℕ) → Bool
is_line_behind start calls these line =
    are_behind (last_tick start calls) (pulses_on line calls) (pulses_on line these)

module _ (r : Redundancy) (start : ℕ) (calls : List Call) where
  -- a pulse comes in order behind calls
  abbrev comes : (these : List Call) → (port rise : ℕ) → Bool
  comes these port rise =
      is_after (pulses_on port these ++ pulses_on port calls) rise && nat_le (last_tick start calls) (rise + 500000)

  order_of : (these : List Call) (port rise width : ℕ) → AreHears (ports_in r) (Hear port rise width ∷ these)
      → in_order start r (Hear port rise width ∷ these ++ calls) ≡ (comes these port rise && in_order start r (these ++ calls))
  unfolding in_order
  order_of these port rise width h =
      let low : nat_lt port (ports_in r) ≡ true = lt-ltb _ _ h.0 in
      let narrow = h.1 in
      let joined = pulses_joined port these calls in
      let last = last_same (ports_in r) start these calls h.2 in
      rw (low, narrow, joined, last) refl

  calls_are : (these : List Call) → AreHears (ports_in r) these → in_order start r (these ++ calls) ≡ true → in_order start r calls ≡ true
  calls_are [] h e = e
  calls_are (Hear port rise width ∷ these) h e =
      calls_are these h.2 (both (comes these port rise) _ (sym (order_of these port rise width h) ∙ e)).1
  calls_are (Tick now ∷ these) h e = absurd h

  line_is : (line : ℕ) (these : List Call) → AreHears (ports_in r) these → in_order start r (these ++ calls) ≡ true → is_line_behind start calls these line ≡ true
  line_is line [] h e = refl
  line_is line (Hear port rise width ∷ these) h e =
      let a = both (comes these port rise) _ (sym (order_of these port rise width h) ∙ e) in
      let rest = line_is line these h.2 a.1 in
      elim (cases_Bool (line == port && is_pulse width)) [
        | inl here ↦ (let one : port ≡ line = sym (eqb-true line port (both (line == port) _ here).0) in rw here (and_from _ _ (subst (λ (q : ℕ). comes these q rise ≡ true) one a.0) rest))
        | inr other ↦ rw other rest
      ]
  line_is line (Tick now ∷ these) h e = absurd h

  -- each line's are in order
  abbrev AreLines : List Call → Type 0
  AreLines these = (line : ℕ) → line < 5 → is_line_behind start calls these line ≡ true

  -- so are those before the newest call
  rest_are : (these : List Call) (port rise width : ℕ) → AreLines (Hear port rise width ∷ these) → AreLines these
  rest_are these port rise width lines line less = elim (cases_Bool (line == port && is_pulse width)) [
    | inl here ↦ (both (comes these line rise) _ (rw here at (lines line less))).1
    | inr other ↦ rw other at (lines line less)
  ]

  newest_comes : (these : List Call) (port rise width : ℕ) → port < 5 → is_pulse width ≡ true → AreLines (Hear port rise width ∷ these) → comes these port rise ≡ true
  newest_comes these port rise width low narrow lines =
      let here : (port == port && is_pulse width) ≡ true = and_from _ _ (eq-eqb port port refl) narrow in
      (both (comes these port rise) _ (rw here at (lines port low))).0

  order_from : (these : List Call) → AreHears (ports_in r) these → AreLines these → in_order start r calls ≡ true → in_order start r (these ++ calls) ≡ true
  order_from [] h lines e = e
  order_from (Hear port rise width ∷ these) h lines e =
      let low : port < 5 = omega (arith, h.0, five r) in
      order_of these port rise width h
      ∙ and_from _ _ (newest_comes these port rise width low h.1 lines) (order_from these h.2 (rest_are these port rise width lines) e)
  order_from (Tick now ∷ these) h lines e = absurd h

  turned : (these those : List Call) → AreHears (ports_in r) these → AreHears (ports_in r) those → AreSameByLine these those
      → in_order start r (these ++ calls) ≡ true → in_order start r (those ++ calls) ≡ true
  turned these those h k same e =
      order_from those k
      (λ line less. subst (λ (ps : List Pulse). are_behind (last_tick start calls) (pulses_on line calls) ps ≡ true) (same line less) (line_is line these h e))
      (calls_are these h e)

both_ways : (a b : Bool) → (a ≡ true → b ≡ true) → (b ≡ true → a ≡ true) → a ≡ b
both_ways true b to from = sym (to refl)
both_ways false true to from = from refl
both_ways false false to from = refl

order_same : (r : Redundancy) (start : ℕ) (these those calls : List Call) → AreHears (ports_in r) these → AreHears (ports_in r) those → AreSameByLine these those
    → in_order start r (these ++ calls) ≡ in_order start r (those ++ calls)
order_same r start these those calls h k same =
    both_ways _ _ (turned r start calls these those h k same) (turned r start calls those these k h (λ line less. sym (same line less)))

-- ---- an audit

pub watch_in_any_order : (w : Watch) (c : ClockRules) (x : TrueLines) (start : ℕ) (these those calls : List Call)
    → AreHears (ports_in c.redundancy) these → AreHears (ports_in c.redundancy) those → AreSameByLine these those
    → IsWatchOf w c x start (these ++ calls) → IsWatchOf w c x start (those ++ calls)
watch_in_any_order w c x start these those calls h k same is = record {
  lines = λ line less. is.lines line less ∙ by_pulses c.within.us x line these calls
      ∙ ap (λ (ps : List Pulse). witness_by c.within.us x line (line_witness c.within.us x line calls) ps) (same line less)
      ∙ sym (by_pulses c.within.us x line those calls);
  tick = is.tick ∙ last_same (ports_in c.redundancy) start these calls h ∙ sym (last_same (ports_in c.redundancy) start those calls k);
  kept = is.kept
      ∙ ap (λ (b : Bool). b && were_true c.within.us (f_of c.redundancy) x (these ++ calls)) (order_same c.redundancy start these those calls h k same)
      ∙ ap (λ (b : Bool). in_order start c.redundancy (those ++ calls) && b)
      (true_same (ports_in c.redundancy) c.within.us (f_of c.redundancy) x these calls h ∙ sym (true_same (ports_in c.redundancy) c.within.us (f_of c.redundancy) x those calls k));
}

-- ---- a device

pub more_ports : (few many : ℕ) (these : List Call) → few ≤ many → AreHears few these → AreHears many these
more_ports few many [] less h = tt
more_ports few many (Hear port rise width ∷ these) less h = (omega (arith, less, h.0), h.1, more_ports few many these less h.2)
more_ports few many (Tick now ∷ these) less h = absurd h

pub device_in_any_order : {P : Type 0} {g : Ghosts P} (device : Device P g) (made : MadeOf) (symbol : ℕ → ℕ → Symbol) (start : ℕ) (these those calls : List Call)
    → AreHears (ports_in made.clock.redundancy) these → AreHears (ports_in made.clock.redundancy) those → AreSameByLine these those
    → IsDeviceOf device made symbol start (these ++ calls) → IsDeviceOf device made symbol start (those ++ calls)
device_in_any_order device made symbol start these those calls h k same is =
    let few = five made.clock.redundancy in
    record {
      lived = lived_in_any_order device.keeper made these those calls (more_ports _ 5 these few h) (more_ports _ 5 those few k) same is.lived;
      watch = watch_in_any_order device.watch made.clock (lines_on device symbol) start these those calls h k same is.watch;
      clock = is.clock;
    }

-- ---- a frame that a line takes

no_longer : (b : Bool) → not b ≡ true → b ≡ false
no_longer true e = absurd cc
no_longer false e = refl

-- its last pulse was a marker, or it is idle; and by the audit the frame may begin
pub taken : {P : Type 0} {g : Ghosts P} (device : Device P g) (line rise element : ℕ) → takes_frame device line rise element ≡ true
    → (((line_at device.keeper.state.lines line).sync.was_marker == 0) ≡ false) × (may_begin device.watch line rise element ≡ true)
taken device line rise element e =
    let a = both (not ((line_at device.keeper.state.lines line).sync.was_marker == 0)) (may_begin device.watch line rise element) e in
    (no_longer _ a.0, a.1)

-- what of a device decides that
abbrev takes : Line → LineWitness → (tick rise element : ℕ) → Bool
takes l a tick rise element =
    not (l.sync.was_marker == 0) && (nat_le a.next element && (nat_le a.rise rise && nat_le tick (rise + 500000)))

pub takes_same : (l m : Line) (a b : LineWitness) (t u rise element : ℕ) → l ≡ m → a ≡ b → t ≡ u → takes l a t rise element ≡ takes m b u rise element
takes_same l m a b t u rise element lines witnesses ticks =
    ap (λ (n : Line). takes n a t rise element) lines ∙ ap (λ (w : LineWitness). takes m w t rise element) witnesses ∙ ap (λ (n : ℕ). takes m b n rise element) ticks
