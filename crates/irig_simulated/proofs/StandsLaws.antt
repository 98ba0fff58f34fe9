-- What a simulated device stands for behind what happens to it.
use Rattle.std.proofs.Common.{◌≡◌, ◌∙◌, ℕ, zero, suc, ◌+◌, ◌-◌, ◌*◌, ◌/◌, ◌%◌, ◌^◌, ◌<◌, ◌≤◌, Bool, true, false, cond, List, [], ◌∷◌, ◌++◌, append-nil, Option, Some, None, length, pos, refl, sym, ap, arith, inl, inr, subst}
use Rattle.std.specs.Prelude.{◌==◌, min, nat_lt, option_and_then, slice_get}
use Rattle.std.proofs.lemmas.Bool.{le-ltb, lt-ltb}
use Rattle.std.proofs.lemmas.Bool.Decides.{eqb_tells}
use Rattle.std.proofs.lemmas.Option.{slice_get_within}
use Rattle.irig_frame.specs.declared.symbol.Symbol.{Symbol}
use Rattle.irig_port.specs.declared.port.Port.{Ghosts}
use Rattle.irig_lines.specs.declared.lines.Lines.{Lines}
use Rattle.irig_time.specs.declared.rules.Rules.{Rules}
use Rattle.irig_time.specs.Tables.{TableValue}
use Rattle.irig_lines.specs.declared.setup.ClockRules.{ClockRules}
use Rattle.irig_lines.specs.declared.delay.Delays.{Delays}
use Rattle.irig_lines.specs.Delays.{delay_at}
use Rattle.irig_timekeeper.specs.declared.keeper.Timekeeper.{Timekeeper}
use Rattle.irig_timekeeper.specs.declared.clock.Beat.{Beat}
use Rattle.irig_timekeeper.specs.Keeping.{Keeping, answer_at, new_keeping, place_told, wait_at}
use Rattle.irig_timekeeper.specs.Keepers.{ForKeeping, IsKeeping}
use Rattle.irig_timekeeper.specs.Life.{Call, after_calls}
use Rattle.irig_timekeeper.specs.Life.Call.{Hear, Tick}
use Rattle.irig_timekeeper.specs.Lived.{HasLived, MadeOf, keeping_after}
use Rattle.irig_wires.specs.declared.oscillator.Oscillator.{Oscillator}
use Rattle.irig_vote.specs.declared.redundancy.Redundancy.{Redundancy}
use Rattle.irig_vote.specs.Vote.{ports_in}
use Rattle.irig_wires.specs.declared.wire.Flight.{Flight}
use Rattle.irig_wires.specs.declared.wires.Wires.{Wires}
use Rattle.irig_wires.specs.declared.wires.Ending.{Ending}
use Rattle.irig_wires.specs.declared.wires.Coming.{Coming}
use Rattle.irig_wires.specs.declared.wires.Happening.{Happening}
use Rattle.irig_wires.specs.declared.wires.Happening.TheVariants.{End}
use Rattle.irig_simulated.specs.declared.told_second.ToldSecond.{ToldSecond}
use Rattle.irig_wires.specs.Wires.{wire_at, with_wire}
use Rattle.irig_wires.proofs.OrderLaws.{comes_first}
use Rattle.irig_wires.specs.Oscillator.{counter_at, edges_by, rate_of}
use Rattle.irig_wires.proofs.OscillatorLaws.{at_edges, monotone, rate_near}
use Rattle.irig_witness.specs.declared.device.Device.{Device}
use Rattle.irig_witness.specs.Elements.{element_near}
use Rattle.irig_witness.specs.Witness.{HaveEnded, IsSaidOf}
use Rattle.irig_witness.specs.Devices.{HearsOn, IsDeviceOf, element_on, risen_on, wait_until_asked}
use Rattle.irig_simulated.specs.declared.second.Second.{Second}
use Rattle.irig_simulated.specs.declared.simulated.Simulated.{Simulated}
use Rattle.irig_simulated.specs.Kinds.{Kind, count, no_delay}
use Rattle.irig_simulated.specs.Courses.{Course, coming, coming_from, happened, hearing, next_tick, place_heard, played, sent_if, sent_on_all, stepped, tick_after_frame, told_count_of, told_if, told_second, wait_after, width_by}
use Rattle.irig_simulated.specs.Seconds.{IsSecondOf, asked_of, sent_in, symbol_sent}
use Rattle.irig_simulated.specs.Simulations.{IsSimulationOf}
use Rattle.irig_simulated.specs.Flights.{are_flights, is_flight_on}
use Rattle.irig_simulated.specs.declared.second.LineSecond.{LineSecond}
use Rattle.irig_simulated.proofs.AskedLaws.{said}
use Rattle.irig_simulated.proofs.FlightLaws.{flight_at, flight_says, flights_sent}

pub other_number : (a b : ℕ) → ¬ (a ≡ b) → (a == b) ≡ false
other_number a b other = elim (eqb_tells a b) [ inl h ↦ absurd (other h.1) | inr h ↦ h.0 ]

-- a timekeeper is what its calls make of it
pub keeping_is : {P : Type 0} {g : Ghosts P} (keeper : Timekeeper P g) (made : MadeOf) (calls : List Call) → HasLived keeper made calls → IsKeeping keeper (keeping_after made calls)
keeping_is keeper made calls h = subst (λ (lines : Lines). IsKeeping keeper (after_calls (new_keeping made.rules made.clock made.table lines) calls)) h.none h.is

same_either : (b : Bool) → cond b (pos 0) (pos 0) ≡ pos 0
same_either true = refl
same_either false = refl

pub none_late : (line : ℕ) → delay_at no_delay line ≡ pos 0
none_late line =
    let d = same_either (line == 3) in
    let c = ap (cond (line == 2) (pos 0)) d ∙ same_either (line == 2) in
    let b = ap (cond (line == 1) (pos 0)) c ∙ same_either (line == 1) in
    ap (cond (line == 0) (pos 0)) b ∙ same_either (line == 0)

pub later_ended : (s t : ℕ) (calls : List Call) → s ≤ t → HaveEnded s calls → HaveEnded t calls
later_ended s t [] less h = h
later_ended s t (Hear port rise width ∷ calls) less h = (omega (arith, less, h.0), later_ended s t calls less h.1)
later_ended s t (Tick now ∷ calls) less h = later_ended s t calls less h

module _ {P : Type 0} {g : Ghosts P} (s : Simulated P g) (k : Kind) (symbol : ℕ → ℕ → Symbol) (x : Course) (is : IsSimulationOf s k symbol x) where
  -- what its counter shows
  pub count_is : (time : ℕ) → counter_at s.oscillator.first (rate_of s.oscillator.gain_us) time ≡ count k time
  count_is time = rw (is.first, is.rate) refl

  pub slow : 999000 ≤ k.rate
  slow = (let near = (rate_near s.oscillator.gain_us 1000 s.oscillator.few).0 in omega (arith, near, is.rate))

  pub risen_is : (line rise : ℕ) → risen_on s.device line rise ≡ rise
  risen_is line rise = (let none : delay_at s.device.clock.delays line ≡ pos 0 = ap (λ (d : Delays). delay_at d line) s.undelayed ∙ none_late line in let e : rise - 0 ≡ rise = omega arith in rw none e)

  pub element_is : (line rise : ℕ) → element_on s.device line rise ≡ element_near k.first k.rate rise
  element_is line rise =
      ap (λ (o : Oscillator). element_near o.first (rate_of o.gain_us) (risen_on s.device line rise)) s.own
      ∙ (let e : element_near s.oscillator.first (rate_of s.oscillator.gain_us) (risen_on s.device line rise) ≡ element_near k.first k.rate (risen_on s.device line rise) = rw (is.first, is.rate) refl in e)
      ∙ ap (element_near k.first k.rate) (risen_is line rise)

  pub first_least : (time : ℕ) → k.first ≤ count k time
  first_least time = omega arith

module _ {P : Type 0} {g : Ghosts P} (s : Simulated P g) (second : Second) (e : Ending) (device : Device P g) (now rise width place : ℕ)
    (counted : now ≡ counter_at s.oscillator.first (rate_of s.oscillator.gain_us) s.now_us) (risen : rise ≡ counter_at s.oscillator.first (rate_of s.oscillator.gain_us) e.flight.rise_us)
    (wide : width ≡ min (now - rise) (2 ^ 32 - 1)) (on : HearsOn s.device device e.line rise width (asked_of second e.line (element_on s.device e.line rise)))
    (placed : ForKeeping s.device.keeper (λ k. place ≡ place_told k e.line (risen_on s.device e.line rise % 2 ^ 32) width))
    (past : e.flight.rise_us ≤ s.now_us) (begun : second.number * 1000000 ≤ s.now_us) (within : s.now_us < (second.number + 1) * 1000000)
    (k : Kind) (signal : ℕ → ℕ → Option Symbol) (symbol : ℕ → ℕ → Symbol) (x : Course) (of : IsSecondOf second signal symbol) (is : IsSimulationOf s k symbol x) where
  rise_is : rise ≡ count k e.flight.rise_us
  rise_is = risen ∙ count_is s k symbol x is e.flight.rise_us

  pub now_is : now ≡ count k x.now
  now_is = counted ∙ count_is s k symbol x is s.now_us ∙ ap (count k) is.now

  width_is : width ≡ width_by k e.flight.rise_us x.now
  width_is = wide ∙ (let e : min (now - rise) (2 ^ 32 - 1) ≡ width_by k e.flight.rise_us x.now = rw (now_is, rise_is) refl in e)

  before : count k e.flight.rise_us ≤ count k x.now
  before = monotone k.first k.rate e.flight.rise_us x.now (omega (arith, past, is.now))

  said_is : IsSaidOf (symbol e.line) (element_on s.device e.line rise) width (asked_of second e.line (element_on s.device e.line rise))
  said_is =
      let begins : edges_by k.first k.rate second.number ≤ count k x.now = omega (arith, at_edges k.first k.rate second.number, monotone k.first k.rate (second.number * 1000000) x.now (omega (arith, begun, is.now))) in
      let ends : count k x.now ≤ edges_by k.first k.rate (second.number + 1) = omega (arith, at_edges k.first k.rate (second.number + 1), monotone k.first k.rate x.now ((second.number + 1) * 1000000) (omega (arith, within, is.now))) in
      let there : element_on s.device e.line rise ≡ element_near k.first k.rate (count k e.flight.rise_us) = element_is s k symbol x is e.line rise ∙ ap (element_near k.first k.rate) rise_is in
      subst (λ (n : ℕ). IsSaidOf (symbol e.line) n width (asked_of second e.line n)) (sym there)
      (said k.first k.rate (count k e.flight.rise_us) width (count k x.now) second.number (slow s k symbol x is) (first_least s k symbol x is e.flight.rise_us) before width_is begins ends second signal symbol of refl e.line)

  call_is : Hear e.line (risen_on s.device e.line rise) width ≡ hearing k x.now e
  call_is = ap (λ (r : ℕ). Hear e.line r width) (risen_is s k symbol x is e.line rise ∙ rise_is) ∙ ap (Hear e.line (count k e.flight.rise_us)) width_is

  pub heard_device : IsDeviceOf device k.made symbol x.start (hearing k x.now e ∷ x.calls)
  heard_device = subst (λ (c : Call). IsDeviceOf device k.made symbol x.start (c ∷ x.calls)) call_is (on k.made symbol x.start x.calls is.device said_is)

  pub heard_place : place ≡ place_heard k x.calls x.now e
  heard_place =
      placed (keeping_after k.made x.calls) (keeping_is s.device.keeper k.made x.calls is.device.lived)
      ∙ ap (λ (r : ℕ). place_told (keeping_after k.made x.calls) e.line (r % 2 ^ 32) width) (risen_is s k symbol x is e.line rise ∙ rise_is)
      ∙ ap (place_told (keeping_after k.made x.calls) e.line (count k e.flight.rise_us % 2 ^ 32)) width_is

  pub heard_ended : HaveEnded (count k x.now) (hearing k x.now e ∷ x.calls)
  heard_ended = (omega (arith, before), is.ended)

-- ---- when it is ticked next

module _ {P : Type 0} {g : Ghosts P} (s : Simulated P g) (k : Kind) (symbol : ℕ → ℕ → Symbol) (x : Course) (is : IsSimulationOf s k symbol x) where
  pub next_same : (wait : ℕ) → next_tick s.ticking s.oscillator.first (rate_of s.oscillator.gain_us) s.now_us wait ≡ next_tick k.ticking k.first k.rate x.now wait
  next_same wait = rw (is.ticking, is.first, is.rate, is.now) refl

  pub after_frame_same : (wait : ℕ) → tick_after_frame s.ticking s.oscillator.first (rate_of s.oscillator.gain_us) s.now_us wait s.tick_us ≡ tick_after_frame k.ticking k.first k.rate x.now wait x.tick
  after_frame_same wait = rw (is.ticking, is.first, is.rate, is.now, is.tick) refl

  pub counted_now : (now : ℕ) → now ≡ counter_at s.oscillator.first (rate_of s.oscillator.gain_us) s.now_us → now ≡ count k x.now
  counted_now now e = e ∙ count_is s k symbol x is s.now_us ∙ ap (count k) is.now

-- how long it asks to wait
pub waited : {P : Type 0} {g : Ghosts P} (device : Device P g) (k : Kind) (symbol : ℕ → ℕ → Symbol) (start now wait time : ℕ) (calls : List Call) → IsDeviceOf device k.made symbol start calls
    → ((made : MadeOf) (symbol : ℕ → ℕ → Symbol) (start : ℕ) (calls : List Call) → IsDeviceOf device made symbol start calls → wait ≡ wait_until_asked made start calls now) → now ≡ count k time → wait ≡ wait_after k start calls time
waited device k symbol start now wait time calls is says at = says k.made symbol start calls is ∙ ap (wait_until_asked k.made start calls) at

-- what it answers
pub answered : {P : Type 0} {g : Ghosts P} (device : Device P g) (k : Kind) (symbol : ℕ → ℕ → Symbol) (start now time : ℕ) (beat : Option Beat) (calls : List Call) → IsDeviceOf device k.made symbol start calls
    → ForKeeping device.keeper (λ keeping. beat ≡ answer_at keeping (now % 2 ^ 32)) → now ≡ count k time → beat ≡ answer_at (keeping_after k.made calls) (count k time % 2 ^ 32)
answered device k symbol start now time beat calls is says at =
    says (keeping_after k.made calls) (keeping_is device.keeper k.made calls is.lived) ∙ ap (λ (n : ℕ). answer_at (keeping_after k.made calls) (n % 2 ^ 32)) at

-- ---- what comes next

pub coming_is : {P : Type 0} {g : Ghosts P} (s : Simulated P g) (k : Kind) (symbol : ℕ → ℕ → Symbol) (x : Course) → IsSimulationOf s k symbol x → coming_from s.now_us s.wires s.tick_us s.send_us ≡ coming x
coming_is s k symbol x is = rw (is.now, is.wires, is.tick, is.send) refl

-- a device is as it was, later
pub later : {P : Type 0} {g : Ghosts P} (s then_is : Simulated P g) (k : Kind) (symbol : ℕ → ℕ → Symbol) (x : Course) (now : ℕ) → then_is.device ≡ s.device → then_is.oscillator ≡ s.oscillator → then_is.ticking ≡ s.ticking → then_is.wires ≡ s.wires → then_is.tick_us ≡ s.tick_us → then_is.send_us ≡ s.send_us → then_is.told ≡ s.told
    → then_is.now_us ≡ now → s.now_us ≤ now → IsSimulationOf s k symbol x → IsSimulationOf then_is k symbol (record x { now = now })
later {P} {g} s then_is k symbol x now device oscillator ticking wires tick send told at least is = record {
  device = subst (λ (d : Device P g). IsDeviceOf d k.made symbol x.start x.calls) (sym device) is.device;
  ended = later_ended (count k x.now) (count k now) x.calls (monotone k.first k.rate x.now now (omega (arith, least, is.now))) is.ended;
  first = ap (λ (o : Oscillator). o.first) oscillator ∙ is.first;
  rate = ap (λ (o : Oscillator). rate_of o.gain_us) oscillator ∙ is.rate;
  ticking = ticking ∙ is.ticking;
  now = at;
  wires = wires ∙ is.wires;
  tick = tick ∙ is.tick;
  send = send ∙ is.send;
  told = rw told is.told;
}

pub later_as : {P : Type 0} {g : Ghosts P} (s then_is : Simulated P g) (k : Kind) (symbol : ℕ → ℕ → Symbol) (x y : Course) (now : ℕ) → record x { now = now } ≡ y → then_is.device ≡ s.device → then_is.oscillator ≡ s.oscillator → then_is.ticking ≡ s.ticking → then_is.wires ≡ s.wires → then_is.tick_us ≡ s.tick_us → then_is.send_us ≡ s.send_us → then_is.told ≡ s.told
    → then_is.now_us ≡ now → s.now_us ≤ now → IsSimulationOf s k symbol x → IsSimulationOf then_is k symbol y
later_as s then_is k symbol x y now goes device oscillator ticking wires tick send told at least is =
    subst (λ (z : Course). IsSimulationOf then_is k symbol z) goes (later s then_is k symbol x now device oscillator ticking wires tick send told at least is)

-- the pulse that ends next is on a line, and has risen
pub ends_next : (r : Redundancy) (now : ℕ) (wires : Wires) (tick : Option ℕ) (send : ℕ) (e : Ending) → are_flights (ports_in r) wires ≡ true → (coming_from now wires tick send).what ≡ End e
    → (e.line < ports_in r) × (e.flight.rise_us ≤ (coming_from now wires tick send).time_us)
ends_next r now wires tick send e are is =
    let ends = (comes_first wires tick send).is_end e is in
    let on = ends.0.own in
    let says = flight_says (ports_in r) e.line e.flight (subst (λ (o : Option Flight). is_flight_on (ports_in r) e.line o ≡ true) on.1 (flight_at (ports_in r) wires e.line on.0 are)) in
    (says.0, omega (arith, says.1, ends.1))

-- ---- generators send

-- what is sent on five lines, one after another
pub all_sent : (symbols : ℕ → Option Symbol) (time : ℕ) (w a b c d e : Wires) (s0 s1 s2 s3 s4 : Option Symbol) → s0 ≡ symbols 0 → s1 ≡ symbols 1 → s2 ≡ symbols 2 → s3 ≡ symbols 3 → s4 ≡ symbols 4
    → a ≡ with_wire w 0 (sent_if s0 time (wire_at w 0)) → b ≡ with_wire a 1 (sent_if s1 time (wire_at a 1)) → c ≡ with_wire b 2 (sent_if s2 time (wire_at b 2)) → d ≡ with_wire c 3 (sent_if s3 time (wire_at c 3))
    → e ≡ with_wire d 4 (sent_if s4 time (wire_at d 4)) → e ≡ sent_on_all symbols time w
all_sent symbols time w a b c d e s0 s1 s2 s3 s4 is0 is1 is2 is3 is4 on0 on1 on2 on3 on4 = rw (on4, on3, on2, on1, on0, is0, is1, is2, is3, is4) refl

-- a line on which is sent has a number
pub sent_line : (s : Second) (line place : ℕ) (symbol : Symbol) → sent_in s line place ≡ Some symbol → line < length s.lines.items
sent_line s line place symbol e = go (slice_get s.lines.items line) refl
  where
    go : (o : Option LineSecond) → slice_get s.lines.items line ≡ o → line < length s.lines.items
    go None none = absurd (let no : option_and_then (symbol_sent place) None ≡ Some symbol = subst (λ (o : Option LineSecond). option_and_then (symbol_sent place) o ≡ Some symbol) none e in cc)
    go (Some x) some = slice_get_within s.lines.items line x some

pub flights_sent_all : (r : Redundancy) (s : Second) (place time : ℕ) (w a b c d e : Wires) (s0 s1 s2 s3 s4 : Option Symbol) → length s.lines.items ≤ ports_in r → are_flights (ports_in r) w ≡ true → s0 ≡ sent_in s 0 place → s1 ≡ sent_in s 1 place → s2 ≡ sent_in s 2 place → s3 ≡ sent_in s 3 place → s4 ≡ sent_in s 4 place
    → a ≡ with_wire w 0 (sent_if s0 time (wire_at w 0)) → b ≡ with_wire a 1 (sent_if s1 time (wire_at a 1)) → c ≡ with_wire b 2 (sent_if s2 time (wire_at b 2)) → d ≡ with_wire c 3 (sent_if s3 time (wire_at c 3))
    → e ≡ with_wire d 4 (sent_if s4 time (wire_at d 4)) → are_flights (ports_in r) e ≡ true
flights_sent_all r s place time w a b c d e s0 s1 s2 s3 s4 lines are is0 is1 is2 is3 is4 on0 on1 on2 on3 on4 =
    go d e 4 s4 (omega arith) is4 on4 (go c d 3 s3 (omega arith) is3 on3 (go b c 2 s2 (omega arith) is2 on2 (go a b 1 s1 (omega arith) is1 on1 (go w a 0 s0 (omega arith) is0 on0 are))))
  where
    go : (before behind : Wires) (line : ℕ) (symbol : Option Symbol) → line < 5 → symbol ≡ sent_in s line place → behind ≡ with_wire before line (sent_if symbol time (wire_at before line)) → are_flights (ports_in r) before ≡ true → are_flights (ports_in r) behind ≡ true
    go before behind line symbol few is on are = subst (λ (w : Wires). are_flights (ports_in r) w ≡ true) (sym on) (flights_sent r before are line time symbol few (λ y some. omega (arith, sent_line s line place y (sym is ∙ some), lines)))

-- ---- time passes

pub played_done : (k : Kind) (signal : ℕ → ℕ → Option Symbol) (stop most : ℕ) (x : Course) → stop ≤ (coming x).time_us → played k signal stop most x ≡ x
played_done k signal stop zero x done = refl
played_done k signal stop (suc most) x done = (let no : nat_lt (coming x).time_us stop ≡ false = le-ltb (coming x).time_us stop done in rw no refl)

pub played_on : (k : Kind) (signal : ℕ → ℕ → Option Symbol) (stop most : ℕ) (x : Course) → (coming x).time_us < stop → played k signal stop (suc most) x ≡ played k signal stop most (stepped k signal x)
played_on k signal stop most x less = (let yes : nat_lt (coming x).time_us stop ≡ true = lt-ltb (coming x).time_us stop less in rw yes refl)

-- what happens next, by what it is
pub stepped_by : (k : Kind) (signal : ℕ → ℕ → Option Symbol) (x : Course) (next : Coming) (what : Happening) → next ≡ coming x → next.what ≡ what → happened k signal what (record x { now = next.time_us }) ≡ stepped k signal x
stepped_by k signal x next what is happens = ap (λ (w : Happening). happened k signal w (record x { now = next.time_us })) (sym happens) ∙ ap (λ (y : Coming). happened k signal y.what (record x { now = y.time_us })) is

-- ---- what was told

module _ {P : Type 0} {g : Ghosts P} (s : Simulated P g) (k : Kind) (symbol : ℕ → ℕ → Symbol) (x : Course) (is : IsSimulationOf s k symbol x) (now : ℕ) (at : now ≡ count k x.now) (told : Option Beat) (answer : told ≡ answer_at (keeping_after k.made x.calls) (count k x.now % 2 ^ 32)) where
  abbrev told_then : List ToldSecond
  told_then = x.told ++ told_if k (count k x.now) (answer_at (keeping_after k.made x.calls) (count k x.now % 2 ^ 32))

  pub told_some : (beat : Beat) (t : ToldSecond) (items : List ToldSecond) → told ≡ Some beat → t ≡ told_second s.oscillator.first (rate_of s.oscillator.gain_us) (told_count_of now beat) beat → items ≡ s.told.items ++ (t ∷ []) → items ≡ told_then
  told_some beat t items some second pushed =
      let says : answer_at (keeping_after k.made x.calls) (count k x.now % 2 ^ 32) ≡ Some beat = sym answer ∙ some in
      let one : t ≡ told_second k.first k.rate (told_count_of (count k x.now) beat) beat =
      second ∙ ap (λ (n : ℕ). told_second s.oscillator.first (rate_of s.oscillator.gain_us) (told_count_of n beat) beat) at
      ∙ ap (λ (n : ℕ). told_second n (rate_of s.oscillator.gain_us) (told_count_of (count k x.now) beat) beat) is.first ∙ ap (λ (n : ℕ). told_second k.first n (told_count_of (count k x.now) beat) beat) is.rate in
      pushed ∙ ap (λ (xs : List ToldSecond). xs ++ (t ∷ [])) is.told ∙ ap (λ (y : ToldSecond). x.told ++ (y ∷ [])) one ∙ ap (λ (o : Option Beat). x.told ++ told_if k (count k x.now) o) (sym says)

  pub told_none : (items : List ToldSecond) → told ≡ None → items ≡ s.told.items → items ≡ told_then
  told_none items none same = same ∙ is.told ∙ sym (append-nil x.told) ∙ ap (λ (o : Option Beat). x.told ++ told_if k (count k x.now) o) (sym none ∙ answer)

-- a device of the same setup
pub made_same : {P : Type 0} {g : Ghosts P} (device : Device P g) (rules : Rules) (c clock : ClockRules) (t table : TableValue) (symbol : ℕ → ℕ → Symbol) (s start : ℕ) → c ≡ clock → t ≡ table → s ≡ start
    → IsDeviceOf device (record { rules = rules; clock = c; table = t }) symbol s [] → IsDeviceOf device (record { rules = rules; clock = clock; table = table }) symbol start []
made_same device rules c clock t table symbol s start is_clock is_table is_start h =
    subst (λ (n : ℕ). IsDeviceOf device (record { rules = rules; clock = clock; table = table }) symbol n []) is_start
    (subst (λ (y : TableValue). IsDeviceOf device (record { rules = rules; clock = clock; table = y }) symbol s []) is_table
    (subst (λ (y : ClockRules). IsDeviceOf device (record { rules = rules; clock = y; table = t }) symbol s []) is_clock h))
