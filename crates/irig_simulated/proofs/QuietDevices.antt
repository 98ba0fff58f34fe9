-- What a device is that was told a line's frame, but for its last pulse, at once.
use Rattle.std.proofs.Common.{◌≡◌, ◌∙◌, ℕ, ◌+◌, ◌-◌, ◌*◌, ◌<◌, true, List, ◌++◌, Option, Some, None, length, map, take, pos, refl, sym, ap, arith, inl, inr, subst}
use Rattle.std.specs.Prelude.{is_some, option_and_then, slice_get}
use Rattle.std.specs.Option.{option_map}
use Rattle.irig_frame.specs.declared.symbol.Symbol.{Symbol}
use Rattle.irig_frame.specs.declared.symbol.Symbol.TheVariants.{Bad, Marker, One, Zero}
use Rattle.irig_frame.specs.Symbols.{symbol_of, width_of}
use Rattle.irig_sync.specs.Lines.{pulse_at}
use Rattle.irig_sync.specs.Sync.{is_marker_symbol}
use Rattle.irig_port.specs.declared.port.Port.{Ghosts}
use Rattle.irig_port.specs.Heard.{symbols_of}
use Rattle.irig_lines.specs.declared.delay.Delays.{Delays}
use Rattle.irig_lines.specs.Delays.{delay_at}
use Rattle.irig_lives.specs.Decided.{is_pulse_of, is_same}
use Rattle.irig_timekeeper.specs.Life.{Call}
use Rattle.irig_timekeeper.specs.Unfinished.{hears, most, pulses_by, symbols_by}
use Rattle.irig_wires.specs.declared.oscillator.Oscillator.{Oscillator}
use Rattle.irig_wires.specs.declared.wire.Flight.{Flight}
use Rattle.irig_wires.specs.Oscillator.{counter_at, edges_by, rate_of}
use Rattle.irig_wires.specs.Wires.{flight_of, wire_at}
use Rattle.irig_witness.specs.declared.device.Device.{Device}
use Rattle.irig_witness.specs.Devices.{IsDeviceOf, edges_of, risen_on}
use Rattle.irig_witness.specs.Elements.{element_near}
use Rattle.irig_witness.specs.Unfinished.{HearsUnfinished}
use Rattle.irig_simulated.specs.declared.second.LineSecond.{LineSecond}
use Rattle.irig_simulated.specs.declared.second.Second.{Second}
use Rattle.irig_simulated.specs.declared.simulated.Simulated.{Simulated}
use Rattle.irig_simulated.specs.Kinds.{Kind, count}
use Rattle.irig_simulated.specs.Quiet.{risen_by, sent_at, wide_by}
use Rattle.irig_simulated.specs.QuietLines.{BringsFrame, BringsNothing, IsAboutRight, IsQuietOn, SendsTrueFrame, calls_on, is_on, rise_on}
use Rattle.irig_simulated.specs.Seconds.{IsSecondOf, sent_in, symbol_in, symbol_sent, true_in}
use Rattle.irig_simulated.proofs.QuietPulses.{are_of_a_frame, near_is, same_symbol, symbol_wide, true_pulse}
use Rattle.irig_simulated.proofs.QuietWidths.{widths_show}
use Rattle.irig_simulated.proofs.StandsLaws.{none_late}

pub marker_is : (symbol : Symbol) → is_marker_symbol symbol ≡ true → symbol ≡ Marker
marker_is Marker is = refl
marker_is Zero is = absurd cc
marker_is One is = absurd cc
marker_is Bad is = absurd cc

-- ---- a line that is on brings its frame

pub brought : {P : Type 0} {g : Ghosts P} (d : Simulated P g) (s : Second) (line : ℕ) (flight : Flight) → (wire_at d.wires line).flight ≡ Some flight → IsQuietOn d s line → BringsFrame d s line
brought d s line flight on (inl brings) = brings
brought d s line flight on (inr nothing) = absurd (let no = nothing.none in let e : None ≡ Some flight = sym no ∙ on in cc)

pub silent : {P : Type 0} {g : Ghosts P} (d : Simulated P g) (s : Second) (line : ℕ) → (wire_at d.wires line).flight ≡ None → IsQuietOn d s line → BringsNothing d s line
silent d s line none (inl brings) = absurd (let some = brings.flight in let e = sym none ∙ some in cc)
silent d s line none (inr nothing) = nothing

-- when that began
pub rises_at : {P : Type 0} {g : Ghosts P} (d : Simulated P g) (s : Second) (line : ℕ) (flight : Flight) → (wire_at d.wires line).flight ≡ Some flight → BringsFrame d s line → flight.rise_us ≡ rise_on d s line
rises_at d s line flight on brings = (let same : Some flight ≡ Some (flight_of (rise_on d s line) 8000) = sym on ∙ brings.flight in let is : flight ≡ flight_of (rise_on d s line) 8000 = cc in ap (λ (x : Flight). x.rise_us) is)

-- its generator sends
has_line : (s : Second) (line place : ℕ) (symbol : Symbol) (o : Option LineSecond) → slice_get s.lines.items line ≡ o → sent_in s line place ≡ Some symbol → ¬ (option_map (λ (l : LineSecond). l.truth) o ≡ None)
has_line s line place symbol None is sends none = (let no : option_and_then (symbol_sent place) None ≡ Some symbol = subst (λ (o : Option LineSecond). option_and_then (symbol_sent place) o ≡ Some symbol) is sends in cc)
has_line s line place symbol (Some l) is sends none = cc

pub has_frame : (s : Second) (line : ℕ) → SendsTrueFrame s line → ¬ (option_map (λ (l : LineSecond). l.truth) (slice_get s.lines.items line) ≡ None)
has_frame s line sends = has_line s line 0 (true_in s line 0) (slice_get s.lines.items line) refl (sends.sends 0 (omega arith))

-- ---- it is told

module _ (s : Second) (line : ℕ) (signal : ℕ → ℕ → Option Symbol) (symbol : ℕ → ℕ → Symbol) (of : IsSecondOf s signal symbol) where
  pub good : (j : ℕ) → j < 100 → ¬ (true_in s line j ≡ Bad)
  good j less bad = of.proper line (100 * s.number + j) (of.has line j less ∙ bad)

module _ {P : Type 0} {g : Ghosts P} (d : Simulated P g) (s : Second) (line : ℕ) (brings : BringsFrame d s line) (about : IsAboutRight (rate_of d.oscillator.gain_us))
    (frame : List Symbol) (is_frame : Some frame ≡ option_map (λ (l : LineSecond). l.truth) (slice_get s.lines.items line)) (long : length frame ≡ 100)
    (device : Device P g) (first last : ℕ) (widths : List ℕ) (widths_are : widths ≡ map width_of (take most frame))
    (first_is : first ≡ counter_at d.oscillator.first (rate_of d.oscillator.gain_us) (rise_on d s line))
    (last_is : last ≡ counter_at d.oscillator.first (rate_of d.oscillator.gain_us) (rise_on d s line + 980000))
    (on : HearsUnfinished d.device device line first last (100 * s.number) widths)
    (k : Kind) (signal : ℕ → ℕ → Option Symbol) (symbol : ℕ → ℕ → Symbol) (start : ℕ) (calls : List Call) (of : IsSecondOf s signal symbol)
    (k_first : k.first ≡ d.oscillator.first) (k_rate : k.rate ≡ rate_of d.oscillator.gain_us) (is : IsDeviceOf d.device k.made symbol start calls) where
  abbrev late : ℕ
  late = (wire_at d.wires line).late_us

  abbrev rises : ℕ → ℕ
  rises = risen_by k s.number late

  abbrev wide : ℕ → ℕ
  wide = wide_by k s.number late (true_in s line)

  right : IsAboutRight k.rate
  right = subst IsAboutRight (sym k_rate) about

  shows : (j : ℕ) → j < 100 → symbol_of (wide j) ≡ true_in s line j
  shows j less = symbol_wide k right (sent_at s.number j + late) (true_in s line j) (good s line signal symbol of j less)

  counts : (time : ℕ) → counter_at d.oscillator.first (rate_of d.oscillator.gain_us) time ≡ count k time
  counts time = rw (k_first, k_rate) refl

  undelayed : (rise : ℕ) → risen_on d.device line rise ≡ rise
  undelayed rise = (let none : delay_at d.device.clock.delays line ≡ pos 0 = ap (λ (x : Delays). delay_at x line) d.undelayed ∙ none_late line in let e : rise - 0 ≡ rise = omega arith in rw none e)

  first_rises : risen_on d.device line first ≡ rises 0
  first_rises = undelayed first ∙ first_is ∙ counts (rise_on d s line)

  last_rises : risen_on d.device line last ≡ rises 98
  last_rises = undelayed last ∙ last_is ∙ counts (rise_on d s line + 980000) ∙ ap (count k) (let e : rise_on d s line + 980000 ≡ sent_at s.number 98 + late = omega arith in e)

  within : k.made.clock.within.us ≡ 450
  within = sym (ap (λ c. c.within.us) is.clock) ∙ d.right

  near : (i : ℕ) → i < 100 → element_near d.device.oscillator.first (rate_of d.device.oscillator.gain_us) (rises i) ≡ 100 * s.number + i
  near i less =
      ap (λ (o : Oscillator). element_near o.first (rate_of o.gain_us) (rises i)) d.own
      ∙ (let e : element_near d.oscillator.first (rate_of d.oscillator.gain_us) (rises i) ≡ element_near k.first k.rate (rises i) = rw (k_first, k_rate) refl in e)
      ∙ near_is k right s.number late brings.late i less

  true_on : (i : ℕ) → i < 100 → is_pulse_of k.made.clock.within.us (symbol line) (edges_of d.device) (100 * s.number + i) (pulse_at (rises i) (wide i)) ≡ true
  true_on i less =
      let same : is_same (symbol_of (wide i)) (symbol line (100 * s.number + i)) ≡ true =
      ap (λ (y : Symbol). is_same y (symbol line (100 * s.number + i))) (shows i less) ∙ ap (is_same (true_in s line i)) (of.has line i less) ∙ same_symbol (true_in s line i) in
      ap (λ (w : ℕ). is_pulse_of w (symbol line) (edges_of d.device) (100 * s.number + i) (pulse_at (rises i) (wide i))) within
      ∙ ap (λ (o : Oscillator). is_pulse_of 450 (symbol line) (edges_by o.first (rate_of o.gain_us)) (100 * s.number + i) (pulse_at (rises i) (wide i))) d.own
      ∙ (let e : is_pulse_of 450 (symbol line) (edges_by d.oscillator.first (rate_of d.oscillator.gain_us)) (100 * s.number + i) (pulse_at (rises i) (wide i)) ≡ is_pulse_of 450 (symbol line) (edges_by k.first k.rate) (100 * s.number + i) (pulse_at (rises i) (wide i)) = rw (k_first, k_rate) refl in e)
      ∙ true_pulse k right s.number late brings.late (symbol line) i (wide i) less same

  symbols_are : symbols_of widths ≡ symbols_by wide most
  symbols_are =
      ap symbols_of widths_are
      ∙ widths_show k s.number late frame (true_in s line) long (λ j less. ap (symbol_in j) is_frame) shows

  pub told_frame : IsDeviceOf device k.made symbol start (calls_on k s.number line (is_on d.wires line) late (true_in s line) ++ calls)
  told_frame =
      let told : IsDeviceOf device k.made symbol start (hears line (pulses_by rises wide most) ++ calls) =
      on k.made symbol start calls rises wide is
      (are_of_a_frame k s.number late (true_in s line) right brings.late (good s line signal symbol of) brings.frame.first brings.frame.apart brings.frame.last)
      symbols_are first_rises last_rises
      (λ i less. (near i (omega (arith, less)), true_on i (omega (arith, less)))) in
      let is_there : is_on d.wires line ≡ true = ap is_some brings.flight in
      rw is_there told
