-- One more second begins: what generators send in it, and what stays of those before.
use Rattle.std.proofs.Common.{◌≡◌, ◌∙◌, ℕ, ◌+◌, ◌-◌, ◌*◌, ◌/◌, ◌%◌, ◌<◌, false, List, ◌∷◌, length, get_or, map, Option, Some, None, refl, sym, ap, arith, inl, inr, subst}
use Rattle.std.specs.Prelude.{◌==◌, All, option_and_then, slice_get}
use Rattle.std.specs.Option.{option_map}
use Rattle.std.proofs.Math.Nat.{mul-le-mul_right}
use Rattle.std.proofs.lemmas.Bool.{cases_lt, eq-eqb}
use Rattle.std.proofs.lemmas.List.FromFn.{get_or-map-range_with_len}
use Rattle.std.proofs.lemmas.Option.{get_or_from_slice_get, slice_get-map, slice_get_within}
use Rattle.irig_frame.specs.declared.symbol.Symbol.{Symbol}
use Rattle.irig_frame.specs.declared.symbol.Symbol.TheVariants.{Zero, Bad}
use Rattle.irig_frame.specs.Decoder.{IsRight}
use Rattle.irig_time.specs.declared.rules.Rules.{Rules}
use Rattle.irig_time.specs.Timelines.{TimelineValue}
use Rattle.irig_gen.specs.Frames.{GeneratorValue}
use Rattle.irig_port.specs.declared.port.Port.{Ghosts}
use Rattle.irig_wires.specs.declared.oscillator.Oscillator.{Oscillator}
use Rattle.irig_wires.specs.Oscillator.{counter_at, edges_by, rate_of}
use Rattle.irig_wires.proofs.OscillatorLaws.{at_edges}
use Rattle.irig_witness.specs.Devices.{edges_of}
use Rattle.irig_witness.specs.TrueFrames.{blank, blank_at, first_harmless}
use Rattle.irig_witness.specs.Witness.{AreSameBefore}
use Rattle.irig_witness.proofs.BegunLaws.{device_same}
use Rattle.irig_witness.proofs.FrameLaws.{true_line_is}
use Rattle.irig_plant.proofs.ListLaws.{apart}
use Rattle.irig_simulated.specs.declared.second.LineSecond.{LineSecond}
use Rattle.irig_simulated.specs.declared.second.Second.{Second}
use Rattle.irig_simulated.specs.declared.simulated.Simulated.{Simulated}
use Rattle.irig_simulated.specs.Kinds.{Kind, count}
use Rattle.irig_simulated.specs.Courses.{Course}
use Rattle.irig_simulated.specs.Seconds.{IsSecondOf, sent_in, symbol_in, symbol_sent, true_in}
use Rattle.irig_simulated.specs.Simulations.{IsSimulationOf}
use Rattle.irig_station.specs.SentSeconds.{SentSecond, frames_by, frames_of_sent, line_of_generator, second_sent, sent_second, signal_by, symbol_by, symbol_of_sent}

-- ---- no true line has a bad symbol

never_right : (place : ℕ) (s : Symbol) → s ≡ Bad → ¬ IsRight place (Some s)
never_right place s bad right = subst (λ (x : Symbol). IsRight place (Some x)) bad right

pub never_bad : (rules : Rules) (t : TimelineValue) (seconds : List (List SentSecond)) (line element : ℕ) → ¬ (symbol_by rules t seconds line element ≡ Bad)
never_bad rules t seconds line element bad = never_right (element % 100) (symbol_by rules t seconds line element) bad ((true_line_is rules t (frames_by seconds line)).right element)

blank_is : (place : ℕ) → place < 100 → get_or blank place Zero ≡ blank_at place
unfolding blank
blank_is place less = get_or-map-range_with_len blank_at 0 100 place place Zero less (omega arith)

-- ---- one second more

module _ (rules : Rules) (t : TimelineValue) (generators : List GeneratorValue) (seconds : List (List SentSecond)) where
  abbrev all : List (List SentSecond)
  all = map (sent_second t) generators ∷ seconds

  newest : second_sent all (length seconds) ≡ map (sent_second t) generators
  newest = rw (eq-eqb (length seconds) (length seconds) refl) refl

  earlier : (n : ℕ) → n < length seconds → second_sent all n ≡ second_sent seconds n
  earlier n less = (let other : (n == length seconds) ≡ false = apart n (length seconds) (λ e. omega (arith, e, less)) in rw other refl)

  second_is : (n place : ℕ) → place < 100 → (100 * n + place) / 100 ≡ n
  second_is n place less = omega (arith, less)

  place_is : (n place : ℕ) → place < 100 → (100 * n + place) % 100 ≡ place
  place_is n place less = omega (arith, less)

  -- what is sent in it
  signal_now : (line place : ℕ) → place < 100 → signal_by all line (100 * length seconds + place) ≡ option_and_then (symbol_of_sent place) (option_map (sent_second t) (slice_get generators line))
  signal_now line place less =
      rw (second_is (length seconds) place less, place_is (length seconds) place less, newest, slice_get-map (sent_second t) generators line) refl

  as_told : (place : ℕ) (o : Option GeneratorValue) → option_and_then (symbol_of_sent place) (option_map (sent_second t) o) ≡ option_and_then (symbol_sent place) (option_map (line_of_generator rules t) o)
  as_told place None = refl
  as_told place (Some x) = refl

  -- what true lines have in it
  symbol_now : (line place : ℕ) → place < 100 → symbol_by rules t all line (100 * length seconds + place) ≡ get_or (first_harmless rules t (length seconds) (frames_of_sent (option_map (sent_second t) (slice_get generators line)))) place Zero
  symbol_now line place less =
      rw (second_is (length seconds) place less, place_is (length seconds) place less, newest, slice_get-map (sent_second t) generators line) refl

  as_true : (edges : All (λ x. x.edge ≡ length seconds) generators) (line place : ℕ) → place < 100 → (o : Option GeneratorValue) → slice_get generators line ≡ o
      → get_or (first_harmless rules t (length seconds) (frames_of_sent (option_map (sent_second t) o))) place Zero ≡ symbol_in place (option_map (λ l. l.truth) (option_map (line_of_generator rules t) o))
  as_true edges line place less None at = blank_is place less
  as_true edges line place less (Some x) at =
      let there : line < length generators = slice_get_within generators line x at in
      let edge : x.edge ≡ length seconds = subst (λ (y : GeneratorValue). y.edge ≡ length seconds) (get_or_from_slice_get generators line x x at) (edges line x there) in
      ap (λ (n : ℕ). get_or (first_harmless rules t n (frames_of_sent (Some (sent_second t x)))) place Zero) (sym edge)

  -- nothing changes of those before
  pub symbol_before : (line element : ℕ) → element / 100 < length seconds → symbol_by rules t seconds line element ≡ symbol_by rules t all line element
  symbol_before line element less = rw (earlier (element / 100) less) refl

  -- ---- as devices are told it

  pub second_of : (old new : Second) → new.number ≡ length seconds → new.lines.items ≡ map (line_of_generator rules t) generators → All (λ x. x.edge ≡ length seconds) generators
      → new.before.items ≡ map (λ l. l.truth) old.lines.items → (0 < length seconds → IsSecondOf old (signal_by seconds) (symbol_by rules t seconds)) → old.number ≡ length seconds - 1
      → IsSecondOf new (signal_by all) (symbol_by rules t all)
  second_of old new number lines edges before was count = record {
    sends = λ line place less.
        subst (λ (n : ℕ). signal_by all line (100 * n + place) ≡ sent_in new line place) (sym number)
        (signal_now line place less ∙ as_told place (slice_get generators line) ∙ ap (option_and_then (symbol_sent place)) (sym (of_lines line)));
    has = λ line place less.
        subst (λ (n : ℕ). symbol_by rules t all line (100 * n + place) ≡ true_in new line place) (sym number)
        (symbol_now line place less ∙ as_true edges line place less (slice_get generators line) refl ∙ ap (λ (o : Option LineSecond). symbol_in place (option_map (λ l. l.truth) o)) (sym (of_lines line)));
    had = λ line place last less next.
        let low : last < length seconds = omega (arith, number, next) in
        let one : old.number ≡ last = omega (arith, number, next, count) in
        sym (symbol_before line (100 * last + place) (omega (arith, low, less)))
        ∙ subst (λ (n : ℕ). symbol_by rules t seconds line (100 * n + place) ≡ true_in old line place) one ((was (omega (arith, low))).has line place less)
        ∙ ap (symbol_in place) (sym (slice_get-map (λ l. l.truth) old.lines.items line) ∙ ap (λ (f : List (List Symbol)). slice_get f line) (sym before));
    proper = never_bad rules t all;
  }
    where
      of_lines : (line : ℕ) → slice_get new.lines.items line ≡ option_map (line_of_generator rules t) (slice_get generators line)
      of_lines line = ap (λ (l : List LineSecond). slice_get l line) lines ∙ slice_get-map (line_of_generator rules t) generators line

  -- ---- devices go on as they are

  begun_before : (first rate m : ℕ) → edges_by first rate m < counter_at first rate (length seconds * 1000000) → m < length seconds
  begun_before first rate m less = elim (cases_lt m (length seconds)) [
    | inl low ↦ low
    | inr high ↦ absurd (omega (arith, less, at_edges first rate (length seconds), mul-le-mul_right rate high))
  ]

  pub same_before : (first rate : ℕ) → AreSameBefore (edges_by first rate) (counter_at first rate (length seconds * 1000000)) (symbol_by rules t seconds) (symbol_by rules t all)
  same_before first rate = record {
    same = λ line k less. symbol_before line k (begun_before first rate (k / 100) less);
    good = never_bad rules t seconds;
    other_good = never_bad rules t all;
  }

  pub goes_on : {P : Type 0} {g : Ghosts P} (d : Simulated P g) (k : Kind) (x : Course) → d.now_us ≡ length seconds * 1000000 → IsSimulationOf d k (symbol_by rules t seconds) x → IsSimulationOf d k (symbol_by rules t all) x
  goes_on {P} {g} d k x now is =
      let time : count k x.now ≡ counter_at k.first k.rate (length seconds * 1000000) = ap (counter_at k.first k.rate) (sym is.now ∙ now) in
      let first : d.device.oscillator.first ≡ k.first = ap (λ (o : Oscillator). o.first) d.own ∙ is.first in
      let rate : rate_of d.device.oscillator.gain_us ≡ k.rate = ap (λ (o : Oscillator). rate_of o.gain_us) d.own ∙ is.rate in
      let are : AreSameBefore (edges_of d.device) (count k x.now) (symbol_by rules t seconds) (symbol_by rules t all) = rw (first, rate, time) (same_before k.first k.rate) in
      record {
        device = device_same d.device k.made (symbol_by rules t seconds) (symbol_by rules t all) x.start (count k x.now) x.calls are is.ended is.device;
        ended = is.ended;
        first = is.first;
        rate = is.rate;
        ticking = is.ticking;
        now = is.now;
        wires = is.wires;
        tick = is.tick;
        send = is.send;
        told = is.told;
      }
