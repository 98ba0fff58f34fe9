-- What one event does to what each part of a station stands for.
use Rattle.std.proofs.Common.{◌≡◌, ◌≢◌, ◌∙◌, ℕ, zero, suc, ◌<◌, ◌≤◌, List, [], ◌∷◌, ◌++◌, length, drop, set, refl, sym, ap, arith, subst}
use Rattle.std.proofs.lemmas.List.{length-append, length-set}
use Rattle.std.proofs.lemmas.List.Elements.{All-set}
use Rattle.std.proofs.lemmas.Bool.{eq-eqb, le-ltb, lt-ltb}
use Rattle.irig_frame.specs.declared.symbol.Symbol.{Symbol}
use Rattle.irig_gen.specs.Frames.{GeneratorValue}
use Rattle.irig_port.specs.declared.port.Port.{Ghosts}
use Rattle.irig_wires.specs.declared.wire.Wire.{Wire}
use Rattle.irig_plant.proofs.ListLaws.{apart, each_set}
use Rattle.irig_simulated.specs.declared.second.Second.{Second}
use Rattle.irig_simulated.specs.declared.simulated.Simulated.{Simulated}
use Rattle.irig_simulated.specs.declared.heard.HeardPulse.{HeardPulse}
use Rattle.irig_simulated.specs.declared.heard.HeardPulses.{HeardPulses}
use Rattle.irig_simulated.specs.Courses.{Course}
use Rattle.irig_simulated.specs.Heard.{HaveMore}
use Rattle.irig_simulated.specs.Simulations.{IsSimulationOf}
use Rattle.irig_station.specs.declared.fault.StationFault.TheVariants.{NoSuchDevice, NoSuchGenerator}
use Rattle.irig_station.specs.StationSetups.{StationSetup, kind_of_device}
use Rattle.irig_station.specs.StationStandings.{StationStanding, StationStep, goes_to, refused_at, with_course}
use Rattle.irig_station.specs.StationPlay.{unless_device, unless_source, with_cable, with_cable_if}
use Rattle.irig_station.specs.Stations.{AreKeptSince, AreOnCourse, LetGo}
use Rattle.irig_station.specs.Together.{IsDeviceAt, StandTogether}

-- ---- refusals

pub a_device : (s : StationSetup) (r : ℕ) (x : StationStanding) (rest : StationStep) → r < length s.devices → unless_device s r x rest ≡ rest
a_device s r x rest h = rw (lt-ltb r (length s.devices) h) refl

pub no_device : (s : StationSetup) (r : ℕ) (x : StationStanding) (rest : StationStep) → length s.devices ≤ r → unless_device s r x rest ≡ refused_at x NoSuchDevice
no_device s r x rest h = rw (le-ltb r (length s.devices) h) refl

pub a_source : (s : StationSetup) (g : ℕ) (x : StationStanding) (rest : StationStep) → g < length s.generators → unless_source s g x rest ≡ rest
a_source s g x rest h = rw (lt-ltb g (length s.generators) h) refl

pub no_source : (s : StationSetup) (g : ℕ) (x : StationStanding) (rest : StationStep) → length s.generators ≤ g → unless_source s g x rest ≡ refused_at x NoSuchGenerator
no_source s g x rest h = rw (le-ltb g (length s.generators) h) refl

-- ---- courses

pub course_here : (r : ℕ) (course : Course) (courses : ℕ → Course) → with_course r course courses r ≡ course
course_here r course courses = rw (eq-eqb r r refl) refl

pub course_elsewhere : (r q : ℕ) (course : Course) (courses : ℕ → Course) → q ≢ r → with_course r course courses q ≡ courses q
course_elsewhere r q course courses other = rw (apart q r other) refl

-- one device goes on, the others stay
pub course_set : {P : Type 0} {g : Ghosts P} (s : StationSetup) (symbol : ℕ → ℕ → Symbol) (courses : ℕ → Course) (xs : List (Simulated P g)) (i : ℕ) (y : Simulated P g) (course : Course) → i < length xs
    → AreOnCourse s symbol courses xs → IsSimulationOf y (kind_of_device s i) symbol course → AreOnCourse s symbol (with_course i course courses) (set xs i y)
course_set {P} {g} s symbol courses xs i y course less h here =
    each_set (λ r (z : Simulated P g). IsSimulationOf z (kind_of_device s r) symbol (courses r)) (λ r (z : Simulated P g). IsSimulationOf z (kind_of_device s r) symbol (with_course i course courses r)) (length s.devices) xs i y less h
    (λ r z other is. subst (λ (c : Course). IsSimulationOf z (kind_of_device s r) symbol c) (sym (course_elsewhere i r course courses other)) is)
    (subst (λ (c : Course). IsSimulationOf y (kind_of_device s i) symbol c) (sym (course_here i course courses)) here)

-- ---- the log

pub drop_more : {X : Type 0} (k : ℕ) (xs ys : List X) → k ≤ length xs → drop k (xs ++ ys) ≡ drop k xs ++ ys
drop_more zero xs ys h = refl
drop_more (suc k) [] ys h = absurd (omega arith)
drop_more (suc k) (x ∷ xs) ys h = drop_more k xs ys (omega arith)

-- ---- pulses that are kept

pub kept_more : (gone : LetGo) (old new : HeardPulses) (pulses more : List HeardPulse) → AreKeptSince gone old pulses → HaveMore old new more → AreKeptSince gone new (pulses ++ more)
kept_more gone old new pulses more are have = record {
  keeps = have.keeps ∙ are.keeps;
  few = (let upto = are.few in omega (arith, upto, length-append pulses more));
  are = λ keeps. have.pulses (are.keeps ∙ keeps) ∙ ap (λ (l : List HeardPulse). l ++ more) (are.are keeps) ∙ sym (drop_more gone.pulses pulses more are.few);
}

-- ---- a line is another

pub line_step : (s : StationSetup) (g r : ℕ) (change : Wire → Wire) (x : StationStanding) → r < length s.devices → g < length s.generators → with_cable_if s g r change x ≡ goes_to (with_cable g r change x)
line_step s g r change x there source = a_device s r x (unless_source s g x (goes_to (with_cable g r change x))) there ∙ a_source s g x (goes_to (with_cable g r change x)) source

-- ---- devices at one time

-- so are they if one of them is another at that time
pub together_set : {P : Type 0} {g : Ghosts P} (generators : List GeneratorValue) (second : Second) (begun now : ℕ) (xs : List (Simulated P g)) (i : ℕ) (y : Simulated P g) → i < length xs
    → StandTogether generators second begun now xs → IsDeviceAt (length generators) now y → StandTogether generators second begun now (set xs i y)
together_set {P} {g} generators second begun now xs i y less t here = record {
  lines = t.lines;
  number = t.number;
  edges = t.edges;
  least = t.least;
  most = t.most;
  early = t.early;
  few = (let same = length-set xs i y in let f = t.few in omega (arith, same, f));
  each = All-set (IsDeviceAt (length generators) now) xs i y here t.each;
}
