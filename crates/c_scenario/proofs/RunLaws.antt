-- A run is one of what its plant has. What it leaves in memory is a prefix of the log, so what is proved
-- of prefixes holds of it.
use Rattle.std.proofs.Common.{◌≡◌, ℕ, ◌≤◌, inl, inr, Bool, true, false, cond, List, [], ◌++◌, length, take, drop, length-append, ◌+◌, Option, Some, None, Result, Ok, Err, refl, sym, ap, ◌∙◌, append-nil, append_assoc, subst, arith}
use Rattle.std.specs.Prelude.{IsSome}
use Rattle.std.proofs.lemmas.Bool.{cases_lt}
use Rattle.std.proofs.lemmas.List.{take_all, take-append-drop, length-take}
use Rattle.std.proofs.Math.Seq.{take-append_seam}
use Rattle.std.proofs.Math.ListN.{drop_of_length-le}
use Rattle.irig_device.specs.Watched.{AppendsPart}
use Rattle.text_faults.specs.Refusals as numbers
use Rattle.irig_scene.specs.declared.outcome.Outcome.{Outcome}
use Rattle.report_run.specs.declared.fault.SceneFault.{SceneFault}
use Rattle.report_run.specs.declared.fault.SceneFault.TheVariants.{Refused, Read, Write, Memory}
use Rattle.report_run.specs.Meanings.{Refused as RefusedLine, meaning_of, refusal_at}
use Rattle.report_run.specs.Runs.{RunFor}
use Rattle.report_run.specs.Texts.{whole_text}
use Rattle.report_run.specs.Alone.{AnswersAs}
use Rattle.report_run.specs.Sides.{given_as}
use Rattle.report_run.specs.declared.either.EitherOutcome.TheVariants.{First, Second}
use Rattle.report_log.specs.declared.shown.Shown.{Shown}
use Rattle.irig_scene.specs.BrokenLogs.{VouchesUntilBroken}
use Rattle.irig_scene.specs.LogLines.{TellsTruth, VouchesForItself}
use Rattle.irig_scene.specs.Run.{RanOn}
use Rattle.irig_scene.specs.Scene.{output_shown, scenario}
use Rattle.irig_scene.specs.VouchedByPorts.{VouchesByPorts}
use Rattle.irig_scene.specs.VouchedLines.{VouchesByPlantLine}
use Rattle.irig_scene.proofs.BrokenLogs.{vouches_until_broken}
use Rattle.irig_scene.proofs.PlantLines.{vouches_by_plant_line}
use Rattle.irig_scene.proofs.TrueLines.{tells_truth, vouches_for_itself}
use Rattle.irig_scene.proofs.VouchedByPorts.{vouches_by_ports}
use Rattle.irig_station_scene.specs.declared.outcome.StationOutcome.{StationOutcome}
use Rattle.irig_station_scene.specs.StationRuns.{StationEnds}
use Rattle.irig_station_scene.specs.StationScenes.{station_scenario}
use Rattle.irig_station_scene.specs.StationTexts.{station_texts}
use Rattle.irig_scenario.specs.DeviceLogs.{VouchesForDevices}
use Rattle.irig_scenario.specs.Scenarios.{ScenarioEnd, has_devices}
use Rattle.irig_scenario.proofs.DeviceLogLaws.{vouches_for_devices}
use Rattle.c_scenario.specs.Runs.{HasWholeLog, IsRefusalOf, IsRun, IsStatus, line_of, number_of, scenario_log, scenario_refusal, status_of, written_over}
use Rattle.c_scenario.specs.Vouched.{VouchesForReaders}

-- a text begins with another
pub record IsFront (front whole : List ℕ) : Type 0 where
  pub rest : List ℕ
  pub is : whole ≡ front ++ rest

all_of : (front whole : List ℕ) → front ≡ whole → IsFront front whole
all_of front whole e = record { rest = []; is = sym e ∙ sym (append-nil front) }

part_of : (front whole : List ℕ) → AppendsPart (Some []) (Some front) whole → IsFront front whole
part_of front whole part = record { rest = part.rest; is = part.whole ∙ ap (λ f. f ++ part.rest) (sym part.wrote) }

-- ---- what an answer says

-- the log is whole and a line is refused or none, or a failure left a front of it
abbrev pub EndsAs : {O : Type 0} → Result O SceneFault → (log whole : List ℕ) → Option RefusedLine → Type 0
EndsAs (Ok o) log whole refused = (log ≡ whole) × (refused ≡ None)
EndsAs (Err (Refused line refusal)) log whole refused = (log ≡ whole) × (refused ≡ Some (refusal_at line refusal))
EndsAs (Err Read) log whole refused = IsFront log whole
EndsAs (Err Write) log whole refused = IsFront log whole
EndsAs (Err Memory) log whole refused = IsFront log whole

of_readers : (r : Result Outcome SceneFault) (x : List ℕ) (shown : Shown) (left : Option (List ℕ)) (log : List ℕ) → RanOn r x shown (Some x) left (Some []) (Some log) → EndsAs r log (output_shown x shown) (meaning_of scenario x).refused
of_readers (Ok o) x shown left log ran = (ran.0, ran.1.accepted)
of_readers (Err (Refused line refusal)) x shown left log ran = (ran.0, ran.1)
of_readers (Err Read) x shown left log ran = part_of log (output_shown x shown) ran.0
of_readers (Err Write) x shown left log ran = part_of log (output_shown x shown) ran.0
of_readers (Err Memory) x shown left log ran = part_of log (output_shown x shown) ran.0

-- the whole text of devices
abbrev device_log : List ℕ → Shown → List ℕ
device_log x shown = whole_text station_scenario (station_texts shown.all) x

of_devices : (r : Result StationOutcome SceneFault) (x : List ℕ) (shown : Shown) (left : Option (List ℕ)) (log : List ℕ) → RunFor station_scenario StationEnds (station_texts shown.all) r x (Some x) left (Some []) (Some log) → EndsAs r log (device_log x shown) (meaning_of station_scenario x).refused
of_devices (Ok o) x shown left log ran = (ran.0, ran.1.accepted)
of_devices (Err (Refused line refusal)) x shown left log ran = (ran.0, ran.1)
of_devices (Err Read) x shown left log ran = part_of log (device_log x shown) ran.0
of_devices (Err Write) x shown left log ran = part_of log (device_log x shown) ran.0
of_devices (Err Memory) x shown left log ran = part_of log (device_log x shown) ran.0

given : {O P : Type 0} (f : O → P) (a : Result O SceneFault) (log whole : List ℕ) (refused : Option RefusedLine) → EndsAs a log whole refused → EndsAs (given_as f a) log whole refused
given f (Ok o) log whole refused ends = ends
given f (Err (Refused line refusal)) log whole refused ends = ends
given f (Err Read) log whole refused ends = ends
given f (Err Write) log whole refused ends = ends
given f (Err Memory) log whole refused ends = ends

answered : {O P : Type 0} (f : O → P) (r : Result P SceneFault) (a : Result O SceneFault) (log whole : List ℕ) (refused : Option RefusedLine) → r ≡ given_as f a → EndsAs a log whole refused → EndsAs r log whole refused
answered f r a log whole refused is ends = subst (λ r. EndsAs r log whole refused) (sym is) (given f a log whole refused ends)

module _ (x : List ℕ) (shown : Shown) (r : Result ScenarioEnd SceneFault) (log : List ℕ) (run : IsRun x shown r log) where
  readers_end : has_devices x ≡ false → EndsAs r log (output_shown x shown) (meaning_of scenario x).refused
  readers_end none =
      let same = run.ran.of_input in
      let h = run.ran.readers (ap has_devices same ∙ none) in
      let ran = subst (λ b. RanOn h.answer b shown (Some x) run.left (Some []) (Some log)) same h.holds in
      answered First r h.answer log (output_shown x shown) (meaning_of scenario x).refused h.is (of_readers h.answer x shown run.left log ran)

  devices_end : has_devices x ≡ true → EndsAs r log (device_log x shown) (meaning_of station_scenario x).refused
  devices_end has =
      let same = run.ran.of_input in
      let h = run.ran.devices (ap has_devices same ∙ has) in
      let ran = subst (λ b. RunFor station_scenario StationEnds (station_texts shown.all) h.answer b (Some x) run.left (Some []) (Some log)) same h.holds in
      answered Second r h.answer log (device_log x shown) (meaning_of station_scenario x).refused h.is (of_devices h.answer x shown run.left log ran)

  by_plant : (b : Bool) → has_devices x ≡ b → EndsAs r log (cond b (device_log x shown) (output_shown x shown)) (cond b (meaning_of station_scenario x).refused (meaning_of scenario x).refused)
  by_plant false is = readers_end is
  by_plant true is = devices_end is

  pub ends_as : EndsAs r log (scenario_log x shown) (scenario_refusal x)
  unfolding scenario_log scenario_refusal
  ends_as = by_plant (has_devices x) refl

-- ---- what follows of an answer

pub is_status : {O : Type 0} (r : Result O SceneFault) → IsStatus (status_of r)
is_status (Ok o) = inl (inl refl)
is_status (Err (Refused line refusal)) = inl (inr refl)
is_status (Err Read) = inr (omega arith, omega arith)
is_status (Err Write) = inr (omega arith, omega arith)
is_status (Err Memory) = inr (omega arith, omega arith)

some_refused : (refused : Option RefusedLine) (k : RefusedLine) → refused ≡ Some k → IsSome refused
some_refused refused k is = subst IsSome (sym is) refl

module _ {O : Type 0} (log whole : List ℕ) (refused : Option RefusedLine) where
  pub front_of : (r : Result O SceneFault) → EndsAs r log whole refused → IsFront log whole
  front_of (Ok o) ends = all_of log whole ends.0
  front_of (Err (Refused line refusal)) ends = all_of log whole ends.0
  front_of (Err Read) ends = ends
  front_of (Err Write) ends = ends
  front_of (Err Memory) ends = ends

  pub whole_of : (r : Result O SceneFault) → EndsAs r log whole refused → HasWholeLog (status_of r) → log ≡ whole
  whole_of (Ok o) ends w = ends.0
  whole_of (Err (Refused line refusal)) ends w = ends.0
  whole_of (Err Read) ends (inl none) = absurd (omega (arith, none))
  whole_of (Err Read) ends (inr none) = absurd (omega (arith, none))
  whole_of (Err Write) ends (inl none) = absurd (omega (arith, none))
  whole_of (Err Write) ends (inr none) = absurd (omega (arith, none))
  whole_of (Err Memory) ends (inl none) = absurd (omega (arith, none))
  whole_of (Err Memory) ends (inr none) = absurd (omega (arith, none))

  pub done_of : (r : Result O SceneFault) → EndsAs r log whole refused → status_of r ≡ 0 → refused ≡ None
  done_of (Ok o) ends done = ends.1
  done_of (Err (Refused line refusal)) ends done = absurd (omega (arith, done))
  done_of (Err Read) ends done = absurd (omega (arith, done))
  done_of (Err Write) ends done = absurd (omega (arith, done))
  done_of (Err Memory) ends done = absurd (omega (arith, done))

  pub refused_of : (r : Result O SceneFault) → EndsAs r log whole refused → status_of r ≡ 3 → IsSome refused
  refused_of (Ok o) ends three = absurd (omega (arith, three))
  refused_of (Err (Refused line refusal)) ends three = some_refused refused (refusal_at line refusal) ends.1
  refused_of (Err Read) ends three = absurd (omega (arith, three))
  refused_of (Err Write) ends three = absurd (omega (arith, three))
  refused_of (Err Memory) ends three = absurd (omega (arith, three))

  pub explained_of : (r : Result O SceneFault) → EndsAs r log whole refused → HasWholeLog (status_of r) → IsRefusalOf refused (line_of r) (number_of r)
  explained_of (Ok o) ends w = subst (λ k. IsRefusalOf k 0 0) (sym ends.1) (refl, refl)
  explained_of (Err (Refused line refusal)) ends w = subst (λ k. IsRefusalOf k line (numbers.number_of refusal)) (sym ends.1) (refl, refl)
  explained_of (Err Read) ends (inl none) = absurd (omega (arith, none))
  explained_of (Err Read) ends (inr none) = absurd (omega (arith, none))
  explained_of (Err Write) ends (inl none) = absurd (omega (arith, none))
  explained_of (Err Write) ends (inr none) = absurd (omega (arith, none))
  explained_of (Err Memory) ends (inl none) = absurd (omega (arith, none))
  explained_of (Err Memory) ends (inr none) = absurd (omega (arith, none))

-- ---- what is left in memory

-- what memory has of some items is a front of them, with room for all or not
pub left_of : {A : Type 0} (old items : List A) → (rest : List A) × (items ≡ take (length items) (written_over old items) ++ rest)
left_of old items = elim (cases_lt (length old) (length items)) [
  | inl less ↦
      let part = take (length old) items in
      let none : drop (length items) old ≡ [] = drop_of_length-le old (omega (arith, less)) in
      let short : length part ≤ length items = omega (arith, length-take (length old) items) in
      let over : written_over old items ≡ part = ap (λ rest. part ++ rest) none ∙ append-nil part in
      let seen : take (length items) (written_over old items) ≡ part = ap (λ m. take (length items) m) over ∙ take_all (length items) part short in
      (drop (length old) items, sym (take-append-drop (length old) items) ∙ ap (λ f. f ++ drop (length old) items) (sym seen))
  | inr fits ↦
      let over : written_over old items ≡ items ++ drop (length items) old = ap (λ b. b ++ drop (length items) old) (take_all (length old) items fits) in
      let seen : take (length items) (written_over old items) ≡ items = ap (λ m. take (length items) m) over ∙ take-append_seam items (drop (length items) old) in
      ([], sym seen ∙ sym (append-nil (take (length items) (written_over old items))))
]

front_over : (old bytes : List ℕ) → IsFront (take (length bytes) (written_over old bytes)) bytes
front_over old bytes = let left = left_of old bytes in record { rest = left.0; is = left.1 }

-- a fact of each prefix of a log is one of what was left of it
left_is : (fact : List ℕ → Type 0) (log whole old left : List ℕ) (count : ℕ) → ((written rest : List ℕ) → whole ≡ written ++ rest → fact written) → IsFront log whole → count ≡ length log → left ≡ written_over old log → fact (take count left)
left_is fact log whole old left count each front size stands =
    let over = front_over old log in
    rw (size, stands)
    (each (take (length log) (written_over old log)) (over.rest ++ front.rest) (front.is ∙ ap (λ t. t ++ front.rest) over.is ∙ append_assoc (take (length log) (written_over old log)) over.rest front.rest))

-- so a fact of each prefix of the log is one of what was left
abbrev pub FactOfPrefixes : Shown → List ℕ → (List ℕ → Type 0) → Type 0
FactOfPrefixes shown x fact = (written rest : List ℕ) → output_shown x shown ≡ written ++ rest → fact written

module _ (x : List ℕ) (shown : Shown) (r : Result ScenarioEnd SceneFault) (log : List ℕ) (run : IsRun x shown r log) (old : List ℕ) (count : ℕ) (left : List ℕ) (size : count ≡ length log) (stands : left ≡ written_over old log) where
  fact_left : (fact : List ℕ → Type 0) → FactOfPrefixes shown x fact → has_devices x ≡ false → fact (take count left)
  fact_left fact each none = left_is fact log (output_shown x shown) old left count each (front_of log (output_shown x shown) (meaning_of scenario x).refused r (readers_end x shown r log run none)) size stands

  pub readers_left : has_devices x ≡ false → VouchesForReaders x (take count left)
  readers_left none = record {
    itself = fact_left (VouchesForItself x) (vouches_for_itself shown x) none;
    by_plant_line = fact_left (VouchesByPlantLine x) (vouches_by_plant_line shown x) none;
    until_broken = fact_left (VouchesUntilBroken x) (vouches_until_broken shown x) none;
    by_ports = fact_left (VouchesByPorts x) (vouches_by_ports shown x) none;
    truth = fact_left (TellsTruth x) (tells_truth shown x) none;
  }

  pub devices_left : has_devices x ≡ true → VouchesForDevices x (take count left)
  devices_left has = left_is (VouchesForDevices x) log (device_log x shown) old left count (vouches_for_devices shown.all x) (front_of log (device_log x shown) (meaning_of station_scenario x).refused r (devices_end x shown r log run has)) size stands

  -- ---- it is known by its length

  pub front_counts : count ≤ length (scenario_log x shown)
  front_counts =
      let front = front_of log (scenario_log x shown) (scenario_refusal x) r (ends_as x shown r log run) in
      let longer : length (scenario_log x shown) ≡ length log + length front.rest = ap length front.is ∙ length-append log front.rest in
      omega (arith, size, longer)

  pub log_left : left ≡ written_over old (take count (scenario_log x shown))
  log_left =
      let front = front_of log (scenario_log x shown) (scenario_refusal x) r (ends_as x shown r log run) in
      let taken : take count (scenario_log x shown) ≡ log = ap (λ n. take n (scenario_log x shown)) size ∙ ap (λ t. take (length log) t) front.is ∙ take-append_seam log front.rest in
      stands ∙ ap (written_over old) (sym taken)

  pub whole_left : HasWholeLog (status_of r) → count ≡ length (scenario_log x shown)
  whole_left w = size ∙ ap length (whole_of log (scenario_log x shown) (scenario_refusal x) r (ends_as x shown r log run) w)
