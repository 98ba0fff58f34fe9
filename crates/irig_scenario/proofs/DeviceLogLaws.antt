-- A log of devices vouches for itself: all of it if it is kept, and if it broke what was logged before.
use Rattle.std.proofs.Common.{◌≡◌, ◌≢◌, ℕ, ◌^◌, ◌<◌, ◌≤◌, Bool, cond, List, [], ◌∷◌, ◌++◌, length, take, drop, All, Option, Some, None, Result, Ok, Err, refl, ap, sym, subst, ◌∙◌, append_assoc, arith, codes, inl, inr, take-append-drop}
use Rattle.std.specs.List.{AllByRecursion, Contains}
use Rattle.std.specs.Fmt.{decimal}
use Rattle.std.proofs.lemmas.Grind.{flat_map-append}
use Rattle.std.proofs.lemmas.List.Elements.{All-cons, All-from_recursion, All-head, All-nil, All-tail, All-contains_itself, recursion_from_All}
use Rattle.text_faults.specs.declared.refusal.Refusal.{Refusal}
use Rattle.irig_station.specs.declared.audit.Audit.{Audit}
use Rattle.irig_station.specs.declared.audit.Audit.TheVariants.{Kept, FalseTable, Drift, Broken}
use Rattle.irig_station.specs.declared.entry.Entry.{Entry}
use Rattle.irig_station.specs.declared.event.Event.{Event}
use Rattle.irig_station.specs.StationPromise.{IsAskedWithin, IsLoggedFrom, IsTrueEntry}
use Rattle.irig_station.proofs.BreakLaws.{logged_late}
use Rattle.irig_station.proofs.PromiseLaws.{kept_true, vouched_true}
use Rattle.scenario_devices.specs.StationLine.{StationPlan, station_in_line}
use Rattle.scenario_devices.specs.StationEvents.{event_in_station_line}
use Rattle.scenario_devices.proofs.AskedLaws.{asked_in_line}
use Rattle.scenario_devices.proofs.SoundStations.{IsSoundStation, station_is_sound}
use Rattle.report_log.specs.Text.{refusal_text}
use Rattle.report_log.specs.LogLines.{whole_lines}
use Rattle.report_log.proofs.WordLaws.{AreNames}
use Rattle.report_log.proofs.LogLaws.{all_at, all_left, whole_front}
use Rattle.report_log.proofs.LastLines.{refusal_line, refusal_lines}
use Rattle.report_run.specs.Lines.{lines}
use Rattle.report_run.specs.Meanings.{Refused, meaning_of}
use Rattle.report_run.specs.Texts.{ending_of, first_of, text_of, whole_text}
use Rattle.irig_station_scene.specs.StationLines.{ShowsNeither}
use Rattle.irig_station_scene.proofs.StationLineLaws.{is_shown, line_is, lines_of_station, shown_lines, station_line}
use Rattle.irig_station_scene.proofs.StationReadLaws.{letter_shows_neither}
use Rattle.irig_scene.proofs.NameLaws.{are_names_named}
use Rattle.irig_station_scene.specs.StationScenes.{StationScene, next_in_scene, standing_in, station_audit, station_begun, station_log, station_scenario}
use Rattle.irig_station_scene.specs.StationTexts.{station_texts}
use Rattle.irig_scenario.specs.StationLogs.{AreTrueByStationLine, AreTrueUntilBreak, IsFromBefore, IsStationLineOf, ShowsStationTruth}
use Rattle.irig_scenario.specs.DeviceLogs.{IsTrueDeviceLine, IsTrueDeviceLog, VouchesForDevices}
use Rattle.irig_scenario.proofs.MeaningLaws.{begun_by, each_scene}
use Rattle.irig_scenario.proofs.DeviceLines.{all_apart, audit_line, audit_lines, each_shown, kept_last, says_broken, says_kept}
use Rattle.irig_scenario.proofs.DeviceReadLaws.{ShowsLate, entry_shows_late, entry_shows_truth, lines_show_truth}

-- ---- the scene that lines leave

-- the station is that of a line that was not refused, and stamps are asked for of the last four seconds
record IsSoundScene (at : StationScene) : Type 0 where
  plan : IsSoundStation at.plan
  asked : All (IsAskedWithin 4000000) at.events

begun_sound : (line : List ℕ) (o : Result StationPlan Refusal) (x : StationScene) → ((plan : StationPlan) → o ≡ Ok plan → IsSoundStation plan) → station_begun o ≡ Ok x → IsSoundScene x
begun_sound line (Ok plan) x h e =
    let same : (record { plan = plan; events = [] }) ≡ x = cc in
    subst IsSoundScene same (record { plan = h plan refl; asked = All-nil (IsAskedWithin 4000000) })
begun_sound line (Err k) x h e = absurd cc

next_sound : (x : StationScene) (o : Result Event Refusal) → ((e : Event) → o ≡ Ok e → IsAskedWithin 4000000 e) → IsSoundScene x → IsSoundScene (next_in_scene x o).scene
next_sound x (Ok e) asked h = record { plan = h.plan; asked = All-cons (IsAskedWithin 4000000) e x.events (asked e refl) h.asked }
next_sound x (Err k) asked h = h

scene_sound : (x : List ℕ) (at : StationScene) → (meaning_of station_scenario x).scene ≡ Some at → IsSoundScene at
scene_sound =
    each_scene station_scenario IsSoundScene
    (λ line at e. begun_sound line (station_in_line line) at (station_is_sound line) e)
    (λ at line h. next_sound at (event_in_station_line at.plan.names line) (asked_in_line at.plan.names line) h)

pub plan_sound : (x : List ℕ) (at : StationScene) → (meaning_of station_scenario x).scene ≡ Some at → IsSoundStation at.plan
plan_sound x at e = (scene_sound x at e).plan

-- and its plan is that of the first line that is not blank
begun_planned : (o : Result StationPlan Refusal) (x : StationScene) → station_begun o ≡ Ok x → o ≡ Ok x.plan
begun_planned (Ok plan) x e = (let same : plan ≡ x.plan = cc in ap Ok same)
begun_planned (Err k) x e = absurd cc

next_planned : (o : Result StationPlan Refusal) (x : StationScene) (e : Result Event Refusal) → o ≡ Ok x.plan → o ≡ Ok (next_in_scene x e).scene.plan
next_planned o x (Ok e) h = h
next_planned o x (Err k) h = h

plant_line : (x : List ℕ) (at : StationScene) → (meaning_of station_scenario x).scene ≡ Some at → IsStationLineOf x at.plan
plant_line x at means =
    let is = begun_by station_scenario (λ line at. station_in_line line ≡ Ok at.plan) (λ line at e. begun_planned (station_in_line line) at e)
    (λ first at line h. next_planned (station_in_line first) at (event_in_station_line at.plan.names line) h) x at means in
    record { line = is.line; first = is.first; says = is.begun }

-- ---- the last line

-- what comes behind the log
abbrev pub ending : (all : Bool) → Option Refused → Option StationScene → List ℕ
ending all k o = ending_of (station_texts all) k o

-- a line that begins as that of an audit
abbrev of_audit : List ℕ → List ℕ
of_audit more = 112 ∷ more

refusal_apart : (n : ℕ) (k : Refusal) (more : List ℕ) → refusal_line n k ≢ of_audit more
unfolding refusal_line
refusal_apart n k more e = absurd (let apart : ◌≡◌ {A = ℕ} 114 112 = cc in omega (arith, apart))

one_line : (n : ℕ) (k : Refusal) → length (whole_lines (refusal_text n k)) ≤ 1
one_line n k = let e = ap length (refusal_lines n k) in omega (arith, e)

few_lines : (all : Bool) (k : Option Refused) (at : StationScene) → AreNames at.plan.names → length (whole_lines (ending all k (Some at))) ≤ 1
few_lines all (Some k) at h = one_line k.line k.refusal
few_lines all None at h = let e = ap length (audit_lines at.plan.names (station_audit at) h) in omega (arith, e)

-- only an audit says so
said_by : (all : Bool) (k : Option Refused) (at : StationScene) (more : List ℕ) → AreNames at.plan.names → whole_lines (ending all k (Some at)) ≡ of_audit more ∷ [] → audit_line at.plan.names (station_audit at) ≡ of_audit more
said_by all (Some k) at more h e =
    absurd (refusal_apart k.line k.refusal more
    (let same : refusal_line k.line k.refusal ∷ [] ≡ of_audit more ∷ [] = sym (refusal_lines k.line k.refusal) ∙ e in cc))
said_by all None at more h e = (let same = sym (audit_lines at.plan.names (station_audit at) h) ∙ e in cc)

-- ---- what is written

written_of : (all : Bool) (x : List ℕ) (o : Option StationScene) → (meaning_of station_scenario x).scene ≡ o
    → whole_text station_scenario (station_texts all) x ≡ text_of (station_texts all) (first_of (lines x)) o ++ ending all (meaning_of station_scenario x).refused o
written_of all x o e = ap (λ o. text_of (station_texts all) (first_of (lines x)) o ++ ending all (meaning_of station_scenario x).refused o) e

no_lines : whole_lines [] ≡ []
unfolding whole_lines
no_lines = refl

-- before there is a station nothing says so
none_said : (all : Bool) (k : Option Refused) (last : List ℕ) (above more : List (List ℕ)) → ¬ (whole_lines (ending all k None) ≡ above ++ (of_audit last ∷ more))
none_said all None last above more e = (let r = kept_last (of_audit last) [] [] above more tt (omega arith) (sym no_lines ∙ e) in (let apart : [] ≡ of_audit last ∷ [] = r.1 in cc))
none_said all (Some k) last above more e =
    let r = kept_last (of_audit last) [] (whole_lines (refusal_text k.line k.refusal)) above more tt (one_line k.line k.refusal) e in
    refusal_apart k.line k.refusal last (let same : refusal_line k.line k.refusal ∷ [] ≡ of_audit last ∷ [] = sym (refusal_lines k.line k.refusal) ∙ r.1 in cc)

-- ---- a scene and its lines

-- the lines above a last one that an audit says
record StandsAbove (all : Bool) (x : List ℕ) (last : List ℕ) (above : List (List ℕ)) : Type 0 where
  at : StationScene
  means : (meaning_of station_scenario x).scene ≡ Some at
  sound : IsSoundScene at
  names : AreNames at.plan.names
  shown : above ≡ shown_lines at.plan.names all (station_log at)
  says : audit_line at.plan.names (station_audit at) ≡ of_audit last

module _ (all : Bool) (x w rest : List ℕ) (is : whole_text station_scenario (station_texts all) x ≡ w ++ rest) (last : List ℕ) (above : List (List ℕ)) (ends : whole_lines w ≡ above ++ of_audit last ∷ []) where
  -- all lines, of which those that were written are the first
  front : (o : Option StationScene) → (meaning_of station_scenario x).scene ≡ o
      → (more : List (List ℕ)) × (whole_lines (text_of (station_texts all) (first_of (lines x)) o ++ ending all (meaning_of station_scenario x).refused o) ≡ above ++ (of_audit last ∷ more))
  front o e =
      let f = whole_front w rest in
      (f.0, ap whole_lines (sym (written_of all x o e) ∙ is) ∙ f.1 ∙ ap (λ ls. ls ++ f.0) ends ∙ append_assoc above (of_audit last ∷ []) f.0)

  of_scene : (o : Option StationScene) → (meaning_of station_scenario x).scene ≡ o → StandsAbove all x last above
  of_scene None e = (let f = front None e in absurd (none_said all (meaning_of station_scenario x).refused last above f.0 f.1))
  of_scene (Some at) e =
      let sound = scene_sound x at e in
      let names = are_names_named at.plan.names sound.plan.names in
      let k = (meaning_of station_scenario x).refused in
      let log = station_log at in
      let f = front (Some at) e in
      let r = kept_last (of_audit last) (shown_lines at.plan.names all log) (whole_lines (ending all k (Some at))) above f.0
      (all_apart at.plan.names all last log) (few_lines all k at names)
      (sym (lines_of_station at.plan.names all log (ending all k (Some at)) names) ∙ f.1) in
      record { at = at; means = e; sound = sound; names = names; shown = r.0; says = said_by all k at last names r.1 }

  stands_above : StandsAbove all x last above
  stands_above = of_scene (meaning_of station_scenario x).scene refl

-- ---- a log that is kept

-- an entry that is logged and true
record IsTrueIn (at : StationScene) (e : Entry) : Type 0 where
  logged : Contains (station_log at) e
  is_true : IsTrueEntry at.plan.setup e

true_entries : (at : StationScene) (es : List Entry) → All (Contains (station_log at)) es → All (IsTrueEntry at.plan.setup) es → All (IsTrueIn at) es
true_entries at [] logged are = All-nil (IsTrueIn at)
true_entries at (e ∷ es) logged are =
    All-cons (IsTrueIn at) e es (record { logged = All-head (Contains (station_log at)) e es logged; is_true = All-head (IsTrueEntry at.plan.setup) e es are })
    (true_entries at es (All-tail (Contains (station_log at)) e es logged) (All-tail (IsTrueEntry at.plan.setup) e es are))

line_of_true : (at : StationScene) (e : Entry) → IsTrueIn at e → IsTrueDeviceLine at (station_line at.plan.names e)
line_of_true at e h = record { entry = e; logged = h.logged; shown = line_is at.plan.names e; is_true = h.is_true }

kept_entries : (all : Bool) (x : List ℕ) (above : List (List ℕ)) → StandsAbove all x (codes "remises kept") above → IsTrueDeviceLog x above
kept_entries all x above h =
    let at = h.at in
    let log = station_log at in
    let kept = says_kept at.plan.names (station_audit at) h.says in
    let are = true_entries at log (All-contains_itself log) (kept_true at.plan.setup h.sound.plan.setup at.events kept) in
    record {
      scene = at;
      means = h.means;
      lines = subst (All (IsTrueDeviceLine at)) (sym h.shown) (each_shown at.plan.names all (IsTrueDeviceLine at) (IsTrueIn at) (line_of_true at) log are);
    }

kept_shown : (all : Bool) (x : List ℕ) (above : List (List ℕ)) → StandsAbove all x (codes "remises kept") above → AreTrueByStationLine x above
kept_shown all x above h =
    let at = h.at in
    let kept = says_kept at.plan.names (station_audit at) h.says in
    record {
      plan = at.plan;
      plant = plant_line x at h.means;
      lines = lines_show_truth at.plan above
          (subst (All (ShowsStationTruth at.plan)) (sym h.shown)
          (each_shown at.plan.names all (ShowsStationTruth at.plan) (IsTrueEntry at.plan.setup) (entry_shows_truth at.plan h.names) (station_log at)
          (kept_true at.plan.setup h.sound.plan.setup at.events kept)));
    }

-- ---- a log that broke

-- a line that is none of those behind stands in front, and all before it
cut_front : (Late : List ℕ → Type 0) (a b earlier later : List (List ℕ)) (line : List ℕ) → AllByRecursion Late b → ¬ Late line → a ++ b ≡ earlier ++ line ∷ later → (rest : List (List ℕ)) × (a ≡ (earlier ++ line ∷ []) ++ rest)
cut_front Late [] b earlier later line late early e = absurd (early (all_at Late earlier line later (subst (AllByRecursion Late) e late)))
cut_front Late (x ∷ xs) b [] later line late early e = (xs, (let same : x ≡ line = cc in ap (λ z. z ∷ xs) same))
cut_front Late (x ∷ xs) b (y ∷ ys) later line late early e =
    let first : x ≡ y = cc in
    let others : xs ++ b ≡ ys ++ line ∷ later = cc in
    let r = cut_front Late xs b ys later line late early others in
    (r.0, ap (λ z. z ∷ xs) first ∙ ap (λ zs. y ∷ zs) r.1)

not_late : (plan : StationPlan) (names : AreNames plan.names) (edge : ℕ) (line : List ℕ) → IsFromBefore plan.names edge line → ¬ ShowsLate plan names 4000000 edge line
not_late plan names edge line (inl told) late = omega (arith, told.2, late.told told.0 told.1)
not_late plan names edge line (inr stamp) late = omega (arith, stamp.2, late.stamp stamp.0 stamp.1)

broken_until : (all : Bool) (x : List ℕ) (edge : ℕ) (name : List ℕ) (above : List (List ℕ)) → edge < 2 ^ 64
    → StandsAbove all x (codes "remises broken: edge " ++ (decimal edge ++ (codes " device " ++ name))) above → AreTrueUntilBreak x edge above
broken_until all x edge name above few h =
    let plan = h.at.plan in
    let ev = h.at.events in
    let log = station_log h.at in
    let k = (standing_in h.at).vouched in
    let True : List ℕ → Type 0 = ShowsStationTruth plan in
    let Late : List ℕ → Type 0 = ShowsLate plan h.names 4000000 edge in
    let breaks = says_broken plan.names (station_audit h.at) edge name few h.says in
    let before = shown_lines plan.names all (take k log) in
    let behind = shown_lines plan.names all (drop k log) in
    let true_before : All True before = each_shown plan.names all True (IsTrueEntry plan.setup) (entry_shows_truth plan h.names) (take k log) (vouched_true plan.setup h.sound.plan.setup ev) in
    let late_behind : All Late behind =
    each_shown plan.names all Late (IsLoggedFrom 4000000 edge) (entry_shows_late plan h.names 4000000 edge) (drop k log)
    (logged_late plan.setup 4000000 h.sound.plan.setup ev breaks.0 edge h.sound.asked breaks.1) in
    let both : before ++ behind ≡ above =
    sym (flat_map-append (λ e. cond (is_shown all e) (station_line plan.names e ∷ []) []) (take k log) (drop k log)) ∙ ap (shown_lines plan.names all) (take-append-drop k log) ∙ sym h.shown in
    record {
      plan = plan;
      plant = plant_line x h.at h.means;
      until = λ earlier later line cut from_before.
          let f = cut_front Late before behind earlier later line (recursion_from_All Late behind late_behind) (not_late plan h.names edge line from_before) (both ∙ cut) in
          lines_show_truth plan (earlier ++ line ∷ [])
          (All-from_recursion True (earlier ++ line ∷ [])
          (all_left True (earlier ++ line ∷ []) f.0 (subst (AllByRecursion True) f.1 (recursion_from_All True before true_before))));
    }

pub vouches_for_devices : (all : Bool) (x w rest : List ℕ) → whole_text station_scenario (station_texts all) x ≡ w ++ rest → VouchesForDevices x w
vouches_for_devices all x w rest is = record {
  entries = λ above ends. kept_entries all x above (stands_above all x w rest is (codes "remises kept") above ends);
  shown = λ above ends. kept_shown all x above (stands_above all x w rest is (codes "remises kept") above ends);
  until = λ edge name above few ends.
      broken_until all x edge name above few (stands_above all x w rest is (codes "remises broken: edge " ++ (decimal edge ++ (codes " device " ++ name))) above ends);
}

-- ---- what a last line shows

letter_line : (names : List (List ℕ)) (b : ℕ) (bs : List ℕ) → 97 ≤ b → All (ShowsNeither names) ((b ∷ bs) ∷ [])
letter_line names b bs letter = All-cons (ShowsNeither names) (b ∷ bs) [] (letter_shows_neither names b bs letter) (All-nil (ShowsNeither names))

refused_neither : (names : List (List ℕ)) (n : ℕ) (k : Refusal) → All (ShowsNeither names) (refusal_line n k ∷ [])
unfolding refusal_line
refused_neither names n k = letter_line names 114 _ (omega arith)

audited_neither : (names : List (List ℕ)) (a : Audit) → All (ShowsNeither names) (audit_line names a ∷ [])
audited_neither names Kept = letter_line names 112 _ (omega arith)
audited_neither names (FalseTable r) = letter_line names 112 _ (omega arith)
audited_neither names (Drift r) = letter_line names 112 _ (omega arith)
audited_neither names (Broken r n) = letter_line names 112 _ (omega arith)

pub last_shows_neither : (all : Bool) (x : StationScene) → AreNames x.plan.names → (k : Option Refused) → All (ShowsNeither x.plan.names) (whole_lines (ending all k (Some x)))
last_shows_neither all x names (Some k) = subst (All (ShowsNeither x.plan.names)) (sym (refusal_lines k.line k.refusal)) (refused_neither x.plan.names k.line k.refusal)
last_shows_neither all x names None = subst (All (ShowsNeither x.plan.names)) (sym (audit_lines x.plan.names (station_audit x) names)) (audited_neither x.plan.names (station_audit x))
