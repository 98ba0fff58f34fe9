-- A plant that takes one event at a time, and the ticks among events.
use Rattle.std.proofs.Common.{◌≡◌, ℕ, ◌+◌, ◌-◌, ◌≤◌, List, [], ◌∷◌, ◌++◌, length, map, Some, None, Err, refl, ap, sym, subst, ◌∙◌, arith, length-append}
use Rattle.std.specs.Prelude.{vec_len}
use Rattle.std.specs.List.{flat_map, range_with_len}
use Rattle.std.proofs.Math.Logic.{∥∥₁_elim, ∥∥₁_map}
use Rattle.std.proofs.Math.Bridge.{le_prop}
use Rattle.std.proofs.lemmas.List.FromFn.{length-range_with_len}
use Rattle.std.proofs.lemmas.List.{length-drop}
use Rattle.irig_port.specs.declared.port.Port.{Ghosts}
use Rattle.irig_plant.specs.declared.event.Event.{Event}
use Rattle.irig_plant.specs.declared.event.Event.TheVariants.{GenEdge, Tick, Carry, Damage, Replay, Raw, Fault, Repair, Restart}
use Rattle.irig_plant.specs.declared.fault.PlantFault.{PlantFault}
use Rattle.irig_plant.specs.declared.plant.Plant.{Plant}
use Rattle.irig_plant.specs.History.{PlantHistory, HasPlantHistory, ForHistory, with_event, with_cleared_log}
use Rattle.irig_plant.specs.Runs.{IsRefused}
use Rattle.irig_plant.specs.Schedule.{Setup, log_of, entry_of}
use Rattle.irig_plant.specs.WholeSecond.{carries, ticks, steps, second_of}
use Rattle.report_run.specs.declared.stop.Stop.{Stop}
use Rattle.irig_scene.specs.Faults.{stop_as, stop_of_event}
use Rattle.irig_scene.specs.Scene.{refusal_as}
use Rattle.irig_scene.specs.Stepping.{ticks_among, HasSomeHistory, HasStepped, Steps}
use Rattle.irig_scene.proofs.PlayLaws.{play_until}

-- ---- ticks among events

ticks_join : (a b : List Event) → ticks_among (a ++ b) ≡ ticks_among a + ticks_among b
ticks_join [] b = omega arith
ticks_join (Tick r ∷ es) b = omega (arith, ticks_join es b)
ticks_join (GenEdge g ∷ es) b = ticks_join es b
ticks_join (Carry g r ∷ es) b = ticks_join es b
ticks_join (Damage g r at width ∷ es) b = ticks_join es b
ticks_join (Replay g r edge ∷ es) b = ticks_join es b
ticks_join (Raw g r widths ∷ es) b = ticks_join es b
ticks_join (Fault g kind ∷ es) b = ticks_join es b
ticks_join (Repair g ∷ es) b = ticks_join es b
ticks_join (Restart r ∷ es) b = ticks_join es b

ticks_of_ticks : (rs : List ℕ) → ticks_among (map (λ r. Tick r) rs) ≡ length rs
ticks_of_ticks [] = refl
ticks_of_ticks (r ∷ rs) = omega (arith, ticks_of_ticks rs)

ticks_of_steps : (gs : List ℕ) → ticks_among (map (λ g. GenEdge g) gs) ≡ 0
ticks_of_steps [] = refl
ticks_of_steps (g ∷ gs) = ticks_of_steps gs

ticks_of_frames : (r : ℕ) (gs : List ℕ) → ticks_among (map (λ g. Carry g r) gs) ≡ 0
ticks_of_frames r [] = refl
ticks_of_frames r (g ∷ gs) = ticks_of_frames r gs

ticks_of_carries : (gs rs : List ℕ) → ticks_among (flat_map (λ r. map (λ g. Carry g r) gs) rs) ≡ 0
ticks_of_carries gs [] = refl
ticks_of_carries gs (r ∷ rs) = omega (arith, ticks_join (map (λ g. Carry g r) gs) (flat_map (λ r. map (λ g. Carry g r) gs) rs), ticks_of_frames r gs, ticks_of_carries gs rs)

pub ticks_of_second : (generators readers : ℕ) → ticks_among (second_of generators readers) ≡ readers
ticks_of_second generators readers =
    omega (
      arith,
      ticks_join (carries generators readers) (ticks readers ++ steps generators),
      ticks_join (ticks readers) (steps generators),
      ticks_of_carries (range_with_len 0 generators) (range_with_len 0 readers),
      ticks_of_ticks (range_with_len 0 readers),
      length-range_with_len 0 readers,
      ticks_of_steps (range_with_len 0 generators),
    )

-- ---- how many entries stand

-- a log grows by an entry at most
grows_by_one : (s : Setup) (e : Event) (ev : List Event) → length (log_of s (e ∷ ev)) ≤ length (log_of s ev) + 1
grows_by_one s (Tick r) ev = omega (arith, length-append (log_of s ev) (entry_of s r ev ∷ []))
grows_by_one s (GenEdge g) ev = omega arith
grows_by_one s (Carry g r) ev = omega arith
grows_by_one s (Damage g r at width) ev = omega arith
grows_by_one s (Replay g r edge) ev = omega arith
grows_by_one s (Raw g r widths) ev = omega arith
grows_by_one s (Fault g kind) ev = omega arith
grows_by_one s (Repair g) ev = omega arith
grows_by_one s (Restart r) ev = omega arith

module _ {P : Type 0} {g : Ghosts P} (is : Plant P g) (h : PlantHistory) where
  -- after an event that was taken
  pub stepped_on : (e : Event) → HasPlantHistory is (with_event e (with_cleared_log h)) → HasStepped is
  stepped_on e p =
      let before = length (log_of h.setup h.events) in
      let left : length is.log.items ≡ length (log_of h.setup (e ∷ h.events)) - before = ap length p.log ∙ length-drop before (log_of h.setup (e ∷ h.events)) in
      record {
        happened = record { history = with_event e (with_cleared_log h); stands = p };
        few = omega (arith, is.log.ok.0, left, grows_by_one h.setup e h.events);
      }

  -- after one that was not
  pub stepped_back : HasPlantHistory is (with_cleared_log h) → HasStepped is
  stepped_back p =
      let before = length (log_of h.setup h.events) in
      let left : length is.log.items ≡ before - before = ap length p.log ∙ length-drop before (log_of h.setup h.events) in
      record {
        happened = record { history = with_cleared_log h; stands = p };
        few = omega (arith, is.log.ok.0, left);
      }

-- what a plant keeps, whatever its history was
pub still_happened : {P : Type 0} {g : Ghosts P} (was is : Plant P g) → ∥ HasSomeHistory was ∥₁ → (HasSomeHistory was → HasStepped is) → ∥ HasSomeHistory is ∥₁
still_happened was is kept steps = ∥∥₁_map kept (λ some. (steps some).happened)

pub still_few : {P : Type 0} {g : Ghosts P} (was is : Plant P g) → ∥ HasSomeHistory was ∥₁ → (HasSomeHistory was → HasStepped is) → vec_len is.log ≤ 1
still_few was is kept steps = ∥∥₁_elim kept le_prop (λ some. (steps some).few)

-- ---- an event that is refused

pub refused_steps : {P : Type 0} {g : Ghosts P} (was is : Plant P g) (e : Event) (fault : PlantFault) (stop : Stop) → stop ≡ stop_of_event fault
    → ForHistory was (λ h. HasPlantHistory is (with_cleared_log h)) → ForHistory was (λ h. IsRefused h.setup e h.events fault) → Steps was e (Err stop) is
refused_steps was is e fault stop named kept refused =
    subst (λ (stop : Stop). Steps was e (Err stop) is) (sym named) (elim (refusal_as fault) as (λ k. refusal_as fault ≡ k → Steps was e (Err (stop_as k)) is) [
      | Some k ↦ λ same. λ h p. (play_until h.setup 0 (e ∷ []) h.events fault k (omega arith) tt (refused h p) same, kept h p)
      | None ↦ λ same. refl
    ] refl)
