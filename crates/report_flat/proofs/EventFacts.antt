-- Known lines, worked by hand from docs/SCENARIOS.md, so that a wrong definition does not check.
use Rattle.std.proofs.Common.{◌≡◌, ℕ, ◌≤◌, List, [], ◌∷◌, refl, codes, arith}
use Rattle.std.specs.Fmt.{digits}
use Rattle.std.proofs.lemmas.List.Elements.{recursion_from_All, All-from_recursion}
use Rattle.irig_plant.specs.declared.event.Event.TheVariants.{GenEdge, Tick, Carry, Damage, Replay, Raw, Restart}
use Rattle.report_flat.specs.EventText.{event_line, IsWritten, IsInRange}

abbrev names : List (List ℕ)
names = codes "relay" ∷ codes "recorder" ∷ []

known_pulses : event_line names (Raw 2 1 (8000 ∷ 5000 ∷ 0 ∷ 4294967295 ∷ [])) ≡ codes "{\"do\":\"raw\",\"g\":2,\"r\":\"recorder\",\"widths\":[8000,5000,0,4294967295]}"
unfolding event_line digits
known_pulses = refl

known_no_pulses : event_line names (Raw 255 0 []) ≡ codes "{\"do\":\"raw\",\"g\":255,\"r\":\"relay\",\"widths\":[]}"
unfolding event_line digits
known_no_pulses = refl

known_tick : event_line names (Tick 0) ≡ codes "{\"do\":\"tick\",\"r\":\"relay\"}"
unfolding event_line
known_tick = refl

known_restart : event_line names (Restart 1) ≡ codes "{\"do\":\"restart\",\"r\":\"recorder\"}"
unfolding event_line
known_restart = refl

-- a step of a generator has no such line
known_none : event_line names (GenEdge 0) ≡ []
unfolding event_line
known_none = refl

-- ---- which events can be written

abbrev greatest : ℕ
greatest = 4294967295

written_widths : IsWritten names (Raw 255 1 (0 ∷ greatest ∷ []))
written_widths = record {
  generator = omega arith;
  reader = omega arith;
  few = omega arith;
  range = All-from_recursion (λ w. w ≤ greatest) (0 ∷ greatest ∷ []) (omega arith, (omega arith, tt));
}

too_wide : ¬ IsWritten names (Raw 0 0 (4294967296 ∷ []))
too_wide h = omega (arith, (recursion_from_All (λ w. w ≤ greatest) (4294967296 ∷ []) h.range).0)

no_such_generator : ¬ IsWritten names (Raw 256 0 [])
no_such_generator h = omega (arith, h.generator)

no_such_reader : (¬ IsWritten names (Raw 0 2 [])) × (¬ IsWritten names (Tick 2)) × (¬ IsWritten names (Restart 2)) × (¬ IsInRange names (Carry 0 2)) × (¬ IsInRange names (Replay 0 2 0))
no_such_reader = (λ h. omega (arith, h.reader), λ h. omega (arith, h), λ h. omega (arith, h), λ h. omega (arith, h.1), λ h. omega (arith, h.1))

other_kinds : (¬ IsWritten names (GenEdge 0)) × (¬ IsWritten names (Carry 0 0)) × IsInRange names (GenEdge 0) × IsInRange names (Carry 0 1)
other_kinds = (λ h. h, λ h. h, tt, (omega arith, omega arith))

too_wide_damage : (¬ IsInRange names (Damage 0 0 0 4294967296)) × IsInRange names (Damage 0 0 0 greatest)
too_wide_damage = (λ h. omega (arith, h.2), (omega arith, omega arith, omega arith))
