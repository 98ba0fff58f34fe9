-- Known values of the definitions, worked by hand.
use Rattle.std.proofs.Common.{◌≡◌, [], ◌∷◌, refl}
use Rattle.std.specs.Prelude.{codes}
use Rattle.irig_plant.specs.declared.event.Event.TheVariants.{GenEdge, Tick, Raw, Fault, Repair, Restart}
use Rattle.irig_gen.specs.declared.fault.GenFault.TheVariants.{Silent}
use Rattle.std.specs.Fmt.{digits}
use Rattle.report_flat.specs.EventText.{event_line}
use Rattle.irig_plant.specs.Schedule.{Setup}
use Rattle.report_flat.specs.Recording.{recorded}
use Rattle.report_run.specs.Texts.{first_of}
use Rattle.report_flat.specs.FlatText.{heard_lines}

-- pulses, ticks and restarts are kept, in their order; no pulses, edges, faults and repairs are not
pub known_recording : (s : Setup)
    → recorded s (Tick 0 ∷ Repair 1 ∷ GenEdge 2 ∷ Raw 1 0 (2000 ∷ 8000 ∷ []) ∷ Raw 0 0 [] ∷ Fault 1 Silent ∷ Restart 0 ∷ []) ≡ Tick 0 ∷ Raw 1 0 (2000 ∷ 8000 ∷ []) ∷ Restart 0 ∷ []
known_recording s = refl

-- the oldest line comes first
pub known_lines : (s : Setup) → heard_lines (codes "relay" ∷ codes "r-2" ∷ []) s (Tick 1 ∷ Raw 2 0 (2000 ∷ 8000 ∷ []) ∷ GenEdge 2 ∷ [])
    ≡ codes "{\"do\":\"raw\",\"g\":2,\"r\":\"relay\",\"widths\":[2000,8000]}" ∷ codes "{\"do\":\"tick\",\"r\":\"r-2\"}" ∷ []
unfolding event_line digits
known_lines s = refl

-- blank lines before the plant line are no plant line
pub known_first : first_of ([] ∷ codes " \t\r" ∷ codes " {}" ∷ codes "{\"do\":\"tick\",\"r\":\"relay\"}" ∷ []) ≡ codes " {}"
known_first = refl
