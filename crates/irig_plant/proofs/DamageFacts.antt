-- Ports that heard a damaged frame, and ports that did not, of the plant that begins at noon.
use Rattle.std.proofs.Common.{◌≡◌, ℕ, ◌∷◌, [], List, length, slice_set, Option, Some, None, refl, sym, ap, ◌∙◌, arith}
use Rattle.std.proofs.lemmas.List.{length-set}
use Rattle.irig_frame.specs.declared.symbol.Symbol.TheVariants.{Bad}
use Rattle.irig_frame.specs.Symbols.{symbol_of}
use Rattle.irig_frame.specs.declared.fault.FrameFault.TheVariants as frame_fault
use Rattle.irig_time.specs.declared.claim.Claim.{Claim}
use Rattle.irig_time.specs.Timelines.{IsTrueClaim, second_at, truth_at}
use Rattle.irig_time.specs.TimelineFaults.{IsTimeline}
use Rattle.irig_time.proofs.SecondAt.{claim_is}
use Rattle.irig_time.proofs.StandardFacts.{known_first_end}
use Rattle.irig_time.specs.Carries.{Carries}
use Rattle.irig_gen.specs.Sent.{frame_of}
use Rattle.irig_port.specs.declared.told.PortFault.TheVariants as fault
use Rattle.irig_port.specs.declared.told.Told.TheVariants as tells
use Rattle.irig_port.specs.Heard.{symbols_of}
use Rattle.irig_port.specs.Told.{told_of, told_of_widths}
use Rattle.irig_port.proofs.CarriesLaws.{carries_is_told}
use Rattle.irig_port.proofs.DamageLaws.{unreadable_told}
use Rattle.irig_plant.specs.declared.event.Event.TheVariants.{Damage}
use Rattle.irig_plant.specs.Widths.{widths_of, with_damage}
use Rattle.irig_plant.specs.Schedule.{no_generator}
use Rattle.irig_plant.specs.Ports.{IsUntruePort}
use Rattle.irig_plant.specs.Damage.{IsDamagedPort}
use Rattle.irig_plant.proofs.DamageLaws.{symbols_damaged, damaged_is_not_untrue, carried_is_damaged}
use Rattle.irig_plant.proofs.NoonPlants.{at, noon, rules, plant, three_generators, claim_0, told_0, two_stale}

is_timeline : IsTimeline noon
is_timeline = record { sound = refl }

-- at the first edge generator 0 comes with the pulse of element 5 of another width
damaged : IsDamagedPort (plant 3) 0 (Damage 0 0 5 100 ∷ []) 0
damaged = carried_is_damaged (plant 3) 0 0 [] 5 100 (omega arith) refl refl refl

-- which is told as a bad pulse
abbrev frame_0 : List ℕ
frame_0 = widths_of (frame_of None no_generator noon 0)

bad_pulse : told_of_widths rules (with_damage 5 100 frame_0) ≡ tells.Fault (fault.Frame (frame_fault.Pulse 5))
bad_pulse = ap (told_of rules) (symbols_damaged 5 100 frame_0) ∙ unreadable_told rules (symbols_of frame_0) claim_0 5 Bad (frame_fault.Pulse 5) told_0 (omega arith) refl

-- another width that is read as the same symbol changes nothing
same_symbol : symbols_of (with_damage 1 2499 (8000 ∷ 2000 ∷ [])) ≡ symbols_of (8000 ∷ 2000 ∷ [])
same_symbol = refl

-- a port that heard nothing is none of these
silent : ¬ IsDamagedPort (plant 3) 0 [] 0
silent h =
    let none : 0 ≡ length (slice_set (symbols_of frame_0) h.element (symbol_of h.width)) = ap (λ (widths : List ℕ). length (symbols_of widths)) h.heard ∙ ap length (symbols_damaged h.element h.width frame_0) in
    let all = length-set (symbols_of frame_0) h.element (symbol_of h.width) in
    let full = (carries_0).reads.len in
    absurd (omega (arith, none, all, full))
  where
    carries_0 : Carries rules (symbols_of frame_0) claim_0
    carries_0 = (carries_is_told rules (symbols_of frame_0) claim_0).0 told_0

-- and neither is one that heard the frame of the edge before, which is untrue
truth_1 : truth_at noon 1 ≡ Some (record claim_0 { at = at 43201 })
unfolding second_at
truth_1 = rw known_first_end refl

untrue_1 : ¬ IsTrueClaim noon 2 claim_0
untrue_1 is =
    let both : ◌≡◌ {A = Option Claim} (Some (record claim_0 { at = at 43201 })) (Some claim_0) = sym truth_1 ∙ (claim_is noon 1 claim_0).1 is in
    let same : record claim_0 { at = at 43201 } ≡ claim_0 = cc in
    omega (arith, ap (λ (c : Claim). c.at.sod) same)

untrue_port : IsUntruePort (plant 3) 0 two_stale 0
untrue_port = record {
  claim = claim_0;
  heard = record { port = omega arith; carries = (carries_is_told rules (symbols_of frame_0) claim_0).0 told_0 };
  untrue = untrue_1;
}

stale : ¬ IsDamagedPort (plant 3) 0 two_stale 0
stale h = damaged_is_not_untrue (plant 3) 0 two_stale 0 is_timeline three_generators h untrue_port
