-- What is told of a true frame with one damaged pulse, and what a port carries that heard it.
use Rattle.std.proofs.Common.{◌≡◌, ℕ, ◌<◌, List, [], ◌∷◌, length, get_or, slice_set, Option, Some, None, refl, sym, ap, subst, ◌∙◌, ◌+◌, arith}
use Rattle.std.proofs.lemmas.Bool.{eq-eqb}
use Rattle.std.proofs.lemmas.List.{map-set}
use Rattle.irig_frame.specs.declared.symbol.Symbol.{Symbol}
use Rattle.irig_frame.specs.Symbols.{symbol_of}
use Rattle.irig_time.specs.declared.claim.Claim.{Claim}
use Rattle.irig_time.specs.declared.rules.Rules.{Rules}
use Rattle.irig_time.specs.Carries.{Carries}
use Rattle.irig_time.specs.Timelines.{TimelineValue, IsTrueClaim, truth_at}
use Rattle.irig_time.specs.TimelineFaults.{IsTimeline}
use Rattle.irig_time.proofs.SecondAt.{claim_is}
use Rattle.irig_gen.specs.Frames.{GeneratorValue, IsFrameOrNone}
use Rattle.irig_gen.specs.Refusals.{IsGenerator}
use Rattle.irig_gen.specs.Sent.{frame_of}
use Rattle.irig_gen.proofs.GenLaws.{true_frames}
use Rattle.irig_gen.proofs.SentLaws.{frame_of_is}
use Rattle.irig_port.specs.declared.told.Told.{Told}
use Rattle.irig_port.specs.declared.told.Told.TheVariants as tells
use Rattle.irig_port.specs.Heard.{symbols_of}
use Rattle.irig_port.specs.Told.{told_of, told_of_widths}
use Rattle.irig_port.specs.Damage.{IsFaultOr}
use Rattle.irig_port.proofs.CarriesLaws.{carries_is_told}
use Rattle.irig_port.proofs.DamageLaws.{damage_told}
use Rattle.irig_vote.specs.Vote.{ports_in, redundancy_of}
use Rattle.irig_plant.specs.declared.event.Event.{Event}
use Rattle.irig_plant.specs.declared.event.Event.TheVariants.{Carry, Damage}
use Rattle.irig_plant.specs.Widths.{widths_of, with_damage}
use Rattle.irig_plant.specs.Schedule.{Setup, no_generator, generator_at, heard_at, pulses_sent, pulses_sent_at, ticks_of}
use Rattle.irig_plant.specs.Ports.{IsUntruePort}
use Rattle.irig_plant.specs.Health.{HasGenerators, IsHealthyPort}
use Rattle.irig_plant.specs.Damage.{IsDamagedPort}
use Rattle.irig_plant.specs.History.{IsNew}
use Rattle.irig_plant.proofs.FrameLaws.{true_frame_told}
use Rattle.irig_plant.proofs.HealthLaws.{ports_are_generators, carried_is_healthy}

-- the symbols of damaged widths are those of the widths, but for one
pub symbols_damaged : (i width : ℕ) (widths : List ℕ) → symbols_of (with_damage i width widths) ≡ slice_set (symbols_of widths) i (symbol_of width)
symbols_damaged i width widths = map-set symbol_of widths i width

pub damaged_told : (g : GeneratorValue) (t : TimelineValue) (edge i width : ℕ) (c : Claim) → IsGenerator g → IsTimeline t → truth_at t edge ≡ Some c
    → IsFaultOr c (told_of_widths g.rules (with_damage i width (widths_of (frame_of None g t edge))))
damaged_told g t edge i width c sound line truth =
    let widths = widths_of (frame_of None g t edge) in
    subst (λ s. IsFaultOr c (told_of g.rules s)) (sym (symbols_damaged i width widths))
    (damage_told g.rules (symbols_of widths) c i (symbol_of width) (true_frame_told g t edge c sound line truth))

-- ---- a port that heard it

-- what was told is a claim, and a fault or the true claim
same_claim : (c d : Claim) (t : Told) → IsFaultOr c t → t ≡ tells.Claim d → d ≡ c
same_claim c d t h e = subst (IsFaultOr c) e h

module _ (s : Setup) (r : ℕ) (ev : List Event) (p : ℕ) (line : IsTimeline s.times) (gens : HasGenerators s) (h : IsDamagedPort s r ev p) where
  abbrev made : GeneratorValue
  made = get_or s.generators p no_generator

  there : p < length s.generators
  there = omega (arith, h.port, ports_are_generators s gens)

  ruled : made.rules ≡ s.rules
  ruled = IsNew.ruled (gens.new.new p no_generator there)

  -- if the timeline has a second its true claim is the only one
  true_claim : (c d : Claim) → truth_at s.times (ticks_of r ev) ≡ Some c → Carries s.rules (symbols_of (heard_at s r p ev)) d → IsTrueClaim s.times (ticks_of r ev + 1) d
  true_claim c d truth carries =
      let told : IsFaultOr c (told_of_widths made.rules (with_damage h.element h.width (pulses_sent_at s p (ticks_of r ev) []))) =
      damaged_told made s.times (ticks_of r ev) h.element h.width c (gens.zones p no_generator there) line truth in
      let here : IsFaultOr c (told_of_widths s.rules (heard_at s r p ev)) =
      subst (λ (widths : List ℕ). IsFaultOr c (told_of_widths s.rules widths)) (sym h.heard) (subst (λ (x : Rules). IsFaultOr c (told_of_widths x (with_damage h.element h.width (pulses_sent_at s p (ticks_of r ev) [])))) ruled told) in
      let same : d ≡ c = same_claim c d _ here ((carries_is_told s.rules (symbols_of (heard_at s r p ev)) d).1 carries) in
      subst (λ (x : Claim). IsTrueClaim s.times (ticks_of r ev + 1) x) (sym same) ((claim_is s.times (ticks_of r ev) c).0 truth)

  -- and if it has none nothing was heard
  no_frame : (o : Option (List Symbol)) → IsFrameOrNone None made s.times (ticks_of r ev) o → truth_at s.times (ticks_of r ev) ≡ None → widths_of o ≡ []
  no_frame None frame truth = refl
  no_frame (Some frame) true_frame truth =
      let carried = true_frames made s.times (ticks_of r ev) frame (gens.zones p no_generator there) line true_frame in
      let second : truth_at s.times (ticks_of r ev) ≡ Some carried.0 = (claim_is s.times (ticks_of r ev) carried.0).1 carried.1 in
      absurd cc

  no_claim : (d : Claim) → truth_at s.times (ticks_of r ev) ≡ None → ¬ Carries s.rules (symbols_of (heard_at s r p ev)) d
  no_claim d truth carries =
      let none : pulses_sent_at s p (ticks_of r ev) [] ≡ [] = no_frame (frame_of None made s.times (ticks_of r ev)) (frame_of_is None made s.times (ticks_of r ev) (gens.zones p no_generator there) line) truth in
      let heard : heard_at s r p ev ≡ [] = h.heard ∙ ap (with_damage h.element h.width) none in
      let short : length (symbols_of (heard_at s r p ev)) ≡ 0 = ap (λ (widths : List ℕ). length (symbols_of widths)) heard in
      let full = carries.reads.len in
      absurd (omega (arith, short, full))

  not_untrue : ¬ IsUntruePort s r ev p
  not_untrue u = by_truth (truth_at s.times (ticks_of r ev)) refl
    where
      by_truth : (o : Option Claim) → truth_at s.times (ticks_of r ev) ≡ o → ⊥
      by_truth None truth = no_claim u.claim truth u.heard.carries
      by_truth (Some c) truth = u.untrue (true_claim c u.claim truth u.heard.carries)

pub damaged_is_not_untrue : (s : Setup) (r : ℕ) (ev : List Event) (p : ℕ) → IsTimeline s.times → HasGenerators s → IsDamagedPort s r ev p → ¬ IsUntruePort s r ev p
damaged_is_not_untrue = not_untrue

-- a frame that a generator without fault sends comes damaged to an empty port, at the edge of the
-- last tick
pub carried_is_damaged : (s : Setup) (r p : ℕ) (ev : List Event) (i width : ℕ) → p < ports_in (redundancy_of (length s.generators)) → (generator_at s p ev).fault ≡ None → (generator_at s p ev).edge ≡ ticks_of r ev
    → heard_at s r p ev ≡ [] → IsDamagedPort s r (Damage p r i width ∷ ev) p
carried_is_damaged s r p ev i width low plain edge empty =
    let healthy : heard_at s r p (Carry p r ∷ ev) ≡ pulses_sent_at s p (ticks_of r ev) [] = IsHealthyPort.heard (carried_is_healthy s r p ev low plain edge empty) in
    let sent : pulses_sent s p ev ≡ pulses_sent_at s p (ticks_of r ev) [] = sym (rw (eq-eqb r r refl, eq-eqb p p refl, empty) refl) ∙ healthy in
    record { element = i; width = width; port = low; heard = rw (eq-eqb r r refl, eq-eqb p p refl, empty) (ap (with_damage i width) sent) }
