-- Frames that came whole, worked by hand at noon of 2000-01-31: which events spare a port, which
-- frames count and which ticks are a run; and the rules by which no reader is safer.
use Rattle.std.proofs.Common.{◌≡◌, ℕ, ◌+◌, ◌<◌, ◌≤◌, List, [], ◌∷◌, ◌++◌, length, None, inl, inr, ◌⊎◌, refl, sym, ap, subst, ◌∙◌, arith}
use Rattle.std.specs.Prelude.{All}
use Rattle.std.proofs.lemmas.Bool.{false≢true}
use Rattle.std.proofs.lemmas.List.Elements.{All-nil, All-cons, All-head}
use Rattle.irig_gen.specs.declared.fault.GenFault.TheVariants.{Silent}
use Rattle.irig_port.specs.declared.told.Told.{Told}
use Rattle.irig_port.specs.declared.told.Told.TheVariants as tells
use Rattle.irig_port.specs.Told.{told_of_widths}
use Rattle.irig_reader.specs.Rules.{IsReaderRules}
use Rattle.irig_plant.specs.declared.event.Event.{Event}
use Rattle.irig_plant.specs.declared.event.Event.TheVariants.{GenEdge, Tick, Carry, Damage, Raw, Fault, Restart}
use Rattle.irig_plant.specs.Widths.{widths_of}
use Rattle.irig_plant.specs.Schedule.{Setup, no_generator, setup_at, generator_at, heard_at, ticks_of}
use Rattle.irig_vote.specs.Counts.{AtLeast}
use Rattle.irig_plant.specs.Misled.{IsMisled}
use Rattle.irig_plant.specs.WholeCarry.{SparesPort, HasWholeCarry, HasWholeRun}
use Rattle.irig_plant.proofs.NoonPlants.{noon, plant, rules, claim_0, told_0, told_nothing}
use Rattle.irig_plant.proofs.HealthLaws.{sent_plain}
use Rattle.irig_plant.proofs.LockPlant as lock

-- ---- which events spare port 0 of reader 0

other_port : SparesPort 0 0 (Carry 1 0)
other_port = record { brings_none = refl; keeps = refl }

other_reader : SparesPort 0 0 (Damage 0 1 4 2000)
other_reader = record { brings_none = refl; keeps = refl }

other_tick : SparesPort 0 0 (Tick 1)
other_tick = record { brings_none = refl; keeps = refl }

step : SparesPort 0 0 (GenEdge 0)
step = record { brings_none = refl; keeps = refl }

fault : SparesPort 0 0 (Fault 0 Silent)
fault = record { brings_none = refl; keeps = refl }

not_its_frame : ¬ SparesPort 0 0 (Carry 0 0)
not_its_frame h = false≢true (sym h.brings_none)

not_its_pulses : ¬ SparesPort 0 0 (Raw 0 0 [])
not_its_pulses h = false≢true (sym h.brings_none)

not_its_tick : ¬ SparesPort 0 0 (Tick 0)
not_its_tick h = false≢true (sym h.keeps)

not_its_restart : ¬ SparesPort 0 0 (Restart 0)
not_its_restart h = false≢true (sym h.keeps)

-- ---- which frames come whole

-- the generator fails, goes on and is heard by others after its frame came
abbrev two_frames : List Event
two_frames = Carry 1 0 ∷ Carry 0 1 ∷ GenEdge 0 ∷ Fault 0 Silent ∷ Carry 0 0 ∷ []

first_whole : HasWholeCarry (plant 3) 0 two_frames 0
first_whole = record {
  later = Carry 1 0 ∷ Carry 0 1 ∷ GenEdge 0 ∷ Fault 0 Silent ∷ [];
  earlier = [];
  carry = refl;
  spared = All-cons (SparesPort 0 0) (Carry 1 0) (Carry 0 1 ∷ GenEdge 0 ∷ Fault 0 Silent ∷ []) other_port
      (All-cons (SparesPort 0 0) (Carry 0 1) (GenEdge 0 ∷ Fault 0 Silent ∷ []) (record { brings_none = refl; keeps = refl })
      (All-cons (SparesPort 0 0) (GenEdge 0) (Fault 0 Silent ∷ []) step (All-cons (SparesPort 0 0) (Fault 0 Silent) [] fault (All-nil (SparesPort 0 0)))));
  port = omega arith;
  empty = refl;
  faultless = refl;
  edge = refl;
}

second_whole : HasWholeCarry (plant 3) 0 two_frames 1
second_whole = record { later = []; earlier = Carry 0 1 ∷ GenEdge 0 ∷ Fault 0 Silent ∷ Carry 0 0 ∷ []; carry = refl; spared = All-nil (SparesPort 0 1); port = omega arith; empty = refl; faultless = refl; edge = refl }

-- it is the newest event, if that does not spare the port
is_newest : (s : Setup) (r p : ℕ) (e : Event) (ev : List Event) → ¬ SparesPort r p e → (h : HasWholeCarry s r (e ∷ ev) p) → (e ≡ Carry p r) × (ev ≡ h.earlier)
is_newest s r p e ev touches h = by_later h.later h.carry h.spared
  where
    by_later : (later : List Event) → e ∷ ev ≡ later ++ (Carry p r ∷ h.earlier) → All (SparesPort r p) later → (e ≡ Carry p r) × (ev ≡ h.earlier)
    by_later [] is spared = (let first : e ≡ Carry p r = cc in first, let rest : ev ≡ h.earlier = cc in rest)
    by_later (x ∷ later) is spared =
        let first : x ≡ e = cc in
        absurd (touches (subst (SparesPort r p) first (All-head (SparesPort r p) x later spared)))

-- none of another tick
not_after_tick : ¬ HasWholeCarry (plant 3) 0 (Tick 0 ∷ Carry 0 0 ∷ []) 0
not_after_tick h = let same = (is_newest (plant 3) 0 0 (Tick 0) (Carry 0 0 ∷ []) not_its_tick h).0 in absurd cc

-- none of a generator with a fault, or at another edge
not_silent : ¬ HasWholeCarry (plant 3) 0 (Carry 0 0 ∷ Fault 0 Silent ∷ []) 0
not_silent h =
    let rest = (is_newest (plant 3) 0 0 (Carry 0 0) (Fault 0 Silent ∷ []) not_its_frame h).1 in
    let plain = subst (λ (es : List Event). (generator_at (plant 3) 0 es).fault ≡ None) (sym rest) h.faultless in
    absurd cc

not_early : ¬ HasWholeCarry (plant 3) 0 (Carry 0 0 ∷ GenEdge 0 ∷ []) 0
not_early h =
    let rest = (is_newest (plant 3) 0 0 (Carry 0 0) (GenEdge 0 ∷ []) not_its_frame h).1 in
    let edge : 1 ≡ 0 = subst (λ (es : List Event). (generator_at (plant 3) 0 es).edge ≡ ticks_of 0 es) (sym rest) h.edge in
    omega (arith, edge)

-- none to a port that heard something
not_twice : ¬ HasWholeCarry (plant 3) 0 (Carry 0 0 ∷ Carry 0 0 ∷ []) 0
not_twice h =
    let rest = (is_newest (plant 3) 0 0 (Carry 0 0) (Carry 0 0 ∷ []) not_its_frame h).1 in
    let empty : heard_at (plant 3) 0 0 (Carry 0 0 ∷ []) ≡ [] = subst (λ (es : List Event). heard_at (plant 3) 0 0 es ≡ []) (sym rest) h.empty in
    let sent = ap (λ o. told_of_widths rules (widths_of o)) (sent_plain no_generator noon refl) in
    let told : ◌≡◌ {A = Told} (tells.Claim claim_0) tells.Silence = sym told_0 ∙ sym sent ∙ ap (told_of_widths rules) empty ∙ told_nothing in
    cc

-- ---- which ticks are a run

-- a restart, and then two ports with a whole frame each, is a run of one
abbrev one_tick : List Event
one_tick = Tick 0 ∷ Carry 1 0 ∷ Carry 0 0 ∷ Restart 0 ∷ []

run_of_one : HasWholeRun (plant 3) 0 one_tick 1 1
run_of_one = record { fits = omega arith; carried = at_ticks; unbroken = at_restarts }
  where
    whole : AtLeast 2 (HasWholeCarry (plant 3) 0 (Carry 1 0 ∷ Carry 0 0 ∷ Restart 0 ∷ []))
    whole = record {
      numbers = 0 ∷ 1 ∷ [];
      rising = (omega arith, (omega arith, tt));
      such = All-cons (HasWholeCarry (plant 3) 0 (Carry 1 0 ∷ Carry 0 0 ∷ Restart 0 ∷ [])) 0 (1 ∷ [])
          (record {
            later = Carry 1 0 ∷ [];
            earlier = Restart 0 ∷ [];
            carry = refl;
            spared = All-cons (SparesPort 0 0) (Carry 1 0) [] other_port (All-nil (SparesPort 0 0));
            port = omega arith;
            empty = refl;
            faultless = refl;
            edge = refl;
          })
          (All-cons (HasWholeCarry (plant 3) 0 (Carry 1 0 ∷ Carry 0 0 ∷ Restart 0 ∷ [])) 1 []
          (record { later = []; earlier = Carry 0 0 ∷ Restart 0 ∷ []; carry = refl; spared = All-nil (SparesPort 0 1); port = omega arith; empty = refl; faultless = refl; edge = refl })
          (All-nil (HasWholeCarry (plant 3) 0 (Carry 1 0 ∷ Carry 0 0 ∷ Restart 0 ∷ []))));
      many = omega arith;
    }

    at_ticks : (later earlier : List Event) → one_tick ≡ later ++ (Tick 0 ∷ earlier) → 1 ≤ ticks_of 0 earlier + 1 → ticks_of 0 earlier < 1 → AtLeast 2 (HasWholeCarry (plant 3) 0 earlier)
    at_ticks [] earlier is from to = let rest : Carry 1 0 ∷ Carry 0 0 ∷ Restart 0 ∷ [] ≡ earlier = cc in subst (λ (es : List Event). AtLeast 2 (HasWholeCarry (plant 3) 0 es)) rest whole
    at_ticks (a ∷ []) earlier is from to = absurd cc
    at_ticks (a ∷ b ∷ []) earlier is from to = absurd cc
    at_ticks (a ∷ b ∷ c ∷ []) earlier is from to = absurd cc
    at_ticks (a ∷ b ∷ c ∷ d ∷ []) earlier is from to = absurd cc
    at_ticks (a ∷ b ∷ c ∷ d ∷ e ∷ later) earlier is from to = absurd cc

    at_restarts : (later earlier : List Event) → one_tick ≡ later ++ (Restart 0 ∷ earlier) → (ticks_of 0 earlier + 1 ≤ 1) ⊎ (1 ≤ ticks_of 0 earlier)
    at_restarts [] earlier is = absurd cc
    at_restarts (a ∷ []) earlier is = absurd cc
    at_restarts (a ∷ b ∷ []) earlier is = absurd cc
    at_restarts (a ∷ b ∷ c ∷ []) earlier is = let rest : [] ≡ earlier = cc in subst (λ (es : List Event). (ticks_of 0 es + 1 ≤ 1) ⊎ (1 ≤ ticks_of 0 es)) rest (inl (omega arith))
    at_restarts (a ∷ b ∷ c ∷ d ∷ []) earlier is = absurd cc
    at_restarts (a ∷ b ∷ c ∷ d ∷ e ∷ later) earlier is = absurd cc

-- none if nothing came, or more than have ticked, or with a restart within
none_came : (p : ℕ) → ¬ HasWholeCarry (plant 3) 0 [] p
none_came p h = by_later h.later h.carry
  where
    by_later : (later : List Event) → [] ≡ later ++ (Carry p 0 ∷ h.earlier) → ⊥
    by_later [] is = cc
    by_later (x ∷ later) is = cc

not_without_frames : ¬ HasWholeRun (plant 3) 0 (Tick 0 ∷ []) 1 1
not_without_frames h = by_numbers some.numbers some.many some.such
  where
    some : AtLeast 2 (HasWholeCarry (plant 3) 0 [])
    some = h.carried [] [] refl (omega arith) (omega arith)

    by_numbers : (numbers : List ℕ) → 2 ≤ length numbers → All (HasWholeCarry (plant 3) 0 []) numbers → ⊥
    by_numbers [] many such = omega (arith, many)
    by_numbers (p ∷ ps) many such = none_came p (All-head (HasWholeCarry (plant 3) 0 []) p ps such)

not_longer : ¬ HasWholeRun (plant 3) 0 one_tick 1 2
not_longer h = omega (arith, h.fits)

not_restarted : ¬ HasWholeRun (plant 3) 0 (Tick 0 ∷ Restart 0 ∷ Tick 0 ∷ []) 2 2
not_restarted h = elim (h.unbroken (Tick 0 ∷ []) (Tick 0 ∷ []) refl) [ inl before ↦ omega (arith, before) | inr after ↦ omega (arith, after) ]

-- ---- the longest lock_after is in range, and does not help; a longer one is not

longest : IsReaderRules (record { lock_after = 60; holdover = 0 })
longest = record { lock_after = (omega arith, omega arith); holdover = omega arith }

longest_is_misled : (s : Setup) × (ev : List Event) × ((setup_at s.readers 0).rules.lock_after ≡ 60) × IsMisled s ev 0 lock.new_year
longest_is_misled = let misled = lock.locked_misled _ longest in (lock.plant _ longest, misled.0, refl, misled.1)

no_longer : ¬ IsReaderRules (record { lock_after = 61; holdover = 0 })
no_longer h = omega (arith, h.lock_after.1)
