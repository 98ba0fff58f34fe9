-- A device that does not go by `wait` need not be asked how long it waits. Its course is the same, and computes.
use Rattle.std.specs.Prelude.{nat_lt, if◌then◌else◌}
use Rattle.std.proofs.Common.{◌≡◌, ◌∙◌, ℕ, zero, suc, ◌-◌, ◌≤◌, ◌==◌, Bool, false, true, cond, ◌∷◌, Option, refl, ap, arith, inl, inr}
use Rattle.std.proofs.lemmas.Bool.{cases_Bool}
use Rattle.irig_frame.specs.declared.symbol.Symbol.{Symbol}
use Rattle.irig_wires.specs.declared.wires.Ending.{Ending}
use Rattle.irig_wires.specs.declared.wires.Happening.{Happening}
use Rattle.irig_wires.specs.declared.wires.Happening.TheVariants as happens
use Rattle.irig_wires.specs.Order.{behind_end}
use Rattle.irig_simulated.specs.declared.setup.Ticking.{Ticking}
use Rattle.irig_simulated.specs.declared.setup.Ticking.TheVariants.{ByWait, Each, ByHand}
use Rattle.irig_simulated.specs.Kinds.{Kind}
use Rattle.irig_simulated.specs.Courses.{Course, coming, happened, has_sent, heard, hearing, most_in, passed, place_heard, played, stepped, tick_after_frame, ticked, wait_after}

abbrev lightly : Kind → (signal : (line element : ℕ) → Option Symbol) → Happening → Course → Course
lightly k signal (happens.End e) x = record x { calls = hearing k x.now e ∷ x.calls; wires = behind_end x.wires e }
lightly k signal happens.Tick x = ticked k x
lightly k signal happens.Send x = has_sent signal x

abbrev pub light : Kind → (signal : (line element : ℕ) → Option Symbol) → (stop most : ℕ) → Course → Course
light k signal stop zero x = x
light k signal stop (suc most) x =
    if nat_lt (coming x).time_us stop then light k signal stop most (lightly k signal (coming x).what (record x { now = (coming x).time_us })) else x

tick_same : (t : Ticking) → ¬ (t ≡ ByWait) → (first rate time wait : ℕ) (tick : Option ℕ) → tick_after_frame t first rate time wait tick ≡ tick
tick_same ByWait other first rate time wait tick = absurd (other refl)
tick_same (Each us) other first rate time wait tick = refl
tick_same ByHand other first rate time wait tick = refl

either : (b : Bool) (t u : Option ℕ) → u ≡ t → cond b u t ≡ t
either true t u e = e
either false t u e = refl

module _ (k : Kind) (other : ¬ (k.ticking ≡ ByWait)) (signal : (line element : ℕ) → Option Symbol) where
  heard_light : (x : Course) (e : Ending) → heard k x e ≡ lightly k signal (happens.End e) x
  heard_light x e =
      ap (λ (t : Option ℕ). record x { calls = hearing k x.now e ∷ x.calls; wires = behind_end x.wires e; tick = t })
      (either (place_heard k x.calls x.now e == 100) x.tick (tick_after_frame k.ticking k.first k.rate x.now (wait_after k x.start (hearing k x.now e ∷ x.calls) x.now) x.tick)
      (tick_same k.ticking other k.first k.rate x.now (wait_after k x.start (hearing k x.now e ∷ x.calls) x.now) x.tick))

  happened_light : (what : Happening) (x : Course) → happened k signal what x ≡ lightly k signal what x
  happened_light (happens.End e) x = heard_light x e
  happened_light happens.Tick x = refl
  happened_light happens.Send x = refl

  played_light : (stop most : ℕ) (x : Course) → played k signal stop most x ≡ light k signal stop most x
  played_light stop zero x = refl
  played_light stop (suc most) x = elim (cases_Bool (nat_lt (coming x).time_us stop)) [
    | inl less ↦ rw less (played_light stop most (stepped k signal x) ∙ ap (light k signal stop most) (happened_light (coming x).what (record x { now = (coming x).time_us })))
    | inr done ↦ rw done refl
  ]

  -- where nothing more comes, more steps change nothing
  light_enough : (stop n most : ℕ) (x : Course) → n ≤ most → nat_lt (coming (light k signal stop n x)).time_us stop ≡ false → light k signal stop most x ≡ light k signal stop n x
  light_enough stop zero zero x few done = refl
  light_enough stop zero (suc most) x few done = rw done refl
  light_enough stop (suc n) zero x few done = absurd (omega (arith, few))
  light_enough stop (suc n) (suc most) x few done = elim (cases_Bool (nat_lt (coming x).time_us stop)) [
    | inl less ↦
        let next = lightly k signal (coming x).what (record x { now = (coming x).time_us }) in
        rw less (light_enough stop n most next (omega (arith, few)) (let h = rw less at done in h))
    | inr over ↦ rw over refl
  ]

  light_passed : (stop n : ℕ) (x : Course) → n ≤ most_in (stop - x.now) → nat_lt (coming (light k signal stop n x)).time_us stop ≡ false → passed k signal stop x ≡ record (light k signal stop n x) { now = stop }
  light_passed stop n x few done =
      ap (λ (y : Course). record y { now = stop }) (played_light stop (most_in (stop - x.now)) x ∙ light_enough stop n (most_in (stop - x.now)) x few done)

  -- up to a time t: `stop` is a variable that is equal to it
  pub passes_to : (stop t n : ℕ) (x c : Course) → stop ≡ t → n ≤ most_in (stop - x.now) → light k signal t n x ≡ c → nat_lt (coming c).time_us t ≡ false → passed k signal stop x ≡ record c { now = t }
  passes_to stop t n x c same few is done =
      let there : light k signal stop n x ≡ c = ap (λ (m : ℕ). light k signal m n x) same ∙ is in
      let over : nat_lt (coming (light k signal stop n x)).time_us stop ≡ false = ap (λ (y : Course). nat_lt (coming y).time_us stop) there ∙ ap (λ (m : ℕ). nat_lt (coming c).time_us m) same ∙ done in
      light_passed stop n x few over ∙ ap (λ (y : Course). record y { now = stop }) there ∙ ap (λ (m : ℕ). record c { now = m }) same
