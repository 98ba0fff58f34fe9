use Rattle.std.proofs.Common.{◌≡◌, ◌∙◌, ℕ, All, List, ◌∷◌, ◌++◌, [], Option, ap, arith, subst, sym}
use Rattle.std.specs.Prelude.{max}
use Rattle.irig_timekeeper.specs.Clock.{SaysOfUtc, TellsOfUtc}
use Rattle.irig_timekeeper.specs.Life.Call.{Tick}
use Rattle.irig_witness.specs.Devices.{IsDeviceOf}
use Rattle.irig_simulated.specs.declared.told_second.ToldSecond.{ToldSecond}
use Rattle.irig_simulated.specs.Kinds.{count}
use Rattle.irig_simulated.specs.Courses.{next_tick}
use Rattle.irig_simulated.proofs.StandsLaws.{answered, counted_now, next_same, told_none, told_some, waited}
use Rattle.std.proofs.Math.Logic.{∥∥₁_map}
use Rattle.irig_simulated.specs.ToldSeconds.{IsToldOfUtc}
use Rattle.irig_simulated.proofs.UtcSeconds.{told_more}
use Rattle.irig_simulated.proofs.simulated.Simulated.tick.Goals as goal

pub returns-in-Some-clause-stands : goal.returns-in-Some-clause-stands
returns-in-Some-clause-stands g c k symbol x is =
    let self = c.args.self.now in
    let now = c.count_at-now.result in
    let at = counted_now self k symbol x is now c.count_at-now.ensures.value in
    let device = subst (λ (n : ℕ). IsDeviceOf c.tick-beat.new.self k.made symbol x.start (Tick n ∷ x.calls)) at (c.tick-beat.ensures.on k.made symbol x.start x.calls is.device) in
    let wait = waited c.tick-beat.new.self k symbol x.start now c.wait.result x.now (Tick (count k x.now) ∷ x.calls) device c.wait.ensures at in
    let answer = answered self.device k symbol x.start now x.now c.tick-beat.result x.calls is.device c.tick-beat.ensures.answer at in
    record {
      device = device;
      ended = is.ended;
      first = is.first;
      rate = is.rate;
      ticking = is.ticking;
      now = is.now;
      wires = is.wires;
      tick = c.next_tick-self.ensures ∙ next_same self k symbol x is c.max-wait_us.result ∙ ap (λ (n : ℕ). next_tick k.ticking k.first k.rate x.now n) (omega (arith, c.max-wait_us.ensures, wait));
      send = is.send;
      told = told_some self k symbol x is now at c.tick-beat.result answer c.in-Some.beat c.told_second.result c.push_reserved.new.self.items c.in-Some.is c.told_second.ensures (c.push_reserved.ensures.items ∙ ap (λ (xs : List ToldSecond). xs ++ (c.told_second.result ∷ [])) c.reserve.ensures.items);
    }

pub returns-in_default-clause-stands : goal.returns-in_default-clause-stands
returns-in_default-clause-stands g c k symbol x is =
    let self = c.args.self.now in
    let now = c.count_at-now.result in
    let at = counted_now self k symbol x is now c.count_at-now.ensures.value in
    let device = subst (λ (n : ℕ). IsDeviceOf c.tick-beat.new.self k.made symbol x.start (Tick n ∷ x.calls)) at (c.tick-beat.ensures.on k.made symbol x.start x.calls is.device) in
    let wait = waited c.tick-beat.new.self k symbol x.start now c.wait.result x.now (Tick (count k x.now) ∷ x.calls) device c.wait.ensures at in
    let answer = answered self.device k symbol x.start now x.now c.tick-beat.result x.calls is.device c.tick-beat.ensures.answer at in
    record {
      device = device;
      ended = is.ended;
      first = is.first;
      rate = is.rate;
      ticking = is.ticking;
      now = is.now;
      wires = is.wires;
      tick = c.next_tick-self.ensures ∙ next_same self k symbol x is c.max-wait_us.result ∙ ap (λ (n : ℕ). next_tick k.ticking k.first k.rate x.now n) (omega (arith, c.max-wait_us.ensures, wait));
      send = is.send;
      told = told_none self k symbol x is now at c.tick-beat.result answer c.reserve.new.self.items c.in_default.is c.reserve.ensures.items;
    }

pub invariant_of-self-in-Some-clause-valid : goal.invariant_of-self-in-Some-clause-valid
invariant_of-self-in-Some-clause-valid g c =
    let self = c.args.self.now in
    let items : c.push_reserved.new.self.items ≡ self.told.items ++ (c.told_second.result ∷ []) =
    c.push_reserved.ensures.items ∙ ap (λ (xs : List ToldSecond). xs ++ (c.told_second.result ∷ [])) c.reserve.ensures.items in
    let says = subst SaysOfUtc c.in-Some.is c.tick-beat.ensures.valid in
    let tells = subst TellsOfUtc c.in-Some.is c.tick-beat.ensures.told in
    let utc : IsToldOfUtc c.told_second.result =
    subst IsToldOfUtc (sym c.told_second.ensures) (record { announced = says; lines = tells }) in
    ∥∥₁_map self.valid (told_more self.told.items c.push_reserved.new.self.items c.told_second.result items utc)

pub invariant_of-self-in_default-clause-valid : goal.invariant_of-self-in_default-clause-valid
invariant_of-self-in_default-clause-valid g c =
    subst (λ (xs : List ToldSecond). ∥ All IsToldOfUtc xs ∥₁) (sym c.reserve.ensures.items) c.args.self.now.valid

pub invariant_of-self-clause-valid : goal.invariant_of-self-clause-valid
invariant_of-self-clause-valid g c =
    subst (λ (xs : List ToldSecond). ∥ All IsToldOfUtc xs ∥₁) (sym c.reserve.ensures.items) c.args.self.now.valid
