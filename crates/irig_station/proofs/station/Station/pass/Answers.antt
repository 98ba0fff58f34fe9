use Rattle.std.proofs.Common.{◌≡◌, ◌∙◌, ℕ, zero, suc, ◌+◌, ◌-◌, ◌*◌, ◌<◌, length, refl, sym, ap, subst, arith, inl}
use Rattle.std.specs.Prelude.{min}
use Rattle.irig_station.specs.declared.fault.StationFault.TheVariants.{Memory}
use Rattle.irig_station.specs.StationStandings.{StationStanding, end_of_begun, has_begun_if_due, most_parts, part_gone, part_us, time_gone}
use Rattle.irig_station.specs.Stations.{IsStationAt}
use Rattle.irig_station.proofs.PassLaws.{led, no_second, refused_as, time_over, time_step}
use Rattle.irig_station.proofs.station.Station.pass.Goals as goal

pub loop-init : goal.loop-init
loop-init g c = (c.requires, λ s x shown q. (x, q, (let all : most_parts c.args.us - 0 ≡ most_parts c.args.us = omega arith in ap (λ (n : ℕ). time_gone s n c.args.us x) all)))

-- one part less is left
one_less : (parts counter : ℕ) → counter < parts → parts - counter ≡ suc (parts - (counter + 1))
one_less parts counter more = omega (arith, more)

-- what is left of the second
part_is : (now begun us : ℕ) (y : StationStanding) → now ≡ y.now → begun ≡ length y.seconds → min us (begun * 1000000 - now) ≡ part_us us y
part_is now begun us y same count = (let e : begun * 1000000 - now ≡ end_of_begun y - y.now = omega (arith, same, count) in ap (min us) e)

pub loop-preserved : goal.loop-preserved
loop-preserved g c = (
  c.in_ok-pass_part.ensures.whole,
  λ s x shown q.
      let was = c.loop.invariant.1 s x shown q in
      let y = was.0 in
      let begins = c.in_ok-begin_if_due.ensures.stands s y shown was.1 in
      let begun = has_begun_if_due s y in
      let at = begins.1 in
      let part = c.min-part_us.result in
      let size : part ≡ part_us c.loop.left_us begun = c.min-part_us.ensures ∙ part_is c.begin_if_due.new.self.now_us c.begin_if_due.new.self.begun c.loop.left_us begun at.now at.begun in
      let stop : c.begin_if_due.new.self.now_us + part ≡ begun.now + part = ap (λ (n : ℕ). n + part) at.now in
      let gone = subst (λ (n : ℕ). IsStationAt c.pass_part.new.self s (part_gone s n begun) shown) stop (c.in_ok-pass_part.ensures.stands s begun shown at) in
      let parts = most_parts c.args.us in
      let left = one_less parts c.loop.counter (let more = c.loop-test.true in omega (arith, more)) in (
        part_gone s (begun.now + part) begun,
        gone,
        sym (time_step s (parts - (c.loop.counter + 1)) c.loop.left_us y begun part c.if-left_us-eq0.false begins.0 refl size)
            ∙ ap (λ (n : ℕ). time_gone s n c.loop.left_us y) (sym left)
            ∙ was.2,
      ),
)

pub returns-in_err-begin_if_due : goal.returns-in_err-begin_if_due
returns-in_err-begin_if_due g c s x shown q =
    let was = c.loop.invariant.1 s x shown q in
    let parts = most_parts c.args.us in
    let left = one_less parts c.loop.counter (let more = c.loop-test.true in omega (arith, more)) in
    let fault = c.in_err-begin_if_due.field-0.0 in
    refused_as c.begin_if_due.new.self s (time_gone s parts c.args.us x) shown c.from_residual.result fault c.from_residual.ensures.1
    (no_second c.begin_if_due.new.self s shown (parts - (c.loop.counter + 1)) c.loop.left_us was.0 (time_gone s parts c.args.us x) fault c.if-left_us-eq0.false
    (ap (λ (n : ℕ). time_gone s n c.loop.left_us was.0) (sym left) ∙ was.2) (c.in_err-begin_if_due.ensures.refused s was.0 shown was.1))

pub returns-in_err-pass_part : goal.returns-in_err-pass_part
returns-in_err-pass_part g c s x shown q =
    refused_as c.pass_part.new.self s (time_gone s (most_parts c.args.us) c.args.us x) shown c.from_residual-in_err-pass_part.result Memory c.from_residual-in_err-pass_part.ensures.1 (inl refl)

pub returns-after-loop : goal.returns-after-loop
returns-after-loop g c s x shown q =
    let was = c.loop.invariant.1 s x shown q in
    let none : most_parts c.args.us - c.loop.counter ≡ zero = (let over = c.loop-test.false in omega (arith, over)) in
    led c.loop.self s shown _ _ was.2 was.0 (ap (λ (n : ℕ). time_gone s n c.loop.left_us was.0) none) was.1

pub returns-then-left_us-eq0 : goal.returns-then-left_us-eq0
returns-then-left_us-eq0 g c s x shown q =
    let was = c.loop.invariant.1 s x shown q in
    led c.loop.self s shown _ _ was.2 was.0 (time_over s (most_parts c.args.us - c.loop.counter) c.loop.left_us was.0 c.if-left_us-eq0.true) was.1
