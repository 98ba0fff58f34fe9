use Rattle.std.proofs.Common.{◌≡◌, ◌∙◌, ℕ, ◌+◌, ◌-◌, ◌*◌, ◌/◌, ap, arith}
use Rattle.irig_wires.proofs.OscillatorLaws.{counted_faster, counted_slower}
use Rattle.irig_wires.proofs.oscillator.Oscillator.count_at.Goals as goal

pub returns-then-rate-lt-SECOND_US-clause-value : goal.returns-then-rate-lt-SECOND_US-clause-value
returns-then-rate-lt-SECOND_US-clause-value c =
    let rate = c.rate-rate.result in
    let less = c.if-rate-lt-SECOND_US.true in
    let counted = counted_slower c.args.time_us (1000000 - rate) rate (omega (arith, less)) in
    let same = ap (λ (r : ℕ). c.args.time_us * r / 1000000) c.rate-rate.ensures.value in
    omega (arith, counted, same)

pub returns-else-rate-lt-SECOND_US-clause-value : goal.returns-else-rate-lt-SECOND_US-clause-value
returns-else-rate-lt-SECOND_US-clause-value c =
    let rate = c.rate-rate.result in
    let more = c.if-rate-lt-SECOND_US.false in
    let counted = counted_faster c.args.time_us (rate - 1000000) in
    let whole : 1000000 + (rate - 1000000) ≡ rate = omega (arith, more) in
    let same = ap (λ (r : ℕ). c.args.time_us * r / 1000000) (whole ∙ c.rate-rate.ensures.value) in
    omega (arith, counted, same)
