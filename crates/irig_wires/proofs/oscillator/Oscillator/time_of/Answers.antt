use Rattle.std.proofs.Common.{◌≡◌, ◌-◌, arith}
use Rattle.irig_wires.proofs.OscillatorLaws.{first_by_parts, value_by_parts}
use Rattle.irig_wires.proofs.oscillator.Oscillator.time_of.Goals as goal

pub returns-clause-value : goal.returns-clause-value
returns-clause-value c =
    let ahead : c.saturating_sub-ahead.result ≡ c.args.count - c.args.self.first = omega arith in
    value_by_parts c.args.self.first _ c.rate-rate.result c.args.count _ c.rate-rate.ensures.value ahead (omega arith)

pub returns-clause-first : goal.returns-clause-first
returns-clause-first c =
    let ahead : c.saturating_sub-ahead.result ≡ c.args.count - c.args.self.first = omega arith in
    first_by_parts c.args.self.first _ c.rate-rate.result c.args.count _ c.rate-rate.ensures.value ahead (omega arith)
