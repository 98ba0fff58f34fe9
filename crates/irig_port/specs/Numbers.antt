-- What a port stands for that keeps a tally: each list of symbols that has its numbers.
use Rattle.std.specs.Prelude.{◌≡◌, List}
use Rattle.irig_frame.specs.declared.symbol.Symbol.{Symbol}
use Rattle.irig_time.specs.declared.rules.Rules.{Rules}
use Rattle.irig_port.specs.declared.flow.FlowPort.{FlowPort}
use Rattle.irig_port.specs.Tallies.{IsTallyOf}

-- the port works by these rules, and its numbers are those of these symbols
pub record Numbers (p : FlowPort) (rules : Rules) (s : List Symbol) : Type 0 where
  pub ruled : p.rules ≡ rules
  pub numbers : IsTallyOf p.tally s
