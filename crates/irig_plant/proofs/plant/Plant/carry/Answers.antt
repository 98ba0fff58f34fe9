use Rattle.std.proofs.Common.{rules, ◌≡◌, false}
use Rattle.irig_plant.proofs.NothingLaws.{nothing_comes}
use Rattle.irig_plant.proofs.plant.Plant.carry.Goals as goal

pub returns-then-brings_nothing : goal.returns-then-brings_nothing
returns-then-brings_nothing g c = record {
  accepted = search rules;
  stands = λ h p. nothing_comes _ h c.args.g c.args.r (c.brings_nothing.ensures c.if-brings_nothing.true h p) p;
  refused = search rules;
  unchanged = search rules;
}

pub returns-then-not-carry_cached_port : goal.returns-then-not-carry_cached_port
returns-then-not-carry_cached_port g c = record {
  accepted = search rules;
  stands = λ h p.
      let refused : c.carry_cached_port.result ≡ false = c.if-not-carry_cached_port.true in
      c.carry_pulses.ensures h (c.carry_cached_port.ensures.unchanged refused h p);
  refused = search rules;
  unchanged = search rules;
}
