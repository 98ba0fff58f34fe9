use Rattle.std.proofs.Common.{◌∙◌, ap, sym, Option}
use Rattle.irig_port.specs.declared.limits.Limits.{Limits}
use Rattle.irig_port.specs.Limits.{told_within}
use Rattle.irig_port.proofs.CarriesLaws.{carries_is_told}
use Rattle.irig_port.proofs.LimitLaws.{limited_by}
use Rattle.irig_port.proofs.limits.edge_within.Goals as goal

pub returns-clause-told : goal.returns-clause-told
returns-clause-told g c rules s h =
    c.limited.ensures
    ∙ limited_by c.in-Some.limits rules s c.edge-2.result c.quality-quality.result (c.edge-2.ensures.told rules s h)
    (λ claim is. let carries = (carries_is_told rules s claim).0 is in c.quality-quality.ensures rules s carries.coded h carries.reads)
    ∙ ap (λ (limits : Option Limits). told_within limits rules s) (sym c.in-Some.is)
