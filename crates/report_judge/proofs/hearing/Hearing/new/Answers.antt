use Rattle.std.proofs.Common.{◌∙◌, ◌*◌, ap, refl, sym}
use Rattle.report_judge.proofs.HearingLaws.{heard_nothing}
use Rattle.report_judge.proofs.hearing.Hearing.new.Goals as goal

pub returns-in-Ok : goal.returns-in-Ok
returns-in-Ok c =
    heard_nothing c.args.asked.now c.args.lines c.in-Some.redundancy _ _ _ _ c.in-Ok.ensures (ap (λ n. n * 1000) c.from-glitch_ns.ensures) refl c.clock_rules-rules.ensures.redundancy (sym c.redundancy_of.ensures ∙ c.in-Some.is) c.ports.ensures c.new-in-Ok.ensures refl
