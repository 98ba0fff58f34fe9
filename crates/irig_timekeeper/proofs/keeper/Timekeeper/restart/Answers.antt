use Rattle.std.proofs.Common.{◌∙◌, [], refl, subst}
use Rattle.irig_time.specs.declared.rules.Rules.{Rules}
use Rattle.irig_lines.specs.Steps.{AreNewLines, no_lines}
use Rattle.irig_timekeeper.specs.declared.clock.ClockState.{ClockState}
use Rattle.irig_timekeeper.specs.Life.{device_of, life_of}
use Rattle.irig_timekeeper.specs.Lived.{made_with}
use Rattle.irig_timekeeper.proofs.LivedLaws.{as_made}
use Rattle.irig_timekeeper.proofs.keeper.Timekeeper.restart.Goals as goal

pub returns-clause-lived : goal.returns-clause-lived
returns-clause-lived g c made calls h =
    let k = life_of (made_with made h.lines h.fresh) calls in
    let same = as_made (device_of (made_with made h.lines h.fresh)) calls in
    let new = c.clock_of_nothing-self in
    record {
      lines = no_lines;
      fresh = subst (λ (s : ClockState). AreNewLines s.lines) new.ensures.value new.ensures.lines;
      none = refl;
      is = record {
        a = subst (λ (r : Rules). g.P.Port.stands_for c.clear.new.self r []) same.rules (c.clear.ensures k.rules k.heard.a h.is.a);
        b = subst (λ (r : Rules). g.P.Port.stands_for c.clear-2.new.self r []) same.rules (c.clear-2.ensures k.rules k.heard.b h.is.b);
        c = subst (λ (r : Rules). g.P.Port.stands_for c.clear-3.new.self r []) same.rules (c.clear-3.ensures k.rules k.heard.c h.is.c);
        d = subst (λ (r : Rules). g.P.Port.stands_for c.clear-4.new.self r []) same.rules (c.clear-4.ensures k.rules k.heard.d h.is.d);
        e = subst (λ (r : Rules). g.P.Port.stands_for c.clear-5.new.self r []) same.rules (c.clear-5.ensures k.rules k.heard.e h.is.e);
        rules = h.is.rules ∙ same.rules;
        clock = h.is.clock ∙ same.clock;
        table = h.is.table ∙ same.table;
        state = new.ensures.value;
      };
    }
