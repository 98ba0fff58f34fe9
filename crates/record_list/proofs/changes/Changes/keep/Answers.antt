use Rattle.std.proofs.Common.{◌≡◌, ◌∙◌, [], ◌∷◌, ◌++◌, ap, sym, rules}
use Rattle.std.specs.Prelude.{if◌then◌else◌, not}
use Rattle.std.proofs.lemmas.Fn.{filter_same}
use Rattle.record_list.specs.Pulses.{unended}
use Rattle.record_list.specs.Changes.Step.{Goes}
use Rattle.record_list.proofs.ReadLaws.{keeps-no-more, keeps-one-more, keeps-those}
use Rattle.record_list.proofs.changes.Changes.keep.Goals as goal
use Rattle.record_list.proofs.changes.Changes.keep.Goals.{then-placed-ne0+else-len-ge-MOST_PULSES+else-is_err, else-placed-ne0}

pub returns-then-len-ge-MOST_PULSES-clause-hears :
    goal.returns-then-len-ge-MOST_PULSES-clause-hears
returns-then-len-ge-MOST_PULSES-clause-hears c =
    let left : c.retain.new.self.items ≡ unended c.args.self.now.pulses.items c.args.self.now.here.at_ns =
    filter_same _ _ _ (λ x b f' k. search rules) _ _ c.retain.ensures.filtered in
    let step = keeps-no-more (unended c.args.self.now.pulses.items c.args.self.now.here.at_ns) c.retain.new.self.items c.args.placed.now c.args.line c.args.placed.pulse left c.if-placed-ne0.true (search rules) in
    rw c.refused.ensures step

pub returns-clause-hears : goal.returns-clause-hears
returns-clause-hears c =
    let left : c.retain.new.self.items ≡ unended c.args.self.now.pulses.items c.args.self.now.here.at_ns =
    filter_same _ _ _ (λ x b f' k. search rules) _ _ c.retain.ensures.filtered in
    elim c.if-placed-ne0.branch [
      | then-placed-ne0+else-len-ge-MOST_PULSES+else-is_err w ↦
          keeps-one-more (unended c.args.self.now.pulses.items c.args.self.now.here.at_ns) c.retain.new.self.items c.args.placed.now c.args.line c.args.placed.pulse left w.if-placed-ne0.true (search rules)
          ∙ ap (λ l. Goes l c.args.placed.now) (sym (w.push.ensures.items ∙ ap (λ b. if b then c.retain.new.self.items ++ c.args.placed.pulse ∷ [] else c.retain.new.self.items) (w.is_err.ensures.negation ∙ ap not w.if-is_err.false)))
          ∙ sym (ap (λ s. Goes s.pulses.items c.args.placed.now) w.self-is)
      | else-placed-ne0 w ↦
          keeps-those (unended c.args.self.now.pulses.items c.args.self.now.here.at_ns) c.retain.new.self.items c.args.placed.now c.args.line c.args.placed.pulse left w.if-placed-ne0.false
          ∙ sym (ap (λ s. Goes s.pulses.items c.args.placed.now) w.self-is)
    ]
