use Rattle.std.proofs.Common.{subst}
use Rattle.scenario_line.specs.PlainLine.{IsKind}
use Rattle.scenario_line.proofs.PlainLaws.{silent_is, stuck_is, no_pending_is, quality_is}
use Rattle.scenario_line.proofs.plain_line.fault_in.Goals as goal
use Rattle.scenario_line.proofs.plain_line.fault_in.Goals.{in-silent, in-stuck, in-no_pending, in-quality+in_ok-natural_in-in-quality}

pub returns : goal.returns
returns c = λ names.
    let old = c.args.reader.now in
    let at_kind = c.generator_in.new.reader in
    let new = c.kind_in.new.reader in
    elim c.match-branch.branch [
      | in-silent w ↦ rw (w.kind-is, w.reader-is) (silent_is names old at_kind new c.in_ok-g.g c.in_ok-g.ensures (subst (λ word. IsKind at_kind word new) w.in-silent.is c.in_ok-kind_in.ensures))
      | in-stuck w ↦ rw (w.kind-is, w.reader-is) (stuck_is names old at_kind new c.in_ok-g.g c.in_ok-g.ensures (subst (λ word. IsKind at_kind word new) w.in-stuck.is c.in_ok-kind_in.ensures))
      | in-no_pending w ↦
          rw (w.kind-is, w.reader-is) (no_pending_is names old at_kind new c.in_ok-g.g c.in_ok-g.ensures (subst (λ word. IsKind at_kind word new) w.in-no_pending.is c.in_ok-kind_in.ensures))
      | in-quality+in_ok-natural_in-in-quality w ↦
          rw (w.kind-is, w.reader-is)
          (quality_is names old at_kind new c.in_ok-g.g c.in_ok-g.ensures w.natural_in.new.reader w.in_ok-natural_in-in-quality.field-0
          (subst (λ word. IsKind at_kind word new) w.in-quality.is c.in_ok-kind_in.ensures) w.in_ok-natural_in-in-quality.ensures.value)
    ]
