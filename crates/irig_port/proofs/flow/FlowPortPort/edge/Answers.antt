use Rattle.std.proofs.Common.{List, length, sym, subst, eqb-true}
use Rattle.std.proofs.lemmas.List.{nil_from_length}
use Rattle.irig_frame.specs.declared.symbol.Symbol.{Symbol}
use Rattle.irig_port.specs.Numbers.{Numbers}
use Rattle.irig_port.proofs.ToldLaws.{none_told}
use Rattle.irig_port.proofs.flow.FlowPortPort.edge.Goals as goal

pub returns-then-is_empty-clause-told : goal.returns-then-is_empty-clause-told
returns-then-is_empty-clause-told c rules s h = sym (none_told rules s (eqb-true (length s) 0 (sym (c.if-is_empty.ensures rules s h))))

pub returns-then-is_empty-clause-empty : goal.returns-then-is_empty-clause-empty
returns-then-is_empty-clause-empty c rules s h =
    subst (λ (t : List Symbol). Numbers c.args.self.now rules t) (nil_from_length s (eqb-true (length s) 0 (sym (c.if-is_empty.ensures rules s h)))) h
