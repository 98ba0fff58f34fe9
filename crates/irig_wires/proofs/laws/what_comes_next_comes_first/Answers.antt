use Rattle.std.proofs.Common.{sym, subst}
use Rattle.irig_wires.specs.declared.wires.Coming.{Coming}
use Rattle.irig_wires.specs.Order.{ComesFirst}
use Rattle.irig_wires.proofs.OrderLaws.{all_taken, comes_first, ends_first, ends_none, only_end, only_first}
use Rattle.irig_wires.proofs.laws.what_comes_next_comes_first.Goals as goal

pub returns-clause-next : goal.returns-clause-next
returns-clause-next _ wires tick send coming = (only_first wires tick send coming, λ is. subst (λ (x : Coming). ComesFirst wires tick send x) (sym is) (comes_first wires tick send))

pub returns-clause-sends : goal.returns-clause-sends
returns-clause-sends _ = all_taken

pub returns-clause-end : goal.returns-clause-end
returns-clause-end _ wires ending = (only_end wires ending, ends_first wires ending)

pub returns-clause-none : goal.returns-clause-none
returns-clause-none _ = ends_none
