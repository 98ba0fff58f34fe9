use Rattle.std.proofs.Common.{rules, ◌≡◌, ◌∷◌, ℕ, take, Some, subst, arith}
use Rattle.json.specs.Token.{end_array}
use Rattle.json.proofs.Grammar.{closed_array}
use Rattle.scenario_line.specs.PlainLine.{plain_widths}
use Rattle.scenario_line.proofs.RawLoops.{ended}
use Rattle.scenario_line.proofs.widths.widths_in.Goals as goal

pub returns-in-Some-EndArray-clause-value : goal.returns-in-Some-EndArray-clause-value
returns-in-Some-EndArray-clause-value c =
    let closed : c.loop-count.rest ≡ end_array ∷ c.next.new.self = search rules in
    ended c.args.reader c.loop-count.rest c.next.new.self (take c.loop-count.count c.loop-count.widths) c.loop-count.invariant closed

pub returns-then-take_end_array-clause-value : goal.returns-then-take_end_array-clause-value
returns-then-take_end_array-clause-value c =
    let all : c.loop-count.count ≡ 1000 = omega (arith, c.loop-count-test.false, c.loop-count.auto.count-end) in
    subst (λ (k : ℕ). plain_widths c.args.reader ≡ Some (take k c.loop-count.widths, c.take_end_array.new.self)) all
    (ended c.args.reader c.loop-count.rest c.take_end_array.new.self (take c.loop-count.count c.loop-count.widths) c.loop-count.invariant (closed_array _ _ c.if-take_end_array.ensures))
