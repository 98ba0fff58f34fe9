use Rattle.std.proofs.Common.{rules, ◌≡◌, ◌↔◌, ◌+◌, ◌*◌, ◌%◌, ◌<◌, ℕ, subst, sym}
use Rattle.c_numbers.specs.CheckWord.{weighted}
use Rattle.c_lines.specs.declared.line.IrigLine.{IrigLine}
use Rattle.c_lines.specs.declared.line.IrigLines.{IrigLines}
use Rattle.c_lines.specs.CheckWord.{line_numbers}
use Rattle.c_keeper.specs.CheckWord.{IsSealed}
use Rattle.c_keeper.proofs.LineSums.{renewed_line}
use Rattle.c_keeper.proofs.check_word.set_line.Goals as goal

pub returns-clause-sealed : goal.returns-clause-sealed
returns-clause-sealed c =
    let t = c.args.timekeeper.now in
    let fits : t.check < 18446744073709551616 = search rules in
    let by_port = subst (λ (port : ℕ). (weighted (389 + 32 * port) (line_numbers c.line_at.result.now) + c.line_change-change.result) % 18446744073709551616
    ≡ weighted (389 + 32 * port) (line_numbers c.args.line.now) % 18446744073709551616) c.from.ensures c.line_change-change.ensures in
    let adds = subst (λ (l : IrigLine). (weighted (389 + 32 * c.args.port) (line_numbers l) + c.line_change-change.result) % 18446744073709551616
    ≡ weighted (389 + 32 * c.args.port) (line_numbers c.args.line.now) % 18446744073709551616) c.line_at.ensures by_port in
    subst (λ (ls : IrigLines). IsSealed (record t { lines = ls; check = (t.check + c.line_change-change.result) % 18446744073709551616 }) ↔ IsSealed t)
    (sym c.put_line.ensures)
    (renewed_line t c.args.port c.args.line.now c.line_change-change.result c.requires fits adds)
