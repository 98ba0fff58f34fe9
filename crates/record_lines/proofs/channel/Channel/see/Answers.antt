use Rattle.std.proofs.Common.{◌∙◌, List, None, sym, ap, subst}
use Rattle.std.specs.Prelude.{reverse}
use Rattle.record_pulses.specs.declared.edge.Edge.{Edge}
use Rattle.record_lines.specs.Heard.{and_seen}
use Rattle.record_lines.specs.RecordedLines.{IsRecordedLine}
use Rattle.record_lines.proofs.HeardLaws.{seen_newest}
use Rattle.record_lines.proofs.channel.Channel.see.Goals as goal

pub returns-in-Some-clause-line : goal.returns-in-Some-clause-line
returns-in-Some-clause-line c seen played is turn =
    let edge = c.in-Some.edge in
    let newest = ap (λ o. reverse (and_seen seen o)) c.in-Some.is ∙ seen_newest seen edge in
    subst (λ (xs : List Edge). IsRecordedLine c.see.new.self None xs played) (sym newest) (c.see.ensures None (reverse seen) played is (turn edge c.in-Some.is))
