use Rattle.std.proofs.Common.{arith, ◌≤◌, length, subst}
use Rattle.record_lines.specs.Recordings.{PlaysUpTo}
use Rattle.record_lines.proofs.OnLaws.{on_none, on_one}
use Rattle.record_lines.proofs.recording.Recording.next.Goals as goal

pub returns-in-Some-clause-played : goal.returns-in-Some-clause-played
returns-in-Some-clause-played g c =
    let five : 5 ≤ length c.next_told.new.self.channels.all = omega (arith, c.next_told.new.self.channels.five) in
    let plays = subst (λ told. PlaysUpTo c.args.self.now c.next_told.new.self told) c.in-Some.is c.next_told.ensures.plays in
    on_one c.args.self.now c.next_told.new.self c.next_told.ensures.steady c.next_told.ensures.time c.next_told.ensures.end c.next_told.ensures.lines five c.in-Some.told c.second.result plays c.second.ensures

pub returns-in-None-clause-played : goal.returns-in-None-clause-played
returns-in-None-clause-played g c =
    let plays = subst (λ told. PlaysUpTo c.args.self.now c.next_told.new.self told) c.in-None.is c.next_told.ensures.plays in
    on_none c.args.self.now c.next_told.new.self c.next_told.ensures.steady c.next_told.ensures.time c.next_told.ensures.end c.next_told.ensures.lines plays
