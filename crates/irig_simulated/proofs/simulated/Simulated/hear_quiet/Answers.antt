use Rattle.std.proofs.Common.{◌≡◌, ◌+◌, ◌*◌, suc, refl, arith, rules}
use Rattle.irig_timekeeper.specs.Unfinished.{most}
use Rattle.irig_simulated.specs.Quiet.{sent_at}
use Rattle.irig_simulated.proofs.QuietSeconds.{stands_there}
use Rattle.irig_simulated.proofs.simulated.Simulated.hear_quiet.Goals as goal

pub hear_line-requires-3-clause-quiet : goal.hear_line-requires-3-clause-quiet
hear_line-requires-3-clause-quiet g c =
    let quiet = c.is_quiet.ensures.lines c.if-not-is_quiet.false 2 (omega arith) in
    c.hear_line-2.ensures.others 2 (omega arith) (λ e. cc) (c.hear_line.ensures.others 2 (omega arith) (λ e. cc) quiet)

pub hear_line-requires-4-clause-quiet : goal.hear_line-requires-4-clause-quiet
hear_line-requires-4-clause-quiet g c =
    let quiet = c.is_quiet.ensures.lines c.if-not-is_quiet.false 3 (omega arith) in
    c.hear_line-3.ensures.others 3 (omega arith) (λ e. cc) (c.hear_line-2.ensures.others 3 (omega arith) (λ e. cc) (c.hear_line.ensures.others 3 (omega arith) (λ e. cc) quiet))

pub hear_line-requires-5-clause-quiet : goal.hear_line-requires-5-clause-quiet
hear_line-requires-5-clause-quiet g c =
    let quiet = c.is_quiet.ensures.lines c.if-not-is_quiet.false 4 (omega arith) in
    c.hear_line-4.ensures.others 4 (omega arith) (λ e. cc) (c.hear_line-3.ensures.others 4 (omega arith) (λ e. cc) (c.hear_line-2.ensures.others 4 (omega arith) (λ e. cc) (c.hear_line.ensures.others 4 (omega arith) (λ e. cc) quiet)))

pub returns-clause-stands : goal.returns-clause-stands
returns-clause-stands g c done k signal symbol x of is =
    let s = c.args.second.now in
    let so = c.if-not-is_quiet.false in
    let now : s.number * 1000000 + 990000 + 1 ≡ suc (sent_at s.number most) = omega arith in
    let send : s.number * 1000000 + 1000000 ≡ sent_at s.number 100 = omega arith in
    stands_there c.args.self.now s (c.is_quiet.ensures.rate so) (c.is_quiet.ensures.lines so) (c.is_quiet.ensures.send so) (c.is_quiet.ensures.now so) (c.is_quiet.ensures.tick so) (search (rules, c.requires.lines)) k signal symbol x of is
    c.hear_line.new.self c.hear_line-2.new.self c.hear_line-3.new.self c.hear_line-4.new.self c.hear_line-5.new.self
    c.hear_line.ensures.heard c.hear_line-2.ensures.heard c.hear_line-3.ensures.heard c.hear_line-4.ensures.heard c.hear_line-5.ensures.heard
    _ refl refl refl refl refl refl now send
