use Rattle.irig_lines.proofs.PartLaws.{half_kept}
use Rattle.std.proofs.Common.{arith}
use Rattle.irig_lines.specs.Lines.{IsTrueLately}
use Rattle.irig_lines.proofs.LineLaws.{true_by_any}
use Rattle.std.specs.Prelude.{count_by}
use Rattle.std.proofs.lemmas.Bool.{lt-ltb}
use Rattle.irig_lines.specs.Steps.{agrees, all_kept, claim_kept, line_at}
use Rattle.irig_vote.specs.Vote.{f_of}
use Rattle.irig_timekeeper.proofs.VoteLaws.{vote_comes, ready_by}
use Rattle.irig_timekeeper.proofs.WaitLaws.{one_is_agreed}
use Rattle.irig_lives.proofs.laws.enough_lines_vote.Goals as goal

pub returns-clause-agree : goal.returns-clause-agree
returns-clause-agree _ clock lines i first low keeps more = one_is_agreed clock lines i first low keeps (lt-ltb (f_of clock.redundancy) (count_by (agrees first) (all_kept clock lines)) more)

pub returns-clause-come : goal.returns-clause-come
returns-clause-come _ t edges k now pulses vote steady heard ready e =
    vote_comes (IsTrueLately k.clock.within.us k.rules t edges now) k.rules t k.clock k.clock.drift_us edges steady 0 0 (omega arith) now k.state.lines pulses
    (λ half end ps claim is frame soon. true_by_any k.clock k.rules t k.clock.drift_us edges half now end ps claim steady is frame soon) heard
    (λ i low right y end is frame ahead soon keeps. ready_by k.clock k.rules now (claim_kept k.clock (line_at k.state.lines i).frame) (pulses i) y end (ready i low right) keeps (half_kept k.clock (line_at k.state.lines i).frame y keeps) is ahead soon) vote e
