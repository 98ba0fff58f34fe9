use Rattle.std.proofs.Common.{◌≡◌, ◌<◌, ◌∷◌, ◌∙◌, length, ap, arith}
use Rattle.report_found.specs.declared.account.Account.{Account}
use Rattle.report_found.specs.Stretches.{silence_after, vote_after, misled_after, misled_of}
use Rattle.report_found.specs.Ticks.{is_announced, is_untrue}
use Rattle.report_found.proofs.CountLaws.{counted_more, same_account}
use Rattle.report_found.proofs.account.Account.after.Goals as goal

pub returns-clause-exact : goal.returns-clause-exact
returns-clause-exact c = λ ts was edge.
    let x = c.args.self.now in
    let t = c.args.tick.now in
    let few : length ts < c.args.number = omega (arith, edge) in
    let edges : c.args.number ≡ length (t ∷ ts) = omega (arith, edge) in
    let vote = c.vote_after-vote.ensures ∙ ap (λ (x : Account). vote_after x.vote t) was in
    same_account _ _ _ _ _ _ _ _ _ _ _ (t ∷ ts)
    (c.after.ensures.exact ts (ap (λ (x : Account). x.a) was) few)
    (c.after-2.ensures.exact ts (ap (λ (x : Account). x.b) was) few)
    (c.after-3.ensures.exact ts (ap (λ (x : Account). x.c) was) few)
    (c.after-4.ensures.exact ts (ap (λ (x : Account). x.d) was) few)
    (c.after-5.ensures.exact ts (ap (λ (x : Account). x.e) was) few)
    edges
    (counted_more is_announced t ts _ x.announced c.args.number _ c.counted.ensures (ap (λ (x : Account). x.announced) was) c.is_announced.ensures few)
    (counted_more is_untrue t ts _ x.untrue c.args.number _ c.counted-2.ensures (ap (λ (x : Account). x.untrue) was) c.is_untrue.ensures few)
    (c.silence_after.ensures ∙ ap (λ (x : Account). silence_after x.silence t) was)
    vote
    (c.misled_after.ensures ∙ ap (λ (x : Account). misled_after x.misled c.vote_after-vote.result t) was ∙ ap (λ v. misled_after (misled_of ts) v t) vote)
