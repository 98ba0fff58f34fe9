use Rattle.std.proofs.Common.{◌≡◌, Some, None, refl, subst, ◌∙◌}
use Rattle.irig_time.specs.declared.second.UtcSecond.{UtcSecond}
use Rattle.irig_gen.specs.Sent.{ShowSame}
use Rattle.irig_gen.proofs.SameLaws.{sent_same}
use Rattle.irig_gen.proofs.generator.Generator.sends_as.Goals as goal

pub returns-then-is_plain_as : goal.returns-then-is_plain_as
returns-then-is_plain_as c = λ _.
    let stands = c.if-not-stands_as.ensures in
    sent_same c.args.self.now c.args.other.now c.args.timeline.now (stands.edge refl) (stands.fault refl) (stands.rules refl)
    (λ edge u sent at. c.if-is_plain_as.ensures refl u)

pub returns-in-Some : goal.returns-in-Some
returns-in-Some c = λ shows.
    let stands = c.if-not-stands_as.ensures in
    sent_same c.args.self.now c.args.other.now c.args.timeline.now (stands.edge refl) (stands.fault refl) (stands.rules refl)
    (λ edge u sent at.
    let same : Some c.in-Some.utc ≡ Some u = c.in-Some.ensures edge sent ∙ at in
    let here : c.in-Some.utc ≡ u = cc in
    subst (λ (v : UtcSecond). ShowSame c.args.self.now c.args.other.now v) here (c.shows_as.ensures shows))

pub returns-in-None : goal.returns-in-None
returns-in-None c = λ _.
    let stands = c.if-not-stands_as.ensures in
    sent_same c.args.self.now c.args.other.now c.args.timeline.now (stands.edge refl) (stands.fault refl) (stands.rules refl)
    (λ edge u sent at. let none : None ≡ Some u = c.in-None.ensures edge sent ∙ at in absurd cc)
