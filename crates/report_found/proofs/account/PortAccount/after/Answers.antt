use Rattle.std.proofs.Common.{◌∷◌, ◌∙◌, ap}
use Rattle.report_found.specs.declared.account.PortAccount.{PortAccount}
use Rattle.report_found.specs.declared.kind.Kind.{Kind}
use Rattle.report_found.specs.declared.kind.Kind.TheVariants.{Agreed, Silent, Faulty, Poor, AnotherSecond, AnotherMark}
use Rattle.report_found.specs.declared.tick.Tick.{Tick}
use Rattle.report_found.specs.Kinds.{same_kind}
use Rattle.report_found.specs.Ticks.{kind_at}
use Rattle.report_found.proofs.CountLaws.{counted_more, open_more, same_port}
use Rattle.report_found.proofs.account.PortAccount.after.Goals as goal

pub returns-clause-exact : goal.returns-clause-exact
returns-clause-exact c = λ ts was few.
    let x = c.args.self.now in
    let i = c.args.port in
    let t = c.args.tick.now in
    let edge = c.args.number in
    same_port _ _ _ _ _ _ _ i (t ∷ ts)
    (counted_more (λ (t : Tick). same_kind (kind_at i t) Agreed) t ts _ x.agreed edge _ c.counted.ensures (ap (λ (x : PortAccount). x.agreed) was) (c.is.ensures ∙ ap (λ (k : Kind). same_kind k Agreed) c.kind-kind.ensures) few)
    (counted_more (λ (t : Tick). same_kind (kind_at i t) Silent) t ts _ x.silent edge _ c.counted-2.ensures (ap (λ (x : PortAccount). x.silent) was) (c.is-2.ensures ∙ ap (λ (k : Kind). same_kind k Silent) c.kind-kind.ensures) few)
    (counted_more (λ (t : Tick). same_kind (kind_at i t) Faulty) t ts _ x.faulty edge _ c.counted-3.ensures (ap (λ (x : PortAccount). x.faulty) was) (c.is-3.ensures ∙ ap (λ (k : Kind). same_kind k Faulty) c.kind-kind.ensures) few)
    (counted_more (λ (t : Tick). same_kind (kind_at i t) Poor) t ts _ x.poor edge _ c.counted-4.ensures (ap (λ (x : PortAccount). x.poor) was) (c.is-4.ensures ∙ ap (λ (k : Kind). same_kind k Poor) c.kind-kind.ensures) few)
    (counted_more (λ (t : Tick). same_kind (kind_at i t) AnotherSecond) t ts _ x.another_second edge _ c.counted-5.ensures (ap (λ (x : PortAccount). x.another_second) was) (c.is-5.ensures ∙ ap (λ (k : Kind). same_kind k AnotherSecond) c.kind-kind.ensures) few)
    (counted_more (λ (t : Tick). same_kind (kind_at i t) AnotherMark) t ts _ x.another_mark edge _ c.counted-6.ensures (ap (λ (x : PortAccount). x.another_mark) was) (c.is-6.ensures ∙ ap (λ (k : Kind). same_kind k AnotherMark) c.kind-kind.ensures) few)
    (open_more i t ts _ x.stretch edge c.stretch_after.ensures.exact (ap (λ (x : PortAccount). x.stretch) was) few)
