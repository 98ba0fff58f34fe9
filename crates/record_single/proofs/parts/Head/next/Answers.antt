use Rattle.std.proofs.Common.{◌≡◌, ◌++◌, ◌∙◌, ap, length, sym, take, arith, rules}
use Rattle.std.proofs.Math.Seq.{take-length}
use Rattle.record_single.specs.Heads.{to_find}
use Rattle.record_single.proofs.HeadLaws.{goes_on, leads_by}
use Rattle.record_single.proofs.parts.Head.next.Goals as goal

pub returns-then-count-bytes-clause-leads : goal.returns-then-count-bytes-clause-leads
returns-then-count-bytes-clause-leads c = λ more.
    let all : c.place_in-count.result ≡ length c.args.bytes.now = search rules in
    ap (λ l. to_find c.args.self.now (l ++ more)) (ap (λ n. take n c.args.bytes.now) all ∙ take-length c.args.bytes.now)
    ∙ goes_on c.args.self.now c.extend.new.self c.args.bytes.now (sym c.place_in-count.ensures.count ∙ all)
    c.in_ok-extend.ensures.text c.in_ok-extend.ensures.section c.in_ok-extend.ensures.line more

pub returns-clause-leads : goal.returns-clause-leads
returns-clause-leads c =
    leads_by c.args.self.now c.extend-2.new.self c.close.new.self c.args.bytes.now c.split_at.result.0.now c.place_in-count.result c.in_ok-found.found
    c.place_in-count.ensures.count (omega (arith, c.place_in-count.ensures.within, c.if-count-bytes.false)) c.split_at.ensures.front
    c.in_ok-extend-2.ensures.text c.in_ok-extend-2.ensures.section c.in_ok-extend-2.ensures.line c.in_ok-found.ensures.closes
