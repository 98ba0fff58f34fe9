use Rattle.std.proofs.Common.{◌≡◌, ◌<◌, ◌≤◌, List, length, take, None, Some, sym, ap, ◌∙◌, subst, arith}
use Rattle.std.proofs.lemmas.List.{length-set, take_all}
use Rattle.irig_frame.specs.declared.symbol.Symbol.{Symbol}
use Rattle.irig_frame.specs.Encoder.{frame_of_coded}
use Rattle.irig_frame.proofs.EncodingLaws.{written_reads}
use Rattle.irig_control.specs.Parity.{with_parity}
use Rattle.irig_time.specs.declared.rules.Rules.{Rules}
use Rattle.irig_gen.specs.Sent.{frame_of_value, sent_of}
use Rattle.irig_port.specs.Heard.{symbols_heard}
use Rattle.irig_plant.specs.Schedule.{generator_at}
use Rattle.irig_plant.specs.Widths.{widths_of}
use Rattle.irig_plant.proofs.FrameLaws.{frame_heard}
use Rattle.irig_plant.proofs.plant.Plant.new_cached_port.Goals as goal

pub returns-in-Some : goal.returns-in-Some
returns-in-Some g c h p =
    let s = h.setup in
    let k = c.args.g in
    let coded = c.in-Some.coded in
    let low : k < length s.generators = omega (arith, c.requires, p.generator_count) in
    let here = c.index-generator.ensures ∙ p.generators k c.index-generator.result.now low in
    let frame = frame_of_value c.index-generator.result.now coded in
    let value : Some frame ≡ sent_of c.index-generator.result.now c.args.self.now.timeline = c.in-Some.ensures.value in
    let sent : Some frame ≡ sent_of (generator_at s k h.events) s.times = cc p.timeline in
    let reads = written_reads coded c.in-Some.ensures.in_range.0 in
    let whole : length frame ≤ 101 = omega (arith, reads.len, length-set (frame_of_coded coded) 75) in
    let heard : symbols_heard (widths_of (Some frame)) ≡ frame = ap (take 101) (frame_heard frame) ∙ take_all 101 frame whole in
    let rules : ◌≡◌ {A = Rules} c.args.self.now.rules s.rules = p.rules in
    let own = ap (λ (r : Rules). with_parity r.parity (frame_of_coded coded)) c.rules.ensures in
    subst (λ o. g.P.Port.stands_for c.with_frame.result s.rules (symbols_heard (widths_of o))) sent
    (subst (λ (t : List Symbol). g.P.Port.stands_for c.with_frame.result s.rules t) (sym heard)
    (subst (λ (t : List Symbol). g.P.Port.stands_for c.with_frame.result s.rules t) own
    (rw (sym rules) c.with_frame.ensures)))

pub returns-in-None : goal.returns-in-None
returns-in-None g c h p =
    let s = h.setup in
    let k = c.args.g in
    let low : k < length s.generators = omega (arith, c.requires, p.generator_count) in
    let here = c.index-generator.ensures ∙ p.generators k c.index-generator.result.now low in
    let value : None ≡ sent_of c.index-generator.result.now c.args.self.now.timeline = c.in-None.ensures.value in
    let sent : None ≡ sent_of (generator_at s k h.events) s.times = cc p.timeline in
    subst (λ o. g.P.Port.stands_for c.fresh.result s.rules (symbols_heard (widths_of o))) sent
    (rw (sym p.rules) c.fresh.ensures)
