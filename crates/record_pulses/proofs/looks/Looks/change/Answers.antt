use Rattle.std.proofs.Common.{◌∙◌, refl, sym, true, false}
use Rattle.record_pulses.proofs.LookLaws.{polarity_is, still, told_is}
use Rattle.record_pulses.proofs.looks.Looks.change.Goals as goal

pub returns-clause-told : goal.returns-clause-told
returns-clause-told c given edges h turn =
    let known = c.args.self.now.polarity in
    let up_looked = c.is_looked_at.ensures in
    let low_looked = c.is_looked_at-2.ensures in
    let up = c.change-upright.ensures.heard true edges (λ so. h.upright (sym up_looked ∙ so)) turn in
    let low = c.change-inverted.ensures.heard false edges (λ so. h.inverted (sym low_looked ∙ so)) turn in
    let same = h.polarity in
    c.first_of.ensures ∙ rw (up, low, up_looked, low_looked) (told_is known c.args.edge edges ∙ rw same refl)

pub returns-clause-new : goal.returns-clause-new
returns-clause-new c given edges h turn =
    let known = c.args.self.now.polarity in
    let up_looked = c.is_looked_at.ensures in
    let low_looked = c.is_looked_at-2.ensures in
    let up = c.change-upright.ensures.heard true edges (λ so. h.upright (sym up_looked ∙ so)) turn in
    let low = c.change-inverted.ensures.heard false edges (λ so. h.inverted (sym low_looked ∙ so)) turn in
    let same = h.polarity in
    let by = c.polarity_by-self.ensures in
    record {
      polarity = by ∙ rw (up, low, up_looked, low_looked) (polarity_is known c.args.edge edges ∙ rw same refl);
      upright = λ so. c.change-upright.ensures.new true edges (λ so. h.upright (sym up_looked ∙ so)) turn
          (up_looked ∙ still known c.change-upright.result c.change-inverted.result true (rw by at so));
      inverted = λ so. c.change-inverted.ensures.new false edges (λ so. h.inverted (sym low_looked ∙ so)) turn
          (low_looked ∙ still known c.change-upright.result c.change-inverted.result false (rw by at so));
    }
