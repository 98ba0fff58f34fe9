use Rattle.std.proofs.Common.{◌≡◌, ◌∙◌, ◌+◌, ◌-◌, [], ◌∷◌, Ok, Err, ap, sym, length, arith}
use Rattle.std.proofs.lemmas.List.{length-append}
use Rattle.record_comtrade.specs.Texts.{texts_of}
use Rattle.record_comtrade.specs.Configs.{rates_from}
use Rattle.record_comtrade.proofs.RateLaws.{rates_step}
use Rattle.record_comtrade.proofs.rates.rates_of.Goals as goal

pub returns-in-Err-clause-refuses : goal.returns-in-Err-clause-refuses
returns-in-Err-clause-refuses c =
    sym c.loop-at.invariant.2
    ∙ rates_step (texts_of c.args.lines.now) c.args.place c.loop-at.at c.args.count c.loop-at.least c.loop-at.rates.items (Err c.in-Err.fault)
    c.loop-at-test.true (sym c.rate_at.ensures.says ∙ c.in-Err.is)

pub loop-at-preserved : goal.loop-at-preserved
loop-at-preserved c =
    let l : length c.add.new.rates.items ≡ c.loop-at.at + 1 =
    ap length c.in_ok-add.ensures ∙ length-append c.loop-at.rates.items (c.in-Ok.rate ∷ []) ∙ ap (λ n. n + 1) c.loop-at.invariant.0 in (
      l,
      omega (arith, c.in-Ok.ensures.few),
      ap (λ r. rates_from (texts_of c.args.lines.now) (c.args.place + (c.loop-at.at + 1)) (c.in-Ok.rate.last + 1) r (c.args.count - (c.loop-at.at + 1))) c.in_ok-add.ensures
          ∙ sym (rates_step (texts_of c.args.lines.now) c.args.place c.loop-at.at c.args.count c.loop-at.least c.loop-at.rates.items (Ok c.in-Ok.rate)
          c.loop-at-test.true (sym c.rate_at.ensures.says ∙ c.in-Ok.is))
          ∙ c.loop-at.invariant.2,
    )
