-- One rate more.
use Rattle.std.proofs.Common.{◌≡◌, ℕ, suc, ◌+◌, ◌-◌, ◌<◌, List, [], ◌∷◌, ◌++◌, Result, ap, ◌∙◌, arith}
use Rattle.record_comtrade.specs.declared.fault.Fault.{Fault}
use Rattle.record_comtrade.specs.declared.parts.Rate.{Rate}
use Rattle.record_comtrade.specs.Configs.{rate_at, rates_from, with_ok}

pub rates_step : (lines : List (List ℕ)) (place at count least : ℕ) (rates : List Rate) (read : Result Rate Fault)
    → at < count → rate_at lines (place + at) least ≡ read
    → rates_from lines (place + at) least rates (count - at)
    ≡ with_ok read (λ rate. rates_from lines (place + (at + 1)) (rate.last + 1) (rates ++ rate ∷ []) (count - (at + 1)))
rates_step lines place at count least rates read h is =
    let e : count - at ≡ suc (count - (at + 1)) = omega (arith, h) in
    let p : (place + at) + 1 ≡ place + (at + 1) = omega arith in
    ap (rates_from lines (place + at) least rates) e
    ∙ ap (λ r. with_ok r (λ rate. rates_from lines ((place + at) + 1) (rate.last + 1) (rates ++ rate ∷ []) (count - (at + 1)))) is
    ∙ ap (λ n. with_ok read (λ rate. rates_from lines n (rate.last + 1) (rates ++ rate ∷ []) (count - (at + 1)))) p
