-- A field of a line is one of what stands after its commas.
use Rattle.std.proofs.Common.{◌≡◌, ℕ, suc, ◌+◌, ◌-◌, ◌<◌, List, ap, arith}
use Rattle.record_text.specs.Fields.{after_comma, field}

pub field-step : (place passed : ℕ) (line : List ℕ) → passed < place
    → field (place - passed) line ≡ field (place - (passed + 1)) (after_comma line)
field-step place passed line h =
    let e : place - passed ≡ suc (place - (passed + 1)) = omega (arith, h) in
    ap (λ n. field n line) e
