-- The quality that a tally says is that of its symbols, if these claim a second.
use Rattle.std.proofs.Common.{◌≡◌, ◌∙◌, ℕ, List, Option, ap}
use Rattle.irig_frame.specs.declared.symbol.Symbol.{Symbol}
use Rattle.irig_control.specs.Control.{control_of}
use Rattle.irig_time.specs.declared.rules.Rules.{Rules}
use Rattle.irig_port.specs.declared.limits.Limits.{Limits}
use Rattle.irig_port.specs.declared.tally.Tally.{Tally}
use Rattle.irig_port.specs.Limits.{quality_in, told_within}
use Rattle.irig_port.specs.Tallies.{control_word_in, IsTallyOf}
use Rattle.irig_port.proofs.NumberLaws.{word_is_read}
use Rattle.irig_lines.specs.Steps.{quality_told}
use Rattle.irig_lines.proofs.LineLaws.{claim_carries, told_quality}

pub tally_quality : (limits : Option Limits) (rules : Rules) (t : Tally) (s : List Symbol) → IsTallyOf t s
    → quality_told (told_within limits rules s) (control_of (control_word_in t)).quality ≡ quality_told (told_within limits rules s) (quality_in s)
tally_quality limits rules t s h =
    told_quality (told_within limits rules s) (control_of (control_word_in t)).quality (quality_in s)
    (λ c is.
    let carries = claim_carries limits rules s c is in
    ap (λ (n : ℕ). (control_of n).quality) (word_is_read t s carries.coded h carries.reads ∙ carries.reads.control))
