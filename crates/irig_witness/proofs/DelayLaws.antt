-- What a timekeeper takes a rise to be, which is told by 32 bits.
use Rattle.std.proofs.Common.{◌≡◌, ◌∙◌, ℕ, ◌%◌, ◌^◌, ap}
use Rattle.irig_lines.specs.declared.setup.ClockRules.{ClockRules}
use Rattle.irig_lines.specs.Delays.{corrected, delay_at}

-- by the delays of the same rules
pub low_is : (rise line low risen : ℕ) (c k : ClockRules) → low ≡ rise % 2 ^ 32 → k ≡ c → corrected (rise % 2 ^ 32) (delay_at c.delays line) ≡ risen % 2 ^ 32 → corrected low (delay_at k.delays line) ≡ risen % 2 ^ 32
low_is rise line low risen c k is same e =
    ap (λ (n : ℕ). corrected n (delay_at k.delays line)) is ∙ ap (λ (r : ClockRules). corrected (rise % 2 ^ 32) (delay_at r.delays line)) same ∙ e
