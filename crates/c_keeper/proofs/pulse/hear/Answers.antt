use mir.Val.{bool_byte}
use Rattle.std.proofs.Common.{◌≡◌, ◌∙◌, ◌==◌, ℕ, Bool, true, false, not, Some, sym, ap, refl, arith}
use Rattle.irig_sync.specs.declared.sync.Sync.{Sync}
use Rattle.irig_sync.specs.Sync.{place_of, pulse_of}
use Rattle.irig_port.proofs.LimitLaws.{tally_within}
use Rattle.irig_port.specs.declared.told.Told.{Told}
use Rattle.irig_port.specs.Hearing.{heard_at}
use Rattle.irig_port.specs.Limits.{quality_in, tally_told_within, told_within}
use Rattle.irig_lines.specs.declared.setup.ClockRules.{ClockRules}
use Rattle.irig_lines.specs.declared.lines.Line.{Line}
use Rattle.irig_lines.specs.Steps.{is_even, line_heard, whole_frame}
use Rattle.c_lines.specs.declared.line.IrigLine.{IrigLine}
use Rattle.c_lines.specs.Lines.{line_in}
use Rattle.c_keeper.specs.Timekeepers.{clock_in}
use Rattle.c_lines.proofs.QualityLaws.{tally_quality}
use Rattle.c_keeper.proofs.pulse.hear.Goals as goal
use Rattle.c_keeper.proofs.pulse.hear.Goals.{then-place-eq1, else-place-eq1}

-- at the last place the frame is kept and seen
heard_last : (c : ClockRules) (line : Line) (rise width place : ℕ) (told : Told) (quality : ℕ) (sync : Sync) → place ≡ place_of line.sync rise width → place ≡ 100 → sync ≡ pulse_of line.sync rise width
    → record { sync = sync; begin_us = line.begin_us; frame = Some (whole_frame c line.begin_us rise told quality); seen = Some (whole_frame c line.begin_us rise told quality); is_heard = true } ≡ line_heard c line rise width told quality
heard_last c line rise width place told quality sync at last moved =
    let is : place_of line.sync rise width ≡ 100 = sym at ∙ last in
    rw (moved, is) refl

byte : (even : Bool) → (bool_byte (not even) == 0) ≡ even
byte true = refl
byte false = refl

pub returns-then-place-eq100-clause-line : goal.returns-then-place-eq100-clause-line
returns-then-place-eq100-clause-line c limits rules s wires heard =
    let last : c.pulse-place.result ≡ 100 = c.if-place-eq100.true in
    let tally = c.heard-line.result in
    let behind = heard_at c.pulse-place.result s c.args.width_us in
    let tells : tally_told_within limits rules tally ≡ told_within limits rules behind = tally_within limits rules tally behind (c.heard-line.ensures s heard) in
    let quality = tally_quality limits rules tally behind (c.heard-line.ensures s heard) in
    elim c.if-place-eq1.branch [
      | then-place-eq1 w ↦ absurd (omega (arith, last, w.if-place-eq1.true))
      | else-place-eq1 w ↦
          let even : (c.from-line.result == 0) ≡ is_even (clock_in c.args.timekeeper.now) c.args.line.now.begin_us c.args.rise_us = ap (λ (n : ℕ). n == 0) c.from-line.ensures ∙ (byte c.is_even.result ∙ (c.is_even.ensures ∙ (ap (λ (l : IrigLine). is_even c.steady_rules_of.result l.begin_us c.args.rise_us) w.line-is ∙ ap (λ (r : ClockRules). is_even r c.args.line.now.begin_us c.args.rise_us) (c.steady_rules_of.ensures.is wires)))) in
          rw (w.line-is, tells, quality, even)
          (heard_last (clock_in c.args.timekeeper.now) (line_in limits rules c.args.line.now) c.args.rise_us c.args.width_us c.pulse-place.result (told_within limits rules behind) (quality_in behind) c.pulse-place.new.self c.pulse-place.ensures.place last c.pulse-place.ensures.new)
    ]
