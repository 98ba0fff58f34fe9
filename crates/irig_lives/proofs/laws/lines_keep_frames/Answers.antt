use Rattle.std.proofs.Common.{◌≡◌, ◌∙◌, ◌%◌, ◌^◌, ◌∷◌, refl, sym}
use Rattle.irig_sync.specs.Sync.{place_of}
use Rattle.irig_sync.specs.Lines.{pulse_at, place_after}
use Rattle.irig_sync.proofs.LineLaws.{place_at_time}
use Rattle.irig_port.proofs.RunLaws.{hears}
use Rattle.irig_lines.specs.Lines.{IsAnyEnd}
use Rattle.irig_lines.proofs.LineLaws.{kept_more}
use Rattle.irig_lines.proofs.WholeLaws.{begin_more, even_here}
use Rattle.irig_lives.proofs.laws.lines_keep_frames.Goals as goal

pub returns-clause-kept : goal.returns-clause-kept
returns-clause-kept _ rules clock frame heard s pulses begin now time width h knows before after soon =
    let hearing = hears heard s _ pulses now time _ width _ refl refl h refl after soon in
    let place : place_of s (time % 2 ^ 32) width ≡ place_after (pulse_at time width ∷ pulses) = place_at_time s pulses now time width h.sync after soon in
    kept_more IsAnyEnd IsAnyEnd clock begin _ (λ inside _ any. any) rules frame _ time width pulses hearing.run before (λ at even. even_here clock begin (pulse_at time width) pulses knows (sym place ∙ at) even) (λ at. tt)

pub returns-clause-begun : goal.returns-clause-begun
returns-clause-begun _ heard s pulses begin now time width h knows after soon = begin_more begin _ (pulse_at time width) pulses knows (place_at_time s pulses now time width h.sync after soon)
