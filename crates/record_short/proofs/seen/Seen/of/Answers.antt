use Rattle.std.proofs.Common.{◌≡◌, ◌∙◌, ℕ, ◌+◌, ◌-◌, List, length, ap, sym, get_or, drop, take, arith, length-drop}
use Rattle.std.proofs.Math.Seq.{take-length}
use Rattle.irig_frame.specs.declared.symbol.Symbol.{Symbol}
use Rattle.record_pulses.specs.declared.edge.Pulse.{Pulse}
use Rattle.record_short.specs.Seen.{ahead, nothing_shown}
use Rattle.record_short.proofs.SeenLaws.{seen_is}
use Rattle.record_short.proofs.seen.Seen.of.Goals as goal

pub returns-clause-seen : goal.returns-clause-seen
unfolding nothing_shown
returns-clause-seen c =
    let xs = c.args.pulses.now in
    let at = c.in_ok-at.at in
    let m = get_or xs at (record { rise_us = 0; width_us = 0 }) in
    let rest : take (length xs - (at + 1)) (drop (at + 1) xs) ≡ drop (at + 1) xs = ap (λ (n : ℕ). take n (drop (at + 1) xs)) (sym (length-drop (at + 1) xs)) ∙ take-length (drop (at + 1) xs) in
    c.seen_from.ensures.seen
    ∙ seen_is xs at m c.show_behind-begins_us.result c.show_ahead.new.shown c.in_ok-at.ensures (c.in_ok-at.ensures.is (record { rise_us = 0; width_us = 0 })) (omega arith) c.show_behind-begins_us.ensures.begins
    (c.show_ahead.ensures ∙ ap (λ (ys : List Pulse). ahead 200 m.rise_us ys c.show_behind-begins_us.new.shown) rest
    ∙ ap (λ (s : List Symbol). ahead 200 m.rise_us (drop (at + 1) xs) s) c.show_behind-begins_us.ensures.shown)
