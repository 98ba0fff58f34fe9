use Rattle.std.proofs.Common.{◌∙◌, ◌+◌, ◌<◌, length, sym, get_or, arith}
use Rattle.std.proofs.lemmas.List.{get_or_default}
use Rattle.record_pulses.specs.declared.edge.Pulse.{Pulse}
use Rattle.record_short.proofs.SeenLaws.{begun_here, begun_later, none_begins}
use Rattle.record_short.proofs.marker.second_marker.Goals as goal

abbrev no_pulse : Pulse
no_pulse = record { rise_us = 0; width_us = 0 }

pub returns-then-are_markers : goal.returns-then-are_markers
returns-then-are_markers c =
    let xs = c.args.pulses.now in
    let first = c.loop-first.first in
    let there : first + 1 < length xs = omega arith in
    record {
      there = there;
      marker = get_or xs (first + 1) no_pulse;
      is = λ other. get_or_default xs (first + 1) other no_pulse there;
      begun = sym c.loop-first.invariant ∙ begun_here xs first no_pulse there (sym c.are_markers.ensures ∙ c.if-are_markers.true);
    }

pub loop-first-preserved : goal.loop-first-preserved
loop-first-preserved c =
    let xs = c.args.pulses.now in
    let first = c.loop-first.first in
    sym (begun_later xs first no_pulse (omega arith) (sym c.are_markers.ensures ∙ c.if-are_markers.false)) ∙ c.loop-first.invariant

pub returns : goal.returns
returns c =
    sym c.loop-first.invariant ∙ none_begins _ c.args.pulses.now c.loop-first.first (omega arith)
