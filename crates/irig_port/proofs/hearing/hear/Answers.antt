use Rattle.irig_port.proofs.RunLaws.{hears}
use Rattle.irig_port.proofs.hearing.hear.Goals as goal

pub returns-then-place-gt0-clause-run : goal.returns-then-place-gt0-clause-run
returns-then-place-gt0-clause-run g c heard pulses now time =
    hears heard c.args.sync.now c.pulse-place.new.self pulses now time c.args.rise_us c.args.width_us c.pulse-place.result c.pulse-place.ensures.place c.pulse-place.ensures.new

pub returns-else-place-gt0-clause-run : goal.returns-else-place-gt0-clause-run
returns-else-place-gt0-clause-run g c heard pulses now time =
    hears heard c.args.sync.now c.pulse-place.new.self pulses now time c.args.rise_us c.args.width_us c.pulse-place.result c.pulse-place.ensures.place c.pulse-place.ensures.new
