use Rattle.std.proofs.Common.{◌≡◌, map, take}
use Rattle.irig_station.specs.SentSeconds.{line_of_generator}
use Rattle.irig_station.proofs.frames.lines_of.Given as goal

abbrev pub invariant-loop-generator : goal.invariant-loop-generator
invariant-loop-generator g l = l.lines.items ≡ map (line_of_generator l.fn.rules l.fn.timeline) (take l.generator-index l.generators)
