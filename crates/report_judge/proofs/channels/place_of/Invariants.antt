use Rattle.std.proofs.Common.{◌≡◌, drop}
use Rattle.report_judge.specs.Channels.{place_from, place_of, texts_of}
use Rattle.report_judge.proofs.channels.place_of.Given as goal

-- what is left decides
abbrev pub invariant-loop-place : goal.invariant-loop-place
invariant-loop-place l = place_from l.place (texts_of (drop l.place l.names)) l.asked ≡ place_of (texts_of l.names) l.asked
