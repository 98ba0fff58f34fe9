use Rattle.std.proofs.Common.{inl}
use Rattle.irig_main.proofs.play.play_file.Goals as goal

pub returns-in-Ok-clause-played : goal.returns-in-Ok-clause-played
returns-in-Ok-clause-played g c = inl (_, _, c.in-Ok.ensures.bytes, c.play_input.ensures.played)
