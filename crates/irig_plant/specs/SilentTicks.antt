-- A tick at which no port heard anything.
use Rattle.irig_port.specs.declared.told.Told.TheVariants as tells
use Rattle.irig_vote.specs.declared.votes.Tells.{Tells}

-- what the ports then tell
abbrev pub silent_ports : Tells
silent_ports = record {
  a = tells.Silence;
  b = tells.Silence;
  c = tells.Silence;
  d = tells.Silence;
  e = tells.Silence;
}
