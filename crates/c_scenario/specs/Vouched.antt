-- What the log of a plant of readers says for itself, by its own bytes.
-- Source: docs/HEADLINE.md.
use Rattle.std.specs.Prelude.{ℕ, List}
use Rattle.irig_scene.specs.BrokenLogs.{VouchesUntilBroken}
use Rattle.irig_scene.specs.LogLines.{TellsTruth, VouchesForItself}
use Rattle.irig_scene.specs.VouchedByPorts.{VouchesByPorts}
use Rattle.irig_scene.specs.VouchedLines.{VouchesByPlantLine}

-- of the log of this text, or the beginning of it that stands in memory
pub record VouchesForReaders (text log : List ℕ) : Type 0 where
  -- if it ends in `premises kept`, each line above is true
  pub itself : VouchesForItself text log
  -- so by what the plant line says alone
  pub by_plant_line : VouchesByPlantLine text log
  -- if it ends in `premises broken: edge ..`, each line before that edge is
  pub until_broken : VouchesUntilBroken text log
  -- a line by a vote is true, unless the port line below it shows that most told one untrue claim
  pub by_ports : VouchesByPorts text log
  -- if the premises held, each line is
  pub truth : TellsTruth text log
