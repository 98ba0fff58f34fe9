-- What it is for the symbols of a frame to carry a claim: the frame reads as a time, has the
-- parity, its straight binary seconds agree if they are compared, its quality has a vote, and
-- its time and leap bits claim this.
use Rattle.std.specs.Prelude.{◌≡◌, ◌+◌, ◌*◌, ◌<◌, ◌≤◌, List, Ok}
use Rattle.irig_frame.specs.declared.symbol.Symbol.{Symbol}
use Rattle.irig_frame.specs.declared.coded.Coded.{Coded}
use Rattle.irig_frame.specs.Decoder.{Reads}
use Rattle.irig_control.specs.Control.{control_of}
use Rattle.irig_control.specs.Parity.{HasParity}
use Rattle.irig_time.specs.declared.rules.Rules.{Rules}
use Rattle.irig_time.specs.declared.rules.SbsUse.{SbsUse}
use Rattle.irig_time.specs.declared.rules.SbsUse.TheVariants.{Check, Ignore}
use Rattle.irig_time.specs.declared.claim.Claim.{Claim}
use Rattle.irig_time.specs.Claims.{claim_by}

-- the straight binary seconds are those of the coded time, if they are compared: never at second
-- 60
abbrev pub SbsAgrees : SbsUse → Coded → Type 0
SbsAgrees Check c = c.second < 60 → c.sbs ≡ 3600 * c.hour + 60 * c.minute + c.second
SbsAgrees Ignore c = Unit {0}

-- the symbols carry the claim; quality 0 to 9 has a vote, and 10 to 15 none
pub record Carries (rules : Rules) (s : List Symbol) (claim : Claim) : Type 0 where
  pub coded : Coded
  pub reads : Reads s coded
  pub parity : HasParity rules.parity s
  pub sbs : SbsAgrees rules.sbs coded
  pub quality : (control_of coded.control).quality ≤ 9
  pub claims : claim_by rules.sense coded (control_of coded.control) ≡ Ok claim
