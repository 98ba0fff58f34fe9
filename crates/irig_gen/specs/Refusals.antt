-- What is wrong with the zones of a generator.
-- Source: this project's profile (docs/FAULTS.md, 15 and 16).
use Rattle.std.specs.Prelude.{◌≡◌, if◌then◌else◌, List, Option, Some, None}
use Rattle.irig_gen.specs.declared.zone.Zone.{Zone}
use Rattle.irig_gen.specs.declared.zone.Change.{Change}
use Rattle.irig_gen.specs.declared.generator.GenRefusal.{GenRefusal}
use Rattle.irig_gen.specs.declared.generator.GenRefusal.TheVariants.{Offset, Changes}
use Rattle.irig_gen.specs.Zones.{all_fit, in_order}
use Rattle.irig_gen.specs.Frames.{GeneratorValue}

-- why there is no such generator: first its offsets, then its changes
abbrev pub gen_refusal : Zone → List Change → Option GenRefusal
gen_refusal zone changes =
    if all_fit zone changes then (if in_order 0 changes then None else Some Changes)
    else Some Offset

-- nothing is wrong with its zones
pub record IsGenerator (g : GeneratorValue) : Type 0 where
  pub sound : gen_refusal g.zone g.changes ≡ None
