-- Each first line is read by one crate alone: what is a plant line of version 4 is refused as any other,
-- and no other is a station's.
use Rattle.std.proofs.Common.{◌≡◌, ℕ, ℤ, pos, negsuc, Bool, true, false, List, Option, Some, None, Result, Ok, Err, refl, rules, codes}
use Rattle.serde_json.specs.Data.{Data}
use Rattle.serde_json.specs.Data as value
use Rattle.serde_json.specs.Find.{as_object}
use Rattle.text_faults.specs.declared.refusal.Refusal.{Refusal}
use Rattle.text_faults.specs.declared.refusal.Refusal.TheVariants as refusal
use Rattle.text_faults.specs.Refusals.{or_else, holds_or, ◌>>=◌}
use Rattle.scenario_json.specs.Json.{json_of, whole_at, is_there}
use Rattle.scenario_values.specs.declared.plant_shape.Version.{Version}
use Rattle.scenario_values.specs.PlantShape.{version_of}
use Rattle.scenario_line.specs.PlantLine.{Plan, plan_in_object, plan_in_line}
use Rattle.scenario_line.proofs.NamesAndTimes.{step_of, found_is}
use Rattle.scenario_devices.specs.StationLine.{is_four, has_version_four, is_station_line, StationPlan, station_in_object, station_in_line}

-- ---- a line of version 4 is no plant line of readers

no_version : (z : ℤ) → is_four z ≡ true → version_of z ≡ None
no_version (pos n) h = let four : n ≡ 4 = search rules in rw four refl
no_version (negsuc n) h = absurd cc

with_number : (o : Option ℤ) (next : ℤ → Version → Result Plan Refusal) → is_there is_four o ≡ true → (or_else refusal.Shape o >>= (λ number. or_else refusal.Version (version_of number) >>= next number)) ≡ Err refusal.Version
with_number None next h = absurd cc
with_number (Some z) next h = rw (no_version z h) refl

in_object : (d : Data) → has_version_four d ≡ true → plan_in_object d ≡ Err refusal.Version
unfolding plan_in_object whole_at
in_object value.null h = absurd cc
in_object (value.boolean b) h = absurd cc
in_object (value.number n) h = absurd cc
in_object (value.string t) h = absurd cc
in_object (value.array ds) h = absurd cc
in_object (value.object ms) h = with_number (whole_at (codes "version") (value.object ms)) _ h

in_json : (o : Option Data) → is_there has_version_four o ≡ true → (or_else refusal.Json o >>= plan_in_object) ≡ Err refusal.Version
in_json None h = absurd cc
in_json (Some d) h = in_object d h

pub no_plant_line : (line : List ℕ) → is_station_line line ≡ true → plan_in_line line ≡ Err refusal.Version
unfolding is_station_line plan_in_line
no_plant_line line h = in_json (json_of line) h

-- ---- a station is of a line of version 4

held : (k : Refusal) (b : Bool) (u : Unit {0}) → holds_or k b ≡ Ok u → b ≡ true
held k true u e = refl
held k false u e = absurd cc

of_object : (d : Data) (plan : StationPlan) → station_in_object d ≡ Ok plan → has_version_four d ≡ true
unfolding station_in_object
of_object d plan e =
    step_of _ (or_else refusal.Shape (as_object d)) plan e (λ object is e1.
    step_of _ (or_else refusal.Shape (whole_at (codes "version") d)) plan e1 (λ number read e2.
    step_of _ (holds_or refusal.Version (is_four number)) plan e2 (λ known four rest.
    rw (found_is refusal.Shape (whole_at (codes "version") d) number read) (held refusal.Version (is_four number) known four))))

of_json : (o : Option Data) (plan : StationPlan) → (or_else refusal.Json o >>= station_in_object) ≡ Ok plan → is_there has_version_four o ≡ true
of_json None plan e = absurd cc
of_json (Some d) plan e = of_object d plan e

pub no_other_station : (line : List ℕ) (plan : StationPlan) → station_in_line line ≡ Ok plan → is_station_line line ≡ true
unfolding station_in_line is_station_line
no_other_station line plan e = of_json (json_of line) plan e
