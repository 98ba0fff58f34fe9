-- What explains a refused line is of the refusal that the answer has; and who listened stands as the
-- player that it listened to.
use Rattle.std.proofs.Common.{◌≡◌, ℕ, Bool, List, Option, Some, None, Result, Ok, Err, refl, sym, subst, inl, inr}
use Rattle.std.specs.Prelude.{option_map}
use Rattle.std.proofs.lemmas.Option.{none-some}
use Rattle.irig_port.specs.declared.port.Port.{Ghosts}
use Rattle.text_faults.specs.declared.refusal.Refusal.{Refusal}
use Rattle.report_run.specs.declared.fault.SceneFault.{SceneFault}
use Rattle.report_run.specs.declared.fault.SceneFault.TheVariants.{Refused, Read, Write, Memory}
use Rattle.report_run.specs.Runs.{IsAt}
use Rattle.report_run.specs.Choice.{StandsForEither}
use Rattle.report_run.specs.declared.either.Either.{Either}
use Rattle.report_run.specs.declared.either.Either.TheVariants.{First, Second}
use Rattle.irig_scene.specs.declared.player.Player.{Player}
use Rattle.irig_scene.specs.ListenerRuns.{IsPlayerAt}
use Rattle.irig_scene.specs.Scene.{Scene}
use Rattle.irig_station_scene.specs.declared.player.StationPlayer.{StationPlayer}
use Rattle.irig_station_scene.specs.StationRuns.{IsStationPlayerAt}
use Rattle.irig_station_scene.specs.StationScenes.{StationScene}
use Rattle.irig_scenario.specs.declared.refused.WhyRefused.{WhyRefused}
use Rattle.irig_scenario.specs.AnyScenario.{AnyScene}
use Rattle.irig_scenario.specs.WhyRefused.{IsExplainedAs, explained_by, refusal_answered}

nothing_in : (is : Option WhyRefused) → option_map explained_by is ≡ None → is ≡ None
nothing_in None here = refl
nothing_in (Some why) here = absurd (none-some (explained_by why) (sym here))

-- what is made for the refusal of an answer explains it
pub explained : {O : Type 0} (r : Result O SceneFault) (is : Option WhyRefused) → option_map explained_by is ≡ refusal_answered r → IsExplainedAs r None is
explained (Err (Refused line refusal)) is here = here
explained (Ok o) is here = nothing_in is here
explained (Err Read) is here = nothing_in is here
explained (Err Write) is here = nothing_in is here
explained (Err Memory) is here = nothing_in is here

module _ {L M P : Type 0} {g : Ghosts P} (hears : Bool) (stands_for : L → Scene → Type 0) (stands_beside : M → StationScene → Type 0) where
  -- a player stands so
  abbrev pub PlayerIsAt : Option (Either (Player L P g) (StationPlayer M P g)) → Option AnyScene → Type 0
  PlayerIsAt r at = IsAt (StandsForEither (IsPlayerAt {L = L} {P = P} {g = g} stands_for) (IsStationPlayerAt {L = M} {P = P} {g = g} hears stands_beside)) r at

  -- who listened to readers
  pub of_readers : (r : Option (Either (Player L P g) (StationPlayer M P g))) (p : Player L P g) (l : L) (at : Option AnyScene) → r ≡ Some (First p) → l ≡ p.stage.listener
      → PlayerIsAt r at → IsAt (StandsForEither stands_for stands_beside) (Some (First l)) at
  of_readers r p l None is same stands = absurd (subst (λ r. PlayerIsAt r None) is stands)
  of_readers r p l (Some (inr y)) is same stands = absurd (subst (λ r. PlayerIsAt r (Some (inr y))) is stands)
  of_readers r p l (Some (inl x)) is same stands =
      let at = subst (λ r. PlayerIsAt r (Some (inl x))) is stands in
      subst (λ l. stands_for l x) (sym same) at.stage.listener

  -- and to devices
  pub of_devices : (r : Option (Either (Player L P g) (StationPlayer M P g))) (p : StationPlayer M P g) (l : M) (at : Option AnyScene) → r ≡ Some (Second p) → l ≡ p.listener
      → PlayerIsAt r at → IsAt (StandsForEither stands_for stands_beside) (Some (Second l)) at
  of_devices r p l None is same stands = absurd (subst (λ r. PlayerIsAt r None) is stands)
  of_devices r p l (Some (inl x)) is same stands = absurd (subst (λ r. PlayerIsAt r (Some (inl x))) is stands)
  of_devices r p l (Some (inr y)) is same stands =
      let at = subst (λ r. PlayerIsAt r (Some (inr y))) is stands in
      subst (λ l. stands_beside l y) (sym same) at.listener

  -- before the first line nobody does
  pub of_none : (r : Option (Either (Player L P g) (StationPlayer M P g))) (at : Option AnyScene) → r ≡ None → PlayerIsAt r at → IsAt (StandsForEither stands_for stands_beside) None at
  of_none r None is stands = tt
  of_none r (Some x) is stands = absurd (subst (λ r. PlayerIsAt r (Some x)) is stands)
