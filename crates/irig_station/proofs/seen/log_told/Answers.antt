use Rattle.std.proofs.Common.{◌≡◌, ◌∙◌, ℕ, ◌+◌, ◌<◌, List, [], ◌∷◌, ◌++◌, refl, append_assoc, length, get_or, map, take, ap}
use Rattle.std.proofs.lemmas.List.{get_or_default, take_all}
use Rattle.irig_simulated.specs.declared.told_second.ToldSecond.{ToldSecond}
use Rattle.irig_station.specs.declared.entry.Entry.{Entry}
use Rattle.irig_station.specs.declared.entry.Entry.TheVariants.{Told}
use Rattle.irig_station.proofs.HarmlessLaws.{map_more}
use Rattle.std.proofs.lemmas.List.Elements.{All-take}
use Rattle.irig_simulated.specs.ToldSeconds.{IsToldOfUtc}
use Rattle.irig_station.proofs.UtcEntries.{entries_told}
use Rattle.irig_station.proofs.seen.log_told.Goals as goal

abbrev entry : (r : ℕ) → ToldSecond → Entry
entry r told = Told r told

grown : (r : ℕ) (xs : List ToldSecond) (i : ℕ) (d : ToldSecond) (old now new : List Entry) → i < length xs → now ≡ old ++ map (entry r) (take i xs) → new ≡ now ++ (Told r (get_or xs i d) ∷ []) → new ≡ old ++ map (entry r) (take (i + 1) xs)
grown r xs i d old now new less is more =
    more
    ∙ ap (λ (l : List Entry). l ++ (Told r (get_or xs i d) ∷ [])) is
    ∙ (let e : (old ++ map (entry r) (take i xs)) ++ (Told r (get_or xs i d) ∷ []) ≡ old ++ (map (entry r) (take i xs) ++ (Told r (get_or xs i d) ∷ [])) = rw append_assoc refl in e)
    ∙ ap (λ (l : List Entry). old ++ l) (map_more (entry r) xs i (get_or xs i d) less (get_or_default xs i d (get_or xs i d) less))

pub loop-told-preserved : goal.loop-told-preserved
loop-told-preserved c =
    grown c.args.r c.args.seconds.now c.loop-told.told-index _ c.args.log.now.items c.loop-told.log.items c.push.new.self.items c.loop-told-test.true c.loop-told.invariant c.in_ok-push.ensures.items

pub returns-clause-logged : goal.returns-clause-logged
returns-clause-logged c =
    c.loop-told.invariant
    ∙ ap (λ (l : List ToldSecond). c.args.log.now.items ++ map (entry c.args.r) l) (take_all c.loop-told.told-index c.args.seconds.now c.loop-told-test.false)

pub returns-clause-valid : goal.returns-clause-valid
returns-clause-valid c = entries_told c.args.r c.args.log.now.items c.loop-told.log.items c.args.seconds.now (returns-clause-logged c) c.requires

pub returns-in_err-push-clause-valid : goal.returns-in_err-push-clause-valid
returns-in_err-push-clause-valid c =
    let front = take c.loop-told.told-index c.args.seconds.now in
    entries_told c.args.r c.args.log.now.items c.push.new.self.items front (c.in_err-push.ensures.items ∙ c.loop-told.invariant) (All-take IsToldOfUtc c.loop-told.told-index c.args.seconds.now c.requires)
