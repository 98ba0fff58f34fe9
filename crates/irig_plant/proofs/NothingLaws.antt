-- A carry of a generator that sends nothing leaves each reader as it was.
use Rattle.std.proofs.Common.{◌≡◌, ◌<◌, ◌∙◌, ℕ, arith, Bool, true, false, List, [], ◌∷◌, ◌++◌, cond, eqb, length, Some, refl, ap, sym}
use Rattle.std.specs.Prelude.{◌==◌, ◌&&◌, slice_index_or}
use Rattle.std.proofs.lemmas.List.{append-nil}
use Rattle.std.proofs.lemmas.Bool.{ne_eqb}
use Rattle.irig_reader.proofs.FedLaws.{none_heard}
use Rattle.irig_port.specs.declared.port.Port.{Ghosts}
use Rattle.irig_port.specs.Heard.{symbols_heard}
use Rattle.irig_plant.specs.declared.event.Event.{Event}
use Rattle.irig_plant.specs.declared.event.Event.TheVariants.{Carry}
use Rattle.irig_plant.specs.declared.plant.Plant.{Plant}
use Rattle.irig_plant.specs.declared.plant.TickedReader.{TickedReader}
use Rattle.irig_plant.specs.Schedule.{Setup, delivery, delivery_of, pulses_sent, heard_at, history_of}
use Rattle.irig_plant.specs.History.{PlantHistory, HasPlantHistory, with_event, IsTickedReaderAt}
use Rattle.irig_plant.proofs.StepLaws.{delivers, heard_is}

-- pulses of which nothing is heard are none
pub none_sent : (ws : List ℕ) → (length (symbols_heard ws) == 0) ≡ true → ws ≡ []
none_sent [] h = refl
none_sent (w ∷ ws) h =
    let some : eqb (length (w ∷ ws)) 0 ≡ false = ne_eqb (length (w ∷ ws)) 0 (λ z. omega (arith, z)) in
    let none : eqb (length (w ∷ ws)) 0 ≡ true = sym (none_heard (w ∷ ws)) ∙ h in
    absurd cc

either_way : (b : Bool) (ws : List ℕ) → cond b (ws ++ []) ws ≡ ws
either_way true ws = append-nil ws
either_way false ws = refl

nothing_heard : (s : Setup) (ev : List Event) (k i r p : ℕ) → delivery_of s (Carry k i) ev ≡ Some (delivery k i []) → heard_at s r p (Carry k i ∷ ev) ≡ heard_at s r p ev
nothing_heard s ev k i r p given = heard_is s (Carry k i) ev (delivery k i []) r p given ∙ either_way ((i == r) && (k == p)) (heard_at s r p ev)

same_history : (s : Setup) (ev : List Event) (k i r : ℕ) → delivery_of s (Carry k i) ev ≡ Some (delivery k i []) → history_of s r (Carry k i ∷ ev) ≡ history_of s r ev
same_history s ev k i r given =
    let votes = (delivers s (Carry k i) ev (delivery k i []) given).votes r in
    let heard : (p : ℕ) → heard_at s r p (Carry k i ∷ ev) ≡ heard_at s r p ev = λ p. nothing_heard s ev k i r p given in
    rw (votes, heard 0, heard 1, heard 2, heard 3, heard 4) refl

module _ {P : Type 0} {g : Ghosts P} where
  reader_stays : (s : Setup) (ev : List Event) (k i r : ℕ) (x : TickedReader P g) → delivery_of s (Carry k i) ev ≡ Some (delivery k i []) → IsTickedReaderAt s ev r x → IsTickedReaderAt s (Carry k i ∷ ev) r x
  reader_stays s ev k i r x given old = rw (same_history s ev k i r given, (delivers s (Carry k i) ev (delivery k i []) given).ticks r) old

  pub nothing_comes : (p : Plant P g) (h : PlantHistory) (k i : ℕ) → pulses_sent h.setup k h.events ≡ [] → HasPlantHistory p h → HasPlantHistory p (with_event (Carry k i) h)
  nothing_comes p h k i none x =
      let s = h.setup in
      let ev = h.events in
      let given : delivery_of s (Carry k i) ev ≡ Some (delivery k i []) = ap (λ ws. Some (delivery k i ws)) none in
      let readers = λ (r : ℕ) (d : TickedReader P g) (low : r < length s.readers). reader_stays s ev k i r (slice_index_or p.readers.items r d) given (x.readers r d low) in
      assumption (x, readers)
