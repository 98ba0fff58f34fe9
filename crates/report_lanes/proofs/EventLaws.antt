-- What a drawer makes of an event that the plant has taken.
use Rattle.std.proofs.Common.{◌≡◌, ℕ, ◌<◌, List, [], ◌∷◌, ◌++◌, length, Some, None, refl, sym, ap, ◌∙◌, subst, arith, append-nil}
use Rattle.std.specs.Prelude.{All, slice_index_or, vec_len}
use Rattle.irig_plant.specs.declared.event.Event.{Event}
use Rattle.irig_plant.specs.declared.event.Event.TheVariants.{GenEdge, Tick, Carry, Damage, Replay, Raw, Fault, Repair, Restart}
use Rattle.irig_plant.specs.Refusals.{refusal}
use Rattle.irig_plant.specs.Schedule.{Setup}
use Rattle.irig_scene.specs.Scene.{Scene, scene}
use Rattle.report_found.specs.declared.tick.Tick.{Tick as TickOf}
use Rattle.report_found.specs.Books.{ticks_at, with_tick}
use Rattle.report_found.specs.Findings.{lists_below}
use Rattle.report_found.proofs.BookLaws.{latest, the_tick, no_tick, known_reader, one_more}
use Rattle.report_found.proofs.GrowLaws.{lists_alike}
use Rattle.report_lanes.specs.declared.drawer.Drawer.{Drawer}
use Rattle.report_lanes.specs.declared.reader.ReaderLanes.{ReaderLanes}
use Rattle.report_lanes.specs.Lanes.{open_of, ended_lanes, open_lanes}
use Rattle.report_lanes.specs.OpenLanes.{AreOpen}
use Rattle.report_lanes.specs.Runs.{AreOpenAt, IsDrawerAt}
use Rattle.report_lanes.specs.Scenes.{open_at, ended_at, ended_by_event, all_ended, all_open}
use Rattle.report_lanes.proofs.LaneLaws.{same_lanes}

-- ---- a new plant

pub begins_at : (d : Drawer) (x : Scene) → x.events ≡ [] → vec_len d.readers ≡ length x.plan.setup.readers → All (λ (o : ReaderLanes). o ≡ open_of []) d.readers.items
    → d.ports ≡ length x.plan.setup.generators → d.lanes.items ≡ [] → IsDrawerAt d x
begins_at d x begun count new ports none = record {
  readers = subst (λ ev. AreOpenAt d x.plan.setup ev) (sym begun) (record { count = count; each = λ r o lt. new r o (omega (arith, lt, count, d.readers.ok.0)) });
  ports = ports;
  ended = none ∙ sym (ap (all_ended x.plan.setup) begun);
}

-- ---- an event

-- what is open stays, and nothing has ended
record IsQuiet (d : Drawer) (x : Scene) (e : Event) : Type 0 where
  pub readers : AreOpenAt d x.plan.setup (e ∷ x.events)
  pub nothing : ended_by_event x.plan.setup e x.events ≡ []

module _ (d : Drawer) (x : Scene) (e : Event) (at : IsDrawerAt d x) where
  -- ---- no tick

  quiet : (e : Event) → None ≡ latest x.plan.setup e x.events → IsQuiet d x e
  quiet (Tick r) none = absurd (no_tick x.plan.setup r x.events none)
  quiet (GenEdge g) none = record { readers = record { count = at.readers.count; each = at.readers.each }; nothing = refl }
  quiet (Carry g r) none = record { readers = record { count = at.readers.count; each = at.readers.each }; nothing = refl }
  quiet (Damage g r place width) none = record { readers = record { count = at.readers.count; each = at.readers.each }; nothing = refl }
  quiet (Replay g r edge) none = record { readers = record { count = at.readers.count; each = at.readers.each }; nothing = refl }
  quiet (Raw g r widths) none = record { readers = record { count = at.readers.count; each = at.readers.each }; nothing = refl }
  quiet (Fault g kind) none = record { readers = record { count = at.readers.count; each = at.readers.each }; nothing = refl }
  quiet (Repair g) none = record { readers = record { count = at.readers.count; each = at.readers.each }; nothing = refl }
  quiet (Restart r) none = record { readers = record { count = at.readers.count; each = at.readers.each }; nothing = refl }

  pub goes_on : None ≡ latest x.plan.setup e x.events → IsDrawerAt d (scene x.plan (e ∷ x.events))
  goes_on none = record {
    readers = (quiet e none).readers;
    ports = at.ports;
    ended = at.ended ∙ sym (ap (λ l. all_ended x.plan.setup x.events ++ l) (quiet e none).nothing ∙ append-nil (all_ended x.plan.setup x.events));
  }

  -- ---- a tick

  pub stands_after : (q : Drawer) (t : TickOf) → refusal x.plan.setup e x.events ≡ None → Some t ≡ latest x.plan.setup e x.events → q.ports ≡ d.ports
      → ((n : ℕ) (ticks : ℕ → List TickOf) → AreOpen d n ticks → t.entry.reader < n
      → q.lanes.items ≡ d.lanes.items ++ ended_lanes d.ports (open_of (ticks t.entry.reader)) t)
      → ((n : ℕ) (ticks : ℕ → List TickOf) → AreOpen d n ticks → t.entry.reader < n → AreOpen q n (with_tick t ticks))
      → IsDrawerAt q (scene x.plan (e ∷ x.events))
  stands_after q t accepted some ports lanes stays =
      let s = x.plan.setup in
      let is = the_tick s e x.events t some in
      let r = is.reader in
      let known = known_reader s r x.events (ap (λ e. refusal s e x.events) (sym is.is) ∙ accepted) in
      let before : ℕ → List TickOf = λ r. ticks_at s r x.events in
      let low : t.entry.reader < length s.readers = omega (arith, known, ap (λ (t : TickOf). t.entry.reader) is.same) in
      record {
        readers = subst (λ e. AreOpenAt q s (e ∷ x.events)) (sym is.is)
            (same_lanes q (length s.readers) (with_tick t before) (λ r. ticks_at s r (Tick is.reader ∷ x.events))
            (λ r. ap (λ (t : TickOf). with_tick t before r) is.same ∙ one_more s is.reader x.events r)
            (stays (length s.readers) before at.readers low));
        ports = ports ∙ at.ports;
        ended = lanes (length s.readers) before at.readers low
            ∙ ap (λ (t : TickOf). d.lanes.items ++ ended_lanes d.ports (open_of (ticks_at s t.entry.reader x.events)) t) is.same
            ∙ ap (λ l. l ++ ended_at s d.ports r x.events) at.ended
            ∙ ap (λ n. all_ended s x.events ++ ended_at s n r x.events) at.ports
            ∙ ap (λ e. all_ended s x.events ++ ended_by_event s e x.events) (sym is.is);
      }

-- ---- what is left

-- all that is open
pub open_is : (d : Drawer) (x : Scene) → IsDrawerAt d x
    → lists_below (λ r. open_lanes d.ports (slice_index_or d.readers.items r (open_of []))) (vec_len d.readers) ≡ all_open x.plan.setup x.events
open_is d x at =
    ap (lists_below (λ r. open_lanes d.ports (slice_index_or d.readers.items r (open_of [])))) at.readers.count
    ∙ lists_alike (λ r. open_lanes d.ports (slice_index_or d.readers.items r (open_of [])))
    (λ r. open_lanes (length x.plan.setup.generators) (open_at x.plan.setup x.events r)) (length x.plan.setup.readers)
    (λ r lt.
    ap (λ ports. open_lanes ports (slice_index_or d.readers.items r (open_of []))) at.ports
    ∙ ap (λ (o : ReaderLanes). open_lanes (length x.plan.setup.generators) o) (at.readers.each r (open_of []) lt))
