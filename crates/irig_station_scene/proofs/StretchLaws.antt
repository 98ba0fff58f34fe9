-- A stretch of time that is played second by second: what is said of its parts is what is said of the
-- whole.
use Rattle.std.proofs.Common.{◌≡◌, ◌∙◌, ℕ, Bool, ◌-◌, ◌<◌, List, ◌∷◌, ◌++◌, Option, Some, None, Result, Ok, Err, refl, ap, sym, subst, inl, inr, append_assoc}
use Rattle.std.specs.Prelude.{◌⊎◌, option_and_then}
use Rattle.std.specs.Io.KnownBytes.{Appends}
use Rattle.std.proofs.KnownBytes.{Appends-trans}
use Rattle.irig_port.specs.declared.port.Port.{Ghosts}
use Rattle.irig_device.specs.Watched.{AppendsPart}
use Rattle.text_faults.specs.declared.refusal.Refusal.{Refusal}
use Rattle.irig_station.specs.declared.event.Event.{Event}
use Rattle.irig_station.specs.declared.event.Event.TheVariants.{Pass, Fault, Repair, Pull, Plug, Late, Pulse, Tick, Restart, Stamp}
use Rattle.irig_station.specs.declared.fault.StationFault.TheVariants.{EndOfYears}
use Rattle.irig_station.specs.Stations.{IsStationAt}
use Rattle.irig_station.specs.StationStandings.{StationStep, first_part}
use Rattle.irig_station.specs.StationPlay.{play_event}
use Rattle.irig_station.proofs.PartLaws.{EndsAtOnce, GoesOn, cut}
use Rattle.report_run.specs.declared.stop.Failure.{Failure}
use Rattle.report_run.specs.declared.stop.Stop.{Stop}
use Rattle.report_run.specs.declared.stop.Stop.TheVariants.{Refused, Failed}
use Rattle.report_run.specs.Meanings.{Next, Step, step_of_next}
use Rattle.report_run.specs.Runs.{TextMore, TextPart, Took}
use Rattle.report_run.specs.Texts.{Texts, text_of}
use Rattle.report_run.proofs.TakenLaws.{more_on, nothing_more}
use Rattle.irig_station_scene.specs.declared.player.StationPlayer.{StationPlayer}
use Rattle.irig_station_scene.specs.StationListening.{ReadsView, StationView, StaysBehind, view_of}
use Rattle.irig_station_scene.specs.StationRuns.{IsShort, IsStationPlayerAt}
use Rattle.irig_station_scene.specs.StationScenes.{StationScene, event_in_scene, refusal_of_fault, standing_in, station_scene}

-- ---- what was written

then_part : (a b : List ℕ) (o0 o1 o2 : Option (List ℕ)) → Appends o0 o1 a → AppendsPart o1 o2 b → AppendsPart o0 o2 (a ++ b)
then_part a b o0 o1 o2 h k = record {
  front = a ++ k.front;
  rest = k.rest;
  whole = ap (λ (l : List ℕ). a ++ l) k.whole ∙ sym (append_assoc a k.front k.rest);
  wrote = Appends-trans o0 o1 o2 _ _ h k.wrote;
}

longer_part : (a b : List ℕ) (old new : Option (List ℕ)) → AppendsPart old new a → AppendsPart old new (a ++ b)
longer_part a b old new h = record {
  front = h.front;
  rest = h.rest ++ b;
  whole = ap (λ (l : List ℕ). l ++ b) h.whole ∙ append_assoc h.front h.rest b;
  wrote = h.wrote;
}

-- ---- events that do the same

-- from these scenes of one plan they lead to the same step
module _ (x : StationScene) (ev : List Event) (e f : Event) (same : play_event x.plan.setup e (standing_in x) ≡ play_event x.plan.setup f (standing_in (station_scene x.plan ev))) where
  pub same_view : view_of (event_in_scene x e).scene ≡ view_of (event_in_scene (station_scene x.plan ev) f).scene
  same_view = ap (λ (step : StationStep). record { plan = x.plan; standing = step.standing }) same

  pub same_refusal : (event_in_scene x e).refusal ≡ (event_in_scene (station_scene x.plan ev) f).refusal
  same_refusal = ap (λ (step : StationStep). option_and_then refusal_of_fault step.refusal) same

-- a part in the present second, of what is left behind these events
module _ (x : StationScene) (ev : List Event) (left part : ℕ) where
  abbrev y : StationScene
  y = station_scene x.plan ev

  abbrev Ends : Type 0
  Ends = EndsAtOnce x.plan.setup left part (standing_in y)

  abbrev Goes : Type 0
  Goes = GoesOn x.plan.setup left part (standing_in y)

  -- it is accepted, or refused
  no_end : Ends → ¬ ((event_in_scene y (Pass part)).refusal ≡ None)
  no_end h accepted =
      let refused : (event_in_scene y (Pass part)).refusal ≡ refusal_of_fault EndOfYears = ap (λ (step : StationStep). option_and_then refusal_of_fault step.refusal) h.start in
      absurd cc

  not_refused : (k : Refusal) → Goes → ¬ ((event_in_scene y (Pass part)).refusal ≡ Some k)
  not_refused k h refused =
      let accepted : (event_in_scene y (Pass part)).refusal ≡ None = ap (option_and_then refusal_of_fault) h.accepted in
      absurd cc

module _ {L : Type 0} (hears : Bool) (stands_for : L → StationScene → Type 0) (t : Texts StationScene) (reads : ReadsView stands_for t.said) (first : List ℕ) where
  text_alike : (x y : StationScene) → view_of x ≡ view_of y → text_of t first (Some x) ≡ text_of t first (Some y)
  text_alike x y same = ap (λ (l : List ℕ). t.first first ++ l) (reads.says x y same)

  part_behind : (from at to : Option StationScene) (old mid new : Option (List ℕ)) → TextMore t first from at old mid → TextPart t first at to mid new → TextPart t first from to old new
  part_behind from at to old mid new h k = record {
    text = h.text ++ k.text;
    more = k.more ∙ ap (λ (l : List ℕ). l ++ k.text) h.more ∙ append_assoc (text_of t first from) h.text k.text;
    wrote = then_part h.text k.text old mid new h.wrote k.wrote;
  }

  module _ {P : Type 0} {g : Ghosts P} where
    abbrev At : StationPlayer L P g → StationScene → Type 0
    At p x = IsStationPlayerAt {L = L} {P = P} {g = g} hears stands_for p x

    -- ---- scenes that look alike

    player_alike : (p : StationPlayer L P g) (x y : StationScene) → view_of x ≡ view_of y → At p x → At p y
    player_alike p x y same at = record {
      shown = at.shown;
      stands = record {
        station = subst (λ (v : StationView). IsStationAt p.station v.plan.setup v.standing at.shown) same at.stands.station;
        named = at.stands.named ∙ ap (λ (v : StationView). v.plan.names) same;
      };
      keeps = at.keeps;
      listener = reads.stands p.listener x y same at.listener;
    }

    -- what leads to one leads to the other
    took_alike : (r : Result (Unit {0}) Stop) (from : Option StationScene) (m n : Next StationScene) (p : StationPlayer L P g) (old new : Option (List ℕ)) → view_of m.scene ≡ view_of n.scene → m.refusal ≡ n.refusal
        → Took (At) t r (step_of_next m) first from (Some p) old new → Took (At) t r (step_of_next n) first from (Some p) old new
    took_alike (Ok done) from m n p old new same refusal h = record {
      refused = sym refusal ∙ h.refused;
      stands = player_alike p m.scene n.scene same h.stands;
      grew = record { text = h.grew.text; more = sym (text_alike m.scene n.scene same) ∙ h.grew.more; wrote = h.grew.wrote };
    }
    took_alike (Err (Refused k)) from m n p old new same refusal h = record {
      refused = sym refusal ∙ h.refused;
      stands = player_alike p m.scene n.scene same h.stands;
      grew = record { text = h.grew.text; more = sym (text_alike m.scene n.scene same) ∙ h.grew.more; wrote = h.grew.wrote };
    }
    took_alike (Err (Failed f)) from m n p old new same refusal h = record { text = h.text; more = sym (text_alike m.scene n.scene same) ∙ h.more; wrote = h.wrote }

    -- behind what was written before
    took_behind : (r : Result (Unit {0}) Stop) (from at : Option StationScene) (step : Step StationScene) (p : StationPlayer L P g) (old mid new : Option (List ℕ)) → TextMore t first from at old mid
        → Took (At) t r step first at (Some p) mid new → Took (At) t r step first from (Some p) old new
    took_behind (Ok done) from at step p old mid new before h = record { refused = h.refused; stands = h.stands; grew = more_on t first from at step.scene old mid new before h.grew }
    took_behind (Err (Refused k)) from at step p old mid new before h = record { refused = h.refused; stands = h.stands; grew = more_on t first from at step.scene old mid new before h.grew }
    took_behind (Err (Failed f)) from at step p old mid new before h = part_behind from at step.scene old mid new before h

    -- ---- a stretch, of which so much is left

    -- what was played of it leads to a scene from which the rest leads where the whole does
    pub record HasPassed (us left : ℕ) (x : StationScene) (p : StationPlayer L P g) (old new : Option (List ℕ)) : Type 0 where
      pub events : List Event
      pub rest : play_event x.plan.setup (Pass us) (standing_in x) ≡ play_event x.plan.setup (Pass left) (standing_in (station_scene x.plan events))
      pub stands : At p (station_scene x.plan events)
      pub grew : TextMore t first (Some x) (Some (station_scene x.plan events)) old new

    pub none_passed : (us : ℕ) (x : StationScene) (p : StationPlayer L P g) (out : Option (List ℕ)) → At p x → HasPassed us us x p out out
    none_passed us x p out at = record { events = x.events; rest = refl; stands = at; grew = nothing_more t first (Some x) out }

    pub all_passed : (us : ℕ) (x : StationScene) (p : StationPlayer L P g) (old new : Option (List ℕ)) → HasPassed us 0 x p old new
        → Took (At) t (Ok tt) (step_of_next (event_in_scene x (Pass us))) first (Some x) (Some p) old new
    all_passed us x p old new h =
        let end = (event_in_scene x (Pass us)).scene in
        let view : view_of (station_scene x.plan h.events) ≡ view_of end = sym (same_view x h.events (Pass us) (Pass 0) h.rest) in
        record {
          refused = same_refusal x h.events (Pass us) (Pass 0) h.rest;
          stands = player_alike p (station_scene x.plan h.events) end view h.stands;
          grew = record { text = h.grew.text; more = sym (text_alike (station_scene x.plan h.events) end view) ∙ h.grew.more; wrote = h.grew.wrote };
        }

    module _ (stays : StaysBehind t.said) (us left part : ℕ) (x : StationScene) (ev : List Event) (p : StationPlayer L P g) (old mid new : Option (List ℕ))
        (rest : play_event x.plan.setup (Pass us) (standing_in x) ≡ play_event x.plan.setup (Pass left) (standing_in (station_scene x.plan ev))) (grew : TextMore t first (Some x) (Some (station_scene x.plan ev)) old mid) where
      abbrev TookPart : Result (Unit {0}) Stop → Type 0
      TookPart r = Took (At) t r (step_of_next (event_in_scene (station_scene x.plan ev) (Pass part))) first (Some (station_scene x.plan ev)) (Some p) mid new

      abbrev TookAll : Result (Unit {0}) Stop → Type 0
      TookAll r = Took (At) t r (step_of_next (event_in_scene x (Pass us))) first (Some x) (Some p) old new

      -- the whole is refused as its part
      ends_as : (r : Result (Unit {0}) Stop) → Ends x ev left part → TookPart r → TookAll r
      ends_as r h took =
          let same = rest ∙ h.whole ∙ sym h.start in
          took_behind r (Some x) (Some (station_scene x.plan ev)) (step_of_next (event_in_scene x (Pass us))) p old mid new grew
          (took_alike r (Some (station_scene x.plan ev)) (event_in_scene (station_scene x.plan ev) (Pass part)) (event_in_scene x (Pass us)) p mid new
          (sym (same_view x ev (Pass us) (Pass part) same)) (sym (same_refusal x ev (Pass us) (Pass part) same)) took)

      -- something failed, and there was more to say
      fails_as : (f : Failure) → Goes x ev left part → TookPart (Err (Failed f)) → TookAll (Err (Failed f))
      fails_as f h took =
          let z = station_scene x.plan (Pass part ∷ ev) in
          let end = (event_in_scene x (Pass us)).scene in
          let front = stays z (Pass (left - part)) in
          let same = text_alike end (event_in_scene z (Pass (left - part))).scene (same_view x (Pass part ∷ ev) (Pass us) (Pass (left - part)) (rest ∙ h.rest)) in
          part_behind (Some x) (Some (station_scene x.plan ev)) (Some end) old mid new grew (record {
            text = took.text ++ front.0;
            more = same ∙ ap (λ (l : List ℕ). t.first first ++ l) front.1 ∙ sym (append_assoc (t.first first) (t.said z) front.0) ∙ ap (λ (l : List ℕ). l ++ front.0) took.more
                ∙ append_assoc (text_of t first (Some (station_scene x.plan ev))) took.text front.0;
            wrote = longer_part took.text front.0 mid new took.wrote;
          })

      stops_by : (stop : Stop) → Ends x ev left part ⊎ Goes x ev left part → TookPart (Err stop) → TookAll (Err stop)
      stops_by stop (inl h) took = ends_as (Err stop) h took
      stops_by (Refused k) (inr h) took = absurd (not_refused x ev left part k h took.refused)
      stops_by (Failed f) (inr h) took = fails_as f h took

      passes_by : Ends x ev left part ⊎ Goes x ev left part → TookPart (Ok tt) → HasPassed us (left - part) x p old new
      passes_by (inl h) took = absurd (no_end x ev left part h took.refused)
      passes_by (inr h) took = record {
        events = Pass part ∷ ev;
        rest = rest ∙ h.rest;
        stands = took.stands;
        grew = more_on t first (Some x) (Some (station_scene x.plan ev)) (Some (station_scene x.plan (Pass part ∷ ev))) old mid new grew took.grew;
      }

    module _ (stays : StaysBehind t.said) (us left part : ℕ) (some : 0 < left) (x : StationScene) (p q : StationPlayer L P g) (old mid new : Option (List ℕ)) (h : HasPassed us left x p old mid)
        (is : part ≡ first_part left (standing_in (station_scene x.plan h.events))) where
      -- a part was refused, or something failed
      pub part_stops : (stop : Stop) → TookPart stays us left part x h.events q old mid new h.rest h.grew (Err stop) → TookAll stays us left part x h.events q old mid new h.rest h.grew (Err stop)
      part_stops stop took = stops_by stays us left part x h.events q old mid new h.rest h.grew stop (cut x.plan.setup h.events left part some is) took

      -- it passed
      pub part_passes : TookPart stays us left part x h.events q old mid new h.rest h.grew (Ok tt) → HasPassed us (left - part) x q old new
      part_passes took = passes_by stays us left part x h.events q old mid new h.rest h.grew (cut x.plan.setup h.events left part some is) took

-- ---- what is played at once

pub short : (e : Event) → ((us : ℕ) → ¬ (e ≡ Pass us)) → IsShort e
short (Pass us) other = absurd (other us refl)
short (Fault g kind) other = tt
short (Repair g) other = tt
short (Pull g r) other = tt
short (Plug g r) other = tt
short (Late g r us) other = tt
short (Pulse g r width) other = tt
short (Tick r) other = tt
short (Restart r) other = tt
short (Stamp r ago) other = tt
