-- What some short lists of events say, to pin the definitions to examples worked by hand. Newest
-- events come first.
use Rattle.std.proofs.Common.{◌≡◌, ◌+◌, true, false, [], ◌∷◌, Some, None, refl, arith}
use Rattle.irig_time.specs.declared.claim.Claim.{Claim}
use Rattle.irig_time.specs.declared.mark.Mark.TheVariants.{Unspoken, NoLeap}
use Rattle.irig_port.specs.declared.told.Told.TheVariants as tells
use Rattle.irig_frame.specs.declared.symbol.Symbol.TheVariants.{Zero, One, Marker}
use Rattle.irig_gen.specs.declared.fault.GenFault.TheVariants.{Silent, Stuck}
use Rattle.irig_plant.specs.declared.event.Event.TheVariants.{GenEdge, Tick, Raw, Fault, Repair, Restart}
use Rattle.irig_plant.specs.declared.audit.Audit.TheVariants.{Kept, Broken, FalseTable}
use Rattle.irig_plant.specs.Widths.{widths_of, with_damage}
use Rattle.irig_plant.specs.Schedule.{Setup, generator_at, heard_at, ticks_of}
use Rattle.irig_plant.specs.Runs.{events_after}
use Rattle.irig_plant.specs.Audits.{tick_of_reader, verdict}
use Rattle.irig_plant.specs.Edges.{is_carried, is_voted_now, is_voted, is_restarted}

-- of any plant
module _ (s : Setup) where
  -- a reader's edge counts its own ticks, restarts or not
  ticks : ticks_of 0 (Tick 0 ∷ Restart 0 ∷ Tick 1 ∷ Tick 0 ∷ []) ≡ 2
  ticks = refl

  -- what comes to a port adds up
  heard : heard_at s 0 1 (Raw 1 0 (5000 ∷ []) ∷ Raw 1 0 (2000 ∷ 8000 ∷ []) ∷ []) ≡ 2000 ∷ 8000 ∷ 5000 ∷ []
  heard = refl

  -- up to the last tick or restart of its reader
  heard_since_tick : heard_at s 0 1 (Raw 1 0 (5000 ∷ []) ∷ Tick 0 ∷ Raw 1 0 (2000 ∷ []) ∷ []) ≡ 5000 ∷ []
  heard_since_tick = refl

  heard_since_restart : heard_at s 0 1 (Restart 0 ∷ Raw 1 0 (2000 ∷ []) ∷ []) ≡ []
  heard_since_restart = refl

  -- but not that of another, nor what comes to another port or reader
  heard_alone : heard_at s 0 1 (Restart 1 ∷ Raw 2 0 (5000 ∷ []) ∷ Raw 1 1 (8000 ∷ []) ∷ Tick 1 ∷ Raw 1 0 (2000 ∷ []) ∷ []) ≡ 2000 ∷ []
  heard_alone = refl

module _ (s : Setup) where
  -- a generator is an edge further for each of its steps; a stuck one remembers where it got stuck
  steps : (generator_at s 3 (GenEdge 3 ∷ GenEdge 2 ∷ GenEdge 3 ∷ [])).edge ≡ (generator_at s 3 []).edge + 2
  steps = omega arith

  stuck : (generator_at s 3 (GenEdge 3 ∷ Fault 3 Stuck ∷ [])).since ≡ (generator_at s 3 []).edge
  stuck = refl

  last_fault : (generator_at s 3 (Fault 3 Stuck ∷ Fault 2 Silent ∷ Fault 3 Silent ∷ [])).fault ≡ Some Stuck
  last_fault = refl

  repaired : (generator_at s 3 (Repair 2 ∷ Repair 3 ∷ Fault 3 Silent ∷ [])).fault ≡ None
  repaired = refl

-- the pulses of a marker, a one and a zero, and of no frame
widths : widths_of (Some (Marker ∷ One ∷ Zero ∷ [])) ≡ 8000 ∷ 5000 ∷ 2000 ∷ []
widths = refl

no_widths : widths_of None ≡ []
no_widths = refl

-- one element is damaged, and none past the last
one_damaged : with_damage 1 100 (8000 ∷ 5000 ∷ 2000 ∷ []) ≡ 8000 ∷ 100 ∷ 2000 ∷ []
one_damaged = refl

none_damaged : with_damage 3 100 (8000 ∷ 5000 ∷ 2000 ∷ []) ≡ 8000 ∷ 5000 ∷ 2000 ∷ []
none_damaged = refl

-- a run adds its events, the last one newest
run_adds : events_after (Tick 0 ∷ Restart 0 ∷ []) (Tick 1 ∷ []) ≡ Restart 0 ∷ Tick 0 ∷ Tick 1 ∷ []
run_adds = refl

-- a false table goes before a broken tick
table_first : verdict (Some 1) (Some (tick_of_reader 0 3)) ≡ FalseTable 1
table_first = refl

broken_next : verdict None (Some (tick_of_reader 0 3)) ≡ Broken 0 3
broken_next = refl

kept_last : verdict None None ≡ Kept
kept_last = refl

-- ---- edges

-- a restart falls after the tick before it
restarted_after_1 : is_restarted 0 (Tick 0 ∷ Restart 0 ∷ Tick 1 ∷ Tick 0 ∷ []) 1 ≡ true
restarted_after_1 = refl

not_restarted_after_2 : is_restarted 0 (Tick 0 ∷ Restart 0 ∷ Tick 1 ∷ Tick 0 ∷ []) 2 ≡ false
not_restarted_after_2 = refl

other_not_restarted : is_restarted 1 (Tick 0 ∷ Restart 0 ∷ Tick 1 ∷ Tick 0 ∷ []) 1 ≡ false
other_not_restarted = refl

-- an edge is voted by what was heard before its own tick; there is no edge 0
module _ (s : Setup) where
  voted_at_2 : is_voted s 0 (Tick 0 ∷ Tick 1 ∷ Tick 0 ∷ []) 2 ≡ is_voted_now s 0 (Tick 1 ∷ Tick 0 ∷ [])
  voted_at_2 = refl

  voted_at_1 : is_voted s 0 (Tick 0 ∷ Tick 1 ∷ Tick 0 ∷ []) 1 ≡ is_voted_now s 0 []
  voted_at_1 = refl

  not_voted_at_0 : is_voted s 0 (Tick 0 ∷ []) 0 ≡ false
  not_voted_at_0 = refl

  not_voted_at_3 : is_voted s 0 (Tick 0 ∷ Tick 0 ∷ []) 3 ≡ false
  not_voted_at_3 = refl

abbrev noon : Claim
noon = record { at = record { day = 100; sod = 43200 }; mark = Unspoken }

-- two of three ports carry it; second and mark both count
carried_by_two : is_carried 1 (tells.Claim noon ∷ tells.Silence ∷ tells.Claim noon ∷ []) (Some noon) ≡ true
carried_by_two = refl

not_carried_by_one : is_carried 1 (tells.Claim noon ∷ tells.Silence ∷ tells.Claim (record noon { mark = NoLeap }) ∷ []) (Some noon) ≡ false
not_carried_by_one = refl
