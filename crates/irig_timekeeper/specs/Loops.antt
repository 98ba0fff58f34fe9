-- Loops that call a device: one that ticks at least so often, and one that ticks when `wait` says.
-- Source: this project's profile; c/irig.h.
use Rattle.std.specs.Prelude.{◌≡◌, ℕ, ◌+◌, ◌%◌, ◌^◌, ◌<◌, ◌≤◌, ◌==◌, nat_le, min, if◌then◌else◌, List, [], ◌∷◌, ◌++◌, ⊤}
use Rattle.irig_sync.specs.Lines.{Pulse}
use Rattle.irig_time.specs.declared.rules.Rules.{Rules}
use Rattle.irig_time.specs.Timelines.{TimelineValue}
use Rattle.irig_vote.specs.Vote.{f_of}
use Rattle.irig_timekeeper.specs.Keeping.{Keeping, place_told, wait_at}
use Rattle.irig_timekeeper.specs.Truth.{IsDevice}
use Rattle.irig_timekeeper.specs.Life.{Call, Made, device_of, after_calls, last_tick, HaveRisen, AreInOrder, AreTrueOver}
use Rattle.irig_timekeeper.specs.Life.Call.{Hear, Tick}
use Rattle.irig_timekeeper.specs.Announcing.{ComesWhole}

-- as many seconds in a row as a device locks after and two more, from the m-th on, come whole in
-- these calls, which came behind those; the first of their frames ends in these. Up to the last
-- tick, 3 ms or more behind the last edge, at most f lines are not such true lines
pub record ComeInARow (IsTrue : Rules → TimelineValue → (ℕ → ℕ) → ℕ → List Pulse → Type 0)
    (t : TimelineValue) (edges : ℕ → ℕ) (made : Made) (start m : ℕ) (calls before : List Call)
    : Type 0 where
  pub is : IsDevice t made.clock.drift_us edges made.clock.reader_rules made.table
  pub order : AreInOrder start made.clock.redundancy (calls ++ before)
  pub truth : AreTrueOver (IsTrue made.rules t edges) (f_of made.clock.redundancy) calls before
  pub some : 1 ≤ m
  pub locks : 1 ≤ made.clock.reader_rules.lock_after
  pub told : ℕ
  pub risen : HaveRisen told before
  pub ticked : last_tick start before ≤ told
  pub past : told + 11000 < edges m
  pub whole : (n : ℕ) → n < made.clock.reader_rules.lock_after + 2
      → ComesWhole t edges (device_of made) (m + n) (calls ++ before)
  pub last : edges (m + 1 + made.clock.reader_rules.lock_after) + 3000
      ≤ last_tick start (calls ++ before)

-- ---- a tick at least so often

-- each tick of these calls, which came behind those, comes so long behind the tick before at most
abbrev pub TicksEach : ℕ → ℕ → List Call → List Call → Type 0
TicksEach most start [] before = ⊤
TicksEach most start (Hear port rise width ∷ calls) before = TicksEach most start calls before
TicksEach most start (Tick now ∷ calls) before =
    (now ≤ last_tick start (calls ++ before) + most) × TicksEach most start calls before

-- each pulse is told before any tick that comes more than 3 ms behind its end
abbrev pub AreToldInTime : ℕ → List Call → List Call → Type 0
AreToldInTime start [] before = ⊤
AreToldInTime start (Hear port rise width ∷ calls) before =
    (last_tick start (calls ++ before) ≤ rise + width + 3000) × AreToldInTime start calls before
AreToldInTime start (Tick now ∷ calls) before = AreToldInTime start calls before

-- ---- a tick when `wait` says

-- when a call is made: of a pulse at its end
abbrev pub made_at : Call → ℕ
made_at (Hear port rise width) = rise + width
made_at (Tick now) = now

-- the latest of these times, of a life that began at a time
abbrev pub latest : ℕ → List Call → ℕ
latest start [] = start
latest start (call ∷ calls) =
    if nat_le (made_at call) (latest start calls) then latest start calls else made_at call

-- these calls, which came behind those, are made one after another, but for 3 ms
abbrev pub AreMadeInTurn : ℕ → List Call → List Call → Type 0
AreMadeInTurn start [] before = ⊤
AreMadeInTurn start (call ∷ calls) before =
    (latest start (calls ++ before) ≤ made_at call + 3000) × AreMadeInTurn start calls before

-- the time that a device names when it is asked behind its last call: until then it has nothing to
-- do
abbrev pub named : Keeping → List Call → Call → ℕ
named new calls call =
    made_at call + wait_at (after_calls new (call ∷ calls)) (made_at call % 2 ^ 32)

-- a tick of this time comes so long at most behind each time that was named since the tick before: by
-- that tick, or behind a frame's last pulse
abbrev pub IsSoonEnough : ℕ → Keeping → ℕ → List Call → List Call → Type 0
IsSoonEnough late new now [] before = ⊤
IsSoonEnough late new now (Tick time ∷ calls) before =
    now ≤ named new (calls ++ before) (Tick time) + late
IsSoonEnough late new now (Hear port rise width ∷ calls) before =
    (place_told (after_calls new (calls ++ before)) port (rise % 2 ^ 32) width ≡ 100
    → now ≤ named new (calls ++ before) (Hear port rise width) + late)
    × IsSoonEnough late new now calls before

-- so each tick of these calls, which came behind those
abbrev pub GoesByWait : ℕ → Keeping → List Call → List Call → Type 0
GoesByWait late new [] before = ⊤
GoesByWait late new (Hear port rise width ∷ calls) before = GoesByWait late new calls before
GoesByWait late new (Tick now ∷ calls) before =
    IsSoonEnough late new now calls before × GoesByWait late new calls before

-- ---- a tick when `wait` said last

-- up to when a tick of a time rests on what was named before a pulse: if that is a frame's last one
-- and names a time to come, up to the pulse's end at most
abbrev pub served_by : Keeping → List Call → (port rise width time : ℕ) → ℕ
served_by new calls port rise width time =
    if place_told (after_calls new calls) port (rise % 2 ^ 32) width == 100
    then (if wait_at (after_calls new (Hear port rise width ∷ calls)) ((rise + width) % 2 ^ 32) == 0
    then time else min time (rise + width))
    else time

-- a time comes so long at most behind the one that was named last. Where that was no time to come, the
-- one before it still counts; else the pulse that named it ended so soon behind the one before
abbrev pub IsSoonBehind : ℕ → Keeping → ℕ → List Call → List Call → Type 0
IsSoonBehind late new time [] before = ⊤
IsSoonBehind late new time (Tick now ∷ calls) before =
    time ≤ named new (calls ++ before) (Tick now) + late
IsSoonBehind late new time (Hear port rise width ∷ calls) before =
    (place_told (after_calls new (calls ++ before)) port (rise % 2 ^ 32) width ≡ 100
    → time ≤ named new (calls ++ before) (Hear port rise width) + late)
    × IsSoonBehind late new (served_by new (calls ++ before) port rise width time) calls before

-- so each tick of these calls, which came behind those
abbrev pub GoesByLastWait : ℕ → Keeping → List Call → List Call → Type 0
GoesByLastWait late new [] before = ⊤
GoesByLastWait late new (Hear port rise width ∷ calls) before = GoesByLastWait late new calls before
GoesByLastWait late new (Tick now ∷ calls) before =
    IsSoonBehind late new now calls before × GoesByLastWait late new calls before
