-- The seconds that are held back without a vote, since a vote contradicted those before it, or frames
-- told that the counter is unsteady.
-- Source: this project's profile.
use Rattle.std.specs.Prelude.{◌≡◌, ℕ, ◌+◌, ◌%◌, ◌^◌, List, [], ◌∷◌, ◌++◌, Option, Some, None, ⊤}
use Rattle.irig_lines.specs.declared.lines.Vote.{Vote}
use Rattle.irig_timekeeper.specs.declared.clock.Beat.{Beat}
use Rattle.irig_lines.specs.Counting.{edges_to_vote}
use Rattle.irig_timekeeper.specs.Rule.{step_behind}
use Rattle.irig_timekeeper.specs.Clock.{claim_voted, rules_on, settled_at}
use Rattle.irig_timekeeper.specs.Keeping.{Keeping, vote_at, after_tick}
use Rattle.irig_timekeeper.specs.Life.{Call, after_calls}
use Rattle.irig_timekeeper.specs.Life.Call.{Tick}

-- the seconds that a tick counts to the edge of its vote, none without one
abbrev pub counted_by : Keeping → Option Vote → ℕ
counted_by k None = 0
counted_by k (Some vote) = edges_to_vote k.state.edge_us vote.edge_us

-- so many did those of the later calls count, the newest call first, behind the earlier ones
abbrev pub voted_since : Keeping → (later earlier : List Call) → ℕ
voted_since new [] earlier = 0
voted_since new (Tick now ∷ later) earlier =
    voted_since new later earlier
    + counted_by (after_calls new (later ++ earlier))
    (vote_at (after_calls new (later ++ earlier)) (now % 2 ^ 32))
voted_since new (_ ∷ later) earlier = voted_since new later earlier

-- at no tick of the later calls did a vote contradict those before it, or frames tell that the counter
-- is unsteady
abbrev pub NoneStrays : Keeping → (later earlier : List Call) → Type 0
NoneStrays new [] earlier = ⊤
NoneStrays new (Tick now ∷ later) earlier =
    ((after_tick (after_calls new (later ++ earlier)) (now % 2 ^ 32)).state.strays
    ≡ (after_calls new (later ++ earlier)).state.strays)
    × NoneStrays new later earlier
NoneStrays new (_ ∷ later) earlier = NoneStrays new later earlier

-- a tick says of an edge what the reader's rule says behind as many as were missed, by its vote, where
-- the leap table guards it, and a holdover that is spent ends
abbrev pub SaysTheRule : Keeping → (clock : ℕ) → Beat → Type 0
SaysTheRule k clock beat =
    beat.report
    ≡ (step_behind k.clock.prefers_frames
    (rules_on k.clock (settled_at k.clock k.state clock).pace k.state.reader (beat.missed + 1)) k.table
    beat.missed k.state.reader (claim_voted (vote_at k clock))).report
