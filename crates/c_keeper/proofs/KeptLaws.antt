-- A tick keeps the frames of lines, or drops them.
use Rattle.std.proofs.Common.{◌==◌, ℕ, Bool, true, false, if◌then◌else◌, Option, Some, None, refl, inl, inr}
use Rattle.irig_time.specs.Tables.{TableValue}
use Rattle.irig_lines.specs.declared.setup.ClockRules.{ClockRules}
use Rattle.irig_timekeeper.specs.declared.clock.ClockState.{ClockState}
use Rattle.irig_lines.specs.declared.lines.Vote.{Vote}
use Rattle.irig_lines.specs.declared.lines.KeptFrame.{KeptFrame}
use Rattle.irig_lines.specs.declared.lines.Line.{Line}
use Rattle.irig_lines.specs.declared.lines.Lines.{Lines}
use Rattle.irig_timekeeper.specs.Clock.{after_own, after_vote, clock_after, clock_by, settled_at, vote_of_lines}
use Rattle.irig_lines.specs.Counting.{edges_own, edges_to_vote, is_gone, is_late}
use Rattle.irig_lines.specs.Steps.{line_settled, line_taken, settled, still_kept, still_seen, taken}
use Rattle.c_lines.specs.Lines.{AreKeptFrom, IsKeptFrom, IsLineFrom}

-- ---- a late frame is dropped

unless : (late : Bool) (frame : KeptFrame) → IsKeptFrom (Some frame) (if late then None else Some frame)
unless true frame = inl refl
unless false frame = inr refl

still : (now : ℕ) (frame : Option KeptFrame) → IsKeptFrom frame (still_kept now frame)
still now None = inl refl
still now (Some frame) = unless (is_late frame.end_us now) frame

seen : (now : ℕ) (frame : Option KeptFrame) → IsKeptFrom frame (still_seen now frame)
seen now None = inl refl
seen now (Some frame) = unless (is_gone frame.end_us now) frame

one_settled : (now : ℕ) (line : Line) → IsLineFrom line (line_settled now line)
one_settled now line = record { begin = refl; frame = still now line.frame; seen = seen now line.seen }

one_taken : (now : ℕ) (line : Line) → IsLineFrom line (line_taken (line_settled now line))
one_taken now line = record { begin = refl; frame = inl refl; seen = seen now line.seen }

settled_from : (now : ℕ) (lines : Lines) → AreKeptFrom lines (settled now lines)
settled_from now lines = record {
  a = one_settled now lines.a;
  b = one_settled now lines.b;
  c = one_settled now lines.c;
  d = one_settled now lines.d;
  e = one_settled now lines.e;
}

-- all are taken
taken_from : (now : ℕ) (lines : Lines) → AreKeptFrom lines (taken (settled now lines))
taken_from now lines = record { a = one_taken now lines.a; b = one_taken now lines.b; c = one_taken now lines.c; d = one_taken now lines.d; e = one_taken now lines.e }

-- ---- a tick

-- one of two clocks, each with lines that are kept from these
pick : (lines : Lines) (b : Bool) (x y : ClockState) → AreKeptFrom lines x.lines → AreKeptFrom lines y.lines → AreKeptFrom lines (if b then x else y).lines
pick lines true x y kept other = kept
pick lines false x y kept other = other

pub kept_by_tick : (c : ClockRules) (table : TableValue) (s : ClockState) (now : ℕ) → AreKeptFrom s.lines (clock_after c table s now).lines
kept_by_tick c table s now = by (vote_of_lines c s now)
  where
    own : (edges : ℕ) → AreKeptFrom s.lines (after_own c table (settled_at c s now) edges).lines
    own edges = pick s.lines (edges == 0) _ _ (settled_from now s.lines) (settled_from now s.lines)

    voted : (vote : Vote) (edges : ℕ) → AreKeptFrom s.lines (after_vote c table (settled_at c s now) vote edges).lines
    voted vote edges = pick s.lines (edges == 0) _ _ (taken_from now s.lines) (taken_from now s.lines)

    by : (vote : Option Vote) → AreKeptFrom s.lines (clock_by c table (settled_at c s now) now vote).lines
    by None = own (edges_own (settled_at c s now).pace s.edge_us now)
    by (Some vote) = voted vote (edges_to_vote s.edge_us vote.edge_us)
