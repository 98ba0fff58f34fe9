-- A tick does not ask what frames tell that have no vote.
use Rattle.std.proofs.Common.{◌≡◌, ◌∙◌, ◌==◌, ℕ, ◌+◌, ◌-◌, ◌%◌, ◌^◌, Bool, true, false, if◌then◌else◌, Option, Some, None, refl, ap}
use Rattle.irig_time.specs.Tables.{TableValue}
use Rattle.irig_timekeeper.specs.declared.clock.ClockState.{ClockState}
use Rattle.irig_lines.specs.declared.lines.KeptFrame.{KeptFrame}
use Rattle.irig_lines.specs.declared.lines.Line.{Line}
use Rattle.irig_lines.specs.declared.lines.Lines.{Lines}
use Rattle.irig_lines.specs.declared.lines.Vote.{Vote}
use Rattle.irig_lines.specs.declared.setup.ClockRules.{ClockRules}
use Rattle.irig_lines.specs.Counting.{edges_own, edges_to_vote, is_gone}
use Rattle.irig_timekeeper.specs.Clock.{answer_by, beaten, clock_after, clock_answer, clock_by, knowing, knowing_vote, own_edge, settled_at, step_to, vote_of_lines, learning, serving_on}
use Rattle.irig_lines.specs.Steps.{line_settled, settled, still_seen, taken}
use Rattle.c_lines.specs.Lines.{unread_frame, unread_line, unread_lines}
use Rattle.c_keeper.specs.Timekeepers.{unread}

-- ---- what is seen goes by its end

unless : (gone : Bool) (f : KeptFrame) → (if gone then None else unread_frame (Some f)) ≡ unread_frame (if gone then None else Some f)
unless true f = refl
unless false f = refl

seen : (now : ℕ) (frame : Option KeptFrame) → still_seen now (unread_frame frame) ≡ unread_frame (still_seen now frame)
seen now None = refl
seen now (Some f) = unless (is_gone f.end_us now) f

line : (now : ℕ) (l : Line) → line_settled now (unread_line l) ≡ unread_line (line_settled now l)
line now l = ap (λ (f : Option KeptFrame). record (line_settled now l) { seen = f }) (seen now l.seen)

lines : (now : ℕ) (ls : Lines) → settled now (unread_lines ls) ≡ unread_lines (settled now ls)
lines now ls = λ i. record {
  a = line now ls.a i;
  b = line now ls.b i;
  c = line now ls.c i;
  d = line now ls.d i;
  e = line now ls.e i;
}

-- ---- a tick

-- it answers the same
pub answer_unread : (c : ClockRules) (table : TableValue) (s : ClockState) (now : ℕ) → clock_answer c table (unread s) now ≡ clock_answer c table s now
answer_unread c table s now = by (vote_of_lines c s now)
  where
    by : (vote : Option Vote) → answer_by c table (settled_at c (unread s) now) now vote ≡ answer_by c table (settled_at c s now) now vote
    by None = refl
    by (Some vote) = refl

-- by its own counter, whether a second came or none
own : (c : ClockRules) (table : TableValue) (s : ClockState) (edges : ℕ) (none : Bool)
    → knowing c (unread s) edges (if none then unread s else serving_on edges (beaten c (unread s) (unread_lines s.lines) None (step_to c table s edges None) (edges - 1) (own_edge s.pace s.edge_us edges) s.bound_us))
    ≡ unread (knowing c s edges (if none then s else serving_on edges (beaten c s s.lines None (step_to c table s edges None) (edges - 1) (own_edge s.pace s.edge_us edges) s.bound_us)))
own c table s edges true = refl
own c table s edges false = refl

-- by a vote
voted : (c : ClockRules) (table : TableValue) (s : ClockState) (vote : Vote) (edges : ℕ) (none : Bool)
    → learning c (knowing_vote c (unread s) vote edges (if none then record (unread s) { lines = taken (unread_lines s.lines); edge_us = Some vote.edge_us; bound_us = vote.bound_us; moved = (s.moved + 1) % 2 ^ 32 }
    else beaten c (unread s) (taken (unread_lines s.lines)) (Some vote.claim) (step_to c table s edges (Some vote.claim)) (edges - 1) vote.edge_us vote.bound_us))
    ≡ unread (learning c (knowing_vote c s vote edges (if none then record s { lines = taken s.lines; edge_us = Some vote.edge_us; bound_us = vote.bound_us; moved = (s.moved + 1) % 2 ^ 32 }
    else beaten c s (taken s.lines) (Some vote.claim) (step_to c table s edges (Some vote.claim)) (edges - 1) vote.edge_us vote.bound_us)))
voted c table s vote edges true = refl
voted c table s vote edges false = refl

by_vote : (c : ClockRules) (table : TableValue) (s : ClockState) (now : ℕ) (vote : Option Vote) → clock_by c table (unread s) now vote ≡ unread (clock_by c table s now vote)
by_vote c table s now None = own c table s (edges_own s.pace s.edge_us now) (edges_own s.pace s.edge_us now == 0)
by_vote c table s now (Some vote) = voted c table s vote (edges_to_vote s.edge_us vote.edge_us) (edges_to_vote s.edge_us vote.edge_us == 0)

-- and leaves the same but for what it has not read
pub after_unread : (c : ClockRules) (table : TableValue) (s : ClockState) (now : ℕ) → clock_after c table (unread s) now ≡ unread (clock_after c table s now)
after_unread c table s now =
    ap (λ (ls : Lines). clock_by c table (record (settled_at c s now) { lines = ls }) now (vote_of_lines c s now)) (lines now s.lines)
    ∙ by_vote c table (settled_at c s now) now (vote_of_lines c s now)

-- a clock of which all but the lines is as that which is left, and whose lines were read again
pub read_again : (new left read : ClockState) → record new { lines = left.lines } ≡ left → left ≡ unread read → new.lines ≡ read.lines → new ≡ read
read_again new left read rest is lines =
    ap (λ (s : ClockState). record s { lines = new.lines }) (rest ∙ is) ∙ ap (λ (ls : Lines). record read { lines = ls }) lines
