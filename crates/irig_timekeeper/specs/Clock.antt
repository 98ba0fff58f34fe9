-- A device's clock: what becomes of it at a tick, and what it then says. It counts the seconds from
-- its last edge to one on which lines agree, or else by its own counter.
-- Source: this project's profile.
use Rattle.std.specs.Prelude.{ℕ, Bool, true, false, not, ◌&&◌, ◌≤◌, ◌+◌, ◌-◌, ◌%◌, ◌^◌, ◌==◌, min, max, if◌then◌else◌, Option, Some, None, is_none, IfSome}
use Rattle.irig_time.specs.declared.second.UtcSecond.{UtcSecond}
use Rattle.irig_time.specs.declared.claim.Claim.{Claim}
use Rattle.irig_time.specs.Seconds.{IsValid}
use Rattle.irig_time.specs.Tables.{TableValue}
use Rattle.irig_vote.specs.Vote.{AreOfUtc}
use Rattle.irig_reader.specs.declared.report.Lock.{Lock}
use Rattle.irig_reader.specs.declared.report.Lock.TheVariants as lock
use Rattle.irig_reader.specs.declared.report.Report.{Report}
use Rattle.irig_reader.specs.declared.rules.ReaderRules.{ReaderRules}
use Rattle.irig_reader.specs.declared.rule.Step.{Step}
use Rattle.irig_reader.specs.declared.rule.State.{State}
use Rattle.irig_reader.specs.declared.rule.State.TheVariants.{Idle, Acquiring, Locked}
use Rattle.irig_lines.specs.declared.lines.Lines.{Lines}
use Rattle.irig_lines.specs.declared.lines.Vote.{Vote}
use Rattle.irig_timekeeper.specs.declared.stamp.Announced.{Announced}
use Rattle.irig_timekeeper.specs.declared.clock.Beat.{Beat}
use Rattle.irig_lines.specs.declared.setup.ClockRules.{ClockRules}
use Rattle.irig_timekeeper.specs.declared.clock.ClockState.{ClockState}
use Rattle.irig_lines.specs.Counting.{edges_to_vote, edges_own}
use Rattle.irig_lines.specs.declared.pace.Pace.{Pace}
use Rattle.irig_lines.specs.Paces.{carried_by, edge_on, grown_us, is_spent, learned, pace_on}
use Rattle.irig_lines.specs.Steps.{settled, taken, tells_of, are_uneven, agreed, if_come, wait_by}
use Rattle.irig_lines.specs.declared.interval.Interval.{Interval}
use Rattle.irig_lines.specs.Intervals.{by_vote, carried_on, cut, contradicts}
use Rattle.irig_lines.specs.declared.rate.Anchors.{Anchors}
use Rattle.irig_lines.specs.Rates.{no_anchors, anchors_on, anchors_cut, rate_of, serving}
use Rattle.irig_timekeeper.specs.Rule.{against_table, step_behind}
use Rattle.std.specs.Option.{ForSome}
use Rattle.irig_lines.specs.Exactness.{most_vote_us, most_held_us}

-- ---- a second that is announced

-- how many edges a holdover has lasted, by what the report says
abbrev pub lasted : Lock → ℕ
lasted lock.Unlocked = 0
lasted (lock.Acquiring count) = 0
lasted lock.Locked = 0
lasted (lock.Holdover edges) = edges

-- the edges since a locked reader's last vote
abbrev pub age_of : State → ℕ
age_of Idle = 0
age_of (Acquiring h count) = 0
age_of (Locked h) = h.age

-- its edge lies at most as far off as that of the last vote, and what comes of each second since
abbrev pub bound_of : (drift : ℕ) → Option Pace → (voted : ℕ) → Lock → ℕ
bound_of drift pace voted lock = voted + grown_us drift pace (lasted lock)

-- what is kept of it
abbrev pub announced_at : ℕ → ℕ → Option UtcSecond → Option Announced
announced_at edge bound None = None
announced_at edge bound (Some u) = Some (record { second = u; edge_us = edge; bound_us = bound })

-- what is kept of the second that a report announces at an edge
abbrev pub announced : (drift : ℕ) → Option Pace → (voted : ℕ) → Report → ℕ → Option Announced
announced drift pace voted report edge =
    announced_at edge (bound_of drift pace voted report.lock) report.announce

-- what was announced before an edge serves on, unless a vote announces nothing there, as at a jump
abbrev pub still_serves : Option Claim → Option UtcSecond → Option Announced → Option Announced
still_serves None announce last = last
still_serves (Some vote) None last = None
still_serves (Some vote) (Some u) last = last

-- ---- the second that ended at an edge

-- the second at which a locked reader stands
abbrev pub held_second : State → Option UtcSecond
held_second Idle = None
held_second (Acquiring h count) = None
held_second (Locked h) = Some h.last

-- by a vote that of its claim; by the own counter the one that was held, if the next one is announced
abbrev pub second_ended : (held : Option UtcSecond) → (missed : ℕ) → Option Claim
    → (announce : Option UtcSecond) → Option UtcSecond
second_ended held missed (Some claim) announce = Some claim.at
second_ended held missed None None = None
second_ended held missed None (Some u) = if missed == 0 then held else None

-- ---- an edge

-- while something is in doubt, nothing is announced without a vote
abbrev pub announce_unless : (doubt : ℕ) → Option Claim → Option UtcSecond → Option UtcSecond
announce_unless doubt (Some vote) announce = announce
announce_unless doubt None announce = if doubt == 0 then announce else None

-- what is then said
abbrev pub unless_doubted : (doubt : ℕ) → Option Claim → Report → Report
unless_doubted doubt vote report =
    record report { announce = announce_unless doubt vote report.announce }

-- a step of the reader's rule that says so
abbrev pub counted_on : (doubt : ℕ) → Option Claim → Step → Step
counted_on doubt vote step = record step { report = unless_doubted doubt vote step.report }

-- what is said of an edge by a step of the reader's rule, behind so many that were missed; that of
-- the last vote lay at most so far off. Whether the vote's word goes against the table is told too
abbrev pub beat_by : ClockRules → ClockState → (against : Bool) → Step → (missed edge voted : ℕ) → Beat
beat_by c s against step missed edge voted = record {
  report = step.report;
  told = tells_of s.lines;
  edge_us = edge;
  bound_us = bound_of c.drift_us s.pace voted step.report.lock;
  missed = missed;
  moved = s.moved;
  against_table = against;
}

-- the reader is locked
abbrev pub is_held : State → Bool
is_held Idle = false
is_held (Acquiring h count) = false
is_held (Locked h) = true

-- where the clock then stands, with these lines, by this vote if there is one, behind so many seconds
-- that were missed
abbrev pub beaten : ClockRules → ClockState → Lines → Option Claim → Step → (missed edge voted : ℕ)
    → ClockState
beaten c s lines vote step missed edge voted = record {
  lines = lines;
  reader = step.state;
  edge_us = Some edge;
  bound_us = voted;
  interval = s.interval;
  anchors = s.anchors;
  pace = s.pace;
  strays = s.strays;
  doubt = s.doubt;
  moved = 0;
  last = announced c.drift_us s.pace voted step.report edge;
  before = still_serves vote step.report.announce s.last;
  ended = announced_at edge (bound_of c.drift_us s.pace voted step.report.lock)
      (second_ended (held_second s.reader) missed vote step.report.announce);
  ended_before = if missed == 0 then s.ended else None;
}

-- the reader's rules where so many seconds are counted: a holdover that is spent ends there
abbrev pub rules_on : ClockRules → Option Pace → State → (edges : ℕ) → ReaderRules
rules_on c pace reader edges =
    if is_spent c.drift_us pace (age_of reader) edges then record c.reader_rules { holdover = 0 }
    else c.reader_rules

-- the step at an edge to which so many seconds were counted, one or more
abbrev pub step_to : ClockRules → TableValue → ClockState → ℕ → Option Claim → Step
step_to c table s edges vote =
    counted_on s.doubt vote
    (step_behind c.prefers_frames (rules_on c s.pace s.reader edges) table (edges - 1) s.reader vote)

-- ---- lines agree on an edge

-- so many have come since the last; if none has, that one is set right
abbrev pub after_vote : ClockRules → TableValue → ClockState → Vote → ℕ → ClockState
after_vote c table s vote edges =
    if edges == 0
    then record s {
      lines = taken s.lines;
      edge_us = Some vote.edge_us;
      bound_us = vote.bound_us;
      moved = (s.moved + 1) % 2 ^ 32;
    }
    else beaten c s (taken s.lines) (Some vote.claim) (step_to c table s edges (Some vote.claim))
    (edges - 1) vote.edge_us vote.bound_us

-- what a tick answers to a vote
abbrev pub answer_to_vote : ClockRules → TableValue → ClockState → Vote → ℕ → Option Beat
answer_to_vote c table s vote edges =
    if edges == 0 then None
    else Some (beat_by c s (against_table table (Some vote.claim))
    (step_to c table s edges (Some vote.claim)) (edges - 1) vote.edge_us vote.bound_us)

-- ---- they do not: so many have come by the own counter

-- the edge so many seconds behind the last one
abbrev pub own_edge : Option Pace → Option ℕ → ℕ → ℕ
own_edge pace None edges = 0
own_edge pace (Some edge) edges = edge_on pace edge edges

-- what was learned serves on while the reader is locked
abbrev pub serving_on : (seconds : ℕ) → ClockState → ClockState
serving_on seconds s = record s { pace = pace_on (is_held s.reader) seconds s.pace }

-- where the clock then stands
abbrev pub after_own : ClockRules → TableValue → ClockState → ℕ → ClockState
after_own c table s edges =
    if edges == 0 then s
    else serving_on edges (beaten c s s.lines None (step_to c table s edges None) (edges - 1)
    (own_edge s.pace s.edge_us edges) s.bound_us)

-- what a tick answers without a vote
abbrev pub answer_alone : ClockRules → TableValue → ClockState → ℕ → Option Beat
answer_alone c table s edges =
    if edges == 0 then None
    else Some (beat_by c s false (step_to c table s edges None) (edges - 1)
    (own_edge s.pace s.edge_us edges) s.bound_us)

-- ---- what is known of the edge by all votes

-- so many seconds behind the last edge, by what a clock knew then
abbrev pub known_then : ClockRules → ClockState → ℕ → Option Interval
known_then c s seconds = carried_on c.drift_us seconds s.interval

-- the anchors that still serve then
abbrev pub anchors_then : ClockRules → ClockState → ℕ → Anchors
anchors_then c s seconds = anchors_on seconds (known_then c s seconds) s.anchors

-- the same at a vote, but that one second later what was learned says it, if anything was
abbrev pub known_at : ClockRules → ClockState → ℕ → Option Interval
known_at c s seconds = carried_by c.drift_us s.pace seconds s.interval

-- the anchors that still serve at such a vote
abbrev pub anchors_at : ClockRules → ClockState → ℕ → Anchors
anchors_at c s seconds = anchors_on seconds (known_at c s seconds) s.anchors

-- a clock that then knows it by its own counter
abbrev pub knowing : ClockRules → ClockState → ℕ → ClockState → ClockState
knowing c s seconds next = record next {
  interval = known_then c s seconds;
  anchors = anchors_then c s seconds;
}

-- behind a vote that contradicts those before it so many seconds have to be voted before one is
-- announced again without a vote: as many as a holdover may last, 1,000 at most and one at least
abbrev pub doubted_s : ClockRules → ℕ
doubted_s c = max 1 (min 1000 c.reader_rules.holdover)

-- a vote that contradicts what was known leaves no anchor of before
abbrev pub anchors_unless : (strays : Bool) → Anchors → Anchors
anchors_unless strays anchors = if strays then no_anchors else anchors

-- a clock that then knows it by a vote too, and counts the votes that contradict what it knew
abbrev pub knowing_vote : ClockRules → ClockState → Vote → ℕ → ClockState → ClockState
knowing_vote c s vote seconds next = record next {
  interval = Some (cut (known_at c s seconds) (by_vote vote));
  anchors = anchors_cut (cut (known_at c s seconds) (by_vote vote))
      (anchors_unless (contradicts (known_at c s seconds) (by_vote vote)) (anchors_at c s seconds));
  strays = if contradicts (known_at c s seconds) (by_vote vote) then (s.strays + 1) % 2 ^ 32
      else s.strays;
  doubt = if contradicts (known_at c s seconds) (by_vote vote) then doubted_s c
      else s.doubt - seconds;
}

-- what is learned of the counter by what is then measured
abbrev pub learning : ClockRules → ClockState → ClockState
learning c s = record s { pace = learned c (rate_of s.interval (serving s.anchors)) }

-- ---- a tick

-- by the edge on which lines agree, if they do; the lines are settled
abbrev pub clock_by : ClockRules → TableValue → ClockState → ℕ → Option Vote → ClockState
clock_by c table s now None =
    knowing c s (edges_own s.pace s.edge_us now) (after_own c table s (edges_own s.pace s.edge_us now))
clock_by c table s now (Some vote) =
    learning c (knowing_vote c s vote (edges_to_vote s.edge_us vote.edge_us)
    (after_vote c table s vote (edges_to_vote s.edge_us vote.edge_us)))

-- what it answers, by the edge on which lines agree, if they do
abbrev pub answer_by : ClockRules → TableValue → ClockState → ℕ → Option Vote → Option Beat
answer_by c table s now None = answer_alone c table s (edges_own s.pace s.edge_us now)
answer_by c table s now (Some vote) =
    answer_to_vote c table s vote (edges_to_vote s.edge_us vote.edge_us)

-- the edge on which lines agree, if it has come
abbrev pub vote_of_lines : ClockRules → ClockState → ℕ → Option Vote
vote_of_lines c s now = if_come now (agreed c (settled now s.lines))

-- where a second is counted without a vote so many lines keep a frame that lasts too long or too short
-- that they are not all true, or the counter is not so steady as the setup says
abbrev pub is_unsteady : ClockRules → ClockState → ℕ → Bool
is_unsteady c s now =
    is_none (vote_of_lines c s now)
    && (not (edges_own s.pace s.edge_us now == 0) && are_uneven c (settled now s.lines))

-- what was learned serves no more where frames tell that
abbrev pub pace_unless : (unsteady : Bool) → Option Pace → Option Pace
pace_unless unsteady pace = if unsteady then None else pace

-- the clock with its lines settled; that counts as a vote does that contradicts those before it
abbrev pub settled_at : ClockRules → ClockState → ℕ → ClockState
settled_at c s now = record s {
  lines = settled now s.lines;
  anchors = anchors_unless (is_unsteady c s now) s.anchors;
  pace = pace_unless (is_unsteady c s now) s.pace;
  strays = if is_unsteady c s now then (s.strays + 1) % 2 ^ 32 else s.strays;
  doubt = if is_unsteady c s now then doubted_s c else s.doubt;
}

-- what a tick leaves
abbrev pub clock_after : ClockRules → TableValue → ClockState → ℕ → ClockState
clock_after c table s now = clock_by c table (settled_at c s now) now (vote_of_lines c s now)

-- what it answers
abbrev pub clock_answer : ClockRules → TableValue → ClockState → ℕ → Option Beat
clock_answer c table s now = answer_by c table (settled_at c s now) now (vote_of_lines c s now)

-- the claim on which lines agree, if they do
abbrev pub claim_voted : Option Vote → Option Claim
claim_voted None = None
claim_voted (Some vote) = Some vote.claim

-- the claim that has the vote at a tick
abbrev pub clock_vote : ClockRules → ClockState → ℕ → Option Claim
clock_vote c s now = claim_voted (vote_of_lines c s now)

-- each second that is announced is one of UTC
abbrev pub SaysOfUtc : Option Beat → Type 0
SaysOfUtc beat = IfSome beat (λ b. IfSome b.report.announce IsValid)

-- so is each second that a line claims
abbrev pub TellsOfUtc : Option Beat → Type 0
TellsOfUtc beat = IfSome beat (λ b. AreOfUtc b.told)

-- so are those that are kept
pub record AnnouncedOfUtc (s : ClockState) : Type 0 where
  pub last : IfSome s.last (λ announced. IsValid announced.second)
  pub before : IfSome s.before (λ announced. IsValid announced.second)

-- the seconds that ended at told edges are told with no greater bound than a held one may have
pub record AreSmall (s : ClockState) : Type 0 where
  pub ended : ForSome s.ended (λ a. a.bound_us ≤ most_vote_us + most_held_us)
  pub before : ForSome s.ended_before (λ a. a.bound_us ≤ most_vote_us + most_held_us)

-- how long until a tick has something to do, if no call comes before it
abbrev pub clock_wait : ClockRules → ClockState → ℕ → ℕ
clock_wait c s now = wait_by now s.edge_us (agreed c (settled now s.lines))
