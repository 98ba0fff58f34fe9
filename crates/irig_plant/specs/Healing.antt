-- What an announced second rests on, and how a reader heals that was misled.
-- Source: docs/HEADLINE.md; this project's profile.
use Rattle.std.specs.Prelude.{◌≡◌, ℕ, ◌+◌, ◌<◌, ◌≤◌, false, List, [], ◌∷◌, ◌++◌, Some}
use Rattle.std.specs.List.{Contains}
use Rattle.irig_time.specs.declared.second.UtcSecond.{UtcSecond}
use Rattle.irig_time.specs.declared.claim.Claim.{Claim}
use Rattle.irig_time.specs.TimelineFaults.{IsTimeline}
use Rattle.irig_reader.specs.declared.report.Lock.TheVariants as lock
use Rattle.irig_reader.specs.declared.report.Cause.TheVariants.{Voted, Held}
use Rattle.irig_reader.specs.History.{vote_at_tick}
use Rattle.irig_reader.specs.Lives.{KnowsMonthEnds}
use Rattle.irig_plant.specs.declared.event.Event.{Event}
use Rattle.irig_plant.specs.declared.event.Event.TheVariants.{Tick}
use Rattle.irig_plant.specs.declared.entry.Entry.{Entry}
use Rattle.irig_plant.specs.Schedule.{Setup, setup_at, ticks_of, history_of, log_of}
use Rattle.irig_plant.specs.Edges.{is_restarted}
use Rattle.irig_plant.specs.Truth.{IsTruthful}
use Rattle.irig_plant.specs.Runs.{events_after}
use Rattle.irig_plant.specs.Misled.{Takes}
use Rattle.irig_plant.specs.OwnEdge.{IsCleanNow, HasFalseMajority}

-- ---- what a second rests on

-- r's k-th tick has a vote
pub record HasVoteAt (s : Setup) (r k : ℕ) (ev : List Event) : Type 0 where
  pub later : List Event
  pub earlier : List Event
  pub tick : ev ≡ later ++ (Tick r ∷ earlier)
  pub edge : k ≡ ticks_of r earlier + 1
  pub claim : Claim
  pub vote : vote_at_tick (history_of s r earlier) ≡ Some claim

-- an entry rests on the vote of edge k: its reader's last one up to the entry, at most `holdover`
-- edges back, with no restart since; it is locked by that vote, or has held over since
pub record RestsOn (s : Setup) (ev : List Event) (e : Entry) (k : ℕ) : Type 0 where
  pub vote : HasVoteAt s e.reader k ev
  pub last : (j : ℕ) → HasVoteAt s e.reader j ev → j ≤ e.edge → j ≤ k
  pub unbroken : (i : ℕ) → k ≤ i → i < e.edge → is_restarted e.reader ev i ≡ false
  pub age : ℕ
  pub back : k + age ≡ e.edge
  pub near : age ≤ (setup_at s.readers e.reader).rules.holdover
  pub voted : age ≡ 0 → (e.report.lock ≡ lock.Locked) × (e.report.cause ≡ Voted)
  pub held : 0 < age → (e.report.lock ≡ lock.Holdover age) × (e.report.cause ≡ Held)

-- if it announces, it rests on a vote
pub record RestsOnAVote (s : Setup) (ev : List Event) (e : Entry) : Type 0 where
  pub rests : (u : UtcSecond) → e.report.announce ≡ Some u → (k : ℕ) × RestsOn s ev e k

-- r's table is true, or r holds over for at most 57 edges and needs none
abbrev pub HasMonthEnds : Setup → ℕ → Type 0
HasMonthEnds s r =
    KnowsMonthEnds s.times (setup_at s.readers r).rules (setup_at s.readers r).table

-- if it announces a second that is not T of its edge, and its reader's table is true or not needed,
-- the vote on which it rests had its false majority
pub record RestsOnItsMajority (s : Setup) (ev : List Event) (e : Entry) : Type 0 where
  pub false_second : HasMonthEnds s e.reader → ¬ IsTruthful s.times e
      → (k : ℕ) × RestsOn s ev e k × HasFalseMajority s e.reader k ev

-- ---- healing

-- the ticks of r after its m-th are clean, up to its n-th
pub record IsCleanBetween (s : Setup) (r m n : ℕ) (ev : List Event) : Type 0 where
  pub ticks : (later earlier : List Event) → ev ≡ later ++ (Tick r ∷ earlier)
      → m ≤ ticks_of r earlier → ticks_of r earlier < n → IsCleanNow s r earlier

-- an entry of a reader with a true table, or one that needs none, which comes after the reader's m-th
-- tick, and the ticks since are clean
pub record IsCleanSince (s : Setup) (m : ℕ) (ev : List Event) (e : Entry) : Type 0 where
  pub timeline : IsTimeline s.times
  pub month_ends : HasMonthEnds s e.reader
  pub logged : Contains (log_of s ev) e
  pub after : m < e.edge
  pub clean : IsCleanBetween s e.reader m e.edge ev

-- an entry announces T of its edge, or nothing, if its reader's table is true or not needed, and all
-- ticks so far were clean
pub record IsTrueIfClean (s : Setup) (ev : List Event) (e : Entry) : Type 0 where
  pub second : HasMonthEnds s e.reader → IsCleanBetween s e.reader 0 e.edge ev
      → IsTruthful s.times e

-- the plant takes these events, and the reader holds over; as many edges after the m-th tick as it
-- does so at most, an entry is still false, though all ticks since are clean
pub record IsFalseToTheEnd (s : Setup) (m : ℕ) (ev : List Event) (e : Entry) : Type 0 where
  pub events : List Event
  pub in_order : events_after events [] ≡ ev
  pub takes : Takes s events
  pub since : IsCleanSince s m ev e
  pub untrue : ¬ IsTruthful s.times e
  pub holds_over : 0 < (setup_at s.readers e.reader).rules.holdover
  pub to_the_end : e.edge ≡ m + (setup_at s.readers e.reader).rules.holdover

-- ---- how many are false

-- what r announces at its n-th tick is not T of that edge
pub record IsFalseEdge (s : Setup) (r : ℕ) (ev : List Event) (n : ℕ) : Type 0 where
  pub entry : Entry
  pub logged : Contains (log_of s ev) entry
  pub reader : entry.reader ≡ r
  pub edge : entry.edge ≡ n
  pub untrue : ¬ IsTruthful s.times entry
