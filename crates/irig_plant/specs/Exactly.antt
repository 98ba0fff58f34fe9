-- When a reader announces, with what lock, and why it is silent if it is.
-- Source: docs/EXACTLY_WHEN.md.
use Rattle.std.specs.Prelude.{◌≡◌, ◌↔◌, ◌⊎◌, ℕ, ◌+◌, ◌<◌, ◌≤◌, true, false, List, Some, None, is_some}
use Rattle.std.specs.List.{Contains}
use Rattle.irig_time.specs.declared.second.UtcSecond.{UtcSecond}
use Rattle.irig_time.specs.Timelines.{second_at}
use Rattle.irig_reader.specs.declared.report.Lock.{Lock}
use Rattle.irig_reader.specs.declared.report.Lock.TheVariants as lock
use Rattle.irig_reader.specs.declared.report.Cause.{Cause}
use Rattle.irig_reader.specs.declared.report.Cause.TheVariants as cause
use Rattle.irig_reader.specs.declared.report.Report.{Report}
use Rattle.irig_plant.specs.declared.event.Event.{Event}
use Rattle.irig_plant.specs.declared.entry.Entry.{Entry}
use Rattle.irig_plant.specs.Schedule.{Setup, log_of}
use Rattle.irig_plant.specs.Premises.{HasPremises}
use Rattle.irig_plant.specs.Edges.{VotedEdges, voted_edges_of, is_restarted, IsGuard, IsHeld, IsLongestRun, IsLastVote}

-- a second with a lock and a cause
abbrev pub announcement : UtcSecond → Lock → Cause → Report
announcement u l c = record { announce = Some u; lock = l; cause = c }

-- no second, with a lock and a cause
abbrev pub silence : Lock → Cause → Report
silence l c = record { announce = None; lock = l; cause = c }

-- the edge of an entry has the second v, and the entry its premises
pub record IsServed (s : Setup) (ev : List Event) (e : Entry) (v : UtcSecond) : Type 0 where
  pub second : second_at s.times e.edge ≡ Some v
  pub premises : HasPremises s ev e

-- ---- announces exactly when held

-- if T of its edge exists, an entry announces if and only if the edge is held
pub record AnnouncesWhenHeld (s : Setup) (ev : List Event) (e : Entry) : Type 0 where
  pub exactly : (v : UtcSecond) → IsServed s ev e v
      → (is_some e.report.announce ≡ true) ↔ IsHeld (voted_edges_of s e.reader ev) e.edge

-- ---- lock and cause of an announcement

-- by a hold whose last vote is age edges old
pub record IsHeldOver (x : VotedEdges) (n : ℕ) (v : UtcSecond) (said : Report) : Type 0 where
  pub age : ℕ
  pub last : IsLastVote x n age
  pub report : said ≡ announcement v (lock.Holdover age) cause.Held

-- by the vote of its edge, and if there is none by a hold
pub record IsAnnouncement (x : VotedEdges) (n : ℕ) (v : UtcSecond) (said : Report) : Type 0 where
  pub voted : x.voted n ≡ true → said ≡ announcement v lock.Locked cause.Voted
  pub held : x.voted n ≡ false → IsHeldOver x n v said

-- if it announces, its lock is the one that the events give
pub record HasItsLock (s : Setup) (ev : List Event) (e : Entry) : Type 0 where
  pub lock : (v : UtcSecond) → IsServed s ev e v → is_some e.report.announce ≡ true
      → IsAnnouncement (voted_edges_of s e.reader ev) e.edge v e.report

-- ---- cause of a silence

-- the log has an entry of r's n-th tick that announces
pub record HasAnnounced (s : Setup) (ev : List Event) (r n : ℕ) : Type 0 where
  pub entry : Entry
  pub logged : Contains (log_of s ev) entry
  pub reader : entry.reader ≡ r
  pub edge : entry.edge ≡ n
  pub announces : is_some entry.report.announce ≡ true

-- it has one of the tick before, and no restart fell between
pub record WasHeld (s : Setup) (ev : List Event) (r n : ℕ) : Type 0 where
  pub before : ℕ
  pub is_before : n ≡ before + 1
  pub announced : HasAnnounced s ev r before
  pub unbroken : is_restarted r ev before ≡ false

-- none of the limit edges below n is voted
abbrev pub NoneWithin : VotedEdges → ℕ → ℕ → Type 0
NoneWithin x n limit = (j : ℕ) → n ≤ j + limit → j < n → x.voted j ≡ false

-- one of them is
pub record SomeWithin (x : VotedEdges) (n limit : ℕ) : Type 0 where
  pub edge : ℕ
  pub near : n ≤ edge + limit
  pub below : edge < n
  pub is : x.voted edge ≡ true

-- ---- the four causes; held is whether the reader announced at the tick before, and no restart
-- fell between

-- it counts the voted edges of a run
pub record IsCounting (x : VotedEdges) (n : ℕ) (said : Report) : Type 0 where
  pub voted : x.voted n ≡ true
  pub count : ℕ
  pub run : IsLongestRun x n count
  pub report : said ≡ silence (lock.Acquiring count) cause.Acquiring

-- it was held, and no edge of its holdover is voted
pub record IsExpired (x : VotedEdges) (held : Type 0) (n : ℕ) (said : Report) : Type 0 where
  pub unvoted : x.voted n ≡ false
  pub was_held : held
  pub none : NoneWithin x n x.reader_rules.holdover
  pub report : said ≡ silence lock.Unlocked cause.Expired

-- it was held, an edge of its holdover is voted, and the guard stopped it, at a guard edge
pub record IsStopped (x : VotedEdges) (held : Type 0) (n : ℕ) (said : Report) : Type 0 where
  pub unvoted : x.voted n ≡ false
  pub was_held : held
  pub some : SomeWithin x n x.reader_rules.holdover
  pub guard : IsGuard x n
  pub report : said ≡ silence lock.Unlocked cause.LeapGuard

-- it was not held
pub record IsVoteless (x : VotedEdges) (held : Type 0) (n : ℕ) (said : Report) : Type 0 where
  pub unvoted : x.voted n ≡ false
  pub unheld : ¬ held
  pub report : said ≡ silence lock.Unlocked cause.NoVote

-- why it says nothing: one of the four applies, and it tells that one
abbrev pub IsSilence : VotedEdges → Type 0 → ℕ → Report → Type 0
IsSilence x held n said =
    IsCounting x n said ⊎ IsExpired x held n said ⊎ IsStopped x held n said
    ⊎ IsVoteless x held n said

-- if it is silent, its cause is the one that the events give
pub record HasItsCause (s : Setup) (ev : List Event) (e : Entry) : Type 0 where
  pub cause : (v : UtcSecond) → IsServed s ev e v → is_some e.report.announce ≡ false
      → IsSilence (voted_edges_of s e.reader ev) (WasHeld s ev e.reader e.edge) e.edge e.report
