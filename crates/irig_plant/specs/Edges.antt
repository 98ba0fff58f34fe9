-- Voted, guard and held edges of a reader. They are statements about events, and speak of no state
-- of a reader.
-- Source: docs/EXACTLY_WHEN.md.
use Rattle.std.specs.Prelude.{◌≡◌, ℕ, zero, suc, ◌+◌, ◌-◌, ◌<◌, ◌≤◌, Bool, true, false, ◌==◌, not, ◌&&◌, ◌||◌, nat_lt, nat_le, if◌then◌else◌, List, [], ◌∷◌, ◌++◌, length, Option, Some, None}
use Rattle.irig_time.specs.declared.second.UtcSecond.{UtcSecond}
use Rattle.irig_time.specs.declared.claim.Claim.{Claim}
use Rattle.irig_time.specs.Days.{is_month_end}
use Rattle.irig_time.specs.Timelines.{TimelineValue, second_at, truth_at, IsTrueClaim}
use Rattle.irig_time.specs.Tables.{TableValue}
use Rattle.irig_port.specs.declared.told.Told.{Told}
use Rattle.irig_vote.specs.Vote.{f_of, carriers}
use Rattle.irig_reader.specs.declared.rules.ReaderRules.{ReaderRules}
use Rattle.irig_plant.specs.declared.event.Event.{Event}
use Rattle.irig_plant.specs.declared.event.Event.TheVariants.{Tick, Restart}
use Rattle.irig_plant.specs.declared.setup.ReaderSetup.{ReaderSetup}
use Rattle.irig_vote.specs.Vote.{redundancy_of}
use Rattle.irig_plant.specs.Schedule.{Setup, setup_at, ports_now, ticks_of}

-- ---- voted edges and restarts

-- whether more than f of the ports carry the claim, if there is one
abbrev pub is_carried : ℕ → List Told → Option Claim → Bool
is_carried f ports None = false
is_carried f ports (Some c) = nat_lt f (carriers c ports)

-- whether f + 1 or more ports of r carry the true claim at a tick of r that comes now
abbrev pub is_voted_now : Setup → ℕ → List Event → Bool
is_voted_now s r ev =
    is_carried (f_of (redundancy_of (length s.generators))) (ports_now s r ev)
    (truth_at s.times (ticks_of r ev))

-- whether so many ports do at the i-th tick of r
abbrev pub is_voted : Setup → ℕ → List Event → ℕ → Bool
is_voted s r [] i = false
is_voted s r (Tick x ∷ ev) i =
    if (x == r) && (i == (ticks_of r ev + 1)) then is_voted_now s r ev else is_voted s r ev i
is_voted s r (_ ∷ ev) i = is_voted s r ev i

-- whether a restart of r falls after its i-th tick and before the next
abbrev pub is_restarted : ℕ → List Event → ℕ → Bool
is_restarted r [] i = false
is_restarted r (Restart x ∷ ev) i =
    if (x == r) && (i == ticks_of r ev) then true else is_restarted r ev i
is_restarted r (_ ∷ ev) i = is_restarted r ev i

-- the same as relations: edge i is r's tick at which f + 1 or more ports carry a claim that is true
-- there
pub record IsVoted (s : Setup) (r : ℕ) (ev : List Event) (i : ℕ) : Type 0 where
  pub later : List Event
  pub earlier : List Event
  pub tick : ev ≡ later ++ (Tick r ∷ earlier)
  pub edge : i ≡ ticks_of r earlier + 1
  pub claim : Claim
  pub is_true : IsTrueClaim s.times i claim
  pub carried : f_of (redundancy_of (length s.generators)) + 1 ≤ carriers claim
      (ports_now s r earlier)

-- and this restart of r comes after i ticks of r
pub record IsRestarted (r : ℕ) (ev : List Event) (i : ℕ) : Type 0 where
  pub later : List Event
  pub earlier : List Event
  pub restart : ev ≡ later ++ (Restart r ∷ earlier)
  pub edge : i ≡ ticks_of r earlier

-- ---- one reader's edges

-- what decides when a reader announces: its timeline, rules and table, which edges are voted, and
-- after which it is restarted
pub record VotedEdges : Type 0 where
  pub times : TimelineValue
  pub reader_rules : ReaderRules
  pub table : TableValue
  pub voted : ℕ → Bool
  pub restarted : ℕ → Bool

-- those of reader r after some events
abbrev pub voted_edges_of : Setup → ℕ → List Event → VotedEdges
voted_edges_of s r ev = record {
  times = s.times;
  reader_rules = (setup_at s.readers r).rules;
  table = (setup_at s.readers r).table;
  voted = is_voted s r ev;
  restarted = is_restarted r ev;
}

-- a reader that locks after one vote or more
abbrev pub CanLock : ReaderSetup → Type 0
CanLock x = 1 ≤ x.rules.lock_after

-- a guard edge: not voted, after 23:59:58 of a month's last day above the table, and none of the 57
-- edges before it is voted
pub record IsGuard (x : VotedEdges) (j : ℕ) : Type 0 where
  pub before : ℕ
  pub is_before : j ≡ before + 1
  pub second : UtcSecond
  pub at : second_at x.times before ≡ Some second
  pub at_58 : second.sod ≡ 86398
  pub at_month_end : is_month_end second.day ≡ true
  pub above : x.table.until < second.day
  pub unvoted : x.voted j ≡ false
  pub unheard : (i : ℕ) → j ≤ i + 57 → i < j → x.voted i ≡ false

-- a voted edge from m to j, at most limit edges below j
pub record HasVote (x : VotedEdges) (m j limit : ℕ) : Type 0 where
  pub edge : ℕ
  pub from : m ≤ edge
  pub to : edge ≤ j
  pub near : j ≤ edge + limit
  pub is : x.voted edge ≡ true

-- a held edge: the lock was reached at an edge up to it, and never lost since
pub record IsHeld (x : VotedEdges) (n : ℕ) : Type 0 where
  pub lock : ℕ
  pub enough : x.reader_rules.lock_after ≤ lock
  pub before : lock ≤ n
  pub votes : (i : ℕ) → lock + 1 ≤ i + x.reader_rules.lock_after → i ≤ lock → x.voted i ≡ true
  pub unbroken : (i : ℕ) → lock + 1 ≤ i + x.reader_rules.lock_after → i < n → x.restarted i ≡ false
  pub fresh : (j : ℕ) → lock ≤ j → j ≤ n → HasVote x lock j x.reader_rules.holdover
  pub unguarded : (j : ℕ) → lock < j → j ≤ n → ¬ IsGuard x j

-- from a lock at edge m on nothing takes it away up to edge n: no restart, no holdover that ends, no
-- guard edge
pub record KeepsLock (x : VotedEdges) (m n : ℕ) : Type 0 where
  pub after : m ≤ n
  pub unbroken : (i : ℕ) → m ≤ i → i < n → x.restarted i ≡ false
  pub fresh : (j : ℕ) → m ≤ j → j ≤ n → HasVote x m j x.reader_rules.holdover
  pub unguarded : (j : ℕ) → m < j → j ≤ n → ¬ IsGuard x j

-- the count edges up to n are all voted, and no restart falls between them
pub record IsRun (x : VotedEdges) (n count : ℕ) : Type 0 where
  pub some : 1 ≤ count
  pub fits : count ≤ n
  pub votes : (i : ℕ) → n + 1 ≤ i + count → i ≤ n → x.voted i ≡ true
  pub unbroken : (i : ℕ) → n + 1 ≤ i + count → i < n → x.restarted i ≡ false

-- count is the length of the longest such run
pub record IsLongestRun (x : VotedEdges) (n count : ℕ) : Type 0 where
  pub run : IsRun x n count
  pub longest : (other : ℕ) → IsRun x n other → other ≤ count

-- the greatest voted edge up to n lies age edges below it
pub record IsLastVote (x : VotedEdges) (n age : ℕ) : Type 0 where
  pub edge : ℕ
  pub is_at : edge + age ≡ n
  pub is : x.voted edge ≡ true
  pub none_since : (j : ℕ) → edge < j → j ≤ n → x.voted j ≡ false

-- ---- held edges as a function, which can be run

-- whether each of so many numbers from this one on passes
abbrev pub each_from : ℕ → ℕ → (ℕ → Bool) → Bool
each_from first zero test = true
each_from first (suc count) test = each_from first count test && test (first + count)

-- whether one of so many numbers from this one on passes
abbrev pub one_from : ℕ → ℕ → (ℕ → Bool) → Bool
one_from first zero test = false
one_from first (suc count) test = one_from first count test || test (first + count)

-- whether it is 23:59:58 of a month's last day above the table
abbrev pub is_58_above : TableValue → Option UtcSecond → Bool
is_58_above table None = false
is_58_above table (Some u) = (u.sod == 86398) && is_month_end u.day && nat_lt table.until u.day

-- whether this is a guard edge: neither it nor any of the 57 edges before it is voted
abbrev pub is_guard : VotedEdges → ℕ → Bool
is_guard x zero = false
is_guard x (suc before) =
    is_58_above x.table (second_at x.times before)
    && each_from (before - 56) (suc before - (before - 56)) (λ i. not (x.voted i))
    && not (x.voted (suc before))

-- whether a vote up to edge j and from m on is at most limit edges old
abbrev pub has_vote : VotedEdges → ℕ → ℕ → ℕ → Bool
has_vote x m j limit = one_from m (suc j - m) (λ i. nat_le j (i + limit) && x.voted i)

-- whether the lock was reached at this edge, and not lost up to edge n
abbrev pub is_locked_since : VotedEdges → ℕ → ℕ → Bool
is_locked_since x n lock =
    let count = x.reader_rules.lock_after in
    let first = suc lock - count in
    nat_le count lock && each_from first count x.voted
    && each_from first (n - first) (λ i. not (x.restarted i))
    && each_from lock (suc n - lock) (λ j. has_vote x lock j x.reader_rules.holdover)
    && each_from (suc lock) (n - lock) (λ j. not (is_guard x j))

-- whether the reader holds a second at this edge: at some edge up to it the lock was reached, and not
-- lost since
abbrev pub is_held : VotedEdges → ℕ → Bool
is_held x n = one_from 0 (suc n) (is_locked_since x n)
