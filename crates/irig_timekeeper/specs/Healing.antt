-- A device to which the truth has come back.
-- Source: this project's profile.
use Rattle.std.specs.Prelude.{◌≡◌, ℕ, ◌%◌, ◌^◌, List, ◌∷◌, ◌++◌, Some}
use Rattle.irig_sync.specs.Lines.{Pulse}
use Rattle.irig_time.specs.declared.rules.Rules.{Rules}
use Rattle.irig_time.specs.Timelines.{TimelineValue}
use Rattle.irig_vote.specs.Vote.{f_of}
use Rattle.irig_timekeeper.specs.declared.clock.Beat.{Beat}
use Rattle.irig_lines.specs.declared.lines.Vote.{Vote}
use Rattle.irig_timekeeper.specs.Keeping.{vote_at, answer_at}
use Rattle.irig_timekeeper.specs.Truth.{IsDevice}
use Rattle.irig_timekeeper.specs.Life.{Call, Made, AreInOrder, AreTrueLately, AreTrueOver, life_of}
use Rattle.irig_timekeeper.specs.Life.Call.{Tick}

-- a device is what its setup says, learns nothing from votes, its calls are in order, and one of them was a tick with a vote
-- that counts an edge; at it and at each tick since, all but at most f lines are such true lines.
-- What came before may be anything
pub record HasHealed
    (IsTrue : Rules → TimelineValue → (ℕ → ℕ) → ℕ → List Pulse → Type 0) (t : TimelineValue)
    (edges : ℕ → ℕ) (made : Made) (start : ℕ) (calls : List Call)
    : Type 0 where
  pub is : IsDevice t made.clock.drift_us edges made.clock.reader_rules made.table
  pub plain : made.clock.wander_ppb ≡ 0
  pub order : AreInOrder start made.clock.redundancy calls
  pub later : List Call
  pub mend : ℕ
  pub earlier : List Call
  pub are : calls ≡ later ++ (Tick mend ∷ earlier)
  pub vote : Vote
  pub voted : vote_at (life_of made earlier) (mend % 2 ^ 32) ≡ Some vote
  pub beat : Beat
  pub answer : answer_at (life_of made earlier) (mend % 2 ^ 32) ≡ Some beat
  pub truth : AreTrueLately (IsTrue made.rules t edges) (f_of made.clock.redundancy) mend earlier
  pub since : AreTrueOver (IsTrue made.rules t edges) (f_of made.clock.redundancy) later
      (Tick mend ∷ earlier)
