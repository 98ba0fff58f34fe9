-- How the second that a reader announces follows from the one before, whatever is true.
-- Source: docs/READER.md.
use Rattle.std.specs.Prelude.{◌≡◌, ◌⊎◌, ℕ, List, Option, Some}
use Rattle.std.specs.List.{Contains}
use Rattle.irig_time.specs.declared.second.UtcSecond.{UtcSecond}
use Rattle.irig_time.specs.declared.mark.Mark.{Mark}
use Rattle.irig_time.specs.declared.claim.Claim.{Claim}
use Rattle.irig_time.specs.Tables.{TableValue, table_mark}
use Rattle.irig_time.specs.Next.{next_of}

-- one of the votes was for a second of this day, and said this of the day's end
pub record IsVotedMark (votes : List (Option Claim)) (day : ℕ) (mark : Mark) : Type 0 where
  pub claim : Claim
  pub vote : Contains votes (Some claim)
  pub day_is : claim.at.day ≡ day
  pub mark_is : claim.mark ≡ mark

-- v is the second after u by a mark of u's day that the table gives, or one of the votes
pub record FollowsByMark (table : TableValue) (votes : List (Option Claim)) (u v : UtcSecond)
    : Type 0 where
  pub mark : Mark
  pub given : (mark ≡ table_mark table u.day) ⊎ IsVotedMark votes u.day mark
  pub next : next_of u mark ≡ Some v
