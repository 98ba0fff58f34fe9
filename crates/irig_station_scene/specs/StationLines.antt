-- What a line of a log of devices shows, read from its bytes.
-- Source: docs/OUTPUT.md, the log of devices.
use Rattle.std.specs.Prelude.{◌≡◌, ◌≢◌, ℕ, suc, ◌-◌, ◌^◌, ◌<◌, nat_lt, if◌then◌else◌, ℤ, pos, negsuc, neg_ℤ, unsigned_abs, List, ◌∷◌, ◌++◌, length, codes, All, Option, Some, None, IfSome, option_map}
use Rattle.std.specs.Fmt.{decimal}
use Rattle.irig_time.specs.TextValues.{second_text}
use Rattle.irig_timekeeper.specs.declared.stamp.Stamp.{Stamp}
use Rattle.irig_simulated.specs.declared.told_second.ToldSecond.{ToldSecond}
use Rattle.report_log.specs.Text.{cause_text, lock_text, name_at, time_shown_text}
use Rattle.irig_station_scene.specs.StationText.{instant_text}

-- no byte is a blank, 32
abbrev pub HasNoBlank : List ℕ → Type 0
HasNoBlank word = All (λ b. b ≢ 32) word

-- ---- a told second

-- a number with its sign, which 0 has too
abbrev pub signed_word : ℤ → List ℕ
signed_word (pos n) = codes "+" ++ decimal n
signed_word (negsuc n) = codes "-" ++ decimal (suc n)

-- a bound, or a dash if there is none
abbrev pub bound_word : Option ℕ → List ℕ
bound_word None = codes "-"
bound_word (Some bound) = decimal bound

-- what is shown of a told second: the number of its device, that of its edge, the words for the
-- second and for its lock and cause, how many microseconds the told edge lies behind the true one,
-- and the bound of it
pub record ToldLine : Type 0 where
  pub device : ℕ
  pub edge : ℕ
  pub time : List ℕ
  pub lock : List ℕ
  pub cause : List ℕ
  pub off : ℤ
  pub bound : Option ℕ

-- the line EDGE DEVICE TIME LOCK CAUSE OFF BOUND, with a blank between, shows this
pub record ShowsTold (names : List (List ℕ)) (line : List ℕ) (x : ToldLine) : Type 0 where
  pub named : x.device < length names
  pub edge : x.edge < 2 ^ 64
  pub time : HasNoBlank x.time
  pub lock : HasNoBlank x.lock
  pub cause : HasNoBlank x.cause
  pub off : unsigned_abs x.off < 2 ^ 64
  pub bound : IfSome x.bound (λ bound. bound < 2 ^ 64)
  pub is : line ≡ decimal x.edge ++ (32 ∷ (name_at names x.device ++ (32 ∷ (x.time
      ++ (32 ∷ (x.lock ++ (32 ∷ (x.cause ++ (32 ∷ (signed_word x.off
      ++ (32 ∷ bound_word x.bound)))))))))))

-- ---- a stamp

-- what is shown of a stamp that was given: the number of its device, its instant in microseconds of
-- true time, the word for the second, and the offset and the bound, in microseconds
pub record StampLine : Type 0 where
  pub device : ℕ
  pub instant : ℕ
  pub time : List ℕ
  pub offset : ℕ
  pub bound : ℕ

-- the line @SECONDS.MICROSECONDS DEVICE TIME OFFSET BOUND, with a blank between, shows this
pub record ShowsStamp (names : List (List ℕ)) (line : List ℕ) (x : StampLine) : Type 0 where
  pub named : x.device < length names
  pub instant : x.instant < 2 ^ 64
  pub time : HasNoBlank x.time
  pub offset : x.offset < 2 ^ 64
  pub bound : x.bound < 2 ^ 64
  pub is : line ≡ 64 ∷ (instant_text x.instant ++ (32 ∷ (name_at names x.device ++ (32 ∷ (x.time
      ++ (32 ∷ (decimal x.offset ++ (32 ∷ decimal x.bound))))))))

-- a line that shows neither
pub record ShowsNeither (names : List (List ℕ)) (line : List ℕ) : Type 0 where
  pub told : (x : ToldLine) → ¬ ShowsTold names line x
  pub stamp : (x : StampLine) → ¬ ShowsStamp names line x

-- ---- what is shown of an entry

-- how far a count lies behind another, or before it
abbrev pub off_of : (count other : ℕ) → ℤ
off_of count other =
    if nat_lt count other then neg_ℤ (pos (other - count)) else pos (count - other)

-- what the line of a second shows that device r told
abbrev pub told_shown : (r : ℕ) → ToldSecond → ToldLine
told_shown r told = record {
  device = r;
  edge = told.edge;
  time = time_shown_text told.beat.report.announce;
  lock = lock_text told.beat.report.lock;
  cause = cause_text told.beat.report.cause;
  off = off_of told.told_count told.edge_count;
  bound = option_map (λ u. told.beat.bound_us) told.beat.report.announce;
}

-- what the line of a stamp shows that device r gave of a time
abbrev pub stamp_shown : (r time : ℕ) → Stamp → StampLine
stamp_shown r time stamp = record {
  device = r;
  instant = time;
  time = second_text stamp.second;
  offset = stamp.offset_us;
  bound = stamp.bound_us;
}
