-- A line of a log of devices is read in one way.
use Rattle.std.proofs.Common.{◌≡◌, ◌≢◌, ℕ, zero, suc, ◌-◌, ◌^◌, ◌<◌, ◌≤◌, pos, neg_ℤ, unsigned_abs, nat_lt, List, [], ◌∷◌, ◌++◌, length, Option, Some, None, IfSome, option_map, refl, ap, sym, ◌∙◌, arith, codes, inl, inr}
use Rattle.std.specs.List.{AllByRecursion}
use Rattle.std.specs.Fmt.{decimal}
use Rattle.std.proofs.lemmas.Bool.{cases_Bool, ltb-true}
use Rattle.std.proofs.lemmas.Fmt.{decimal_nonempty}
use Rattle.std.proofs.lemmas.List.Elements.{All-from_recursion, recursion_from_All}
use Rattle.irig_time.specs.declared.second.UtcSecond.{UtcSecond}
use Rattle.irig_time.specs.TextValues.{second_text}
use Rattle.irig_timekeeper.specs.declared.stamp.Stamp.{Stamp}
use Rattle.irig_simulated.specs.declared.told_second.ToldSecond.{ToldSecond}
use Rattle.report_log.specs.Text.{cause_text, lock_text, name_at, time_shown_text}
use Rattle.report_log.proofs.WordLaws.{AreNames, IsWord, cause_word, decimal_number, decimal_word, lock_word, name_is_word, name_of_one, second_word, word_by_test}
use Rattle.report_log.proofs.LogLaws.{NoBlank, digit_first, split, word_no_blank}
use Rattle.irig_station_scene.specs.StationText.{bound_text, instant_text, off_text}
use Rattle.irig_station.specs.ValidEntries.{IsStampInRange, IsToldInRange}
use Rattle.irig_station_scene.specs.StationLines.{HasNoBlank, ShowsNeither, ShowsStamp, ShowsTold, StampLine, ToldLine, bound_word, off_of, signed_word, stamp_shown, told_shown}
use Rattle.irig_station_scene.proofs.NumberLaws.{no_dash, one_bound, one_decimal, one_instant, one_signed, signed_is_word}
use Rattle.irig_station_scene.proofs.StationLineLaws.{instant_word, off_word, stamped_line, time_is_word, told_line}

plain : (word : List ℕ) → HasNoBlank word → NoBlank word
plain word h = recursion_from_All (λ b. b ≢ 32) word h

name_plain : (names : List (List ℕ)) (r : ℕ) → AreNames names → NoBlank (name_at names r)
name_plain names r h = word_no_blank (name_at names r) (name_is_word names r h)

decimal_plain : (n : ℕ) → NoBlank (decimal n)
decimal_plain n = word_no_blank (decimal n) (decimal_word n)

-- ---- told seconds

-- this is what a line with these fields shows
pub record IsToldAs (x : ToldLine) (device edge : ℕ) (time lock cause off bound : List ℕ) : Type 0 where
  pub device_is : x.device ≡ device
  pub edge_is : x.edge ≡ edge
  pub time_is : x.time ≡ time
  pub lock_is : x.lock ≡ lock
  pub cause_is : x.cause ≡ cause
  pub off_is : signed_word x.off ≡ off
  pub bound_is : bound_word x.bound ≡ bound

told_fields : (names : List (List ℕ)) (line : List ℕ) (x : ToldLine) (device edge : ℕ) (time lock cause off bound : List ℕ) → AreNames names → ShowsTold names line x
    → NoBlank time → NoBlank lock → NoBlank cause → NoBlank off
    → line ≡ decimal edge ++ (32 ∷ (name_at names device ++ (32 ∷ (time ++ (32 ∷ (lock ++ (32 ∷ (cause ++ (32 ∷ (off ++ (32 ∷ bound)))))))))))
    → IsToldAs x device edge time lock cause off bound
told_fields names line x device edge time lock cause off bound h shows no_time no_lock no_cause no_off is =
    let edges = split (decimal x.edge) (decimal edge) _ _ (decimal_plain x.edge) (decimal_plain edge) (sym shows.is ∙ is) in
    let devices = split (name_at names x.device) (name_at names device) _ _ (name_plain names x.device h) (name_plain names device h) edges.1 in
    let times = split x.time time _ _ (plain x.time shows.time) no_time devices.1 in
    let locks = split x.lock lock _ _ (plain x.lock shows.lock) no_lock times.1 in
    let causes = split x.cause cause _ _ (plain x.cause shows.cause) no_cause locks.1 in
    let offs = split (signed_word x.off) off _ _ (word_no_blank (signed_word x.off) (signed_is_word x.off)) no_off causes.1 in
    record {
      device_is = name_of_one names x.device device h shows.named devices.0;
      edge_is = one_decimal x.edge edge shows.edge edges.0;
      time_is = times.0;
      lock_is = locks.0;
      cause_is = causes.0;
      off_is = offs.0;
      bound_is = offs.1;
    }

-- the line of an entry
pub told_as : (names : List (List ℕ)) (r : ℕ) (told : ToldSecond) (x : ToldLine) → AreNames names → ShowsTold names (told_line (name_at names r) told) x
    → IsToldAs x r told.edge (time_shown_text told.beat.report.announce) (lock_text told.beat.report.lock) (cause_text told.beat.report.cause)
    (off_text told.told_count told.edge_count) (bound_text told.beat.report.announce told.beat.bound_us)
told_as names r told x h shows =
    told_fields names (told_line (name_at names r) told) x r told.edge (time_shown_text told.beat.report.announce) (lock_text told.beat.report.lock) (cause_text told.beat.report.cause)
    (off_text told.told_count told.edge_count) (bound_text told.beat.report.announce told.beat.bound_us) h shows
    (word_no_blank _ (time_is_word told.beat.report.announce)) (word_no_blank _ (lock_word told.beat.report.lock)) (word_no_blank _ (cause_word told.beat.report.cause))
    (word_no_blank _ (off_word told.told_count told.edge_count)) refl

same_told : (x y : ToldLine) → x.device ≡ y.device → x.edge ≡ y.edge → x.time ≡ y.time → x.lock ≡ y.lock → x.cause ≡ y.cause → x.off ≡ y.off → x.bound ≡ y.bound → x ≡ y
same_told x y device edge time lock cause off bound =
    λ i. record { device = device i; edge = edge i; time = time i; lock = lock i; cause = cause i; off = off i; bound = bound i }

pub told_once : (names : List (List ℕ)) (line : List ℕ) (x y : ToldLine) → AreNames names → ShowsTold names line x → ShowsTold names line y → x ≡ y
told_once names line x y h one two =
    let same = told_fields names line x y.device y.edge y.time y.lock y.cause (signed_word y.off) (bound_word y.bound) h one (plain y.time two.time) (plain y.lock two.lock) (plain y.cause two.cause)
    (word_no_blank (signed_word y.off) (signed_is_word y.off)) two.is in
    same_told x y same.device_is same.edge_is same.time_is same.lock_is same.cause_is (one_signed x.off y.off one.off same.off_is) (one_bound x.bound y.bound one.bound same.bound_is)

-- ---- stamps

pub record IsStampAs (x : StampLine) (device instant : ℕ) (time : List ℕ) (offset bound : ℕ) : Type 0 where
  pub device_is : x.device ≡ device
  pub instant_is : x.instant ≡ instant
  pub time_is : x.time ≡ time
  pub offset_is : x.offset ≡ offset
  pub bound_is : x.bound ≡ bound

-- what stands behind the name
record HasStampWords (x : StampLine) (device instant : ℕ) (rest : List ℕ) : Type 0 where
  device_is : x.device ≡ device
  instant_is : x.instant ≡ instant
  rest_is : x.time ++ (32 ∷ (decimal x.offset ++ (32 ∷ decimal x.bound))) ≡ rest

stamp_words : (names : List (List ℕ)) (line : List ℕ) (x : StampLine) (device instant : ℕ) (rest : List ℕ) → AreNames names → ShowsStamp names line x
    → line ≡ 64 ∷ (instant_text instant ++ (32 ∷ (name_at names device ++ (32 ∷ rest)))) → HasStampWords x device instant rest
stamp_words names line x device instant rest h shows is =
    let behind : instant_text x.instant ++ (32 ∷ (name_at names x.device ++ (32 ∷ (x.time ++ (32 ∷ (decimal x.offset ++ (32 ∷ decimal x.bound)))))))
    ≡ instant_text instant ++ (32 ∷ (name_at names device ++ (32 ∷ rest))) = (let both = sym shows.is ∙ is in cc) in
    let instants = split (instant_text x.instant) (instant_text instant) _ _ (word_no_blank _ (instant_word x.instant)) (word_no_blank _ (instant_word instant)) behind in
    let devices = split (name_at names x.device) (name_at names device) _ _ (name_plain names x.device h) (name_plain names device h) instants.1 in
    record {
      device_is = name_of_one names x.device device h shows.named devices.0;
      instant_is = one_instant x.instant instant shows.instant instants.0;
      rest_is = devices.1;
    }

stamp_fields : (names : List (List ℕ)) (line : List ℕ) (x : StampLine) (device instant : ℕ) (time : List ℕ) (offset bound : ℕ) → AreNames names → ShowsStamp names line x → NoBlank time
    → line ≡ 64 ∷ (instant_text instant ++ (32 ∷ (name_at names device ++ (32 ∷ (time ++ (32 ∷ (decimal offset ++ (32 ∷ decimal bound))))))))
    → IsStampAs x device instant time offset bound
stamp_fields names line x device instant time offset bound h shows no_time is =
    let words = stamp_words names line x device instant _ h shows is in
    let times = split x.time time _ _ (plain x.time shows.time) no_time words.rest_is in
    let offsets = split (decimal x.offset) (decimal offset) _ _ (decimal_plain x.offset) (decimal_plain offset) times.1 in
    record {
      device_is = words.device_is;
      instant_is = words.instant_is;
      time_is = times.0;
      offset_is = one_decimal x.offset offset shows.offset offsets.0;
      bound_is = one_decimal x.bound bound shows.bound offsets.1;
    }

-- the line of an entry
pub stamp_as : (names : List (List ℕ)) (r time : ℕ) (stamp : Stamp) (x : StampLine) → AreNames names → ShowsStamp names (stamped_line (name_at names r) time (Some stamp)) x
    → IsStampAs x r time (second_text stamp.second) stamp.offset_us stamp.bound_us
stamp_as names r time stamp x h shows =
    stamp_fields names (stamped_line (name_at names r) time (Some stamp)) x r time (second_text stamp.second) stamp.offset_us stamp.bound_us h shows (word_no_blank _ (second_word stamp.second)) refl

-- three dashes are no stamp
pub none_is_shown : (names : List (List ℕ)) (r time : ℕ) (x : StampLine) → AreNames names → ¬ ShowsStamp names (stamped_line (name_at names r) time None) x
none_is_shown names r time x h shows =
    let words = stamp_words names (stamped_line (name_at names r) time None) x r time (codes "- - -") h shows refl in
    let dash = word_no_blank (codes "-") (word_by_test (codes "-") refl) in
    let times = split x.time (codes "-") _ (codes "- -") (plain x.time shows.time) dash words.rest_is in
    let offsets = split (decimal x.offset) (codes "-") _ (codes "-") (decimal_plain x.offset) dash times.1 in
    no_dash x.offset offsets.0

same_stamp : (x y : StampLine) → x.device ≡ y.device → x.instant ≡ y.instant → x.time ≡ y.time → x.offset ≡ y.offset → x.bound ≡ y.bound → x ≡ y
same_stamp x y device instant time offset bound =
    λ i. record { device = device i; instant = instant i; time = time i; offset = offset i; bound = bound i }

pub stamp_once : (names : List (List ℕ)) (line : List ℕ) (x y : StampLine) → AreNames names → ShowsStamp names line x → ShowsStamp names line y → x ≡ y
stamp_once names line x y h one two =
    let same = stamp_fields names line x y.device y.instant y.time y.offset y.bound h one (plain y.time two.time) two.is in
    same_stamp x y same.device_is same.instant_is same.time_is same.offset_is same.bound_is

-- ---- how a line begins

-- that of a told second with a digit
told_digit : (names : List (List ℕ)) (b : ℕ) (bs : List ℕ) (x : ToldLine) → ShowsTold names (b ∷ bs) x → b < 58
told_digit names b bs x shows = digit_first (decimal x.edge) _ b bs (decimal_nonempty x.edge shows.edge) (decimal_number x.edge) shows.is

-- and that of a stamp with `@`
stamp_at : (names : List (List ℕ)) (b : ℕ) (bs : List ℕ) (x : StampLine) → ShowsStamp names (b ∷ bs) x → b ≡ 64
stamp_at names b bs x shows = (let is = shows.is in cc)

pub told_no_stamp : (names : List (List ℕ)) (line : List ℕ) (x : ToldLine) (y : StampLine) → ShowsTold names line x → ¬ ShowsStamp names line y
told_no_stamp names line x y told stamp =
    let low : 64 < 58 = digit_first (decimal x.edge) _ 64 _ (decimal_nonempty x.edge told.edge) (decimal_number x.edge) (sym stamp.is ∙ told.is) in
    omega (arith, low)

-- the line of an entry is of its own kind
pub told_line_no_stamp : (names : List (List ℕ)) (r : ℕ) (told : ToldSecond) (y : StampLine) → ¬ ShowsStamp names (told_line (name_at names r) told) y
told_line_no_stamp names r told y stamp = at_sign (decimal told.edge) _ _ (decimal_number told.edge) stamp.is
  where
    at_sign : (l rest more : List ℕ) → AllByRecursion (λ b. (47 < b) × (b < 58)) l → l ++ (32 ∷ rest) ≡ 64 ∷ more → ⊥
    at_sign [] rest more h e = let same : ◌≡◌ {A = ℕ} 32 64 = cc in omega (arith, same)
    at_sign (b ∷ bs) rest more h e = let same : b ≡ 64 = cc in omega (arith, same, h.0.1)

pub stamped_line_no_told : (names : List (List ℕ)) (r time : ℕ) (stamp : Option Stamp) (x : ToldLine) → ¬ ShowsTold names (stamped_line (name_at names r) time stamp) x
stamped_line_no_told names r time stamp x told = omega (arith, told_digit names 64 _ x told)

-- a line shows neither that begins with a letter
pub letter_shows_neither : (names : List (List ℕ)) (b : ℕ) (bs : List ℕ) → 97 ≤ b → ShowsNeither names (b ∷ bs)
letter_shows_neither names b bs letter = record {
  told = λ x shows. omega (arith, letter, told_digit names b bs x shows);
  stamp = λ x shows. omega (arith, letter, stamp_at names b bs x shows);
}

-- ---- the line of an entry shows it

-- with its sign
signed_off : (count other : ℕ) → off_text count other ≡ signed_word (off_of count other)
signed_off count other = elim (cases_Bool (nat_lt count other)) [
  | inl before ↦ rw before (minus (other - count) (omega (arith, ltb-true count other before)))
  | inr behind ↦ rw behind refl
]
  where
    minus : (n : ℕ) → 0 < n → codes "-" ++ decimal n ≡ signed_word (neg_ℤ (pos n))
    minus zero some = absurd (omega (arith, some))
    minus (suc n) some = refl

far_off : (count other most : ℕ) → count < most → other < most → unsigned_abs (off_of count other) < most
far_off count other most low high = elim (cases_Bool (nat_lt count other)) [
  | inl before ↦ rw before (minus (other - count) (omega (arith, high)))
  | inr behind ↦ rw behind (omega (arith, low))
]
  where
    minus : (n : ℕ) → n < most → unsigned_abs (neg_ℤ (pos n)) < most
    minus zero few = few
    minus (suc n) few = few

bound_shown : (o : Option UtcSecond) (bound : ℕ) → bound_text o bound ≡ bound_word (option_map (λ u. bound) o)
bound_shown None bound = refl
bound_shown (Some u) bound = refl

bound_few : (o : Option UtcSecond) (bound : ℕ) → bound < 2 ^ 64 → IfSome (option_map (λ u. bound) o) (λ b. b < 2 ^ 64)
bound_few None bound few = tt
bound_few (Some u) bound few = few

word_plain : (word : List ℕ) → IsWord word → HasNoBlank word
word_plain word h = All-from_recursion (λ b. b ≢ 32) word (word_no_blank word h)

pub told_is_shown : (names : List (List ℕ)) (r : ℕ) (told : ToldSecond) → r < length names → IsToldInRange told → ShowsTold names (told_line (name_at names r) told) (told_shown r told)
told_is_shown names r told known few = record {
  named = known;
  edge = few.edge;
  time = word_plain _ (time_is_word told.beat.report.announce);
  lock = word_plain _ (lock_word told.beat.report.lock);
  cause = word_plain _ (cause_word told.beat.report.cause);
  off = far_off told.told_count told.edge_count (2 ^ 64) few.told_count few.edge_count;
  bound = bound_few told.beat.report.announce told.beat.bound_us few.bound;
  is = ap (λ (off : List ℕ). decimal told.edge ++ (32 ∷ (name_at names r ++ (32 ∷ (time_shown_text told.beat.report.announce ++ (32 ∷ (lock_text told.beat.report.lock
      ++ (32 ∷ (cause_text told.beat.report.cause ++ (32 ∷ (off ++ (32 ∷ bound_text told.beat.report.announce told.beat.bound_us))))))))))))
      (signed_off told.told_count told.edge_count)
      ∙ ap (λ (bound : List ℕ). decimal told.edge ++ (32 ∷ (name_at names r ++ (32 ∷ (time_shown_text told.beat.report.announce ++ (32 ∷ (lock_text told.beat.report.lock
      ++ (32 ∷ (cause_text told.beat.report.cause ++ (32 ∷ (signed_word (off_of told.told_count told.edge_count) ++ (32 ∷ bound))))))))))))
      (bound_shown told.beat.report.announce told.beat.bound_us);
}

pub stamp_is_shown : (names : List (List ℕ)) (r time : ℕ) (stamp : Stamp) → r < length names → IsStampInRange time stamp → ShowsStamp names (stamped_line (name_at names r) time (Some stamp)) (stamp_shown r time stamp)
stamp_is_shown names r time stamp known few = record {
  named = known;
  instant = few.instant;
  time = word_plain _ (second_word stamp.second);
  offset = few.offset;
  bound = few.bound;
  is = refl;
}
