-- What the line of an entry shows is true if the entry is.
use Rattle.std.proofs.Common.{◌≡◌, ◌≢◌, ◌⊎◌, ℕ, suc, ◌+◌, ◌-◌, ◌*◌, ◌^◌, ◌<◌, ◌≤◌, Bool, true, false, cond, nat_lt, ℤ, pos, negsuc, unsigned_abs, List, ◌++◌, All, Option, Some, None, refl, ap, sym, subst, ◌∙◌, arith, codes, inl, inr, IfSome, IsSomeAnd}
use Rattle.std.specs.Prelude.{option_map, unwrap_or, slice_get}
use Rattle.std.specs.Fmt.{decimal}
use Rattle.std.proofs.lemmas.List.Elements.{All-contains}
use Rattle.irig_time.specs.declared.second.UtcSecond.{UtcSecond}
use Rattle.irig_time.specs.Timelines.{TimelineValue, IsSecond}
use Rattle.irig_time.specs.TextValues.{second_text}
use Rattle.irig_time.proofs.SecondAt.{second_is}
use Rattle.irig_timekeeper.specs.declared.stamp.Stamp.{Stamp}
use Rattle.irig_simulated.specs.Setups.{DevicePlan}
use Rattle.irig_simulated.specs.Truth.{IsToldOfItsEdge}
use Rattle.irig_simulated.specs.declared.told_second.ToldSecond.{ToldSecond}
use Rattle.irig_station.specs.declared.entry.Entry.{Entry}
use Rattle.irig_station.specs.declared.entry.Entry.TheVariants.{Told, Stamped}
use Rattle.irig_station.specs.StationPromise.{IsLoggedFrom, IsStampOfTime, IsTrueEntry, drift_of_device}
use Rattle.irig_station.specs.StationSetups.{StationSetup, kind_if, redundancy_of_station}
use Rattle.scenario_devices.specs.StationLine.{StationPlan}
use Rattle.report_log.specs.Text.{time_shown_text}
use Rattle.report_log.proofs.WordLaws.{AreNames}
use Rattle.irig_station_scene.specs.StationText.{bound_text, off_text}
use Rattle.irig_station_scene.specs.StationLines.{ShowsStamp, ShowsTold, StampLine, ToldLine, bound_word, signed_word}
use Rattle.irig_station_scene.proofs.NumberLaws.{no_dash, one_decimal}
use Rattle.irig_station_scene.proofs.StationLineLaws.{station_line}
use Rattle.irig_station_scene.proofs.StationReadLaws.{none_is_shown, stamp_as, stamped_line_no_told, told_as, told_line_no_stamp}
use Rattle.irig_scenario.specs.StationLogs.{AreStampsTogether, IsTrueStamp, IsTrueTold, ShowTruth, ShowsStationTruth, drift_at, most_off}

-- ---- a told second

-- what stands behind the sign
off_is : (z : ℤ) (before : Bool) (m n : ℕ) → unsigned_abs z < 2 ^ 64 → signed_word z ≡ cond before (codes "-" ++ decimal m) (codes "+" ++ decimal n) → (unsigned_abs z ≡ m) ⊎ (unsigned_abs z ≡ n)
off_is (pos k) true m n few e = absurd (let apart : ◌≡◌ {A = ℕ} 43 45 = cc in omega (arith, apart))
off_is (pos k) false m n few e = inr (let same : decimal k ≡ decimal n = cc in one_decimal k n few same)
off_is (negsuc k) true m n few e = inl (let same : decimal (suc k) ≡ decimal m = cc in one_decimal (suc k) m few same)
off_is (negsuc k) false m n few e = absurd (let apart : ◌≡◌ {A = ℕ} 45 43 = cc in omega (arith, apart))

off_near : (z : ℤ) (count other bound : ℕ) → unsigned_abs z < 2 ^ 64 → signed_word z ≡ off_text count other → other ≤ count + bound → count ≤ other + bound → unsigned_abs z ≤ bound
off_near z count other bound few e least most = elim (off_is z (nat_lt count other) (other - count) (count - other) few e) [
  | inl before ↦ omega (arith, before, least)
  | inr behind ↦ omega (arith, behind, most)
]

near_is : (o : Option ℕ) (off bound : ℕ) → IfSome o (λ b. b < 2 ^ 64) → bound_word o ≡ decimal bound → off ≤ bound → IsSomeAnd o (λ b. off ≤ b)
near_is None off bound few e near = absurd (no_dash bound (sym e))
near_is (Some b) off bound few e near = omega (arith, one_decimal b bound few e, near)

told_true : (t : TimelineValue) (told : ToldSecond) (x : ToldLine) (o : Option UtcSecond) → told.beat.report.announce ≡ o → x.edge ≡ told.edge → x.time ≡ time_shown_text o
    → unsigned_abs x.off < 2 ^ 64 → signed_word x.off ≡ off_text told.told_count told.edge_count → IfSome x.bound (λ b. b < 2 ^ 64) → bound_word x.bound ≡ bound_text o told.beat.bound_us
    → x.time ≢ codes "-" → IsToldOfItsEdge t told → IsTrueTold t x
told_true t told x None says edge time few off small bound full is = absurd (full time)
told_true t told x (Some u) says edge time few off small bound full is =
    let truth = is u says in
    record {
      time = record { second = u; is_true = (second_is t x.edge u).1 (subst (λ (n : ℕ). IsSecond t n u) (sym edge) truth.0); written = time };
      near = near_is x.bound (unsigned_abs x.off) told.beat.bound_us small bound (off_near x.off told.told_count told.edge_count told.beat.bound_us few off truth.1 truth.2);
    }

-- ---- a stamp

drift_is : (s : StationSetup) (o : Option DevicePlan) → unwrap_or (option_map (λ d. d.drift_us) o) 0 ≡ (kind_if s.rules (redundancy_of_station s) o).made.clock.drift_us
drift_is s None = refl
drift_is s (Some d) = refl

stamp_true : (s : StationSetup) (r time : ℕ) (stamp : Stamp) (x : StampLine) → x.device ≡ r → x.instant ≡ time → x.time ≡ second_text stamp.second → x.offset ≡ stamp.offset_us → x.bound ≡ stamp.bound_us
    → IsStampOfTime s.times (drift_of_device s r) time (Some stamp) → IsTrueStamp s.times (most_off s.devices x) x
stamp_true s r time stamp x device instant second offset bound is =
    let drift : drift_at s.devices x.device ≡ drift_of_device s r = ap (drift_at s.devices) device ∙ drift_is s (slice_get s.devices r) in
    record {
      m = is.m;
      time = record { second = stamp.second; is_true = (second_is s.times is.m stamp.second).1 is.truth; written = second };
      early = omega (arith, is.early, drift, instant, offset, bound);
      late = omega (arith, is.late, drift, instant, offset, bound);
    }

-- ---- the line of an entry

module _ (plan : StationPlan) (names : AreNames plan.names) where
  pub entry_shows_truth : (e : Entry) → IsTrueEntry plan.setup e → ShowsStationTruth plan (station_line plan.names e)
  entry_shows_truth (Told r told) is = record {
    told = λ x shows full.
        let read = told_as plan.names r told x names shows in
        told_true plan.setup.times told x told.beat.report.announce refl read.edge_is read.time_is shows.off read.off_is shows.bound read.bound_is full is;
    stamp = λ x shows. absurd (told_line_no_stamp plan.names r told x shows);
  }
  entry_shows_truth (Stamped r time None) is = record {
    told = λ x shows full. absurd (stamped_line_no_told plan.names r time None x shows);
    stamp = λ x shows. absurd (none_is_shown plan.names r time x names shows);
  }
  entry_shows_truth (Stamped r time (Some stamp)) is = record {
    told = λ x shows full. absurd (stamped_line_no_told plan.names r time (Some stamp) x shows);
    stamp = λ x shows.
        let read = stamp_as plan.names r time stamp x names shows in
        stamp_true plan.setup r time stamp x read.device_is read.instant_is read.time_is read.offset_is read.bound_is is;
  }

  -- a line shows that it was logged in the second of edge n or later
  pub record ShowsLate (ago n : ℕ) (line : List ℕ) : Type 0 where
    pub told : (x : ToldLine) → ShowsTold plan.names line x → n ≤ x.edge + 1
    pub stamp : (x : StampLine) → ShowsStamp plan.names line x → n * 1000000 ≤ x.instant + ago

  pub entry_shows_late : (ago n : ℕ) (e : Entry) → IsLoggedFrom ago n e → ShowsLate ago n (station_line plan.names e)
  entry_shows_late ago n (Told r told) late = record {
    told = λ x shows. (let read = told_as plan.names r told x names shows in omega (arith, read.edge_is, late));
    stamp = λ x shows. absurd (told_line_no_stamp plan.names r told x shows);
  }
  entry_shows_late ago n (Stamped r time None) late = record {
    told = λ x shows. absurd (stamped_line_no_told plan.names r time None x shows);
    stamp = λ x shows. absurd (none_is_shown plan.names r time x names shows);
  }
  entry_shows_late ago n (Stamped r time (Some stamp)) late = record {
    told = λ x shows. absurd (stamped_line_no_told plan.names r time (Some stamp) x shows);
    stamp = λ x shows. (let read = stamp_as plan.names r time stamp x names shows in omega (arith, read.instant_is, late));
  }

-- ---- true lines

stamps_together : (t : TimelineValue) (p q : ℕ) (x y : StampLine) → IsTrueStamp t p x → IsTrueStamp t q y → x.instant ≡ y.instant → AreStampsTogether t (p + q) x y
stamps_together t p q x y one two same = record {
  m = one.m;
  n = two.m;
  one = one.time;
  two = two.time;
  least = omega (arith, one.late, two.early, same);
  most = omega (arith, one.early, two.late, same);
}

pub lines_show_truth : (plan : StationPlan) (ls : List (List ℕ)) → All (ShowsStationTruth plan) ls → ShowTruth plan ls
lines_show_truth plan ls each = record {
  each = each;
  together = λ first second x y has has_too shows shows_too same.
      stamps_together plan.setup.times (most_off plan.setup.devices x) (most_off plan.setup.devices y) x y
      ((All-contains (ShowsStationTruth plan) ls first each has).stamp x shows)
      ((All-contains (ShowsStationTruth plan) ls second each has_too).stamp y shows_too) same;
}
