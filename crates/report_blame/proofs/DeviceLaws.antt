-- What an observer makes of entries of devices.
use Rattle.std.proofs.Common.{◌≡◌, ℕ, ◌+◌, ◌<◌, List, [], ◌∷◌, ◌++◌, All, length, get_or, take, Option, Some, None, sym, ap, ◌∙◌, subst}
use Rattle.std.specs.Prelude.{reverse, slice_index_or, vec_len}
use Rattle.std.proofs.lemmas.List.{reverse-append, take_more}
use Rattle.irig_station.specs.declared.audit.Audit.{Audit}
use Rattle.irig_station.specs.declared.entry.Entry.{Entry}
use Rattle.irig_station.specs.declared.event.Event.{Event}
use Rattle.irig_station.specs.StationSetups.{StationSetup}
use Rattle.irig_station.specs.ValidEntries.{IsOfDevice}
use Rattle.report_log.specs.Text.{name_at}
use Rattle.irig_station_scene.specs.StationText.{station_audit_text}
use Rattle.irig_station_scene.specs.StationListening.{SaysMore, entries_by}
use Rattle.irig_station_scene.specs.StationScenes.{StationScene, event_in_scene, newest_first, station_audit}
use Rattle.irig_station_scene.specs.StationTexts.{verdict_in_scene}
use Rattle.irig_station_scene.proofs.EventLaws.{newest_joins}
use Rattle.report_found.specs.declared.account.Account.{Account}
use Rattle.report_found.specs.declared.finding.Finding.{Finding}
use Rattle.report_found.specs.declared.tick.Tick.{Tick}
use Rattle.report_found.specs.Accounts.{account_of}
use Rattle.report_found.specs.Books.{HasTicks, with_tick}
use Rattle.report_found.specs.DeviceScenes.{ended_by_entries, ended_by_tick, open_of_devices}
use Rattle.report_found.specs.DeviceTicks.{device_ticks, tick_of_told}
use Rattle.report_found.specs.Findings.{lists_below, ended_found, open_found}
use Rattle.report_found.proofs.DeviceLaws.{book_begins, book_goes_on, book_takes, lists_of_devices, nothing_ended, open_is_of_devices, tick_ended}
use Rattle.report_found.proofs.GrowLaws.{list_then, lists_alike}
use Rattle.report_blame.specs.declared.observer.Observer.{Observer}
use Rattle.report_blame.specs.declared.reach.Reach.{Reach}
use Rattle.report_blame.specs.BlameStays.{text_joins}
use Rattle.report_blame.specs.BlameText.{closing_in_station, station_blame_texts, totals_in_station}
use Rattle.report_blame.specs.DeviceRuns.{HasSeen, HasSeenSince, IsObserverAtStation, ended_since}
use Rattle.report_blame.specs.Reaches.{AreReaches, reach_at, reach_of}
use Rattle.report_blame.specs.Text.{findings_text, total_lines}
use Rattle.report_blame.proofs.ReachLaws.{reach_known}

-- ---- nothing has happened

pub begins_with : (o : Observer) (x : StationScene) → x.events ≡ [] → vec_len o.book.accounts ≡ length x.plan.setup.devices → All (λ (a : Account). a ≡ account_of []) o.book.accounts.items
    → o.book.ports ≡ length x.plan.setup.generators → AreReaches o.reaches (length x.plan.setup.devices) [] → IsObserverAtStation o x
begins_with o x begun count new ports reaches =
    let nothing : newest_first x ≡ [] = ap (λ ev. newest_first (record { plan = x.plan; events = ev })) begun in
    subst (HasSeen o x.plan.setup) (sym nothing) (record { book = book_begins o.book x.plan.setup count new ports; reaches = reaches })

-- ---- an entry

module _ (o : Observer) (s : StationSetup) (e : Entry) (before newest : List Entry) (at : HasSeenSince o s before newest) where
  -- a stamp
  pub seen_so : (q : Observer) → tick_of_told s e ≡ None → q.book ≡ o.book → q.ended ≡ o.ended → AreReaches q.reaches (length s.devices) (e ∷ (newest ++ before)) → HasSeenSince q s before (e ∷ newest)
  seen_so q none same kept reaches = record {
    seen = record {
      book = book_goes_on q.book s e (newest ++ before) (rw same at.seen.book) none;
      reaches = reaches;
    };
    ended = ap (λ v. v.items) kept ∙ at.ended ∙ nothing_ended o.book s e (newest ++ before) at.seen.book (ended_since s before newest) none;
  }

  -- a told second
  pub seen_by : (q : Observer) (t : Tick) → tick_of_told s e ≡ Some t → IsOfDevice (length s.devices) e → q.book.ports ≡ o.book.ports
      → ((n : ℕ) (ticks : ℕ → List Tick) → HasTicks o.book n ticks → t.entry.reader < n
      → q.ended.items ≡ o.ended.items ++ ended_found t.entry.reader o.book.ports (account_of (ticks t.entry.reader)) t)
      → ((n : ℕ) (ticks : ℕ → List Tick) → HasTicks o.book n ticks → t.entry.reader < n → HasTicks q.book n (with_tick t ticks))
      → AreReaches q.reaches (length s.devices) (e ∷ (newest ++ before)) → HasSeenSince q s before (e ∷ newest)
  seen_by q t is known ports found added reaches = record {
    seen = record {
      book = book_takes o.book s e (newest ++ before) at.seen.book q.book t is known ports added;
      reaches = reaches;
    };
    ended = tick_ended o.book s e (newest ++ before) at.seen.book o.ended.items q.ended.items t is known found
        ∙ ap (λ l. l ++ ended_by_tick s (newest ++ before) (tick_of_told s e)) at.ended;
  }

-- ---- an event

-- what was added to a text is what is said of the scene more
pub ends_say : (lines : List ℕ) (o : Observer) (x : StationScene) (e : Event) (names : List (List ℕ)) (entries : List Entry) (old new : List ℕ) → names ≡ x.plan.names → entries ≡ entries_by x e
    → HasSeenSince o x.plan.setup (newest_first x) (reverse entries) → new ≡ old ++ findings_text lines names o.ended.items → SaysMore (station_blame_texts lines) x (event_in_scene x e).scene old new
ends_say lines o x e names entries old new named logged seen added =
    let s = x.plan.setup in
    let before = newest_first x in
    record {
      more = findings_text lines x.plan.names (ended_since s before (reverse (entries_by x e)));
      said = ap (λ es. findings_text lines x.plan.names (ended_by_entries s es)) (newest_joins x e) ∙ text_joins lines x.plan.names s before (reverse (entries_by x e));
      added = added
          ∙ ap (λ names. old ++ findings_text lines names o.ended.items) named
          ∙ ap (λ found. old ++ findings_text lines x.plan.names found) (seen.ended ∙ ap (λ (es : List Entry). ended_since s before (reverse es)) logged);
    }

-- ---- what is left

module _ (lines : List ℕ) (o : Observer) (names : List (List ℕ)) (x : StationScene) (at : IsObserverAtStation o x) (named : names ≡ x.plan.names) (reaches : List (Option Reach)) (same : reaches ≡ o.reaches.each.items) where
  -- the totals
  totals_are : lists_below (λ r. total_lines lines (name_at names r) (reach_at reaches r) o.book.ports (slice_index_or o.book.accounts.items r (account_of []))) (vec_len o.book.accounts) ≡ totals_in_station lines x
  totals_are =
      let s = x.plan.setup in
      let before = newest_first x in
      lists_of_devices (λ r. total_lines lines (name_at names r) (reach_at reaches r)) o.book s before at.book
      ∙ lists_alike (λ r. total_lines lines (name_at names r) (reach_at reaches r) (length s.generators) (account_of (device_ticks s r before)))
      (λ r. total_lines lines (name_at names r) (reach_of r before) (length s.generators) (account_of (device_ticks s r before))) (length s.devices)
      (λ r lt. ap (λ reach. total_lines lines (name_at names r) reach (length s.generators) (account_of (device_ticks s r before)))
      (ap (λ xs. reach_at xs r) same ∙ reach_known o.reaches (length s.devices) before r lt at.reaches))
      ∙ ap (λ names. lists_below (λ r. total_lines lines (name_at names r) (reach_of r before) (length s.generators) (account_of (device_ticks s r before))) (length s.devices)) named

  pub closing_of_devices : (left : List Finding) (b0 b1 b2 : List ℕ)
      → left ≡ lists_below (λ r. open_found r o.book.ports (slice_index_or o.book.accounts.items r (account_of []))) (vec_len o.book.accounts)
      → b1 ≡ b0 ++ findings_text lines names left
      → b2 ≡ b1 ++ lists_below (λ r. total_lines lines (name_at names r) (reach_at reaches r) o.book.ports (slice_index_or o.book.accounts.items r (account_of []))) (vec_len o.book.accounts)
      → b2 ≡ b0 ++ closing_in_station lines x
  closing_of_devices left b0 b1 b2 is opened counted =
      let s = x.plan.setup in
      let before = newest_first x in
      let text = ap (findings_text lines names) (is ∙ open_is_of_devices o.book s before at.book) ∙ ap (λ names. findings_text lines names (open_of_devices s before)) named in
      list_then b0 b1 b2 _ _ (opened ∙ ap (λ t. b0 ++ t) text) (counted ∙ ap (λ t. b1 ++ t) totals_are)

-- and the audit
pub end_of_devices : (x : StationScene) (lines : List ℕ) (names : List (List ℕ)) (audit : Audit) (b0 b2 b3 : List ℕ) → names ≡ x.plan.names → audit ≡ station_audit x
    → b2 ≡ b0 ++ closing_in_station lines x → b3 ≡ b2 ++ station_audit_text names audit → b3 ≡ b0 ++ (closing_in_station lines x ++ verdict_in_scene x)
end_of_devices x lines names audit b0 b2 b3 named audited closed ended =
    list_then b0 b2 b3 _ _ closed (ended ∙ ap (λ a. b2 ++ station_audit_text names a) audited ∙ ap (λ names. b2 ++ station_audit_text names (station_audit x)) named)

-- ---- entries one after another

pub newest_more : (es : List Entry) (i : ℕ) (d : Entry) → i < length es → get_or es i d ∷ reverse (take i es) ≡ reverse (take (i + 1) es)
newest_more es i d lt = sym (ap reverse (take_more es i d lt) ∙ reverse-append (take i es) (get_or es i d ∷ []))
