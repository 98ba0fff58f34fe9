-- What a book makes of entries of devices.
use Rattle.std.proofs.Common.{◌≡◌, ℕ, ◌<◌, List, [], ◌∷◌, ◌++◌, All, length, get_or, take, ◌+◌, Option, Some, None, refl, sym, ap, ◌∙◌, subst, arith, append-nil}
use Rattle.std.specs.Prelude.{reverse, slice_index_or, vec_len}
use Rattle.std.proofs.lemmas.List.{reverse-append, take_more}
use Rattle.std.proofs.lemmas.Option.{same_Some, none-some}
use Rattle.irig_station.specs.declared.entry.Entry.{Entry}
use Rattle.irig_station.specs.declared.entry.Entry.TheVariants.{Told, Stamped}
use Rattle.irig_station.specs.StationSetups.{StationSetup}
use Rattle.irig_station.specs.ValidEntries.{IsOfDevice}
use Rattle.irig_station_scene.specs.StationScenes.{StationScene, newest_first}
use Rattle.report_found.specs.declared.account.Account.{Account}
use Rattle.report_found.specs.declared.book.Book.{Book}
use Rattle.report_found.specs.declared.finder.Finder.{Finder}
use Rattle.report_found.specs.declared.finding.Finding.{Finding}
use Rattle.report_found.specs.declared.tick.Tick.{Tick}
use Rattle.report_found.specs.Accounts.{account_of}
use Rattle.report_found.specs.Books.{HasTicks, tick, with_tick}
use Rattle.report_found.specs.DeviceRuns.{HasFoundSoFar, IsBookOfDevices, IsFinderAtStation}
use Rattle.report_found.specs.DeviceScenes.{ended_by_entries, ended_by_tick, open_of_devices}
use Rattle.report_found.specs.DeviceTicks.{device_ticks, entry_of_told, tick_of_told, with_told}
use Rattle.report_found.specs.Findings.{lists_below, ended_found, open_found}
use Rattle.report_found.proofs.BookLaws.{same_ticks}
use Rattle.report_found.proofs.GrowLaws.{lists_alike}

-- ---- nothing has happened

pub book_begins : (b : Book) (s : StationSetup) → vec_len b.accounts ≡ length s.devices → All (λ (a : Account). a ≡ account_of []) b.accounts.items → b.ports ≡ length s.generators → IsBookOfDevices b s []
book_begins b s count new ports = record {
  book = record { count = count; each = λ r d lt. new r d (omega (arith, lt, count, b.accounts.ok.0)) };
  ports = ports;
}

pub begins_with : (f : Finder) (x : StationScene) → x.events ≡ [] → vec_len f.book.accounts ≡ length x.plan.setup.devices → All (λ (a : Account). a ≡ account_of []) f.book.accounts.items
    → f.book.ports ≡ length x.plan.setup.generators → f.findings.items ≡ [] → IsFinderAtStation f x
begins_with f x begun count new ports none =
    let nothing : newest_first x ≡ [] = ap (λ ev. newest_first (record { plan = x.plan; events = ev })) begun in
    subst (HasFoundSoFar f x.plan.setup) (sym nothing) (record { book = book_begins f.book x.plan.setup count new ports; found = none })

-- ---- an entry

-- the tick of an entry is of its device
pub tick_known : (s : StationSetup) (e : Entry) (t : Tick) → tick_of_told s e ≡ Some t → IsOfDevice (length s.devices) e → t.entry.reader < length s.devices
tick_known s (Told r told) t is known =
    let same : t.entry.reader ≡ r = ap (λ (t : Tick). t.entry.reader) (same_Some t (tick (entry_of_told s r told)) (sym is)) in
    omega (arith, known, same)
tick_known s (Stamped r time stamp) t is known = absurd (none-some t is)

-- one more tick is one of its device
pub ticks_more : (s : StationSetup) (e : Entry) (before : List Entry) (t : Tick) → tick_of_told s e ≡ Some t → (r : ℕ) → with_tick t (λ r. device_ticks s r before) r ≡ device_ticks s r (e ∷ before)
ticks_more s e before t is r = sym (ap (λ o. with_told r o (device_ticks s r before)) is)

pub ticks_stay : (s : StationSetup) (e : Entry) (before : List Entry) → tick_of_told s e ≡ None → (r : ℕ) → device_ticks s r before ≡ device_ticks s r (e ∷ before)
ticks_stay s e before is r = sym (ap (λ o. with_told r o (device_ticks s r before)) is)

-- a book of devices
module _ (b : Book) (s : StationSetup) (e : Entry) (before : List Entry) (at : IsBookOfDevices b s before) where
  -- a stamp
  pub book_goes_on : tick_of_told s e ≡ None → IsBookOfDevices b s (e ∷ before)
  book_goes_on none = record {
    book = same_ticks b (length s.devices) (λ r. device_ticks s r before) (λ r. device_ticks s r (e ∷ before)) (ticks_stay s e before none) at.book;
    ports = at.ports;
  }

  -- a told second
  pub book_takes : (q : Book) (t : Tick) → tick_of_told s e ≡ Some t → IsOfDevice (length s.devices) e → q.ports ≡ b.ports
      → ((n : ℕ) (ticks : ℕ → List Tick) → HasTicks b n ticks → t.entry.reader < n → HasTicks q n (with_tick t ticks)) → IsBookOfDevices q s (e ∷ before)
  book_takes q t is known ports added =
      let n = length s.devices in
      let ticks : ℕ → List Tick = λ r. device_ticks s r before in
      record {
        book = same_ticks q n (with_tick t ticks) (λ r. device_ticks s r (e ∷ before)) (ticks_more s e before t is) (added n ticks at.book (tick_known s e t is known));
        ports = ports ∙ at.ports;
      }

  -- what is pushed is what the entry ends
  pub nothing_ended : (found : List Finding) → tick_of_told s e ≡ None → found ≡ found ++ ended_by_tick s before (tick_of_told s e)
  nothing_ended found none = sym (append-nil found) ∙ ap (λ o. found ++ ended_by_tick s before o) (sym none)

  pub tick_ended : (old new : List Finding) (t : Tick) → tick_of_told s e ≡ Some t → IsOfDevice (length s.devices) e
      → ((n : ℕ) (ticks : ℕ → List Tick) → HasTicks b n ticks → t.entry.reader < n → new ≡ old ++ ended_found t.entry.reader b.ports (account_of (ticks t.entry.reader)) t)
      → new ≡ old ++ ended_by_tick s before (tick_of_told s e)
  tick_ended old new t is known found =
      let ticks : ℕ → List Tick = λ r. device_ticks s r before in
      found (length s.devices) ticks at.book (tick_known s e t is known)
      ∙ ap (λ ports. old ++ ended_found t.entry.reader ports (account_of (ticks t.entry.reader)) t) at.ports
      ∙ ap (λ o. old ++ ended_by_tick s before o) (sym is)

-- and what is kept of all that ended
module _ (f : Finder) (s : StationSetup) (e : Entry) (before : List Entry) (at : HasFoundSoFar f s before) where
  pub goes_on_so : tick_of_told s e ≡ None → HasFoundSoFar f s (e ∷ before)
  goes_on_so none = record {
    book = book_goes_on f.book s e before at.book none;
    found = at.found ∙ nothing_ended f.book s e before at.book (ended_by_entries s before) none;
  }

  pub goes_on_by : (q : Finder) (t : Tick) → tick_of_told s e ≡ Some t → IsOfDevice (length s.devices) e → q.book.ports ≡ f.book.ports
      → ((n : ℕ) (ticks : ℕ → List Tick) → HasTicks f.book n ticks → t.entry.reader < n
      → q.findings.items ≡ f.findings.items ++ ended_found t.entry.reader f.book.ports (account_of (ticks t.entry.reader)) t)
      → ((n : ℕ) (ticks : ℕ → List Tick) → HasTicks f.book n ticks → t.entry.reader < n → HasTicks q.book n (with_tick t ticks))
      → HasFoundSoFar q s (e ∷ before)
  goes_on_by q t is known ports found added = record {
    book = book_takes f.book s e before at.book q.book t is known ports added;
    found = tick_ended f.book s e before at.book f.findings.items q.findings.items t is known found
        ∙ ap (λ l. l ++ ended_by_tick s before (tick_of_told s e)) at.found;
  }

-- ---- what is left

-- what is listed of each device
pub lists_of_devices : {A : Type 0} (g : ℕ → ℕ → Account → List A) (b : Book) (s : StationSetup) (before : List Entry) → IsBookOfDevices b s before
    → lists_below (λ r. g r b.ports (slice_index_or b.accounts.items r (account_of []))) (vec_len b.accounts)
    ≡ lists_below (λ r. g r (length s.generators) (account_of (device_ticks s r before))) (length s.devices)
lists_of_devices g b s before at =
    ap (lists_below (λ r. g r b.ports (slice_index_or b.accounts.items r (account_of [])))) at.book.count
    ∙ lists_alike (λ r. g r b.ports (slice_index_or b.accounts.items r (account_of [])))
    (λ r. g r (length s.generators) (account_of (device_ticks s r before))) (length s.devices)
    (λ r lt.
    ap (λ ports. g r ports (slice_index_or b.accounts.items r (account_of []))) at.ports
    ∙ ap (λ (a : Account). g r (length s.generators) a) (at.book.each r (account_of []) lt))

-- all that is open
pub open_is_of_devices : (b : Book) (s : StationSetup) (before : List Entry) → IsBookOfDevices b s before
    → lists_below (λ r. open_found r b.ports (slice_index_or b.accounts.items r (account_of []))) (vec_len b.accounts) ≡ open_of_devices s before
open_is_of_devices b s before at = lists_of_devices open_found b s before at

-- ---- entries one after another

-- one more of them
pub entries_more : (es : List Entry) (i : ℕ) (d : Entry) (before : List Entry) → i < length es → get_or es i d ∷ (reverse (take i es) ++ before) ≡ reverse (take (i + 1) es) ++ before
entries_more es i d before lt =
    sym (ap (λ l. reverse l ++ before) (take_more es i d lt) ∙ ap (λ l. l ++ before) (reverse-append (take i es) (get_or es i d ∷ [])))
