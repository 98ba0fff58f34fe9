-- What a book makes of an event that the plant has taken.
use Rattle.std.proofs.Common.{◌≡◌, ℕ, ◌<◌, List, [], ◌∷◌, ◌++◌, length, Option, Some, None, Result, Ok, Err, refl, sym, ap, ◌∙◌, subst, arith, append-nil}
use Rattle.std.specs.Prelude.{All, OnOk, slice_index_or, vec_len}
use Rattle.irig_plant.specs.declared.event.Event.{Event}
use Rattle.irig_plant.specs.declared.event.Event.TheVariants.{GenEdge, Tick, Carry, Damage, Replay, Raw, Fault, Repair, Restart}
use Rattle.irig_plant.specs.Refusals.{refusal}
use Rattle.irig_plant.specs.Schedule.{Setup}
use Rattle.irig_scene.specs.Scene.{Scene, scene}
use Rattle.report_found.specs.declared.account.Account.{Account}
use Rattle.report_found.specs.declared.book.Book.{Book}
use Rattle.report_found.specs.declared.finding.Finding.{Finding}
use Rattle.report_found.specs.declared.tick.Tick.{Tick as TickOf}
use Rattle.report_found.specs.Accounts.{account_of}
use Rattle.report_found.specs.Books.{HasTicks, tick_of, ticks_at, account_at, with_tick, IsBookOf}
use Rattle.report_found.specs.Scenes.{ended_by_event, all_ended, all_open}
use Rattle.report_found.specs.Runs.{IsBookAt}
use Rattle.report_found.specs.Findings.{lists_below, ended_found, open_found}
use Rattle.report_found.proofs.GrowLaws.{lists_alike}
use Rattle.report_found.proofs.BookLaws.{latest, the_tick, no_tick, known_reader, one_more, same_ticks}

-- ---- what is so if there was memory

pub on_one : {A E : Type 0} (r : Result A E) (P Q : Type 0) → (P → Q) → OnOk r P → OnOk r Q
on_one (Ok a) P Q f p = f p
on_one (Err e) P Q f p = tt

pub on_both : {A E : Type 0} (r : Result A E) (P Q R : Type 0) → (P → Q → R) → OnOk r P → OnOk r Q → OnOk r R
on_both (Ok a) P Q R f p q = f p q
on_both (Err e) P Q R f p q = tt

pub on_all : {A E : Type 0} (r : Result A E) (P Q R S : Type 0) → (P → Q → R → S) → OnOk r P → OnOk r Q → OnOk r R → OnOk r S
on_all (Ok a) P Q R S f p q s = f p q s
on_all (Err e) P Q R S f p q s = tt

pub on_any : {A E : Type 0} (r : Result A E) (P : Type 0) → P → OnOk r P
on_any (Ok a) P p = p
on_any (Err e) P p = tt

-- ---- a new plant

pub begins_at : (b : Book) (x : Scene) → x.events ≡ [] → vec_len b.accounts ≡ length x.plan.setup.readers → All (λ (a : Account). a ≡ account_of []) b.accounts.items
    → b.ports ≡ length x.plan.setup.generators → IsBookAt b x
begins_at b x begun count new ports = record {
  book = subst (λ ev. IsBookOf b x.plan.setup ev) (sym begun) (record { count = count; each = λ r d lt. new r d (omega (arith, lt, count, b.accounts.ok.0)) });
  ports = ports;
}

-- of which nothing ended
pub nothing_ended : (x : Scene) → x.events ≡ [] → all_ended x.plan.setup x.events ≡ []
nothing_ended x begun = ap (all_ended x.plan.setup) begun

-- ---- an event

-- the book stays, and nothing has ended
record IsQuiet (b : Book) (x : Scene) (e : Event) : Type 0 where
  pub book : IsBookOf b x.plan.setup (e ∷ x.events)
  pub nothing : ended_by_event x.plan.setup e x.events ≡ []

module _ (b : Book) (x : Scene) (e : Event) (at : IsBookAt b x) where
  -- ---- no tick

  quiet : (e : Event) → None ≡ latest x.plan.setup e x.events → IsQuiet b x e
  quiet (Tick r) none = absurd (no_tick x.plan.setup r x.events none)
  quiet (GenEdge g) none = record { book = record { count = at.book.count; each = at.book.each }; nothing = refl }
  quiet (Carry g r) none = record { book = record { count = at.book.count; each = at.book.each }; nothing = refl }
  quiet (Damage g r place width) none = record { book = record { count = at.book.count; each = at.book.each }; nothing = refl }
  quiet (Replay g r edge) none = record { book = record { count = at.book.count; each = at.book.each }; nothing = refl }
  quiet (Raw g r widths) none = record { book = record { count = at.book.count; each = at.book.each }; nothing = refl }
  quiet (Fault g kind) none = record { book = record { count = at.book.count; each = at.book.each }; nothing = refl }
  quiet (Repair g) none = record { book = record { count = at.book.count; each = at.book.each }; nothing = refl }
  quiet (Restart r) none = record { book = record { count = at.book.count; each = at.book.each }; nothing = refl }

  pub finds_nothing : (found : List Finding) → None ≡ latest x.plan.setup e x.events → found ≡ found ++ ended_by_event x.plan.setup e x.events
  finds_nothing found none = sym (ap (λ t. found ++ t) (quiet e none).nothing ∙ append-nil found)

  pub goes_on : None ≡ latest x.plan.setup e x.events → IsBookAt b (scene x.plan (e ∷ x.events))
  goes_on none = record { book = (quiet e none).book; ports = at.ports }

  -- ---- a tick

  -- it is of a reader of the plant
  pub has_reader : (t : TickOf) → refusal x.plan.setup e x.events ≡ None → Some t ≡ latest x.plan.setup e x.events → t.entry.reader < length x.plan.setup.readers
  has_reader t accepted some =
      let is = the_tick x.plan.setup e x.events t some in
      let known = known_reader x.plan.setup is.reader x.events (ap (λ e. refusal x.plan.setup e x.events) (sym is.is) ∙ accepted) in
      let reader : t.entry.reader ≡ is.reader = ap (λ (t : TickOf). t.entry.reader) is.same in
      omega (arith, known, reader)

  -- what is pushed is what the event ends
  pub ended_is : (t : TickOf) → Some t ≡ latest x.plan.setup e x.events
      → ended_found t.entry.reader b.ports (account_of (ticks_at x.plan.setup t.entry.reader x.events)) t ≡ ended_by_event x.plan.setup e x.events
  ended_is t some =
      let s = x.plan.setup in
      let is = the_tick s e x.events t some in
      let r = is.reader in
      ap (λ (t : TickOf). ended_found t.entry.reader b.ports (account_of (ticks_at s t.entry.reader x.events)) t) is.same
      ∙ ap (λ ports. ended_found r ports (account_at s x.events r) (tick_of s r x.events)) at.ports
      ∙ ap (λ e. ended_by_event s e x.events) (sym is.is)

  -- and the book has the tick
  pub stands_after : (q : Book) (t : TickOf) → refusal x.plan.setup e x.events ≡ None → Some t ≡ latest x.plan.setup e x.events → q.ports ≡ b.ports
      → ((n : ℕ) (ticks : ℕ → List TickOf) → HasTicks b n ticks → t.entry.reader < n → HasTicks q n (with_tick t ticks))
      → IsBookAt q (scene x.plan (e ∷ x.events))
  stands_after q t accepted some ports added =
      let s = x.plan.setup in
      let is = the_tick s e x.events t some in
      let before : ℕ → List TickOf = λ r. ticks_at s r x.events in
      record {
        book = subst (λ e. IsBookOf q s (e ∷ x.events)) (sym is.is)
            (same_ticks q (length s.readers) (with_tick t before) (λ r. ticks_at s r (Tick is.reader ∷ x.events))
            (λ r. ap (λ (t : TickOf). with_tick t before r) is.same ∙ one_more s is.reader x.events r)
            (added (length s.readers) before at.book (has_reader t accepted some)));
        ports = ports ∙ at.ports;
      }

-- ---- what is left

pub lists_are : {A : Type 0} (g : ℕ → ℕ → Account → List A) (b : Book) (x : Scene) → IsBookAt b x
    → lists_below (λ r. g r b.ports (slice_index_or b.accounts.items r (account_of []))) (vec_len b.accounts)
    ≡ lists_below (λ r. g r (length x.plan.setup.generators) (account_at x.plan.setup x.events r)) (length x.plan.setup.readers)
lists_are g b x at =
    ap (lists_below (λ r. g r b.ports (slice_index_or b.accounts.items r (account_of [])))) at.book.count
    ∙ lists_alike (λ r. g r b.ports (slice_index_or b.accounts.items r (account_of [])))
    (λ r. g r (length x.plan.setup.generators) (account_at x.plan.setup x.events r)) (length x.plan.setup.readers)
    (λ r lt.
    ap (λ ports. g r ports (slice_index_or b.accounts.items r (account_of []))) at.ports
    ∙ ap (λ (a : Account). g r (length x.plan.setup.generators) a) (at.book.each r (account_of []) lt))

-- all that is open
pub open_is : (b : Book) (x : Scene) → IsBookAt b x
    → lists_below (λ r. open_found r b.ports (slice_index_or b.accounts.items r (account_of []))) (vec_len b.accounts) ≡ all_open x.plan.setup x.events
open_is b x at = lists_are open_found b x at
