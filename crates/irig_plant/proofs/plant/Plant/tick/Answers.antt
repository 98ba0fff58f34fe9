use Rattle.std.proofs.Common.{vec_len, ◌≡◌, ◌+◌, ◌<◌, ◌≤◌, ◌∷◌, [], length, drop, Some, sym, ◌∙◌, ap, arith}
use Rattle.std.proofs.Math.Logic.{∥∥₁_map}
use Rattle.std.proofs.lemmas.List.{length-append}
use Rattle.std.proofs.lemmas.List.Elements.{All-push, All-set}
use Rattle.irig_time.specs.Timelines.{TimelineValue, truth_at}
use Rattle.irig_reader.specs.History.{told_at_tick, report_at_tick}
use Rattle.irig_reader.proofs.SilentLaws.{told_silent}
use Rattle.irig_plant.specs.declared.event.Event.TheVariants.{Tick}
use Rattle.irig_plant.specs.declared.entry.Entry.{Entry}
use Rattle.irig_plant.specs.SilentTicks.{silent_ports}
use Rattle.irig_plant.specs.Sound.{IsSound, IsToldSoundly}
use Rattle.irig_plant.specs.Schedule.{ticks_of, history_of, entry_of, log_of}
use Rattle.irig_plant.specs.Audits.{audit_of, tick_of_reader, is_broken_now, first_false, first_broken}
use Rattle.irig_plant.specs.History.{IsTickedReaderAt}
use Rattle.irig_plant.proofs.HeadlineVotes.{ports_told}
use Rattle.irig_plant.proofs.ListLaws.{drop-push}
use Rattle.irig_plant.proofs.SilentLaws.{audit_stays}
use Rattle.irig_plant.proofs.StepLaws.{set_reader, tick_other, tick_here, audit_tick}
use Rattle.irig_plant.proofs.plant.Plant.tick.Goals as goal

pub overflow_add-edge : goal.overflow_add-edge
overflow_add-edge g c = omega (arith, c.in-Some.ensures.early)

pub invariant_of-self : goal.invariant_of-self
invariant_of-self g c = assumption (c.args.self.now, c.at.ensures.stands)

pub invariant_of-self-in-Break-branch-2 : goal.invariant_of-self-in-Break-branch-2
invariant_of-self-in-Break-branch-2 g c = record {
  fed = c.args.self.now.fed;
  carried = c.args.self.now.carried;
  wired = c.args.self.now.wired;
  timed = c.args.self.now.timed;
  true_there = c.at.ensures.stands;
  sound = rw c.reserve.ensures.items c.args.self.now.sound;
  claimed = rw c.reserve.ensures.items c.args.self.now.claimed;
  known = rw c.reserve.ensures.items c.args.self.now.known;
}

-- ---- no port heard anything

pub invariant_of-self-then-heard_nothing-clause-wired : goal.invariant_of-self-then-heard_nothing-clause-wired
invariant_of-self-then-heard_nothing-clause-wired g c =
    let self = c.args.self.now in
    let at = c.index_mut-ticked_reader in
    let low : c.args.r < length self.readers.items = omega (arith, c.in_ok-has_reader.ensures.ok, self.readers.ok.0) in
    let old : at.result.now.reader.redundancy ≡ self.redundancy = rw at.ensures.value (self.wired c.args.r at.result.now low) in
    All-set (λ x. x.reader.redundancy ≡ self.redundancy) self.readers.items c.args.r _ (c.tick_silent-report.ensures.ports ∙ old) self.wired

pub invariant_of-self-then-heard_nothing-clause-sound : goal.invariant_of-self-then-heard_nothing-clause-sound
invariant_of-self-then-heard_nothing-clause-sound g c =
    ∥∥₁_map c.args.self.now.sound (λ sound. rw (c.push_reserved.ensures.items, c.reserve.ensures.items, c.silent_entry-entry.ensures) (All-push IsSound c.args.self.now.log.items _ sound c.tick_silent-report.ensures.valid))

pub invariant_of-self-then-heard_nothing-clause-claimed : goal.invariant_of-self-then-heard_nothing-clause-claimed
invariant_of-self-then-heard_nothing-clause-claimed g c =
    ∥∥₁_map c.args.self.now.claimed (λ claimed. rw (c.push_reserved.ensures.items, c.reserve.ensures.items, c.silent_entry-entry.ensures) (All-push IsToldSoundly c.args.self.now.log.items _ claimed (record { a = tt; b = tt; c = tt; d = tt; e = tt })))

pub invariant_of-self-then-heard_nothing-clause-known : goal.invariant_of-self-then-heard_nothing-clause-known
invariant_of-self-then-heard_nothing-clause-known g c =
    let self = c.args.self.now in
    rw (c.push_reserved.ensures.items, c.reserve.ensures.items, c.silent_entry-entry.ensures) (All-push (λ (e : Entry). e.reader < vec_len self.readers) self.log.items _ self.known c.in_ok-has_reader.ensures.ok)

pub returns-then-heard_nothing-clause-stands : goal.returns-then-heard_nothing-clause-stands
returns-then-heard_nothing-clause-stands g c = λ h p.
    let s = h.setup in
    let ev = h.events in
    let r = c.args.r in
    let xs = c.args.self.now.readers in
    let low : r < length s.readers = omega (arith, c.in_ok-has_reader.ensures.ok, p.reader_count) in
    let x = c.index_mut-ticked_reader.result.now in
    let old : IsTickedReaderAt s ev r x = rw c.index_mut-ticked_reader.ensures.value (p.readers r x low) in
    let first : IsTickedReaderAt s ev r c.index.result.now = rw c.index.ensures (p.readers r c.index.result.now low) in
    let report : c.tick_silent-report.result ≡ report_at_tick (history_of s r ev) = c.tick_silent-report.ensures.report (history_of s r ev) old.reader in
    let told : told_at_tick (history_of s r ev) ≡ silent_ports = told_silent (history_of s r ev) (c.heard_nothing.ensures c.if-heard_nothing.true (history_of s r ev) old.reader) in
    let truth : Some c.in-Some.truth ≡ truth_at s.times (ticks_of r ev) =
    sym c.in-Some.is ∙ c.at.ensures.value ∙ ap (λ (t : TimelineValue). truth_at t c.index.result.now.ticks) p.timeline ∙ ap (truth_at s.times) first.ticked in
    let readers = set_reader s ev (Tick r ∷ ev) xs.items r x (record { reader = c.tick_silent-report.new.self; ticks = c.index.result.now.ticks + 1 }) (sym xs.ok.0 ∙ p.reader_count) low p.readers c.index_mut-ticked_reader.ensures.value
    (tick_other s ev r)
    (λ o. tick_here s ev r x (record { reader = c.tick_silent-report.new.self; ticks = c.index.result.now.ticks + 1 }) (c.tick_silent-report.ensures.after (history_of s r ev) o.reader) (ap (λ n. n + 1) (first.ticked ∙ sym old.ticked)) o) in
    let log : c.push_reserved.new.self.items ≡ drop h.shown (log_of s (Tick r ∷ ev)) = c.push_reserved.ensures.items ∙ rw (c.reserve.ensures.items, p.log, c.silent_entry-entry.ensures, report, truth, sym told, p.redundancy, first.ticked) (sym (drop-push h.shown (log_of s ev) (entry_of s r ev) p.few)) in
    let few : h.shown ≤ length (log_of s (Tick r ∷ ev)) = omega (arith, p.few, length-append (log_of s ev) (entry_of s r ev ∷ [])) in
    let audit : c.args.self.now.audit ≡ audit_of s (Tick r ∷ ev) = p.audit ∙ audit_stays s r ev told in
    assumption (p, readers, log, few, audit)

-- ---- else

pub invariant_of-self-2-clause-wired : goal.invariant_of-self-2-clause-wired
invariant_of-self-2-clause-wired g c =
    let self = c.args.self.now in
    let at = c.index_mut-ticked_reader in
    let low : c.args.r < length self.readers.items = omega (arith, c.in_ok-has_reader.ensures.ok, self.readers.ok.0) in
    let old : at.result.now.reader.redundancy ≡ self.redundancy = rw at.ensures.value (self.wired c.args.r at.result.now low) in
    All-set (λ x. x.reader.redundancy ≡ self.redundancy) self.readers.items c.args.r _ (c.tick.ensures.ports ∙ old) self.wired

pub invariant_of-self-2-clause-sound : goal.invariant_of-self-2-clause-sound
invariant_of-self-2-clause-sound g c =
    ∥∥₁_map c.args.self.now.sound (λ sound. rw (c.push_reserved-2.ensures.items, c.reserve.ensures.items) (All-push IsSound c.args.self.now.log.items _ sound c.tick.ensures.valid))

pub invariant_of-self-2-clause-claimed : goal.invariant_of-self-2-clause-claimed
invariant_of-self-2-clause-claimed g c =
    ∥∥₁_map c.args.self.now.claimed (λ claimed. rw (c.push_reserved-2.ensures.items, c.reserve.ensures.items) (All-push IsToldSoundly c.args.self.now.log.items _ claimed c.tick.ensures.claims))

pub invariant_of-self-2-clause-known : goal.invariant_of-self-2-clause-known
invariant_of-self-2-clause-known g c =
    let self = c.args.self.now in
    rw (c.push_reserved-2.ensures.items, c.reserve.ensures.items) (All-push (λ (e : Entry). e.reader < vec_len self.readers) self.log.items _ self.known c.in_ok-has_reader.ensures.ok)

pub returns-clause-stands : goal.returns-clause-stands
returns-clause-stands g c = λ h p.
    let s = h.setup in
    let ev = h.events in
    let r = c.args.r in
    let xs = c.args.self.now.readers in
    let low : r < length s.readers = omega (arith, c.in_ok-has_reader.ensures.ok, p.reader_count) in
    let x = c.index_mut-ticked_reader.result.now in
    let old : IsTickedReaderAt s ev r x = rw c.index_mut-ticked_reader.ensures.value (p.readers r x low) in
    let first : IsTickedReaderAt s ev r c.index.result.now = rw c.index.ensures (p.readers r c.index.result.now low) in
    let report : c.tick.result.report ≡ report_at_tick (history_of s r ev) = c.tick.ensures.report (history_of s r ev) old.reader in
    let told : c.tick.result.told ≡ told_at_tick (history_of s r ev) = c.tick.ensures.told (history_of s r ev) old.reader in
    let truth : Some c.in-Some.truth ≡ truth_at s.times (ticks_of r ev) =
    sym c.in-Some.is ∙ c.at.ensures.value ∙ ap (λ (t : TimelineValue). truth_at t c.index.result.now.ticks) p.timeline ∙ ap (truth_at s.times) first.ticked in
    let readers = set_reader s ev (Tick r ∷ ev) xs.items r x (record { reader = c.tick.new.self; ticks = c.index.result.now.ticks + 1 }) (sym xs.ok.0 ∙ p.reader_count) low p.readers c.index_mut-ticked_reader.ensures.value
    (tick_other s ev r)
    (λ o. tick_here s ev r x (record { reader = c.tick.new.self; ticks = c.index.result.now.ticks + 1 }) (c.tick.ensures.after (history_of s r ev) o.reader) (ap (λ n. n + 1) (first.ticked ∙ sym old.ticked)) o) in
    let log : c.push_reserved-2.new.self.items ≡ drop h.shown (log_of s (Tick r ∷ ev)) = c.push_reserved-2.ensures.items ∙ rw (c.reserve.ensures.items, p.log, report, truth, told, p.redundancy, first.ticked) (sym (drop-push h.shown (log_of s ev) (entry_of s r ev) p.few)) in
    let few : h.shown ≤ length (log_of s (Tick r ∷ ev)) = omega (arith, p.few, length-append (log_of s ev) (entry_of s r ev ∷ [])) in
    let audit : c.audit_after-self.result ≡ audit_of s (Tick r ∷ ev) = c.audit_after-self.ensures ∙ rw (p.audit, truth, told, p.redundancy, first.ticked, ports_told s r ev) (audit_tick (first_false s.times 0 s.readers) (first_broken s ev) (tick_of_reader r (ticks_of r ev + 1)) (is_broken_now s r ev)) in
    assumption (p, readers, log, few, audit)
