-- What readers hear is all that their log is made of.
use Rattle.std.proofs.Common.{◌≡◌, ℕ, ◌+◌, ◌==◌, ◌&&◌, Bool, true, false, cond, List, [], ◌∷◌, ◌++◌, length, map, Option, Some, None, refl, ap, sym, ◌∙◌, append-nil, nat_lt}
use Rattle.std.specs.Option.{option_or}
use Rattle.std.specs.List.{range_with_len}
use Rattle.std.specs.Prelude.{option_to_list}
use Rattle.irig_gen.specs.declared.fault.GenFault.{GenFault}
use Rattle.irig_port.specs.declared.told.Told.{Told}
use Rattle.irig_vote.specs.Vote.{ports_in, redundancy_of, f_of}
use Rattle.irig_reader.specs.History.{Fed, ReaderHistory, vote_at_tick, told_at_tick, report_at_tick}
use Rattle.irig_plant.specs.declared.entry.Entry.{Entry}
use Rattle.irig_plant.specs.declared.event.Event.{Event}
use Rattle.irig_plant.specs.declared.event.Event.TheVariants.{GenEdge, Tick, Carry, Damage, Replay, Raw, Fault, Repair, Restart}
use Rattle.irig_plant.specs.Schedule.{Setup, Delivery, delivery, delivery_of, with_delivery, heard_at, fed_at, told_now, ports_now, ticks_of, history_with, history_of, votes_of, entry_of, log_of}
use Rattle.irig_plant.specs.Audits.{untrue_ports, is_broken_now, tick_of_reader, TickOfReader, first_broken, first_false, verdict, audit_of}
use Rattle.irig_time.specs.Timelines.{truth_at}
use Rattle.report_flat.specs.Recording.{pulses_at, pulses_of, recorded}

-- what is kept of a delivery
abbrev kept : Option Delivery → List Event
kept d = option_to_list (pulses_of d)

-- ---- ticks

-- what hangs on ticks and restarts alone
record IsOfTicks {A : Type 0} (F : List Event → A) : Type 0 where
  edge : (g : ℕ) (ev : List Event) → F (GenEdge g ∷ ev) ≡ F ev
  fault : (g : ℕ) (kind : GenFault) (ev : List Event) → F (Fault g kind ∷ ev) ≡ F ev
  repair : (g : ℕ) (ev : List Event) → F (Repair g ∷ ev) ≡ F ev
  carry : (g q : ℕ) (ev : List Event) → F (Carry g q ∷ ev) ≡ F ev
  damage : (g q at width : ℕ) (ev : List Event) → F (Damage g q at width ∷ ev) ≡ F ev
  replay : (g q edge : ℕ) (ev : List Event) → F (Replay g q edge ∷ ev) ≡ F ev
  raw : (g q : ℕ) (ws : List ℕ) (ev : List Event) → F (Raw g q ws ∷ ev) ≡ F ev

kept_alike : {A : Type 0} (F : List Event → A) → IsOfTicks F → (d : Option Delivery) (ev : List Event) → F (kept d ++ ev) ≡ F ev
kept_alike F of None ev = refl
kept_alike F of (Some d) ev = of_pulses d.generator d.reader d.widths
  where
    of_pulses : (g q : ℕ) (ws : List ℕ) → F (option_to_list (pulses_at g q ws) ++ ev) ≡ F ev
    of_pulses g q [] = refl
    of_pulses g q (w ∷ ws) = of.raw g q (w ∷ ws) ev

-- is the same of what is recorded
recorded_alike : {A : Type 0} (s : Setup) (F : List Event → A) → IsOfTicks F → ((r : ℕ) (ev : List Event) → F (recorded s ev) ≡ F ev → F (Tick r ∷ recorded s ev) ≡ F (Tick r ∷ ev))
    → ((r : ℕ) (ev : List Event) → F (recorded s ev) ≡ F ev → F (Restart r ∷ recorded s ev) ≡ F (Restart r ∷ ev)) → (ev : List Event) → F (recorded s ev) ≡ F ev
recorded_alike s F of ticks restarts [] = refl
recorded_alike s F of ticks restarts (Tick r ∷ ev) = ticks r ev (recorded_alike s F of ticks restarts ev)
recorded_alike s F of ticks restarts (Restart r ∷ ev) = restarts r ev (recorded_alike s F of ticks restarts ev)
recorded_alike s F of ticks restarts (GenEdge g ∷ ev) = recorded_alike s F of ticks restarts ev ∙ sym (of.edge g ev)
recorded_alike s F of ticks restarts (Fault g kind ∷ ev) = recorded_alike s F of ticks restarts ev ∙ sym (of.fault g kind ev)
recorded_alike s F of ticks restarts (Repair g ∷ ev) = recorded_alike s F of ticks restarts ev ∙ sym (of.repair g ev)
recorded_alike s F of ticks restarts (Carry g q ∷ ev) = kept_alike F of (delivery_of s (Carry g q) ev) (recorded s ev) ∙ recorded_alike s F of ticks restarts ev ∙ sym (of.carry g q ev)
recorded_alike s F of ticks restarts (Damage g q at w ∷ ev) = kept_alike F of (delivery_of s (Damage g q at w) ev) (recorded s ev) ∙ recorded_alike s F of ticks restarts ev ∙ sym (of.damage g q at w ev)
recorded_alike s F of ticks restarts (Replay g q edge ∷ ev) = kept_alike F of (delivery_of s (Replay g q edge) ev) (recorded s ev) ∙ recorded_alike s F of ticks restarts ev ∙ sym (of.replay g q edge ev)
recorded_alike s F of ticks restarts (Raw g q ws ∷ ev) = kept_alike F of (delivery_of s (Raw g q ws) ev) (recorded s ev) ∙ recorded_alike s F of ticks restarts ev ∙ sym (of.raw g q ws ev)

pub same_ticks : (s : Setup) (r : ℕ) (ev : List Event) → ticks_of r (recorded s ev) ≡ ticks_of r ev
same_ticks s r ev =
    recorded_alike s (ticks_of r) (record { edge = λ _ _. refl; fault = λ _ _ _. refl; repair = λ _ _. refl; carry = λ _ _ _. refl; damage = λ _ _ _ _ _. refl; replay = λ _ _ _ _. refl; raw = λ _ _ _ _. refl })
    (λ x ev same. ap (λ n. cond (x == r) (n + 1) n) same) (λ x ev same. same) ev

-- ---- ports

nothing_more : (b : Bool) (heard : List ℕ) → heard ≡ cond b (heard ++ []) heard
nothing_more true heard = sym (append-nil heard)
nothing_more false heard = refl

heard_of_pulses : (s : Setup) (r p g q : ℕ) (ws : List ℕ) (ev : List Event) → heard_at s r p (option_to_list (pulses_at g q ws) ++ ev) ≡ with_delivery r p (Some (delivery g q ws)) (heard_at s r p ev)
heard_of_pulses s r p g q [] ev = nothing_more ((q == r) && (g == p)) (heard_at s r p ev)
heard_of_pulses s r p g q (w ∷ ws) ev = refl

heard_kept : (s : Setup) (r p : ℕ) (d : Option Delivery) (ev : List Event) → heard_at s r p (kept d ++ ev) ≡ with_delivery r p d (heard_at s r p ev)
heard_kept s r p None ev = refl
heard_kept s r p (Some d) ev = heard_of_pulses s r p d.generator d.reader d.widths ev

pub same_heard : (s : Setup) (r p : ℕ) (ev : List Event) → heard_at s r p (recorded s ev) ≡ heard_at s r p ev
same_heard s r p [] = refl
same_heard s r p (Tick x ∷ ev) = ap (λ h. cond (x == r) [] h) (same_heard s r p ev)
same_heard s r p (Restart x ∷ ev) = ap (λ h. cond (x == r) [] h) (same_heard s r p ev)
same_heard s r p (GenEdge g ∷ ev) = same_heard s r p ev
same_heard s r p (Fault g kind ∷ ev) = same_heard s r p ev
same_heard s r p (Repair g ∷ ev) = same_heard s r p ev
same_heard s r p (Carry g q ∷ ev) = let d = delivery_of s (Carry g q) ev in heard_kept s r p d (recorded s ev) ∙ ap (with_delivery r p d) (same_heard s r p ev)
same_heard s r p (Damage g q at w ∷ ev) = let d = delivery_of s (Damage g q at w) ev in heard_kept s r p d (recorded s ev) ∙ ap (with_delivery r p d) (same_heard s r p ev)
same_heard s r p (Replay g q edge ∷ ev) = let d = delivery_of s (Replay g q edge) ev in heard_kept s r p d (recorded s ev) ∙ ap (with_delivery r p d) (same_heard s r p ev)
same_heard s r p (Raw g q ws ∷ ev) = let d = delivery_of s (Raw g q ws) ev in heard_kept s r p d (recorded s ev) ∙ ap (with_delivery r p d) (same_heard s r p ev)

abbrev fed : List ℕ → List ℕ → List ℕ → List ℕ → List ℕ → Fed
fed a b c d e = record { a = a; b = b; c = c; d = d; e = e }

same_fed : (s : Setup) (r : ℕ) (ev : List Event) → fed_at s r (recorded s ev) ≡ fed_at s r ev
same_fed s r ev =
    ap (λ a. fed a (heard_at s r 1 (recorded s ev)) (heard_at s r 2 (recorded s ev)) (heard_at s r 3 (recorded s ev)) (heard_at s r 4 (recorded s ev))) (same_heard s r 0 ev)
    ∙ ap (λ b. fed (heard_at s r 0 ev) b (heard_at s r 2 (recorded s ev)) (heard_at s r 3 (recorded s ev)) (heard_at s r 4 (recorded s ev))) (same_heard s r 1 ev)
    ∙ ap (λ c. fed (heard_at s r 0 ev) (heard_at s r 1 ev) c (heard_at s r 3 (recorded s ev)) (heard_at s r 4 (recorded s ev))) (same_heard s r 2 ev)
    ∙ ap (λ d. fed (heard_at s r 0 ev) (heard_at s r 1 ev) (heard_at s r 2 ev) d (heard_at s r 4 (recorded s ev))) (same_heard s r 3 ev)
    ∙ ap (λ e. fed (heard_at s r 0 ev) (heard_at s r 1 ev) (heard_at s r 2 ev) (heard_at s r 3 ev) e) (same_heard s r 4 ev)

told_each : (s : Setup) (r : ℕ) (ev : List Event) (ps : List ℕ) → map (told_now s r (recorded s ev)) ps ≡ map (told_now s r ev) ps
told_each s r ev [] = refl
told_each s r ev (p ∷ ps) =
    ap (λ h. told_by s h ∷ map (told_now s r (recorded s ev)) ps) (same_heard s r p ev) ∙ ap (λ ts. told_now s r ev p ∷ ts) (told_each s r ev ps)
  where
    told_by : Setup → List ℕ → Told
    told_by s h = Rattle.irig_port.specs.Told.told_of_widths s.rules h

same_ports : (s : Setup) (r : ℕ) (ev : List Event) → ports_now s r (recorded s ev) ≡ ports_now s r ev
same_ports s r ev = told_each s r ev (range_with_len 0 (ports_in (redundancy_of (length s.generators))))

-- ---- votes

pub same_votes : (s : Setup) (r : ℕ) (ev : List Event) → votes_of s r (recorded s ev) ≡ votes_of s r ev
same_votes s r ev =
    recorded_alike s (votes_of s r) (record { edge = λ _ _. refl; fault = λ _ _ _. refl; repair = λ _ _. refl; carry = λ _ _ _. refl; damage = λ _ _ _ _ _. refl; replay = λ _ _ _ _. refl; raw = λ _ _ _ _. refl })
    (λ x ev same. ap (λ f. cond (x == r) (vote_at_tick (history_with s r f (votes_of s r (recorded s ev))) ∷ votes_of s r (recorded s ev)) (votes_of s r (recorded s ev))) (same_fed s r ev)
    ∙ ap (λ v. cond (x == r) (vote_at_tick (history_with s r (fed_at s r ev) v) ∷ v) v) same) (λ x ev same. ap (λ v. cond (x == r) [] v) same) ev

same_history : (s : Setup) (r : ℕ) (ev : List Event) → history_of s r (recorded s ev) ≡ history_of s r ev
same_history s r ev = ap (λ f. history_with s r f (votes_of s r (recorded s ev))) (same_fed s r ev) ∙ ap (history_with s r (fed_at s r ev)) (same_votes s r ev)

-- ---- the log

same_entry : (s : Setup) (r : ℕ) (ev : List Event) → entry_of s r (recorded s ev) ≡ entry_of s r ev
same_entry s r ev =
    let logged : ℕ → ReaderHistory → Entry = λ n h. record { reader = r; edge = n + 1; report = report_at_tick h; redundancy = redundancy_of (length s.generators); told = told_at_tick h; truth = truth_at s.times n } in
    ap (λ n. logged n (history_of s r (recorded s ev))) (same_ticks s r ev) ∙ ap (logged (ticks_of r ev)) (same_history s r ev)

pub same_log : (s : Setup) (ev : List Event) → log_of s (recorded s ev) ≡ log_of s ev
same_log s ev =
    recorded_alike s (log_of s) (record { edge = λ _ _. refl; fault = λ _ _ _. refl; repair = λ _ _. refl; carry = λ _ _ _. refl; damage = λ _ _ _ _ _. refl; replay = λ _ _ _ _. refl; raw = λ _ _ _ _. refl })
    (λ r ev same. ap (λ l. l ++ entry_of s r (recorded s ev) ∷ []) same ∙ ap (λ e. log_of s ev ++ e ∷ []) (same_entry s r ev)) (λ r ev same. same) ev

-- ---- the audit

same_broken_now : (s : Setup) (r : ℕ) (ev : List Event) → is_broken_now s r (recorded s ev) ≡ is_broken_now s r ev
same_broken_now s r ev =
    ap (λ n. nat_lt (f_of (redundancy_of (length s.generators))) (untrue_ports (truth_at s.times n) (ports_now s r (recorded s ev)))) (same_ticks s r ev)
    ∙ ap (λ ts. nat_lt (f_of (redundancy_of (length s.generators))) (untrue_ports (truth_at s.times (ticks_of r ev)) ts)) (same_ports s r ev)

-- what a tick adds, if it is broken
abbrev broken_by : ℕ → Bool → ℕ → Option TickOfReader
broken_by r broken n = cond broken (Some (tick_of_reader r (n + 1))) None

pub same_broken : (s : Setup) (ev : List Event) → first_broken s (recorded s ev) ≡ first_broken s ev
same_broken s ev =
    recorded_alike s (first_broken s) (record { edge = λ _ _. refl; fault = λ _ _ _. refl; repair = λ _ _. refl; carry = λ _ _ _. refl; damage = λ _ _ _ _ _. refl; replay = λ _ _ _ _. refl; raw = λ _ _ _ _. refl })
    (λ r ev same. ap (λ o. option_or o (broken_by r (is_broken_now s r (recorded s ev)) (ticks_of r (recorded s ev)))) same
    ∙ ap (λ b. option_or (first_broken s ev) (broken_by r b (ticks_of r (recorded s ev)))) (same_broken_now s r ev)
    ∙ ap (λ n. option_or (first_broken s ev) (broken_by r (is_broken_now s r ev) n)) (same_ticks s r ev)) (λ r ev same. same) ev

pub same_audit : (s : Setup) (ev : List Event) → audit_of s (recorded s ev) ≡ audit_of s ev
same_audit s ev = ap (verdict (first_false s.times 0 s.readers)) (same_broken s ev)
