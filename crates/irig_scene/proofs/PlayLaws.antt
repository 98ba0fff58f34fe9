-- Events that are played, and the log that grows by them.
use Rattle.std.proofs.Common.{◌≡◌, ℕ, zero, suc, ◌+◌, ◌-◌, ◌<◌, List, [], ◌∷◌, ◌++◌, take, length, Option, Some, None, refl, ap, sym, ◌∙◌, arith, inl, inr, slice_get, append-nil, append_assoc}
use Rattle.std.specs.Prelude.{IfSome, option_and_then}
use Rattle.irig_plant.specs.declared.event.Event.{Event}
use Rattle.irig_plant.specs.declared.entry.Entry.{Entry}
use Rattle.irig_plant.specs.declared.fault.PlantFault.{PlantFault}
use Rattle.irig_plant.specs.Schedule.{Setup, log_of}
use Rattle.irig_plant.specs.Refusals.{refusal}
use Rattle.irig_plant.specs.Runs.{events_after, AreAccepted, IsRefused}
use Rattle.text_faults.specs.declared.refusal.Refusal.{Refusal}
use Rattle.report_log.specs.declared.shown.Shown.{Shown}
use Rattle.irig_scene.specs.Scene.{refusal_as, Play, play, play_by, unless_refused, Scene, scene, log_text}
use Rattle.report_log.specs.Text.{lines_text}
use Rattle.report_log.proofs.TextLaws.{lines_join}
use Rattle.irig_plant.specs.WholeSecond.{times}

one_accepted : (s : Setup) (e : Event) (es ev : List Event) → refusal s e ev ≡ None → play s (e ∷ es) ev ≡ play s es (e ∷ ev)
one_accepted s e es ev h = ap (λ k. unless_refused (option_and_then refusal_as k) ev (play s es (e ∷ ev))) h

pub play_all : (s : Setup) (es ev : List Event) → AreAccepted s es ev → play s es ev ≡ play_by (events_after es ev) None
play_all s [] ev h = refl
play_all s (e ∷ es) ev h = one_accepted s e es ev h.0 ∙ play_all s es (e ∷ ev) h.1

refused_now : (s : Setup) (e : Event) (es ev : List Event) (fault : PlantFault) (k : Refusal) → IsRefused s e ev fault → refusal_as fault ≡ Some k
    → play s (e ∷ es) ev ≡ play_by ev (Some k)
refused_now s e es ev fault k (inl h) named =
    ap (λ r. unless_refused (option_and_then refusal_as r) ev (play s es (e ∷ ev))) h ∙ ap (λ r. unless_refused r ev (play s es (e ∷ ev))) named
refused_now s e es ev fault k (inr h) named = absurd (cc)

pub play_until : (s : Setup) (i : ℕ) (es ev : List Event) (fault : PlantFault) (k : Refusal) → i < length es → AreAccepted s (take i es) ev
    → IfSome (slice_get es i) (λ e. IsRefused s e (events_after (take i es) ev) fault) → refusal_as fault ≡ Some k
    → play s es ev ≡ play_by (events_after (take i es) ev) (Some k)
play_until s i [] ev fault k lt h stop named = absurd (omega arith)
play_until s zero (e ∷ es) ev fault k lt h stop named = refused_now s e es ev fault k stop named
play_until s (suc i) (e ∷ es) ev fault k lt h stop named = one_accepted s e (es) ev h.0 ∙ play_until s i es (e ∷ ev) fault k (omega arith) h.1 stop named

-- ---- the log grows

-- the text grows by that of what came since
pub lines_grow : (x : Scene) (later : List Event) (shown : Shown) (more : List Entry) → log_of x.plan.setup later ≡ log_of x.plan.setup x.events ++ more
    → log_text shown (Some (scene x.plan later)) ≡ log_text shown (Some x) ++ lines_text x.plan.names shown more
lines_grow x later shown more grown =
    let s = x.plan.setup in
    let names = x.plan.names in
    ap (lines_text names shown) grown ∙ lines_join names shown (log_of s x.events) more

-- ---- lists of events

commutes : (n : ℕ) (es : List Event) → es ++ times n es ≡ times n es ++ es
commutes zero es = append-nil es
commutes (suc n) es = ap (λ more. es ++ more) (commutes n es) ∙ sym (append_assoc es (times n es) es)

pub one_time_more : (n : ℕ) (es : List Event) → times (n + 1) es ≡ times n es ++ es
one_time_more n es = let next : n + 1 ≡ suc n = omega arith in ap (λ k. times k es) next ∙ commutes n es

pub split_at : (i k : ℕ) (es : List Event) → times (i + k) es ≡ times i es ++ times k es
split_at zero k es = let same : 0 + k ≡ k = omega arith in ap (λ n. times n es) same
split_at (suc i) k es =
    let next : suc i + k ≡ suc (i + k) = omega arith in
    ap (λ n. times n es) next ∙ ap (λ more. es ++ more) (split_at i k es) ∙ sym (append_assoc es (times i es) (times k es))

-- a time more, and what is left
pub times_left : (i n : ℕ) (es : List Event) → i < n → times n es ≡ (times i es ++ es) ++ times (n - (i + 1)) es
times_left i n es lt =
    let sum : n ≡ i + 1 + (n - (i + 1)) = omega (arith, lt) in
    ap (λ k. times k es) sum ∙ split_at (i + 1) (n - (i + 1)) es ∙ ap (λ more. more ++ times (n - (i + 1)) es) (one_time_more i es)

-- ---- events that are played in two parts

on_unless : (s : Setup) (b : List Event) (k : Option Refusal) (ev : List Event) (p q : Play) → (unless_refused k ev p).refusal ≡ None
    → (p.refusal ≡ None → q ≡ play s b p.events) → unless_refused k ev q ≡ play s b (unless_refused k ev p).events
on_unless s b None ev p q h rest = rest h
on_unless s b (Some k) ev p q h rest = absurd cc

pub plays_on : (s : Setup) (a b ev : List Event) → (play s a ev).refusal ≡ None → play s (a ++ b) ev ≡ play s b (play s a ev).events
plays_on s [] b ev h = refl
plays_on s (e ∷ a) b ev h =
    on_unless s b (option_and_then refusal_as (refusal s e ev)) ev (play s a (e ∷ ev)) (play s (a ++ b) (e ∷ ev)) h (plays_on s a b (e ∷ ev))

stop_unless : (k : Option Refusal) (ev : List Event) (p q : Play) (r : Refusal) → (unless_refused k ev p).refusal ≡ Some r
    → (p.refusal ≡ Some r → q ≡ p) → unless_refused k ev q ≡ unless_refused k ev p
stop_unless None ev p q r h rest = rest h
stop_unless (Some k) ev p q r h rest = refl

pub plays_no_further : (s : Setup) (a b ev : List Event) (r : Refusal) → (play s a ev).refusal ≡ Some r → play s (a ++ b) ev ≡ play s a ev
plays_no_further s [] b ev r h = absurd cc
plays_no_further s (e ∷ a) b ev r h =
    stop_unless (option_and_then refusal_as (refusal s e ev)) ev (play s a (e ∷ ev)) (play s (a ++ b) (e ∷ ev)) r h (plays_no_further s a b (e ∷ ev) r)
