-- A tick at which no port heard anything breaks no premise.
use Rattle.std.proofs.Common.{◌≡◌, ℕ, Bool, length, List, ◌∷◌, false, Option, Some, None, nat_lt, refl, sym, ap, ◌∙◌}
use Rattle.std.specs.Option.{option_or}
use Rattle.irig_time.specs.declared.claim.Claim.{Claim}
use Rattle.irig_time.specs.Timelines.{truth_at}
use Rattle.irig_port.specs.declared.told.Told.{Told}
use Rattle.irig_vote.specs.declared.redundancy.Redundancy.{Redundancy}
use Rattle.irig_vote.specs.declared.redundancy.Redundancy.TheVariants.{One, Three, Five}
use Rattle.irig_vote.specs.declared.votes.Tells.{Tells}
use Rattle.irig_vote.specs.Vote.{f_of, ports_of, redundancy_of}
use Rattle.irig_reader.specs.History.{told_at_tick}
use Rattle.irig_plant.specs.declared.event.Event.{Event}
use Rattle.irig_plant.specs.declared.event.Event.TheVariants.{Tick}
use Rattle.irig_plant.specs.SilentTicks.{silent_ports}
use Rattle.irig_plant.specs.Schedule.{Setup, ticks_of, history_of}
use Rattle.irig_plant.specs.Audits.{untrue_ports, is_broken_now, audit_of, first_false, first_broken, verdict, TickOfReader}
use Rattle.irig_plant.proofs.HeadlineVotes.{ports_told}

none_untrue : (redundancy : Redundancy) (truth : Option Claim) → nat_lt (f_of redundancy) (untrue_ports truth (ports_of silent_ports redundancy)) ≡ false
none_untrue One truth = refl
none_untrue Three truth = refl
none_untrue Five truth = refl

unbroken : (s : Setup) (r : ℕ) (ev : List Event) → told_at_tick (history_of s r ev) ≡ silent_ports → is_broken_now s r ev ≡ false
unbroken s r ev told =
    let redundancy = redundancy_of (length s.generators) in
    let broken : List Told → Bool = λ ports. nat_lt (f_of redundancy) (untrue_ports (truth_at s.times (ticks_of r ev)) ports) in
    ap broken (sym (ports_told s r ev)) ∙ ap (λ (t : Tells). broken (ports_of t redundancy)) told ∙ none_untrue redundancy (truth_at s.times (ticks_of r ev))

or_none : (o : Option TickOfReader) → o ≡ option_or o None
or_none None = refl
or_none (Some at) = refl

pub audit_stays : (s : Setup) (r : ℕ) (ev : List Event) → told_at_tick (history_of s r ev) ≡ silent_ports → audit_of s ev ≡ audit_of s (Tick r ∷ ev)
audit_stays s r ev told = rw (unbroken s r ev told) (ap (verdict (first_false s.times 0 s.readers)) (or_none (first_broken s ev)))
