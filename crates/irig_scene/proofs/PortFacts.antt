-- What is written of the ports of known ticks, byte for byte, so that a wrong definition does not
-- check.
use Rattle.std.proofs.Common.{◌≡◌, ℕ, List, [], ◌∷◌, ◌++◌, Option, Some, None, refl, sym, ap, ◌∙◌, codes}
use Rattle.std.specs.Fmt.{digits}
use Rattle.irig_frame.specs.declared.layout.Field.TheVariants.{Minute}
use Rattle.irig_frame.specs.declared.fault.FrameFault.TheVariants as frame_fault
use Rattle.irig_time.specs.declared.mark.Mark.{Mark}
use Rattle.irig_time.specs.declared.mark.Mark.TheVariants.{Unspoken, NoLeap, Insert, Delete}
use Rattle.irig_time.specs.declared.claim.Claim.{Claim}
use Rattle.irig_time.specs.declared.claim.TimeFault.TheVariants.{Second60}
use Rattle.irig_time.specs.Timelines.{second_at, truth_at}
use Rattle.irig_time.specs.TimelineFaults.{IsTimeline}
use Rattle.irig_time.proofs.StandardFacts.{known_month_end}
use Rattle.irig_gen.specs.Frames.{GeneratorValue}
use Rattle.irig_gen.specs.Refusals.{IsGenerator}
use Rattle.irig_gen.specs.Sent.{frame_of}
use Rattle.irig_port.specs.declared.told.PortFault.TheVariants as fault
use Rattle.irig_port.specs.declared.told.Told.{Told}
use Rattle.irig_port.specs.declared.told.Told.TheVariants as tells
use Rattle.irig_port.specs.Told.{told_of_widths}
use Rattle.irig_vote.specs.declared.redundancy.Redundancy.TheVariants.{Three}
use Rattle.irig_plant.specs.declared.event.Event.{Event}
use Rattle.irig_plant.specs.declared.event.Event.TheVariants.{Tick, Raw}
use Rattle.irig_plant.specs.declared.entry.Entry.{Entry}
use Rattle.irig_plant.specs.Widths.{widths_of}
use Rattle.irig_plant.specs.Schedule.{generator_at, entry_of}
use Rattle.irig_plant.proofs.FrameLaws.{true_frame_told}
use Rattle.scenario_line.proofs.PlainLines.{plan}
use Rattle.report_log.specs.Text.{port_word, port_line}
use Rattle.irig_scene.proofs.HealthyFacts.{text_2}

-- ---- words

abbrev claim : ℕ → Mark → Claim
claim sod mark = record { at = record { day = 6209; sod = sod }; mark = mark }

abbrev said : Told → List ℕ
said told = port_word (Some (claim 86400 Unspoken)) told

pub known_words : (said tells.Silence ≡ codes "silence") × (said (tells.Poor 12) ≡ codes "poor:12")
    × (said (tells.Fault (fault.Frame (frame_fault.Short 99))) ≡ codes "fault:1:Short:99") × (said (tells.Fault (fault.Frame frame_fault.Long)) ≡ codes "fault:2:Long")
    × (said (tells.Fault (fault.Frame (frame_fault.Pulse 17))) ≡ codes "fault:3:Pulse:17") × (said (tells.Fault (fault.Frame (frame_fault.Digit Minute))) ≡ codes "fault:5:Digit:minute")
    × (said (tells.Fault (fault.Time Second60)) ≡ codes "fault:9:Second60") × (said (tells.Fault fault.Parity) ≡ codes "fault:17:Parity")
    × (said (tells.Claim (claim 86400 Unspoken)) ≡ codes "ok") × (said (tells.Claim (claim 86400 Insert)) ≡ codes "insert")
    × (said (tells.Claim (claim 86400 NoLeap)) ≡ codes "no-leap") × (said (tells.Claim (claim 86400 Delete)) ≡ codes "delete")
unfolding digits
known_words = (refl, refl, refl, refl, refl, refl, refl, refl, refl, refl, refl, refl)

-- another second is told as such, whatever its mark
pub known_second : (mark : Mark) → said (tells.Claim (claim 43202 mark)) ≡ codes "2016-12-31T12:00:02Z"
known_second mark = sym text_2

-- ---- a lie that is outvoted

-- the plain plant, from 2016-12-31T12:00:00Z on: at the fourth tick of its reader ports 0 and 1
-- have the frame of T(3), and port 2 that of T(2)
abbrev generator : GeneratorValue
generator = generator_at plan.setup 0 []

abbrev sent : ℕ → List ℕ
sent edge = widths_of (frame_of None generator plan.setup.times edge)

abbrev fed : List Event
fed = Raw 2 0 (sent 2) ∷ Raw 1 0 (sent 3) ∷ Raw 0 0 (sent 3) ∷ Tick 0 ∷ Tick 0 ∷ Tick 0 ∷ []

is_timeline : IsTimeline plan.setup.times
is_timeline = record { sound = refl }

is_generator : IsGenerator generator
is_generator = record { sound = refl }

truth_2 : truth_at plan.setup.times 2 ≡ Some (claim 43202 Unspoken)
unfolding second_at
truth_2 = rw known_month_end refl

truth_3 : truth_at plan.setup.times 3 ≡ Some (claim 43203 Unspoken)
unfolding second_at
truth_3 = rw known_month_end refl

told_2 : told_of_widths plan.setup.rules (sent 2) ≡ tells.Claim (claim 43202 Unspoken)
told_2 = true_frame_told generator plan.setup.times 2 (claim 43202 Unspoken) is_generator is_timeline truth_2

told_3 : told_of_widths plan.setup.rules (sent 3) ≡ tells.Claim (claim 43203 Unspoken)
told_3 = true_frame_told generator plan.setup.times 3 (claim 43203 Unspoken) is_generator is_timeline truth_3

abbrev told : Option Claim → Told → Told → Told → Entry
told truth a b c = record (entry_of plan.setup 0 fed) {
  redundancy = Three;
  told = record { a = a; b = b; c = c; d = told_of_widths plan.setup.rules []; e = told_of_widths plan.setup.rules [] };
  truth = truth;
}

abbrev claim_2 : Claim
claim_2 = claim 43202 Unspoken

abbrev claim_3 : Claim
claim_3 = claim 43203 Unspoken

known_told : entry_of plan.setup 0 fed ≡ told (Some claim_3) (tells.Claim claim_3) (tells.Claim claim_3) (tells.Claim claim_2)
known_told =
    ap (λ o. told o (told_of_widths plan.setup.rules (sent 3)) (told_of_widths plan.setup.rules (sent 3)) (told_of_widths plan.setup.rules (sent 2))) truth_3
    ∙ ap (λ t. told (Some claim_3) t t (told_of_widths plan.setup.rules (sent 2))) told_3
    ∙ ap (λ t. told (Some claim_3) (tells.Claim claim_3) (tells.Claim claim_3) t) told_2

known_text : port_line plan.names (told (Some claim_3) (tells.Claim claim_3) (tells.Claim claim_3) (tells.Claim claim_2)) ≡ codes " 4 r1 ok ok 2016-12-31T12:00:02Z\n"
unfolding port_line digits
known_text = ap (λ t. codes " 4 r1 ok ok " ++ ((t ++ []) ++ codes "\n")) (sym text_2)

pub known_line : port_line plan.names (entry_of plan.setup 0 fed) ≡ codes " 4 r1 ok ok 2016-12-31T12:00:02Z\n"
known_line = ap (port_line plan.names) known_told ∙ known_text
