use Rattle.std.proofs.Common.{◌≡◌, ◌∙◌, Bool, true, false, cond, List, length, Option, Some, None, refl, rules, sym, ap, subst}
use Rattle.irig_frame.specs.declared.symbol.Symbol.{Symbol}
use Rattle.irig_frame.specs.Encoder.{frame_of_coded}
use Rattle.irig_control.specs.Parity.{with_parity}
use Rattle.irig_time.specs.declared.claim.Claim.{Claim}
use Rattle.irig_time.specs.declared.rules.Rules.{Rules}
use Rattle.irig_time.specs.Timelines.{truth_at}
use Rattle.irig_port.specs.Told.{told_of}
use Rattle.irig_gen.specs.Frames.{IsSent}
use Rattle.irig_gen.specs.Sent.{frame_of_value, sent_of}
use Rattle.irig_witness.specs.TrueFrames.{claims_only}
use Rattle.irig_simulated.specs.declared.second.LineSecond.{LineSecond}
use Rattle.irig_station.specs.SentSeconds.{harmless_of}
use Rattle.irig_station.proofs.HarmlessLaws.{first_of_two, second_of_two, sent_right, sent_tested}
use Rattle.irig_station.proofs.frames.judge.Given.{Over}
use Rattle.irig_station.proofs.frames.judge.Goals.{After-claims_only-is_harmless}
use Rattle.irig_station.proofs.frames.judge.Goals as goal

frame_is : (g : Over) (c : After-claims_only-is_harmless g) → c.encode_with_parity-frame.result ≡ frame_of_value c.args.generator.now c.in-Some.coded
frame_is g c = c.encode_with_parity-frame.ensures ∙ ap (λ (r : Rules). with_parity r.parity (frame_of_coded c.in-Some.coded)) c.rules-parity.ensures

sent_is : (g : Over) (c : After-claims_only-is_harmless g) → Some c.encode_with_parity-frame.result ≡ sent_of c.args.generator.now c.args.timeline.now
sent_is g c = ap (λ (s : List Symbol). let o : Option (List Symbol) = Some s in o) (frame_is g c) ∙ c.in-Some.ensures.value

-- whether it does harm is tested
tested : (g : Over) (c : After-claims_only-is_harmless g) → harmless_of c.args.rules c.args.timeline.now c.args.generator.now.edge (sent_of c.args.generator.now c.args.timeline.now) ≡ cond c.claims_only-is_harmless.result (Some c.encode_with_parity-frame.result) None
tested g c =
    let x = c.args.generator.now in
    let t = c.args.timeline.now in
    let told : c.told_of_value.result ≡ told_of c.args.rules c.encode_with_parity-frame.result =
    c.told_of_value.ensures ∙ sym (ap (told_of c.args.rules) c.encode_with_parity-frame.ensures) in
    let truth : c.truth-truth.result ≡ truth_at t x.edge = c.truth-truth.ensures.value ∙ ap (truth_at t) c.edge.ensures in
    let long : length c.encode_with_parity-frame.result ≡ 100 = search rules in
    sent_tested c.args.rules t x c.encode_with_parity-frame.result c.claims_only-is_harmless.result (sent_is g c) long
    (sent_right x t (Some c.encode_with_parity-frame.result) (subst (IsSent x t) (ap (λ (s : List Symbol). let o : Option (List Symbol) = Some s in o) (sym (frame_is g c))) c.in-Some.ensures.frame))
    (c.claims_only-is_harmless.ensures ∙ ap (λ (o : Option Claim). claims_only o c.told_of_value.result) truth ∙ ap (claims_only (truth_at t x.edge)) told)

line_is : (sent one : Option (List Symbol)) (frame truth : List Symbol) → sent ≡ one → frame ≡ truth → (let y : LineSecond = record { sent = sent; truth = frame } in y) ≡ record { sent = one; truth = truth }
line_is sent one frame truth a b = rw (a, b) refl

pub returns-then-is_harmless : goal.returns-then-is_harmless
returns-then-is_harmless g c =
    let at = (goal.at.returns-then-is_harmless g c).After-claims_only-is_harmless in
    let x = c.args.generator.now in
    let t = c.args.timeline.now in
    let frame = c.encode_with_parity-frame.result in
    let harmless : harmless_of c.args.rules t x.edge (sent_of x t) ≡ Some frame = tested g at ∙ ap (λ (b : Bool). cond b (Some frame) None) c.if-is_harmless.true in
    record {
      line_is = line_is _ _ _ _ (sent_is g at) (sym (first_of_two c.args.rules t x frame harmless));
      harmless = λ so. (frame, harmless);
    }

pub returns-else-is_harmless : goal.returns-else-is_harmless
returns-else-is_harmless g c =
    let at = (goal.at.returns-else-is_harmless g c).After-claims_only-is_harmless in
    let x = c.args.generator.now in
    let t = c.args.timeline.now in
    record {
      line_is = line_is _ _ _ _ (sent_is g at)
          (c.plain_frame-truth.ensures ∙ sym (second_of_two c.args.rules t x (tested g at ∙ ap (λ (b : Bool). cond b (Some c.encode_with_parity-frame.result) None) c.if-is_harmless.false)));
      harmless = λ so. absurd (let never : false ≡ true = sym c.if-is_harmless.false ∙ so in cc);
    }
