use Rattle.std.proofs.Common.{◌≡◌, Option, List, None, Some, sym, ap, subst, ◌∙◌}
use Rattle.std.specs.Option.{option_map}
use Rattle.irig_frame.specs.declared.symbol.Symbol.{Symbol}
use Rattle.irig_gen.specs.Frames.{GeneratorValue, IsSent}
use Rattle.irig_gen.specs.Sent.{frame_of_value}
use Rattle.irig_gen.proofs.generator.Generator.frame.Goals as goal

pub returns-clause-value : goal.returns-clause-value
returns-clause-value c =
    let g = c.args.self.now in
    let coded = c.in_ok-coded.coded in
    let own = c.encode_with_parity.ensures ∙ ap (λ (x : GeneratorValue). frame_of_value x coded) c.self.view_is in
    let there : Some (frame_of_value g coded) ≡ option_map (frame_of_value g) c.value.result = ap (option_map (frame_of_value g)) (sym c.in_ok-coded.was) in
    ap (λ (s : List Symbol). let o : Option (List Symbol) = Some s in o) own ∙ there ∙ c.value.ensures.value

pub returns-clause-frame : goal.returns-clause-frame
returns-clause-frame c =
    let g = c.args.self.now in
    let t = c.args.timeline.now in
    subst (λ (o : Option (List Symbol)). IsSent g t o) (c.value.ensures.value ∙ sym (returns-clause-value c)) c.value.ensures.frame

pub returns-in_err-coded-clause-value : goal.returns-in_err-coded-clause-value
returns-in_err-coded-clause-value c =
    let none : None ≡ option_map (frame_of_value c.args.self.now) c.value.result = ap (option_map (frame_of_value c.args.self.now)) (sym c.in_err-coded.was) in
    c.from_residual.ensures ∙ none ∙ c.value.ensures.value

pub returns-in_err-coded-clause-frame : goal.returns-in_err-coded-clause-frame
returns-in_err-coded-clause-frame c =
    let g = c.args.self.now in
    let t = c.args.timeline.now in
    subst (λ (o : Option (List Symbol)). IsSent g t o) (c.value.ensures.value ∙ sym (returns-in_err-coded-clause-value c)) c.value.ensures.frame
