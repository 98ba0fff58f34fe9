use Rattle.std.proofs.Common.{◌≡◌, ℕ, List, Result, Ok, Err, ap, sym, subst, ◌∙◌}
use Rattle.irig_frame.specs.declared.symbol.Symbol.{Symbol}
use Rattle.irig_frame.specs.declared.coded.Coded.{Coded}
use Rattle.irig_frame.specs.declared.fault.FrameFault.{FrameFault}
use Rattle.irig_frame.specs.Decoder.{Reads}
use Rattle.irig_control.specs.Control.{control_of}
use Rattle.irig_port.proofs.whole.WholePortPort.quality.Goals as goal

same : (a b : Coded) → ◌≡◌ {A = Result Coded FrameFault} (Ok a) (Ok b) → a ≡ b
same a b e = cc

no : (f : FrameFault) (a : Coded) → ◌≡◌ {A = Result Coded FrameFault} (Err f) (Ok a) → ⊥
no f a e = absurd cc

pub returns-in-Ok : goal.returns-in-Ok
returns-in-Ok c rules s coded h reads =
    let here : Reads c.as_slice.result.now coded = subst (λ (t : List Symbol). Reads t coded) (sym h.1 ∙ sym c.as_slice.ensures.value) reads in
    let is : c.in-Ok.coded ≡ coded = same c.in-Ok.coded coded (sym c.in-Ok.is ∙ (c.decode.ensures.reads coded).1 here) in
    ap (λ k. k.quality) c.unpack.ensures.meaning
    ∙ ap (λ (n : ℕ). (control_of n).quality) (ap (λ (k : Coded). k.control) is ∙ reads.control)

pub returns-in-Err : goal.returns-in-Err
returns-in-Err c rules s coded h reads =
    let here : Reads c.as_slice.result.now coded = subst (λ (t : List Symbol). Reads t coded) (sym h.1 ∙ sym c.as_slice.ensures.value) reads in
    let is : c.decode.result ≡ Ok coded = (c.decode.ensures.reads coded).1 here in
    absurd (no c.in-Err.field-0 coded (sym c.in-Err.is ∙ is))
