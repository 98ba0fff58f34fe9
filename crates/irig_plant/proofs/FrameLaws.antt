-- What is told of the frame that a generator without fault sends.
use Rattle.std.proofs.Common.{◌≡◌, ℕ, List, [], ◌∷◌, Option, Some, None, refl, sym, ap, subst, ◌∙◌, arith}
use Rattle.irig_frame.specs.declared.symbol.Symbol.{Symbol}
use Rattle.irig_frame.specs.declared.symbol.Symbol.TheVariants.{Zero, One, Marker, Bad}
use Rattle.irig_frame.specs.Symbols.{symbol_of, width_of}
use Rattle.irig_time.specs.declared.claim.Claim.{Claim}
use Rattle.irig_time.specs.Timelines.{TimelineValue, IsSecond, truth_at}
use Rattle.irig_time.specs.TimelineFaults.{IsTimeline}
use Rattle.irig_time.proofs.SecondAt.{claim_is}
use Rattle.irig_gen.specs.Frames.{GeneratorValue, IsFrameOrNone, IsTrueFrame}
use Rattle.irig_gen.specs.Refusals.{IsGenerator}
use Rattle.irig_gen.specs.Sent.{frame_of}
use Rattle.irig_gen.proofs.GenLaws.{true_frames}
use Rattle.irig_gen.proofs.SentLaws.{frame_of_is}
use Rattle.irig_port.specs.declared.told.Told.TheVariants as tells
use Rattle.irig_port.specs.Heard.{symbols_of}
use Rattle.irig_port.specs.Told.{told_of, told_of_widths}
use Rattle.irig_port.proofs.CarriesLaws.{carries_is_told}
use Rattle.irig_plant.specs.Widths.{widths_of}

symbol_sent : (x : Symbol) → symbol_of (width_of x) ≡ x
symbol_sent Zero = refl
symbol_sent One = refl
symbol_sent Marker = refl
symbol_sent Bad = refl

-- the widths of a frame are its symbols
pub frame_heard : (frame : List Symbol) → symbols_of (widths_of (Some frame)) ≡ frame
frame_heard [] = refl
frame_heard (x ∷ xs) = rw (symbol_sent x, frame_heard xs) refl

-- a true frame is told as the true claim
pub frame_told : (g : GeneratorValue) (t : TimelineValue) (edge : ℕ) (s : List Symbol) (c : Claim) → IsGenerator g → IsTimeline t → IsTrueFrame g t edge s → truth_at t edge ≡ Some c → told_of g.rules s ≡ tells.Claim c
frame_told g t edge s c sound line frame truth =
    let carried = true_frames g t edge s sound line frame in
    let both : ◌≡◌ {A = Option Claim} (Some carried.0) (Some c) = sym ((claim_is t edge carried.0).1 carried.1) ∙ truth in
    let same : carried.0 ≡ c = cc in
    (carries_is_told g.rules s carried.0).1 carried.2 ∙ ap tells.Claim same

told_if : (g : GeneratorValue) (t : TimelineValue) (edge : ℕ) (o : Option (List Symbol)) (c : Claim) → IsGenerator g → IsTimeline t → IsFrameOrNone None g t edge o → truth_at t edge ≡ Some c → told_of_widths g.rules (widths_of o) ≡ tells.Claim c
told_if g t edge None c sound line none truth =
    let second = ((claim_is t edge c).0 truth).second in
    let same : second.0 ≡ edge = omega (arith, second.1) in
    absurd (none c.at (subst (λ (n : ℕ). IsSecond t n c.at) same second.2))
told_if g t edge (Some s) c sound line frame truth = ap (told_of g.rules) (frame_heard s) ∙ frame_told g t edge s c sound line frame truth

-- and so are its widths
pub true_frame_told : (g : GeneratorValue) (t : TimelineValue) (edge : ℕ) (c : Claim) → IsGenerator g → IsTimeline t → truth_at t edge ≡ Some c → told_of_widths g.rules (widths_of (frame_of None g t edge)) ≡ tells.Claim c
true_frame_told g t edge c sound line truth = told_if g t edge (frame_of None g t edge) c sound line (frame_of_is None g t edge sound line) truth
