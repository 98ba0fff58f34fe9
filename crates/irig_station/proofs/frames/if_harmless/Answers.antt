use Rattle.std.proofs.Common.{◌≡◌, ◌∙◌, ℕ, Bool, true, false, List, length, Option, Some, None, refl, sym, ap, subst}
use Rattle.std.specs.Prelude.{IfSome}
use Rattle.irig_frame.specs.declared.symbol.Symbol.{Symbol}
use Rattle.irig_frame.specs.Faults.{first_wrong}
use Rattle.irig_time.specs.declared.claim.Claim.{Claim}
use Rattle.irig_time.specs.declared.rules.Rules.{Rules}
use Rattle.irig_time.specs.Timelines.{TimelineValue, truth_at}
use Rattle.irig_port.specs.declared.told.Told.{Told}
use Rattle.irig_port.specs.Told.{told_of}
use Rattle.irig_witness.specs.TrueFrames.{claims_only, is_harmless}
use Rattle.irig_station.specs.SentSeconds.{harmless_of}
use Rattle.irig_station.proofs.HarmlessLaws.{harmless_by}
use Rattle.irig_station.proofs.frames.if_harmless.Goals as goal

-- what the test says of a frame
tested : (rules : Rules) (t : TimelineValue) (n : ℕ) (truth : Option Claim) (frame : Option (List Symbol)) (s : List Symbol) (told : Told) (b : Bool) → truth ≡ truth_at t n → frame ≡ Some s → IfSome frame (λ s. first_wrong 0 s ≡ None) → length s ≡ 100
    → told ≡ told_of rules s → b ≡ claims_only truth told → is_harmless rules t n s ≡ b
tested rules t n truth frame s told b is there right long says claims =
    harmless_by rules t n s long (subst (λ (o : Option (List Symbol)). IfSome o (λ s. first_wrong 0 s ≡ None)) there right)
    ∙ sym (claims ∙ ap (λ (o : Option Claim). claims_only o told) is ∙ ap (claims_only (truth_at t n)) says)

kept : (rules : Rules) (t : TimelineValue) (n : ℕ) (frame : Option (List Symbol)) (s : List Symbol) → frame ≡ Some s → is_harmless rules t n s ≡ true → Some s ≡ harmless_of rules t n frame
kept rules t n frame s there good = rw there (rw good refl)

dropped : (rules : Rules) (t : TimelineValue) (n : ℕ) (frame : Option (List Symbol)) (s : List Symbol) → frame ≡ Some s → is_harmless rules t n s ≡ false → None ≡ harmless_of rules t n frame
dropped rules t n frame s there bad = rw there (rw bad refl)

pub returns-then-claims_only : goal.returns-then-claims_only
returns-then-claims_only g c t n truth =
    let s = c.in_ok-frame.frame in
    kept c.args.rules t n c.args.frame s c.in_ok-frame.was
    (tested c.args.rules t n c.args.truth c.args.frame s c.told.result c.claims_only.result truth c.in_ok-frame.was c.requires c.told.ensures.long c.told.ensures.value c.claims_only.ensures ∙ c.if-claims_only.true)

pub returns-else-claims_only : goal.returns-else-claims_only
returns-else-claims_only g c t n truth =
    let s = c.in_ok-frame.frame in
    dropped c.args.rules t n c.args.frame s c.in_ok-frame.was
    (tested c.args.rules t n c.args.truth c.args.frame s c.told.result c.claims_only.result truth c.in_ok-frame.was c.requires c.told.ensures.long c.told.ensures.value c.claims_only.ensures ∙ c.if-claims_only.false)
