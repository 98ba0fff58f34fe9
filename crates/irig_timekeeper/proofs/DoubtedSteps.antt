-- What a step says while votes of late contradict each other is what the reader's rule says, or nothing.
use Rattle.std.specs.Prelude.{◌==◌}
use Rattle.std.proofs.Common.{◌≡◌, ℕ, Option, Some, None, refl, inl, inr}
use Rattle.std.proofs.lemmas.Bool.{cases_Bool}
use Rattle.irig_time.specs.declared.second.UtcSecond.{UtcSecond}
use Rattle.irig_time.specs.declared.claim.Claim.{Claim}
use Rattle.irig_timekeeper.specs.Clock.{announce_unless}

-- a second that is announced then is one of the rule
pub rule_announces : (doubt : ℕ) (vote : Option Claim) (announce : Option UtcSecond) (u : UtcSecond) → announce_unless doubt vote announce ≡ Some u → announce ≡ Some u
rule_announces doubt (Some c) announce u e = e
rule_announces doubt None announce u e = elim (cases_Bool (doubt == 0)) [
  | inl none ↦ rw none at e
  | inr some ↦ let both : None ≡ Some u = rw some at e in absurd cc
]

-- while nothing is in doubt it is what the rule says
pub says_all : (doubt : ℕ) (vote : Option Claim) (announce : Option UtcSecond) → doubt ≡ 0 → announce_unless doubt vote announce ≡ announce
says_all doubt (Some c) announce none = refl
says_all doubt None announce none = rw none refl
