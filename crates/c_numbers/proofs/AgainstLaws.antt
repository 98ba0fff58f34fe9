-- A claim against what is true is not the true one.
use Rattle.std.proofs.Common.{rules, ◌≡◌, ℕ, Bool, true, false, not, Option, Some, ap, sym, subst, ◌∙◌, arith}
use Rattle.irig_time.specs.declared.second.UtcSecond.{UtcSecond}
use Rattle.irig_time.specs.declared.claim.Claim.{Claim}
use Rattle.irig_time.specs.Seconds.{same_second}
use Rattle.irig_time.specs.Timelines.{TimelineValue, IsSecond, second_at, truth_at}
use Rattle.irig_time.proofs.SecondAt.{claim_is, second_is}
use Rattle.irig_port.specs.declared.told.Told.TheVariants as tells
use Rattle.c_numbers.specs.Against.{is_against}

one_of : (u v : UtcSecond) → ◌≡◌ {A = Option UtcSecond} (Some u) (Some v) → u ≡ v
one_of u v e = cc

itself : (u : UtcSecond) → same_second u u ≡ true
itself u = search rules

never : ◌≡◌ {A = Bool} false true → ⊥
never e = absurd cc

pub against_truth : (t : TimelineValue) (n : ℕ) (held : UtcSecond) (c : Claim) → IsSecond t n held → is_against held (tells.Claim c) ≡ true → ¬ (truth_at t n ≡ Some c)
against_truth t n held c here against truth =
    let claimed = (claim_is t n c).0 truth in
    let m : claimed.second.0 ≡ n = omega (arith, claimed.second.1) in
    let there : second_at t n ≡ Some c.at = (second_is t n c.at).1 (subst (λ (k : ℕ). IsSecond t k c.at) m claimed.second.2) in
    let is : c.at ≡ held = one_of c.at held (sym there ∙ (second_is t n held).1 here) in
    never (sym (ap not (ap (λ (u : UtcSecond). same_second u held) is ∙ itself held)) ∙ against)
