use Rattle.std.proofs.Common.{rules, ◌≡◌, ◌≤◌, ℕ, Option, Some, None, refl}
use Rattle.std.specs.Prelude.{IfSome}
use Rattle.record_stamp.proofs.instant.day_in.Goals as goal

few : (o : Option ℕ) → ((d : ℕ) → o ≡ Some d → d ≤ 36524) → IfSome o (λ day. day ≤ 36524)
few None h = search rules
few (Some d) h = h d refl

pub returns-clause-few : goal.returns-clause-few
returns-clause-few c = few c.read_day.result (λ d e. ((c.read_day.ensures.exact d).0 e).0)
