use Rattle.std.proofs.Common.{Result, Ok, Err, refl, IsOk, MatchResult}
use Rattle.std.proofs.lemmas.Str.{IsUtf8-from_ascii}
use Rattle.record_stamp.proofs.text.push_ascii.Goals as goal

ok_of : {T E : Type 0} (r : Result T E) (P : T → Type 0) (Q : E → Type 0) (A : Type 0) → MatchResult r P (λ e. ¬ A × Q e) → A → IsOk r
ok_of (Ok x) P Q A h a = refl
ok_of (Err e) P Q A h a = absurd (h.0 a)

pub unwrap-requires : goal.unwrap-requires
unwrap-requires c = ok_of c.from_utf8.result _ _ _ c.from_utf8.ensures.cases (IsUtf8-from_ascii _ c.requires)
