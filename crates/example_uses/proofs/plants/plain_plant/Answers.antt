use Rattle.std.proofs.Common.{Result, Ok, Err, refl}
use Rattle.std.specs.Prelude.{IfOk, IfSome}
use Rattle.std.specs.Result.{result_ok}
use Rattle.example_uses.proofs.plants.plain_plant.Goals as goal

if_ok : {A E : Type 0} (P Q : A → Type 0) → ((x : A) → P x → Q x) → (r : Result A E) → IfOk r P → IfSome (result_ok r) Q
if_ok P Q f (Ok x) h = f x h
if_ok P Q f (Err e) h = tt

pub returns : goal.returns
returns g c = rw c.ok.ensures.value (if_ok _ _ (λ plant h. (_, h, refl)) c.new.result c.new.ensures.stands)
