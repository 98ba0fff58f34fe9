-- Seconds that a simulated device told are of UTC.
use Rattle.std.proofs.Common.{◌≡◌, List, [], ◌∷◌, ◌++◌, All, Option, Some, None, sym, subst}
use Rattle.std.specs.Prelude.{IfSome}
use Rattle.std.proofs.Math.Logic.{∥∥₁_map}
use Rattle.std.proofs.lemmas.List.Elements.{All-nil, All-cons, All-head, All-tail, All-append}
use Rattle.irig_time.proofs.ValidLaws.{still_valid}
use Rattle.irig_time.specs.declared.second.UtcSecond.{UtcSecond}
use Rattle.irig_time.specs.Seconds.{IsValid}
use Rattle.irig_port.specs.declared.told.Told.{Told}
use Rattle.irig_port.specs.declared.told.Told.TheVariants as tells
use Rattle.irig_vote.specs.declared.votes.Tells.{Tells}
use Rattle.irig_vote.specs.Vote.{AreOfUtc, IsOfUtc}
use Rattle.irig_simulated.specs.declared.told_second.ToldSecond.{ToldSecond}
use Rattle.irig_simulated.specs.ToldSeconds.{IsToldOfUtc}

-- what is so by some proof is so
still_announced : (announce : Option UtcSecond) → ∥ IfSome announce IsValid ∥₁
    → IfSome announce IsValid
still_announced None k = tt
still_announced (Some u) k = still_valid u k

still_told : (told : Told) → ∥ IsOfUtc told ∥₁ → IsOfUtc told
still_told (tells.Claim c) k = still_valid c.at k
still_told tells.Silence k = tt
still_told (tells.Fault f) k = tt
still_told (tells.Poor q) k = tt

still_tells : (t : Tells) → ∥ AreOfUtc t ∥₁ → AreOfUtc t
still_tells t k = record {
  a = still_told t.a (∥∥₁_map k (λ v. v.a));
  b = still_told t.b (∥∥₁_map k (λ v. v.b));
  c = still_told t.c (∥∥₁_map k (λ v. v.c));
  d = still_told t.d (∥∥₁_map k (λ v. v.d));
  e = still_told t.e (∥∥₁_map k (λ v. v.e));
}

pub still_of_utc : (told : ToldSecond) → ∥ IsToldOfUtc told ∥₁ → IsToldOfUtc told
still_of_utc told k = record {
  announced = still_announced told.beat.report.announce (∥∥₁_map k (λ v. v.announced));
  lines = still_tells told.beat.told (∥∥₁_map k (λ v. v.lines));
}

pub all_of_utc : (told : List ToldSecond) → ∥ All IsToldOfUtc told ∥₁ → All IsToldOfUtc told
all_of_utc [] k = All-nil IsToldOfUtc
all_of_utc (x ∷ xs) k =
    All-cons IsToldOfUtc x xs
    (still_of_utc x (∥∥₁_map k (All-head IsToldOfUtc x xs)))
    (all_of_utc xs (∥∥₁_map k (All-tail IsToldOfUtc x xs)))

-- one more
pub told_more : (told now : List ToldSecond) (x : ToldSecond) → now ≡ told ++ x ∷ []
    → IsToldOfUtc x → All IsToldOfUtc told → All IsToldOfUtc now
told_more told now x is utc all =
    subst (All IsToldOfUtc) (sym is)
    (All-append IsToldOfUtc told (x ∷ []) all
    (All-cons IsToldOfUtc x [] utc (All-nil IsToldOfUtc)))
