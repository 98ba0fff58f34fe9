-- That entries and claims are of UTC is a fact which a plant may keep: if it cannot be false, it
-- is true.
use Rattle.std.proofs.Common.{List, Option, Some, None, get_or}
use Rattle.std.specs.Prelude.{All, IfSome}
use Rattle.irig_time.specs.declared.second.UtcSecond.{UtcSecond}
use Rattle.irig_time.specs.Seconds.{IsValid}
use Rattle.irig_time.proofs.ValidLaws.{valid_if_not_wrong, not_wrong}
use Rattle.irig_port.specs.declared.told.Told.{Told}
use Rattle.irig_port.specs.declared.told.Told.TheVariants as tells
use Rattle.irig_vote.specs.Vote.{IsOfUtc}
use Rattle.irig_plant.specs.declared.entry.Entry.{Entry}
use Rattle.irig_plant.specs.Sound.{IsSound, IsToldSoundly}

valid_if : (o : Option UtcSecond) → ¬ ¬ IfSome o IsValid → IfSome o IsValid
valid_if None h = tt
valid_if (Some u) h = valid_if_not_wrong u h

pub all_sound : (entries : List Entry) → ∥ All IsSound entries ∥₁ → All IsSound entries
all_sound entries kept i d lt =
    valid_if (get_or entries i d).report.announce (λ no. not_wrong kept (λ all. no (all i d lt)))

of_utc_if : (told : Told) → ¬ ¬ IsOfUtc told → IsOfUtc told
of_utc_if (tells.Claim c) h = valid_if_not_wrong c.at h
of_utc_if tells.Silence h = tt
of_utc_if (tells.Fault f) h = tt
of_utc_if (tells.Poor q) h = tt

pub all_told_soundly : (entries : List Entry) → ∥ All IsToldSoundly entries ∥₁ → All IsToldSoundly entries
all_told_soundly entries kept i d lt =
    let e = get_or entries i d in
    record {
      a = of_utc_if e.told.a (λ no. not_wrong kept (λ all. no (all i d lt).a));
      b = of_utc_if e.told.b (λ no. not_wrong kept (λ all. no (all i d lt).b));
      c = of_utc_if e.told.c (λ no. not_wrong kept (λ all. no (all i d lt).c));
      d = of_utc_if e.told.d (λ no. not_wrong kept (λ all. no (all i d lt).d));
      e = of_utc_if e.told.e (λ no. not_wrong kept (λ all. no (all i d lt).e));
    }
