use Rattle.std.proofs.Common.{◌≡◌, None, refl, arith}
use Rattle.std.proofs.lemmas.List.Elements.{All-push}
use Rattle.irig_plant.proofs.plant.Plant.no_cached_ports.Goals as goal

pub loop-preserved : goal.loop-preserved
loop-preserved g c =
    let l = c.loop in
    record {
      count = omega (arith, c.in_ok-push.ensures.len);
      none = rw c.in_ok-push.ensures.items (All-push (λ cached_port. cached_port ≡ None) l.cached_ports.items None l.invariant.none refl);
    }

pub returns : goal.returns
returns g c =
    record { count = omega arith; none = c.loop.invariant.none }
