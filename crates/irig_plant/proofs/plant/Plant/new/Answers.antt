use Rattle.std.proofs.Common.{◌≡◌, [], length, refl, sym, ◌∙◌, ap, subst, arith}
use Rattle.std.proofs.lemmas.List.{get_or_default}
use Rattle.irig_vote.specs.Vote.{redundancy_of}
use Rattle.irig_plant.specs.Schedule.{setup, no_generator}
use Rattle.irig_plant.specs.History.{IsCachedPort}
use Rattle.irig_plant.proofs.plant.Plant.new.Goals as goal

pub returns-clause-stands : goal.returns-clause-stands
returns-clause-stands g c =
    let xs = c.args.generators in
    let readers = c.args.readers.now in
    let redundancy : c.of_ports-redundancy.result ≡ redundancy_of (length xs.items) = c.of_ports-redundancy.ensures.value ∙ ap redundancy_of (c.len.ensures ∙ xs.ok.0) in
    record {
      timeline = refl;
      rules = refl;
      redundancy = redundancy;
      generator_count = xs.ok.0;
      generators = λ k d lt. get_or_default xs.items k d no_generator lt;
      cached_ports = λ k d lt. subst (λ w. IsCachedPort g.P.Port (setup c.args.timeline xs.items c.args.rules readers) [] k w)
          (sym (c.in_ok-cached_ports.ensures.none k d (omega (arith, c.in_ok-cached_ports.ensures.count, c.len-2.ensures, xs.ok.0, c.in_ok-cached_ports.cached_ports.ok.0)))) tt;
      reader_count = c.in_ok-ticked.ensures.count;
      readers = λ r d lt. rw (← redundancy) (c.in_ok-ticked.ensures.new r d lt);
      log = c.new.ensures.items;
      few = omega arith;
      audit = c.first_audit-audit.ensures.value;
    }
