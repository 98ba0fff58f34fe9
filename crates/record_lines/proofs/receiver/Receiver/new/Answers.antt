use Rattle.std.proofs.Common.{◌∙◌, [], refl, ap}
use Rattle.irig_timekeeper.specs.Lived.{MadeOf}
use Rattle.record_lines.specs.declared.rises.Rises.{Rises}
use Rattle.record_lines.specs.Rises.{rise_at}
use Rattle.record_lines.specs.Times.{next_tick}
use Rattle.record_lines.proofs.RiseLaws.{none_at}
use Rattle.record_lines.proofs.ToldLaws.{asks}
use Rattle.record_lines.proofs.receiver.Receiver.new.Goals as goal

pub returns : goal.returns
returns g c =
    let start = c.args.start_us in
    let made : MadeOf = record { rules = c.args.rules; clock = c.args.clock; table = c.args.table } in
    let lived = c.in_ok-keeper.ensures.lived in
    record {
      is = record {
        lived = lived;
        order = tt;
        clock = refl;
        ticked = refl;
        rises = λ line small. ap (λ (r : Rises). rise_at r line) c.new-2.ensures ∙ none_at line small;
        risen = λ line. tt;
      };
      now = refl;
      due = c.next_tick.ensures ∙ ap (next_tick start start) (asks c.in_ok-keeper.keeper made [] lived c.wait-wait_us.result c.low.result start c.wait-wait_us.ensures.value c.low.ensures);
    }
