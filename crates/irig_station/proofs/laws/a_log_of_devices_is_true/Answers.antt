use Rattle.std.proofs.Common.{Some, arith}
use Rattle.std.proofs.lemmas.List.Elements.{All-contains}
use Rattle.irig_station.specs.declared.entry.Entry.TheVariants.{Stamped}
use Rattle.irig_station.specs.StationPlay.{vouched_log}
use Rattle.irig_station.specs.StationPromise.{IsTrueEntry}
use Rattle.irig_station.proofs.PromiseLaws.{kept_true, vouched_true}
use Rattle.irig_station.proofs.laws.a_log_of_devices_is_true.Goals as goal

pub returns-clause-vouched : goal.returns-clause-vouched
returns-clause-vouched _ s ev is = vouched_true s is ev

pub returns-clause-kept : goal.returns-clause-kept
returns-clause-kept _ s ev is kept = kept_true s is ev kept

pub returns-clause-together : goal.returns-clause-together
returns-clause-together _ s ev r q time one two is first second =
    let a = All-contains (IsTrueEntry s) (vouched_log s ev) (Stamped r time (Some one)) (vouched_true s is ev) first in
    let b = All-contains (IsTrueEntry s) (vouched_log s ev) (Stamped q time (Some two)) (vouched_true s is ev) second in
    record { m = a.m; n = b.m; is_one = a.truth; is_two = b.truth; least = omega (arith, a.late, b.early); most = omega (arith, a.early, b.late) }
