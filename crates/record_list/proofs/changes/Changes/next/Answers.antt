use Rattle.std.proofs.Common.{◌≡◌, ℕ, List, ◌++◌, subst}
use Rattle.record_list.specs.declared.pulse.Pulse.{Pulse}
use Rattle.record_list.specs.Changes.{said, said_until}
use Rattle.record_list.proofs.ReadLaws.{next-says}
use Rattle.record_list.proofs.changes.Changes.next.Goals as goal

pub returns-clause-says : goal.returns-clause-says
returns-clause-says c =
    next-says c.args.self.now c.next_of-seen.result.now c.next_of-seen.result.levels c.requires c.next_of-seen.ensures.newest
    (λ others.
    let P : ℕ → List Pulse → Type 0 = λ time pulses. said_until time pulses c.args.self.now.here others
    ≡ said c.next_of-seen.result.levels ++ said_until time pulses c.next_of-seen.result.now others in
    subst (λ time. P time c.args.self.now.pulses.items) c.until.ensures
    (subst (λ pulses. P c.until.result pulses) c.as_slice.ensures.value (c.next_of-seen.ensures.says others)))
