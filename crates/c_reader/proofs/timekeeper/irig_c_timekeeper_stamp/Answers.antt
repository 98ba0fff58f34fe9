use Rattle.std.proofs.Common.{◌≡◌, ◌∙◌, ◌%◌, Some, None, refl, sym, ap, arith, inl, inr}
use Rattle.irig_timekeeper.specs.Keeping.{Keeping, stamp_at}
use Rattle.irig_timekeeper.specs.Life.{life_of}
use Rattle.irig_timekeeper.specs.Lived.{made_with}
use Rattle.c_keeper.specs.Lives.{calls_of}
use Rattle.c_keeper.proofs.RowLaws.{none_lost_faulty, none_lost_truly}
use Rattle.c_keeper.proofs.StampedLaws.{bounded_as, sound_device, stamped_as, stamped_faulty, stamped_off, stamped_quality, stamped_together, stamped_truly}
use Rattle.c_reader.proofs.timekeeper.irig_c_timekeeper_stamp.Goals as goal

pub returns-in-Some-clause-truth : goal.returns-in-Some-clause-truth
returns-in-Some-clause-truth c t edges made start time now past found h clock well order behind young e =
    let q = c.args.timekeeper.now in
    let k : Keeping = life_of (made_with made h.lines h.fresh) (calls_of past) in
    let at = sym (stamped_as q k c.args.time_us h.is) ∙ (sym c.in-Some.ensures.value ∙ (sym c.stamp_for_c.ensures ∙ e)) in
    stamped_truly q t edges made start time now past found h (ap (stamp_at k) (sym clock) ∙ at)
    (record { sound = inl well; order = order; behind = behind; young = young })

pub returns-in-Some-clause-healed : goal.returns-in-Some-clause-healed
returns-in-Some-clause-healed c t edges made start edge time now past found h clock mended edge_at when order behind young e =
    let q = c.args.timekeeper.now in
    let k : Keeping = life_of (made_with made h.lines h.fresh) (calls_of past) in
    let at = sym (stamped_as q k c.args.time_us h.is) ∙ (sym c.in-Some.ensures.value ∙ (sym c.stamp_for_c.ensures ∙ e)) in
    stamped_truly q t edges made start time now past found h (ap (stamp_at k) (sym clock) ∙ at)
    (record { sound = inr (record { healed = mended; edge = edge; at = edge_at; when = when }); order = order; behind = behind; young = young })

pub returns-in-Some-clause-faulty : goal.returns-in-Some-clause-faulty
returns-in-Some-clause-faulty c t edges made start time now past found h clock plain lives e =
    let q = c.args.timekeeper.now in
    let k : Keeping = life_of (made_with made h.lines h.fresh) (calls_of past) in
    let at = sym (stamped_as q k c.args.time_us h.is) ∙ (sym c.in-Some.ensures.value ∙ (sym c.stamp_for_c.ensures ∙ e)) in
    stamped_faulty q t edges made start time now past found h (ap (stamp_at k) (sym clock) ∙ at) plain lives

pub returns-in-Some-clause-clocks_off : goal.returns-in-Some-clause-clocks_off
returns-in-Some-clause-clocks_off c t edges made off start time now past found few h clock plain lives e =
    let q = c.args.timekeeper.now in
    let k : Keeping = life_of (made_with made h.lines h.fresh) (calls_of past) in
    let at = sym (stamped_as q k c.args.time_us h.is) ∙ (sym c.in-Some.ensures.value ∙ (sym c.stamp_for_c.ensures ∙ e)) in
    stamped_off q t edges made start time now past found h (ap (stamp_at k) (sym clock) ∙ at) off plain few lives

pub returns-in-Some-clause-quality : goal.returns-in-Some-clause-quality
returns-in-Some-clause-quality c t edges made start time now past found h clock lives e =
    let q = c.args.timekeeper.now in
    let k : Keeping = life_of (made_with made h.lines h.fresh) (calls_of past) in
    let at = sym (stamped_as q k c.args.time_us h.is) ∙ (sym c.in-Some.ensures.value ∙ (sym c.stamp_for_c.ensures ∙ e)) in
    stamped_quality q t edges made start time now past found h (ap (stamp_at k) (sym clock) ∙ at) lives

pub returns-in-Some-clause-together : goal.returns-in-Some-clause-together
returns-in-Some-clause-together c t edges others made start time now e n tau there past found other h clock lives says here quartz same is =
    let q = c.args.timekeeper.now in
    let k : Keeping = life_of (made_with made h.lines h.fresh) (calls_of past) in
    let at = sym (stamped_as q k c.args.time_us h.is) ∙ (sym c.in-Some.ensures.value ∙ (sym c.stamp_for_c.ensures ∙ says)) in
    let one = stamped_truly q t edges made start time now past found h (ap (stamp_at k) (sym clock) ∙ at) lives in
    stamped_together t made.clock.drift_us e n tau time there edges others found other (sound_device t edges made start time now past lives).steady quartz here same one is

pub returns-in-Some-clause-bound : goal.returns-in-Some-clause-bound
returns-in-Some-clause-bound c made past found h e =
    let q = c.args.timekeeper.now in
    let k : Keeping = life_of (made_with made h.lines h.fresh) (calls_of past) in
    let at = sym (stamped_as q k c.args.time_us h.is) ∙ (sym c.in-Some.ensures.value ∙ (sym c.stamp_for_c.ensures ∙ e)) in
    let clock : c.args.time_us % 4294967296 ≡ c.args.time_us = omega (arith, c.ranges.time_us.fits) in
    bounded_as q made past c.args.time_us found h (ap (stamp_at k) clock ∙ at)

pub returns-in-Some-clause-none_lost : goal.returns-in-Some-clause-none_lost
returns-in-Some-clause-none_lost c t edges made start time edge next past one other u v h clock row lives says says_other none from upto = (_, refl)

pub returns-in-None-clause-none_lost : goal.returns-in-None-clause-none_lost
returns-in-None-clause-none_lost c t edges made start time edge next past one other u v h clock row lives says says_other none from upto =
    let q = c.args.timekeeper.now in
    let k : Keeping = life_of (made_with made h.lines h.fresh) (calls_of past) in
    let found = none_lost_truly q made past h one other edge next row u v says says_other t edges start time lives none from upto in
    let both : None ≡ Some found.0 = c.in-None.ensures.value ∙ (stamped_as q k c.args.time_us h.is ∙ (ap (stamp_at k) clock ∙ found.1)) in
    absurd cc

pub returns-in-Some-clause-none_lost_faulty : goal.returns-in-Some-clause-none_lost_faulty
returns-in-Some-clause-none_lost_faulty c t edges made start time edge next past one other u v h clock row plain lives says says_other none from upto = (_, refl)

pub returns-in-None-clause-none_lost_faulty : goal.returns-in-None-clause-none_lost_faulty
returns-in-None-clause-none_lost_faulty c t edges made start time edge next past one other u v h clock row plain lives says says_other none from upto =
    let q = c.args.timekeeper.now in
    let k : Keeping = life_of (made_with made h.lines h.fresh) (calls_of past) in
    let found = none_lost_faulty q made past h one other edge next row u v says says_other plain t edges start time lives none from upto in
    let both : None ≡ Some found.0 = c.in-None.ensures.value ∙ (stamped_as q k c.args.time_us h.is ∙ (ap (stamp_at k) clock ∙ found.1)) in
    absurd cc
