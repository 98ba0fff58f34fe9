use Rattle.irig_witness.proofs.VouchLaws.{lives, tells, stamps}
use Rattle.irig_witness.proofs.laws.an_audit_is_right.Goals as goal

pub returns-clause-lives : goal.returns-clause-lives
returns-clause-lives _ t x made start calls is kept = lives t x made start is calls kept

pub returns-clause-tells : goal.returns-clause-tells
returns-clause-tells _ t x made start now calls beat u is kept answer says = tells t x made start is now calls beat u kept answer says

pub returns-clause-stamps : goal.returns-clause-stamps
returns-clause-stamps _ t x made start time now calls stamp is kept order past young e = stamps t x made start is time now calls stamp kept order past young e
