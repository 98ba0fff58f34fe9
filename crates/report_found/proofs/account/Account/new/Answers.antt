use Rattle.std.proofs.Common.{[], refl}
use Rattle.report_found.proofs.CountLaws.{same_account}
use Rattle.report_found.proofs.account.Account.new.Goals as goal

pub returns-clause-exact : goal.returns-clause-exact
returns-clause-exact c =
    let port = c.new-port.ensures.exact in
    same_account _ _ _ _ _ _ _ _ _ _ _ [] (port 0) (port 1) (port 2) (port 3) (port 4) refl refl refl refl refl refl
