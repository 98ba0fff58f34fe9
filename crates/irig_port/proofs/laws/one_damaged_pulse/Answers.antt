use Rattle.irig_port.proofs.DamageLaws.{damage_told, unreadable_told, parity_is_told, seconds_told, unread_told}
use Rattle.irig_port.proofs.laws.one_damaged_pulse.Goals as goal

pub returns-clause-never_untrue : goal.returns-clause-never_untrue
returns-clause-never_untrue _ = damage_told

pub returns-clause-unreadable : goal.returns-clause-unreadable
returns-clause-unreadable _ = unreadable_told

pub returns-clause-parity : goal.returns-clause-parity
returns-clause-parity _ = parity_is_told

pub returns-clause-binary : goal.returns-clause-binary
returns-clause-binary _ = seconds_told

pub returns-clause-unread : goal.returns-clause-unread
returns-clause-unread _ = unread_told
