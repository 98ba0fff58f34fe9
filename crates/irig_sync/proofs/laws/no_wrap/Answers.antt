use Rattle.irig_sync.proofs.LineLaws.{first_at_time, place_at_time, pulse_at_time, idle_at_time}
use Rattle.irig_sync.proofs.laws.no_wrap.Goals as goal

pub returns-clause-place : goal.returns-clause-place
returns-clause-place _ = place_at_time

pub returns-clause-pulse : goal.returns-clause-pulse
returns-clause-pulse _ = pulse_at_time

pub returns-clause-first : goal.returns-clause-first
returns-clause-first _ = first_at_time

pub returns-clause-idle : goal.returns-clause-idle
returns-clause-idle _ = idle_at_time
