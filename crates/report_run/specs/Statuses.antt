-- The exit statuses of a program whose run ended early.
-- Source: docs/OUTPUT.md, the exit status.
use Rattle.std.specs.Prelude.{ℕ}
use Rattle.report_run.specs.declared.fault.SceneFault.{SceneFault}
use Rattle.report_run.specs.declared.fault.SceneFault.TheVariants.{Refused, Read, Write, Memory}

-- 3 for a refused line, else 4, 5 or 6
abbrev pub status_of : SceneFault → ℕ
status_of (Refused line refusal) = 3
status_of Read = 4
status_of Write = 5
status_of Memory = 6
