use Rattle.scenario_json.specs.Keys.{texts_of}
use Rattle.scenario_line.proofs.PlainLaws.{tick_is, step_is, repair_is, restart_is, seconds_is}
use Rattle.scenario_line.proofs.plain_line.command_in.Goals as goal

pub returns-in_ok-reader_in-in-tick : goal.returns-in_ok-reader_in-in-tick
returns-in_ok-reader_in-in-tick c =
    rw c.in-tick.is (tick_is (texts_of c.args.names.now.keys) c.args.reader.now c.reader_in.new.reader c.in_ok-reader_in-in-tick.field-0 c.in_ok-reader_in-in-tick.ensures)

pub returns-in_ok-generator_in-in-step : goal.returns-in_ok-generator_in-in-step
returns-in_ok-generator_in-in-step c =
    rw c.in-step.is (step_is (texts_of c.args.names.now.keys) c.args.reader.now c.generator_in.new.reader c.in_ok-generator_in-in-step.field-0 c.in_ok-generator_in-in-step.ensures)

pub returns-in_ok-generator_in-in-repair : goal.returns-in_ok-generator_in-in-repair
returns-in_ok-generator_in-in-repair c =
    rw c.in-repair.is
    (repair_is (texts_of c.args.names.now.keys) c.args.reader.now c.generator_in-in-repair.new.reader c.in_ok-generator_in-in-repair.field-0 c.in_ok-generator_in-in-repair.ensures)

pub returns-in_ok-reader_in-in-restart : goal.returns-in_ok-reader_in-in-restart
returns-in_ok-reader_in-in-restart c =
    rw c.in-restart.is
    (restart_is (texts_of c.args.names.now.keys) c.args.reader.now c.reader_in-in-restart.new.reader c.in_ok-reader_in-in-restart.field-0 c.in_ok-reader_in-in-restart.ensures)

pub returns-in_ok-natural_in-in-seconds : goal.returns-in_ok-natural_in-in-seconds
returns-in_ok-natural_in-in-seconds c =
    rw c.in-seconds.is
    (seconds_is (texts_of c.args.names.now.keys) c.args.reader.now c.natural_in.new.reader c.in_ok-natural_in-in-seconds.field-0 c.in_ok-natural_in-in-seconds.ensures.value)
