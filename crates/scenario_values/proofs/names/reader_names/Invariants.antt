use Rattle.std.proofs.Common.{map, drop, string_bytes}
use Rattle.scenario_values.proofs.NameLaws.{HasNamed, given_names}
use Rattle.scenario_values.proofs.names.reader_names.Given as goal

abbrev pub invariant-loop-reader : goal.invariant-loop-reader
invariant-loop-reader l = HasNamed (map string_bytes l.names.keys) (given_names (drop l.reader-index l.readers)) (given_names l.readers)
