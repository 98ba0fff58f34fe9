use Rattle.std.proofs.Common.{◌≡◌, All, vec_len}
use Rattle.irig_reader.specs.Rules.{IsReaderRules}
use Rattle.bench_loops.proofs.carries.sixteen_readers.Given as goal

abbrev pub invariant-loop : goal.invariant-loop
invariant-loop l = record {
  count : vec_len l.readers ≡ l.counter;
  range : All (λ x. IsReaderRules x.rules) l.readers.items;
}
