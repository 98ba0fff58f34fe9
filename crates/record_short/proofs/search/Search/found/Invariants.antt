use Rattle.std.proofs.Common.{◌≤◌, ◌*◌}
use Rattle.record_short.specs.Searches.{IsFound, beginnings_below}
use Rattle.record_short.proofs.search.Search.found.Given as goal

-- those found so far
abbrev pub invariant-loop-place : goal.invariant-loop-place
invariant-loop-place l = record {
  found : IsFound l.found (beginnings_below l.self l.seen l.place);
  few : l.found.count ≤ 3 * l.place;
}
