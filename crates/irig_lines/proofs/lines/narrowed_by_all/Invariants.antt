use Rattle.std.proofs.Common.{◌≡◌, ◌≤◌, drop}
use Rattle.irig_lines.specs.Steps.{least_before, least_behind}
use Rattle.irig_lines.proofs.lines.narrowed_by_all.Given as goal

-- what is left decides
abbrev pub invariant-loop-y : goal.invariant-loop-y
invariant-loop-y l =
    (least_before l.reach_us l.f l.fn.x l.all l.all l.reach_us ≡ least_before l.reach_us l.f l.fn.x l.all (drop l.y-index l.all) l.so_far.before_us)
    × (least_behind l.reach_us l.f l.fn.x l.all l.all l.reach_us ≡ least_behind l.reach_us l.f l.fn.x l.all (drop l.y-index l.all) l.so_far.behind_us)
    × (l.so_far.before_us ≤ l.reach_us) × (l.so_far.behind_us ≤ l.reach_us)
