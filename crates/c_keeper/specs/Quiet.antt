-- Ticks of a timekeeper that find nothing to do.
use Rattle.std.specs.Prelude.{◌≡◌, ℕ, ◌==◌, ◌&&◌, Bool, None}
use Rattle.irig_lines.specs.Counting.{edges_own}
use Rattle.c_keeper.specs.declared.timekeeper.IrigTimekeeper.{IrigTimekeeper}
use Rattle.c_keeper.specs.Anchors.{are_young}
use Rattle.c_keeper.specs.Timekeepers.{answer_in, clock_state_in, edge_in, state_behind}
use Rattle.c_lines.specs.Quiet.{are_quiet}

-- nor has a second come by the own counter, and what is measured from still serves
abbrev pub is_quiet : IrigTimekeeper → ℕ → Bool
is_quiet t now =
    edges_own None (edge_in t) now == 0 && (are_young t.has_interval t.anchors && are_quiet now t.lines)

-- a tick then says nothing, and leaves its clock as it is
pub record IsAtRest (t : IrigTimekeeper) (now : ℕ) : Type 0 where
  pub answer : answer_in t now ≡ None
  pub state : state_behind t now ≡ clock_state_in t
