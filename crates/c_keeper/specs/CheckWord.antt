-- The check word of a timekeeper: what its numbers add up to, each times an odd weight of its own.
-- Source: this library's own.
use Rattle.std.specs.Prelude.{ℕ, ℤ, pos, int_lt, unsigned_abs, ◌≡◌, ◌+◌, ◌*◌, ◌%◌, ◌^◌, if◌then◌else◌, List, [], ◌∷◌, ◌++◌}
use Rattle.c_numbers.specs.CheckWord.{setup_numbers, state_numbers, table_numbers, weighted, AreOneApart}
use Rattle.c_keeper.specs.declared.anchors.IrigAnchor.{IrigAnchor}
use Rattle.c_keeper.specs.declared.pace.IrigPace.{IrigPace}
use Rattle.c_keeper.specs.declared.timekeeper.IrigTimekeeper.{IrigTimekeeper}
use Rattle.c_keeper.specs.declared.timekeeper.IrigWires.{IrigWires}
use Rattle.c_lines.specs.CheckWord.{announced_numbers, lines_numbers}

-- the number of a delay: twice its size, and one more if it is below 0
abbrev pub delay_number : ℤ → ℕ
delay_number delay = 2 * unsigned_abs delay + (if int_lt delay (pos 0) then 1 else 0)

-- the numbers of wires
abbrev pub wires_numbers : IrigWires → List ℕ
wires_numbers w =
    w.within_us ∷ w.drift_us ∷ delay_number w.delays.a ∷ delay_number w.delays.b
    ∷ delay_number w.delays.c ∷ delay_number w.delays.d ∷ delay_number w.delays.e
    ∷ w.prefers_frames ∷ w.wander_ppb ∷ []

-- the numbers of an anchor
abbrev pub anchor_numbers : IrigAnchor → List ℕ
anchor_numbers a = a.begin_us ∷ a.long_us ∷ a.seconds ∷ []

-- the numbers of what is learned
abbrev pub pace_numbers : IrigPace → List ℕ
pace_numbers p = p.second_ns ∷ p.within_ns ∷ p.rest_ns ∷ []

-- the numbers of its clock
abbrev pub clock_numbers : IrigTimekeeper → List ℕ
clock_numbers t =
    wires_numbers t.wires
    ++ (t.edge_us ∷ t.moved ∷ t.has_edge ∷ t.has_interval ∷ t.bound_us
    ∷ t.begin_us ∷ t.long_us ∷ t.strays ∷ t.doubt ∷ pace_numbers t.pace
    ++ (t.anchors.has_old ∷ t.anchors.has_young
    ∷ anchor_numbers t.anchors.old ++ (anchor_numbers t.anchors.young
    ++ (announced_numbers t.last ++ (announced_numbers t.before
    ++ (announced_numbers t.ended ++ announced_numbers t.ended_before))))))

-- the numbers of a timekeeper that never change
abbrev pub fixed_numbers : IrigTimekeeper → List ℕ
fixed_numbers t = setup_numbers t.setup ++ table_numbers t.table

-- those that its calls change
abbrev pub changing_numbers : IrigTimekeeper → List ℕ
changing_numbers t = state_numbers t.state ++ (clock_numbers t ++ lines_numbers t.lines)

-- the check word that belongs to these numbers
unfoldable pub check_of : IrigTimekeeper → ℕ
check_of t = (weighted 3 (fixed_numbers t) + weighted 279 (changing_numbers t)) % 2 ^ 64

-- the timekeeper has it
abbrev pub IsSealed : IrigTimekeeper → Type 0
IsSealed t = t.check ≡ check_of t

-- all numbers of a timekeeper
abbrev pub numbers_of : IrigTimekeeper → List ℕ
numbers_of t = t.check ∷ changing_numbers t ++ fixed_numbers t

-- one number of a timekeeper is another one in the other
abbrev pub IsOneNumberApart : IrigTimekeeper → IrigTimekeeper → Type 0
IsOneNumberApart t q = AreOneApart (numbers_of t) (numbers_of q)
