-- Known values of this library's own definitions, so that a wrong one does not check.
use Rattle.std.proofs.Common.{◌≡◌, ℕ, List, [], ◌∷◌, Some, None, refl, arith}
use Rattle.c_numbers.specs.CheckWord.{weighted}
use Rattle.c_numbers.specs.Tallies.{no_tally}
use Rattle.c_lines.specs.declared.announced.IrigAnnounced.{IrigAnnounced}
use Rattle.c_lines.specs.declared.line.IrigLine.{IrigLine}
use Rattle.c_lines.specs.declared.line.IrigLines.{IrigLines}
use Rattle.c_keeper.specs.Announcing.{AreAsked, GoesByWait}
use Rattle.c_lines.specs.CheckWord.{announced_numbers, lines_numbers}
use Rattle.c_lines.specs.Lines.{numbers_at, with_numbers}
use Rattle.c_keeper.specs.Lives.{Moment}
use Rattle.c_keeper.specs.Lives.Moment.{Pulsed, Ticked, Waited}
use Rattle.c_keeper.specs.Seconds.{nothing_told, stamp_in}
use Rattle.c_lines.specs.Announced.{announced_in}

abbrev silent : IrigLine
silent = record { sync = record { rise_us = 0; place = 0; was_marker = 0 }; port = no_tally; frame = no_tally; begin_us = 0; end_us = 0; is_uneven = 0; has_frame = 0; is_seen = 0; is_heard = 0 }

abbrev all_silent : IrigLines
all_silent = record { a = silent; b = silent; c = silent; d = silent; e = silent }

-- the weights of the first number of the first line, of the last one of the last, and of a second's
pub known_weights : (weighted 389 (lines_numbers (record all_silent { a = record silent { sync = record { rise_us = 1000; place = 0; was_marker = 0 } } })) ≡ 389000)
    × (weighted 389 (lines_numbers (record all_silent { e = record silent { is_uneven = 1 } })) ≡ 547)
    × (weighted 311 (announced_numbers (record { day = 1; sod = 0; edge_us = 0; bound_us = 0; is_told = 1000 })) ≡ 319311)
known_weights = (refl, refl, refl)

-- the line of port 3, and the last one for a port that is not there
pub known_lines : (numbers_at (with_numbers all_silent 3 (record silent { end_us = 7 })) 3 ≡ record silent { end_us = 7 })
    × (numbers_at (with_numbers all_silent 3 (record silent { end_us = 7 })) 4 ≡ silent)
    × (with_numbers all_silent 3 (record silent { end_us = 7 }) ≡ record all_silent { d = record silent { end_us = 7 } })
known_lines = (refl, refl, refl)

abbrev told : IrigAnnounced
told = record { day = 6209; sod = 86400; edge_us = 12; bound_us = 1549; is_told = 1 }

pub known_seconds : (announced_in told ≡ Some (record { second = record { day = 6209; sod = 86400 }; edge_us = 12; bound_us = 1549 }))
    × (announced_in (record told { is_told = 0 }) ≡ None)
    × (stamp_in 0 (record { day = 6209; sod = 86400; offset_us = 250000; bound_us = 1549 }) ≡ Some (record { second = record { day = 6209; sod = 86400 }; offset_us = 250000; bound_us = 1549 }))
    × (stamp_in 26 (record { day = 6209; sod = 86400; offset_us = 250000; bound_us = 1549 }) ≡ None)
known_seconds = (refl, refl, refl, refl)

-- a frame's last pulse ends at 18,000, and a question from then on, or from another time, is answered
-- by 5 ms
abbrev asked_from : ℕ → List Moment
asked_from time = Waited time 5000 ∷ (Pulsed 0 10000 8000 100 ∷ [])

-- the tick comes 94 ms behind the time that was named, and a microsecond later it is too late
pub known_waits : AreAsked None (asked_from 18000) × (AreAsked None (asked_from 18001) → ⊥) × (AreAsked None (Pulsed 0 10000 8000 100 ∷ []) → ⊥) × AreAsked None (Pulsed 0 10000 2000 99 ∷ [])
    × GoesByWait 94000 (Ticked 117000 nothing_told ∷ asked_from 18000) × (GoesByWait 94000 (Ticked 117001 nothing_told ∷ asked_from 18000) → ⊥)
known_waits = (
  (λ e. refl, tt),
  λ h. (let other : ◌≡◌ {A = ℕ} 18001 18000 = (let both = h.0 refl in cc) in absurd (omega (arith, other))),
  λ h. (let none = h.0 refl in absurd cc),
  (λ e. absurd (omega (arith, e)), tt),
  ((omega arith, tt), tt),
  λ h. absurd (omega (arith, h.0.0)),
)
