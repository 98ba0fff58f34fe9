-- From which the length of a second is measured, by numbers.
use Rattle.std.specs.Prelude.{ℕ, ◌==◌, ◌&&◌, ◌||◌, Bool, nat_le, if◌then◌else◌, Option, Some, None}
use Rattle.irig_lines.specs.declared.rate.Anchor.{Anchor}
use Rattle.irig_lines.specs.declared.rate.Anchors.{Anchors}
use Rattle.c_keeper.specs.declared.anchors.IrigAnchor.{IrigAnchor}
use Rattle.c_keeper.specs.declared.anchors.IrigAnchors.{IrigAnchors}

-- the anchor, if there is one
abbrev pub anchor_in : ℕ → IrigAnchor → Option Anchor
anchor_in has a =
    if has == 0 then None
    else Some (record { begin_us = a.begin_us; long_us = a.long_us; seconds = a.seconds })

-- the two
abbrev pub anchors_in : IrigAnchors → Anchors
anchors_in a = record { old = anchor_in a.has_old a.old; young = anchor_in a.has_young a.young }

-- an anchor still serves, if there is one
abbrev pub is_young : ℕ → IrigAnchor → Bool
is_young has a = has == 0 || nat_le a.seconds 2000

-- they do, and there are none if nothing is known of the edge
abbrev pub are_young : ℕ → IrigAnchors → Bool
are_young has_interval a =
    if has_interval == 0 then a.has_old == 0 && a.has_young == 0
    else (is_young a.has_old a.old && is_young a.has_young a.young)
