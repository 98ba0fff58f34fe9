-- Stretches that ended, and those that are open.
-- Source: this project's profile, docs/CAPTURE.md.
use Rattle.std.specs.Prelude.{◌≡◌, ◌-◌, ◌++◌, List, length, option_to_list, take, None}
use Rattle.record_pulses.specs.Spreads.{counted}
use Rattle.record_verdict.specs.declared.ended.Ended.{Ended}
use Rattle.record_verdict.specs.declared.ended.Unended.{Unended}
use Rattle.record_verdict.specs.declared.stretch.AgreedSecond.{AgreedSecond}
use Rattle.record_verdict.specs.declared.stretch.Stretch.{Stretch}
use Rattle.record_verdict.specs.declared.tales.Tales.{Tales}
use Rattle.record_verdict.specs.Stretches.{ended_by, stretch_after}

-- these ended, in this order: the first 64 are kept, and the others counted
pub record AreEnded (ended : Ended) (all : List Stretch) : Type 0 where
  pub kept : ended.kept.items ≡ take 64 all
  pub more : ended.more ≡ counted (length all - 64)

-- no line has an open one
abbrev pub none_unended : Unended
none_unended = record { a = None; b = None; c = None; d = None; e = None }

-- the open ones after an agreed second at which lines say this
abbrev pub unended_after : Unended → AgreedSecond → Tales → Unended
unended_after u second t = record {
  a = stretch_after u.a 0 second t.a;
  b = stretch_after u.b 1 second t.b;
  c = stretch_after u.c 2 second t.c;
  d = stretch_after u.d 3 second t.d;
  e = stretch_after u.e 4 second t.e;
}

-- those of them that end where lines say this of a second, in the lines' order
abbrev pub ended_at : Unended → AgreedSecond → Tales → List Stretch
ended_at u second t =
    option_to_list (ended_by u.a second t.a) ++ (option_to_list (ended_by u.b second t.b)
    ++ (option_to_list (ended_by u.c second t.c) ++ (option_to_list (ended_by u.d second t.d)
    ++ option_to_list (ended_by u.e second t.e))))
