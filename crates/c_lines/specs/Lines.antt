-- Where the lines of a timekeeper stand, by their numbers.
use Rattle.std.specs.Prelude.{◌≡◌, ℕ, ◌≤◌, ◌⊎◌, ◌==◌, not, if◌then◌else◌, List, [], ◌∷◌, Option, Some, None}
use Rattle.irig_control.specs.Control.{control_of}
use Rattle.irig_time.specs.declared.rules.Rules.{Rules}
use Rattle.irig_port.specs.declared.tally.Tally.{Tally}
use Rattle.irig_port.specs.declared.limits.Limits.{Limits}
use Rattle.irig_port.specs.declared.told.Told.TheVariants.{Silence}
use Rattle.irig_port.specs.Limits.{tally_told_within}
use Rattle.irig_port.specs.Tallies.{control_word_in, IsTallyOf}
use Rattle.irig_lines.specs.declared.lines.KeptFrame.{KeptFrame}
use Rattle.irig_lines.specs.declared.lines.Line.{Line}
use Rattle.irig_lines.specs.declared.lines.Lines.{Lines}
use Rattle.irig_lines.specs.Steps.{quality_told}
use Rattle.irig_timekeeper.specs.Keeping.{Heard}
use Rattle.c_lines.specs.declared.line.IrigLine.{IrigLine}
use Rattle.c_lines.specs.declared.line.IrigLines.{IrigLines}

-- its last whole frame, whatever became of it: what its numbers tell, by what quality, where it ends,
-- and whether it is even
abbrev pub frame_in : Option Limits → Rules → IrigLine → KeptFrame
frame_in limits rules l = record {
  told = tally_told_within limits rules l.frame;
  quality = quality_told (tally_told_within limits rules l.frame)
      (control_of (control_word_in l.frame)).quality;
  end_us = l.end_us;
  is_even = l.is_uneven == 0;
}

-- the line that has these numbers
abbrev pub line_in : Option Limits → Rules → IrigLine → Line
line_in limits rules l = record {
  sync = l.sync;
  begin_us = l.begin_us;
  frame = if l.has_frame == 0 then None else Some (frame_in limits rules l);
  seen = if l.is_seen == 0 then None else Some (frame_in limits rules l);
  is_heard = not (l.is_heard == 0);
}

-- the five lines
abbrev pub lines_in : Option Limits → Rules → IrigLines → Lines
lines_in limits rules ls = record {
  a = line_in limits rules ls.a;
  b = line_in limits rules ls.b;
  c = line_in limits rules ls.c;
  d = line_in limits rules ls.d;
  e = line_in limits rules ls.e;
}

-- a frame of which is not read what it tells
abbrev pub unread_frame : Option KeptFrame → Option KeptFrame
unread_frame None = None
unread_frame (Some f) = Some (record f { told = Silence; quality = 0 })

-- a line of whose last frame, if it has no vote any more, only is read when it ended
abbrev pub unread_line : Line → Line
unread_line l = record l { seen = unread_frame l.seen }

-- five such lines
abbrev pub unread_lines : Lines → Lines
unread_lines ls = record {
  a = unread_line ls.a;
  b = unread_line ls.b;
  c = unread_line ls.c;
  d = unread_line ls.d;
  e = unread_line ls.e;
}

-- the frames that they keep, and of others what they kept last
abbrev pub frames_in : IrigLines → List Tally
frames_in ls = ls.a.frame ∷ ls.b.frame ∷ ls.c.frame ∷ ls.d.frame ∷ ls.e.frame ∷ []

-- the numbers of the line of a port
abbrev pub numbers_at : IrigLines → ℕ → IrigLine
numbers_at ls port =
    if port == 0 then ls.a
    else (if port == 1 then ls.b
    else (if port == 2 then ls.c
    else (if port == 3 then ls.d
    else ls.e)))

-- the same lines, but that of a port with these numbers
abbrev pub with_numbers : IrigLines → ℕ → IrigLine → IrigLines
with_numbers ls port l =
    if port == 0 then record ls { a = l }
    else (if port == 1 then record ls { b = l }
    else (if port == 2 then record ls { c = l }
    else (if port == 3 then record ls { d = l }
    else record ls { e = l })))

-- what the ports of the lines heard
pub record HaveHeard (ls : IrigLines) (heard : Heard) : Type 0 where
  pub a : IsTallyOf ls.a.port heard.a
  pub b : IsTallyOf ls.b.port heard.b
  pub c : IsTallyOf ls.c.port heard.c
  pub d : IsTallyOf ls.d.port heard.d
  pub e : IsTallyOf ls.e.port heard.e

-- a tick keeps a frame or drops it
abbrev pub IsKeptFrom : Option KeptFrame → Option KeptFrame → Type 0
IsKeptFrom before after = (after ≡ None) ⊎ (after ≡ before)

-- of a line it moves no more than its synchroniser, and may drop what it keeps and sees
pub record IsLineFrom (before after : Line) : Type 0 where
  pub begin : after.begin_us ≡ before.begin_us
  pub frame : IsKeptFrom before.frame after.frame
  pub seen : IsKeptFrom before.seen after.seen

-- so it does of each line
pub record AreKeptFrom (before after : Lines) : Type 0 where
  pub a : IsLineFrom before.a after.a
  pub b : IsLineFrom before.b after.b
  pub c : IsLineFrom before.c after.c
  pub d : IsLineFrom before.d after.d
  pub e : IsLineFrom before.e after.e

-- a line keeps no frame, and sees none
pub record IsEmptyLine (l : IrigLine) : Type 0 where
  pub frame : l.has_frame ≡ 0
  pub seen : l.is_seen ≡ 0

-- of so many lines: what stands for one beyond them is empty
pub record KeepNoMore (ports : ℕ) (ls : IrigLines) : Type 0 where
  pub b : ports ≤ 1 → IsEmptyLine ls.b
  pub c : ports ≤ 2 → IsEmptyLine ls.c
  pub d : ports ≤ 3 → IsEmptyLine ls.d
  pub e : ports ≤ 4 → IsEmptyLine ls.e
