-- A pulse as the code comes to it, by its place.
use Rattle.std.proofs.Common.{◌≡◌, ℕ, ap, Some}
use Rattle.irig_sync.specs.Sync.{place_of}
use Rattle.irig_port.specs.Limits.{told_within, quality_in}
use Rattle.irig_port.specs.Hearing.{heard_at}
use Rattle.irig_lines.specs.Steps.{line_at, with_line, line_heard}
use Rattle.irig_timekeeper.specs.Keeping.{Keeping, heard_by, with_heard, with_lines, one_pulse_more}

pub pulse_by : (k : Keeping) (port rise width place : ℕ) → place ≡ place_of (line_at k.state.lines port).sync rise width
    → record k {
      heard = with_heard k.heard port (heard_at place (heard_by k.heard port) width);
      state = with_lines k.state (with_line k.state.lines port (line_heard k.clock (line_at k.state.lines port) rise width (told_within (Some k.clock.limits.limits) k.rules (heard_at place (heard_by k.heard port) width)) (quality_in (heard_at place (heard_by k.heard port) width))));
    } ≡ one_pulse_more k port rise width
pulse_by k port rise width place e =
    ap (λ (n : ℕ). record k {
      heard = with_heard k.heard port (heard_at n (heard_by k.heard port) width);
      state = with_lines k.state (with_line k.state.lines port (line_heard k.clock (line_at k.state.lines port) rise width (told_within (Some k.clock.limits.limits) k.rules (heard_at n (heard_by k.heard port) width)) (quality_in (heard_at n (heard_by k.heard port) width))));
    }) e
