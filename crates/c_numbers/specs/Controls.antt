-- What control bits that C holds say.
use Rattle.std.specs.Prelude.{ℕ, Bool, not, ◌==◌}
use Rattle.irig_control.specs.declared.control.Control.{Control}
use Rattle.c_numbers.specs.declared.control.IrigControl.{IrigControl}

-- 0 is no, any other number yes
abbrev pub flag_in : ℕ → Bool
flag_in n = not (n == 0)

-- the control bits with these numbers
abbrev pub control_in : IrigControl → Control
control_in c = record {
  leap_pending = flag_in c.leap_pending;
  leap_delete = flag_in c.leap_delete;
  dst_pending = flag_in c.dst_pending;
  dst = flag_in c.dst;
  offset_half_hours = c.offset_half_hours;
  quality = c.quality;
}
