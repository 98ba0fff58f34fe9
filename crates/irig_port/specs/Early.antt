-- The faults of a frame that go before its parity: those of its length and of its elements.
use Rattle.std.specs.Prelude.{Option, Some, None, Result, Ok, Err}
use Rattle.irig_frame.specs.declared.fault.FrameFault.{FrameFault}
use Rattle.irig_frame.specs.declared.fault.FrameFault.TheVariants as fault

-- the fault, if it is one of these
abbrev pub early_part : {A : Type 0} → Result A FrameFault → Option FrameFault
early_part (Ok c) = None
early_part (Err (fault.Digit f)) = None
early_part (Err (fault.Range f)) = None
early_part (Err (fault.Short n)) = Some (fault.Short n)
early_part (Err fault.Long) = Some fault.Long
early_part (Err (fault.Pulse i)) = Some (fault.Pulse i)
early_part (Err (fault.Marker i)) = Some (fault.Marker i)
