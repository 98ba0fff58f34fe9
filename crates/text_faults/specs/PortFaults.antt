-- The numbers, names and words for the faults of a frame.
-- Source: docs/FAULTS.md, faults of a frame; docs/FRAME.md, as text.
use Rattle.std.specs.Prelude.{ℕ, List, [], ◌++◌, codes, Option, Some, None}
use Rattle.std.specs.Fmt.{decimal}
use Rattle.irig_frame.specs.declared.layout.Field.{Field}
use Rattle.irig_frame.specs.declared.layout.Field.TheVariants.{Second, Minute, Hour, Day, Year}
use Rattle.irig_frame.specs.declared.fault.FrameFault.TheVariants.{Short, Long, Pulse, Marker, Digit, Range}
use Rattle.irig_time.specs.declared.claim.TimeFault.TheVariants.{NoSuchDay, OutOfYears, Second60, DeletedSecond}
use Rattle.irig_port.specs.declared.told.PortFault.{PortFault}
use Rattle.irig_port.specs.declared.told.PortFault.TheVariants.{Frame, Parity, Sbs, Time, Early}
use Rattle.text_faults.specs.declared.port_fault.FaultDetail.{FaultDetail}
use Rattle.text_faults.specs.declared.port_fault.FaultDetail.TheVariants as detail

-- the number by which users know a fault
abbrev pub number_of : PortFault → ℕ
number_of (Frame (Short count)) = 1
number_of (Frame Long) = 2
number_of (Frame (Pulse element)) = 3
number_of (Frame (Marker element)) = 4
number_of (Frame (Digit field)) = 5
number_of (Frame (Range field)) = 6
number_of (Time NoSuchDay) = 7
number_of (Time OutOfYears) = 8
number_of (Time Second60) = 9
number_of (Time DeletedSecond) = 10
number_of Parity = 17
number_of Sbs = 18
number_of Early = 36

-- its name
abbrev pub name_of : PortFault → List ℕ
name_of (Frame (Short count)) = codes "Short"
name_of (Frame Long) = codes "Long"
name_of (Frame (Pulse element)) = codes "Pulse"
name_of (Frame (Marker element)) = codes "Marker"
name_of (Frame (Digit field)) = codes "Digit"
name_of (Frame (Range field)) = codes "Range"
name_of (Time NoSuchDay) = codes "NoSuchDay"
name_of (Time OutOfYears) = codes "OutOfYears"
name_of (Time Second60) = codes "Second60"
name_of (Time DeletedSecond) = codes "DeletedSecond"
name_of Parity = codes "Parity"
name_of Sbs = codes "Sbs"
name_of Early = codes "Early"

-- what it says beside its name
abbrev pub detail_of : PortFault → Option FaultDetail
detail_of (Frame (Short count)) = Some (detail.Symbols count)
detail_of (Frame Long) = None
detail_of (Frame (Pulse element)) = Some (detail.Element element)
detail_of (Frame (Marker element)) = Some (detail.Element element)
detail_of (Frame (Digit field)) = Some (detail.Field field)
detail_of (Frame (Range field)) = Some (detail.Field field)
detail_of (Time fault) = None
detail_of Parity = None
detail_of Sbs = None
detail_of Early = None

-- the word for a field
abbrev pub field_word : Field → List ℕ
field_word Second = codes "second"
field_word Minute = codes "minute"
field_word Hour = codes "hour"
field_word Day = codes "day"
field_word Year = codes "year"

-- what a fault says beside its name, if anything, after a separator
abbrev pub detail_text : List ℕ → Option FaultDetail → List ℕ
detail_text separator None = []
detail_text separator (Some (detail.Symbols count)) = separator ++ decimal count
detail_text separator (Some (detail.Element element)) = separator ++ decimal element
detail_text separator (Some (detail.Field field)) = separator ++ field_word field

-- the number and the name of a fault, and what else it says, with a separator between
abbrev pub fault_text : List ℕ → PortFault → List ℕ
fault_text separator fault =
    decimal (number_of fault) ++ (separator ++ (name_of fault
    ++ detail_text separator (detail_of fault)))
