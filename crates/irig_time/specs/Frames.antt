-- The frame of a second of UTC with given control bits.
-- Source: IRIG Standard 200-16, format B, and IEEE 1344-1995, the IRIG-B annex, by the definitions
-- that it names.
use Rattle.std.specs.Prelude.{◌≡◌, ◌%◌, ◌^◌, ◌<◌, List, ℤ}
use Rattle.irig_frame.specs.declared.symbol.Symbol.{Symbol}
use Rattle.irig_frame.specs.declared.coded.Coded.{Coded}
use Rattle.irig_frame.specs.Decoder.{Reads}
use Rattle.irig_frame.specs.Encoder.{HasUnusedZeros, frame_of_coded}
use Rattle.irig_control.specs.declared.control.Control.{Control}
use Rattle.irig_control.specs.declared.parity.Parity.{Parity}
use Rattle.irig_control.specs.Control.{word_of}
use Rattle.irig_control.specs.Parity.{HasParity, with_parity}
use Rattle.irig_time.specs.declared.second.UtcSecond.{UtcSecond}
use Rattle.irig_time.specs.CodedTime.{IsCodedOf, time_shown}

-- the frame of u with these control bits, on a clock so many half hours ahead of UTC: its last
-- three control bits and its unused elements are 0
pub record IsFrameOfSecond (parity : Parity) (u : UtcSecond) (half_hours : ℤ) (k : Control)
    (s : List Symbol)
    : Type 0 where
  pub coded : Coded
  pub reads : Reads s coded
  pub time : IsCodedOf u half_hours (record coded { control = 0 })
  pub control : coded.control % 2 ^ 14 ≡ word_of k
  pub unused : coded.control < 2 ^ 15
  pub spare : HasUnusedZeros s
  pub has_parity : HasParity parity s

-- ---- the same as a function

-- the s of IsFrameOfSecond
unfoldable pub frame_of_second : Parity → UtcSecond → ℤ → Control → List Symbol
frame_of_second parity u half_hours k =
    with_parity parity (frame_of_coded (record (time_shown u half_hours) { control = word_of k }))
