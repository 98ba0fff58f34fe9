-- What a command line asks for.
use Rattle.std.specs.Prelude.{◌≤◌, ⊤}
use Rattle.record_stamp.specs.Codes.{IsZoneOf}
use Rattle.text_frame.specs.Frame.{IsFrameOptions}
use Rattle.cli_words.specs.declared.request.Judging.{Judging}
use Rattle.cli_words.specs.declared.request.Request.{Request}
use Rattle.cli_words.specs.declared.request.Request.TheVariants.{Plain, Play, Judge, Frame, Read, Explain}

-- a level that lasts for 4 ms is no glitch, and a zone is less than a day ahead of UTC or behind it
abbrev pub IsJudging : Judging → Type 0
IsJudging judging = (judging.glitch_us ≤ 4000) × IsZoneOf judging.zone

-- the control bits of a frame that is asked for have room for its options, and how a recording is
-- judged is in its range
abbrev pub IsRequest : Request → Type 0
IsRequest Plain = ⊤
IsRequest (Play wanted source) = ⊤
IsRequest (Judge judging source) = IsJudging judging
IsRequest (Frame time options) = IsFrameOptions options
IsRequest (Read frame rules) = ⊤
IsRequest (Explain word) = ⊤
