-- What a picture shows for C, in numbers.
-- Source: docs/C.md.
use Rattle.std.specs.Prelude.{ℕ, List, map}
use Rattle.c_numbers.specs.Reports.{number_of_lock, number_of_cause}
use Rattle.report_lanes.specs.declared.lane.Lane.{Lane}
use Rattle.report_lanes.specs.declared.lane.Mark.{Mark}
use Rattle.report_lanes.specs.declared.lane.Mark.TheVariants.{LeapSecond, DeletedSecond, MonthEnd}
use Rattle.report_lanes.specs.declared.lane.Shows.{Shows}
use Rattle.report_lanes.specs.declared.lane.Shows.TheVariants as shows
use Rattle.report_lanes.specs.Scenes.{lanes_of as all_lanes_of}
use Rattle.c_scenario.specs.declared.lane.IrigLane.{IrigLane}
use Rattle.c_scenario.specs.Stretches.{kind_of}

-- the number of a mark
abbrev pub mark_number : Mark → ℕ
mark_number LeapSecond = 1
mark_number DeletedSecond = 2
mark_number MonthEnd = 3

-- of edges at which this is to be seen
abbrev pub lane_by : Lane → Shows → IrigLane
lane_by l (shows.Stood lock cause) = record {
  first_edge = l.first;
  last_edge = l.last;
  kind = 1;
  reader = l.reader;
  port = 0;
  state = number_of_lock lock;
  cause = number_of_cause cause;
}
lane_by l (shows.Told port kind) = record {
  first_edge = l.first;
  last_edge = l.last;
  kind = 2;
  reader = l.reader;
  port = port;
  state = kind_of kind;
  cause = 0;
}
lane_by l (shows.Mark mark) = record {
  first_edge = l.first;
  last_edge = l.last;
  kind = 3;
  reader = l.reader;
  port = 0;
  state = mark_number mark;
  cause = 0;
}

-- of a lane
abbrev pub lane_for : Lane → IrigLane
lane_for l = lane_by l l.shows

-- of all that is to be seen in the bytes x
abbrev pub lanes_of : List ℕ → List IrigLane
lanes_of x = map lane_for (all_lanes_of x)
