-- What blame finds for C, in numbers.
-- Source: docs/OUTPUT.md, docs/C.md.
use Rattle.std.specs.Prelude.{ℕ, Bool, if◌then◌else◌, List, [], ◌∷◌, map, Option, Some, None}
use Rattle.irig_port.specs.declared.told.Told.TheVariants as tells
use Rattle.irig_reader.specs.declared.report.Cause.{Cause}
use Rattle.irig_time.specs.declared.second.UtcSecond.{UtcSecond}
use Rattle.c_numbers.specs.Reports.{told_in, number_of_cause}
use Rattle.report_found.specs.declared.finding.Basis.{Basis}
use Rattle.report_found.specs.declared.finding.Finding.{Finding}
use Rattle.report_found.specs.declared.finding.PortWrong.{PortWrong}
use Rattle.report_found.specs.declared.finding.Untrue.{Untrue}
use Rattle.report_found.specs.declared.finding.Wrong.{Wrong}
use Rattle.report_found.specs.declared.finding.Wrong.TheVariants as wrong
use Rattle.report_found.specs.declared.kind.Kind.{Kind}
use Rattle.report_found.specs.declared.kind.Kind.TheVariants.{Agreed, Silent, Faulty, Poor, AnotherSecond, AnotherMark}
use Rattle.report_found.specs.Scenes.{found_of}
use Rattle.report_log.specs.declared.offset.Offset.{Offset}
use Rattle.c_scenario.specs.declared.stretch.IrigOffset.{IrigOffset}
use Rattle.c_scenario.specs.declared.stretch.IrigStretch.{IrigStretch}
use Rattle.c_scenario.specs.Entries.{second_or_zeros}

-- 1 if it is so
abbrev pub flag : Bool → ℕ
flag b = if b then 1 else 0

-- the number of a kind; of agreed ticks there is no stretch
abbrev pub kind_of : Kind → ℕ
kind_of Agreed = 0
kind_of Silent = 1
kind_of Faulty = 2
kind_of Poor = 3
kind_of AnotherSecond = 4
kind_of AnotherMark = 5

-- how far a second was from the true one, or zeros
abbrev pub offset_of : Option Offset → IrigOffset
offset_of None = record { ahead = 0; behind = 0 }
offset_of (Some o) = record { ahead = o.ahead; behind = o.behind }

-- when and of whom, and else zeros
abbrev pub blank : Finding → IrigStretch
blank f = record {
  first_edge = f.first;
  last_edge = f.last;
  announced = 0;
  untrue = 0;
  vote_edge = 0;
  first_offset = record { ahead = 0; behind = 0 };
  last_offset = record { ahead = 0; behind = 0 };
  first_second = second_or_zeros f.first_second;
  last_second = second_or_zeros f.last_second;
  told = told_in tells.Silence;
  kind = 0;
  reader = f.reader;
  port = 0;
  cause = 0;
  is_steady = 0;
  vote_is_true = 0;
  carriers = 0 ∷ 0 ∷ 0 ∷ 0 ∷ 0 ∷ [];
}

-- of a port
abbrev pub port_stretch : Finding → PortWrong → IrigStretch
port_stretch f w = record (blank f) {
  announced = w.announced;
  untrue = w.untrue;
  first_offset = offset_of w.offsets.first;
  last_offset = offset_of w.offsets.last;
  told = told_in w.told;
  kind = kind_of w.kind;
  port = w.port;
  is_steady = flag w.offsets.steady;
}

-- of a reader that announced nothing
abbrev pub silence_stretch : Finding → Cause → IrigStretch
silence_stretch f cause = record (blank f) { kind = 6; cause = number_of_cause cause }

-- with the vote that it rests on
abbrev pub basis_stretch : IrigStretch → Basis → IrigStretch
basis_stretch s b = record s {
  vote_edge = b.edge;
  vote_is_true = flag b.is_true;
  carriers = flag b.a ∷ flag b.b ∷ flag b.c ∷ flag b.d ∷ flag b.e ∷ [];
}

-- if there was one
abbrev pub resting : IrigStretch → Option Basis → IrigStretch
resting s None = s
resting s (Some b) = basis_stretch s b

-- of a reader that announced untrue seconds
abbrev pub untrue_stretch : Finding → Untrue → IrigStretch
untrue_stretch f u =
    resting (record (blank f) {
      first_offset = offset_of u.offsets.first;
      last_offset = offset_of u.offsets.last;
      kind = 7;
      is_steady = flag u.offsets.steady;
    }) u.basis

-- of what was wrong
abbrev pub stretch_by : Finding → Wrong → IrigStretch
stretch_by f (wrong.Port w) = port_stretch f w
stretch_by f (wrong.Silence cause) = silence_stretch f cause
stretch_by f (wrong.Untrue u) = untrue_stretch f u

-- of a finding
abbrev pub stretch_for : Finding → IrigStretch
stretch_for f = stretch_by f f.wrong

-- of all that is found in the bytes x, in the order of blame's lines
abbrev pub stretches_of : List ℕ → List IrigStretch
stretches_of x = map stretch_for (found_of x)
