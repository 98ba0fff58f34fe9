-- What blame finds, as records: stretches of ports, silences and untrue seconds of readers.
-- Source: docs/OUTPUT.md.
use Rattle.std.specs.Prelude.{ℕ, zero, suc, ◌==◌, Bool, if◌then◌else◌, List, [], ◌∷◌, ◌++◌, Option, Some, None}
use Rattle.report_found.specs.declared.account.Account.{Account}
use Rattle.report_found.specs.declared.finding.Finding.{Finding}
use Rattle.report_found.specs.declared.finding.Basis.{Basis}
use Rattle.report_found.specs.declared.finding.Offsets.{Offsets}
use Rattle.report_found.specs.declared.finding.PortWrong.{PortWrong}
use Rattle.report_found.specs.declared.finding.Untrue.{Untrue}
use Rattle.report_found.specs.declared.finding.Wrong.TheVariants as wrong
use Rattle.report_found.specs.declared.misled.Misled.{Misled}
use Rattle.report_found.specs.declared.stretch.Silence.{Silence}
use Rattle.report_found.specs.declared.stretch.Stretch.{Stretch}
use Rattle.report_found.specs.declared.tick.Tick.{Tick}
use Rattle.report_found.specs.Accounts.{port_of}
use Rattle.report_found.specs.Stretches.{ended_by, ended_silence, ended_misled}
use Rattle.report_found.specs.Ticks.{told_by, kind_at, frame_at, second_at, offset_at, offset_announced, is_carrier, votes_truly}

-- the lists of 0 to n - 1, one after another
abbrev pub lists_below : {A : Type 0} → (ℕ → List A) → ℕ → List A
lists_below list zero = []
lists_below list (suc n) = lists_below list n ++ list n

-- ---- a stretch

-- how far what a port claimed was from the true second
abbrev pub port_offsets : ℕ → Stretch → Offsets
port_offsets port s = record {
  first = offset_at port s.first;
  last = offset_at port s.last;
  steady = s.steady;
}

-- what a port told
abbrev pub port_wrong : ℕ → Stretch → PortWrong
port_wrong port s = record {
  port = port;
  kind = s.kind;
  told = told_by port s.first;
  truth = s.first.entry.truth;
  offsets = port_offsets port s;
  announced = s.announced;
  untrue = s.untrue;
}

-- a stretch of a port of reader r, by the frames that should have come
abbrev pub of_port : ℕ → ℕ → Stretch → Finding
of_port r port s = record {
  reader = r;
  first = s.first.entry.edge;
  last = s.last.entry.edge;
  first_second = frame_at s.first;
  last_second = frame_at s.last;
  wrong = wrong.Port (port_wrong port s);
}

-- if there is one
abbrev pub port_found : ℕ → ℕ → Option Stretch → List Finding
port_found r port None = []
port_found r port (Some s) = of_port r port s ∷ []

-- ---- a silence

-- a silence of reader r, by the seconds that it did not announce
abbrev pub of_silence : ℕ → Silence → Finding
of_silence r s = record {
  reader = r;
  first = s.first.entry.edge;
  last = s.last.entry.edge;
  first_second = second_at s.first;
  last_second = second_at s.last;
  wrong = wrong.Silence s.cause;
}

-- if there is one
abbrev pub silence_found : ℕ → Option Silence → List Finding
silence_found r None = []
silence_found r (Some s) = of_silence r s ∷ []

-- ---- untrue seconds

-- how far they were from the true ones
abbrev pub own_offsets : Misled → Offsets
own_offsets m = record {
  first = offset_announced m.first;
  last = offset_announced m.last;
  steady = m.steady;
}

-- what they rest on, by the tick of the vote
abbrev pub basis_of : Tick → Basis
basis_of vote = record {
  edge = vote.entry.edge;
  is_true = votes_truly vote;
  a = is_carrier vote 0;
  b = is_carrier vote 1;
  c = is_carrier vote 2;
  d = is_carrier vote 3;
  e = is_carrier vote 4;
}

-- if there was one
abbrev pub basis_if : Option Tick → Option Basis
basis_if None = None
basis_if (Some vote) = Some (basis_of vote)

-- whether a port, 0 to 4, told what was voted
abbrev pub is_carrier_in : Basis → ℕ → Bool
is_carrier_in g port =
    if port == 0 then g.a
    else (if port == 1 then g.b
    else (if port == 2 then g.c
    else (if port == 3 then g.d else g.e)))

-- untrue seconds of reader r
abbrev pub of_misled : ℕ → Misled → Finding
of_misled r m = record {
  reader = r;
  first = m.first.entry.edge;
  last = m.last.entry.edge;
  first_second = second_at m.first;
  last_second = second_at m.last;
  wrong = wrong.Untrue (record { offsets = own_offsets m; basis = basis_if m.vote });
}

-- if there are any
abbrev pub misled_found : ℕ → Option Misled → List Finding
misled_found r None = []
misled_found r (Some m) = of_misled r m ∷ []

-- ---- of a reader

-- all that a tick of reader r with so many ports ends
abbrev pub ended_found : ℕ → ℕ → Account → Tick → List Finding
ended_found r ports x t =
    lists_below
    (λ port. port_found r port (ended_by (port_of port x).stretch (kind_at port t))) ports
    ++ (silence_found r (ended_silence x.silence t)
    ++ misled_found r (ended_misled x.misled t))

-- all that is open
abbrev pub open_found : ℕ → ℕ → Account → List Finding
open_found r ports x =
    lists_below (λ port. port_found r port (port_of port x).stretch) ports
    ++ (silence_found r x.silence ++ misled_found r x.misled)
