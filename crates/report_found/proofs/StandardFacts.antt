-- Known values of the definitions, worked by hand.
use Rattle.std.proofs.Common.{◌≡◌, ℕ, true, false, ◌∷◌, [], Some, None, refl}
use Rattle.irig_port.specs.declared.told.Told.{Told}
use Rattle.irig_port.specs.declared.told.Told.TheVariants as tells
use Rattle.irig_reader.specs.declared.report.Cause.TheVariants.{Voted}
use Rattle.irig_reader.specs.declared.report.Lock.TheVariants.{Locked}
use Rattle.irig_time.specs.declared.claim.Claim.{Claim}
use Rattle.irig_time.specs.declared.mark.Mark.TheVariants.{Unspoken}
use Rattle.irig_time.specs.declared.second.UtcSecond.{UtcSecond}
use Rattle.irig_vote.specs.declared.redundancy.Redundancy.TheVariants.{Three}
use Rattle.irig_vote.specs.Vote.{vote_of}
use Rattle.report_found.specs.declared.finding.Finding.{Finding}
use Rattle.report_found.specs.declared.finding.Wrong.TheVariants as wrong
use Rattle.report_found.specs.declared.kind.Kind.TheVariants.{Silent, Poor}
use Rattle.report_found.specs.declared.stretch.Stretch.{Stretch}
use Rattle.report_found.specs.declared.tick.Tick.{Tick}
use Rattle.report_found.specs.Accounts.{count_of}
use Rattle.report_found.specs.Findings.{port_found, basis_of}
use Rattle.report_found.specs.Stretches.{begun, ended_by, stretch_of, silence_of}

-- noon of the last day of 2016
abbrev noon : UtcSecond
noon = record { day = 6209; sod = 43200 }

-- a tick at which port 1 tells this, and a second is announced that has no true one
abbrev at : ℕ → Told → Tick
at edge told = record {
  entry = record {
    reader = 0;
    edge = edge;
    report = record { announce = Some noon; lock = Locked; cause = Voted };
    redundancy = Three;
    told = record { a = tells.Silence; b = told; c = tells.Silence; d = tells.Silence; e = tells.Silence };
    truth = None;
  };
}

abbrev poor_twice : Stretch
poor_twice = record { kind = Poor; first = at 3 (tells.Poor 12); last = at 4 (tells.Poor 11); steady = true; announced = 2; untrue = 2 }

-- a stretch goes on in its kind, whatever its words
pub known_stretch : stretch_of 1 (at 4 (tells.Poor 11) ∷ at 3 (tells.Poor 12) ∷ at 2 tells.Silence ∷ []) ≡ Some poor_twice
known_stretch = refl

-- another kind ends it
pub known_end : ended_by (Some poor_twice) Silent ≡ Some poor_twice
known_end = refl

pub known_next : stretch_of 1 (at 5 tells.Silence ∷ at 4 (tells.Poor 11) ∷ at 3 (tells.Poor 12) ∷ []) ≡ Some (begun Silent (at 5 tells.Silence))
known_next = refl

pub known_count : count_of Poor 1 (at 4 (tells.Poor 11) ∷ at 3 (tells.Poor 12) ∷ at 2 tells.Silence ∷ []) ≡ 2
known_count = refl

pub no_silence : silence_of (at 3 tells.Silence ∷ []) ≡ None
no_silence = refl

-- ---- what is found

-- of port 1 of reader 2: its first word, and what was announced meanwhile
pub known_finding : port_found 2 1 (Some poor_twice) ≡ record {
  reader = 2;
  first = 3;
  last = 4;
  first_second = None;
  last_second = None;
  wrong = wrong.Port (record {
    port = 1;
    kind = Poor;
    told = tells.Poor 12;
    truth = None;
    offsets = record { first = None; last = None; steady = true };
    announced = 2;
    untrue = 2;
  });
} ∷ []
known_finding = refl

-- ports 1 and 2 tell noon, and nobody knows which second is true
abbrev claimed : Claim
claimed = record { at = noon; mark = Unspoken }

abbrev voted : Tick
voted = record {
  entry = record {
    reader = 0;
    edge = 7;
    report = record { announce = Some noon; lock = Locked; cause = Voted };
    redundancy = Three;
    told = record { a = tells.Silence; b = tells.Claim claimed; c = tells.Claim claimed; d = tells.Silence; e = tells.Silence };
    truth = None;
  };
}

pub known_basis : basis_of voted ≡ record { edge = 7; is_true = false; a = false; b = true; c = true; d = false; e = false }
unfolding vote_of
known_basis = refl
