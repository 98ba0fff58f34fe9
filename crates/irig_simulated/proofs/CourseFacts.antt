-- A course that computes. Three lines are 0, 350 and 700 us late, and a generator on each sends a marker
-- and then zeros. The counter gains 1,000 us a second, one in each millisecond, so that a pulse of 8 ms is
-- 8,008 us wide by it. In the first 9 ms each line brings a pulse.
use Rattle.std.specs.Prelude.{◌==◌, if◌then◌else◌}
use Rattle.std.proofs.Common.{◌≡◌, ◌≤◌, ℕ, zero, suc, false, List, [], ◌∷◌, Option, Some, None, refl, arith}
use Rattle.irig_frame.specs.declared.symbol.Symbol.{Symbol}
use Rattle.irig_frame.specs.declared.symbol.Symbol.TheVariants.{Marker, Zero}
use Rattle.irig_vote.specs.declared.redundancy.Redundancy.TheVariants.{Three}
use Rattle.irig_lines.specs.Refusals.{limits_of, within_of}
use Rattle.irig_lines.specs.VoteLimits.{usual_limits}
use Rattle.irig_timekeeper.specs.Life.{Call}
use Rattle.irig_timekeeper.specs.Life.Call.{Hear}
use Rattle.irig_lives.proofs.LifeFacts.{no_table, rules}
use Rattle.irig_simulated.specs.declared.setup.Ticking.TheVariants.{ByHand}
use Rattle.irig_simulated.specs.Kinds.{Kind, MovesOn, no_delay}
use Rattle.irig_simulated.specs.Heard.{heard_until}
use Rattle.irig_simulated.specs.Courses.{Course, begun_with, coming, most_in, passed, played}
use Rattle.irig_simulated.proofs.StretchLaws.{to_its_end}

kind : Kind
kind = record {
  made = record {
    rules = rules;
    clock = record {
      reader_rules = record { lock_after = 2; holdover = 60 };
      redundancy = Three;
      within = within_of 450;
      limits = limits_of usual_limits;
      drift_us = 20;
      wander_ppb = 0;
      delays = no_delay;
      prefers_frames = false;
    };
    table = no_table;
  };
  first = 4294967296;
  rate = 1001000;
  ticking = ByHand;
}

signal : (line element : ℕ) → Option Symbol
signal zero k = Some (if k == 0 then Marker else Zero)
signal (suc zero) k = Some (if k == 0 then Marker else Zero)
signal (suc (suc zero)) k = Some (if k == 0 then Marker else Zero)
signal (suc (suc (suc n))) k = None

heard_calls : List Call
heard_calls =
    Hear 2 4294967996 8008 ∷ Hear 1 4294967646 8008 ∷ Hear 0 4294967296 8008 ∷ []

begun : Course
begun = begun_with kind (0 ∷ 350 ∷ 700 ∷ [])

calls_are_heard : (passed kind signal 9000 begun).calls ≡ heard_calls
unfolding kind signal heard_calls begun
calls_are_heard = refl

-- each as it rose at its line, and when it had ended, of a device with the number 7
pulses_are_heard : heard_until kind 7 signal 9000 begun
    ≡ record { device = 7; line = 0; rise_us = 0; end_us = 8000 } ∷ record { device = 7; line = 1; rise_us = 350; end_us = 8350 } ∷ record { device = 7; line = 2; rise_us = 700; end_us = 8700 } ∷ []
unfolding kind signal begun
pulses_are_heard = refl

moves_on : MovesOn kind
unfolding kind
moves_on = record { counts = omega arith; later = λ us e. absurd cc }

-- nothing that is due is left out
none_left : 9000 ≤ (coming (played kind signal 9000 (most_in 9000) begun)).time_us
unfolding begun
none_left = to_its_end kind moves_on signal 9000 begun
