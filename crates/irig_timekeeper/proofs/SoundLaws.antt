-- Edges can be counted by what a device has learned, in every life, whatever its lines brought.
use Rattle.std.specs.Prelude.{◌==◌, ◌&&◌, ◌||◌, nat_le, nat_lt}
use Rattle.std.proofs.Common.{◌≡◌, ℕ, ◌%◌, ◌^◌, ◌≤◌, Bool, true, false, cond, List, [], ◌∷◌, Option, Some, None, refl, subst, arith, inl, inr}
use Rattle.std.proofs.lemmas.Bool.{cases_Bool, leb-true}
use Rattle.irig_lines.specs.declared.lines.Vote.{Vote}
use Rattle.irig_lines.specs.declared.pace.Pace.{Pace}
use Rattle.irig_lines.specs.declared.rate.Rate.{Rate}
use Rattle.irig_lines.specs.declared.setup.ClockRules.{ClockRules}
use Rattle.irig_lines.specs.Counting.{edges_own}
use Rattle.irig_lines.specs.Paces.{IsFit, IsSound, learned, middle_of, pace_on, spread_of}
use Rattle.irig_lines.specs.Steps.{is_pulse}
use Rattle.irig_timekeeper.specs.declared.clock.ClockState.{ClockState}
use Rattle.irig_timekeeper.specs.Clock.{after_own, clock_by, is_unsteady, settled_at}
use Rattle.irig_timekeeper.specs.Keeping.{Keeping, vote_at, after_pulse, after_tick}
use Rattle.irig_timekeeper.specs.Life.{Call, after_calls}
use Rattle.irig_timekeeper.specs.Life.Call.{Hear, Tick}

pub none_sound : IsSound None
none_sound p e = absurd cc

some_sound : (p : Pace) → IsFit p → IsSound (Some p)
some_sound p fit q e = subst IsFit (let same : p ≡ q = cc in same) fit

by_tests : (p : Pace) → p.rest_ns ≤ 999 → (none fits slow fast : Bool) → nat_le 999900000 p.second_ns ≡ slow → nat_le p.second_ns 1000100000 ≡ fast → IsSound (cond none None (cond (fits && (slow && fast)) (Some p) None))
by_tests p rest true fits slow fast least most = none_sound
by_tests p rest false false slow fast least most = none_sound
by_tests p rest false true false fast least most = none_sound
by_tests p rest false true true false least most = none_sound
by_tests p rest false true true true least most = some_sound p (record { least = leb-true 999900000 p.second_ns least; most = leb-true p.second_ns 1000100000 most; rest = rest })

learned_sound : (c : ClockRules) (rate : Option Rate) → IsSound (learned c rate)
learned_sound c None = none_sound
learned_sound c (Some rate) = by_tests (record { second_ns = middle_of rate; within_ns = spread_of c.wander_ppb rate; rest_ns = 0 }) (omega arith) (c.wander_ppb == 0 || nat_lt rate.seconds 1000) _ _ _ refl refl

on_sound : (goes_on : Bool) (n : ℕ) (pace : Option Pace) → IsSound pace → IsSound (pace_on goes_on n pace)
on_sound goes_on n None sound = none_sound
on_sound true n (Some p) sound = let fit = sound p refl in some_sound _ (record { least = fit.least; most = fit.most; rest = omega arith })
on_sound false n (Some p) sound = none_sound

module _ (k : Keeping) (sound : IsSound k.state.pace) where
  pub settled_sound : (clock : ℕ) → IsSound (settled_at k.clock k.state clock).pace
  settled_sound clock = elim (cases_Bool (is_unsteady k.clock k.state clock)) [ inl unsteady ↦ rw unsteady none_sound | inr steady ↦ rw steady sound ]

  pub tick_sound : (clock : ℕ) → IsSound (after_tick k clock).state.pace
  tick_sound clock = of (vote_at k clock)
    where
      s : ClockState
      s = settled_at k.clock k.state clock

      own : (n : ℕ) → IsSound (after_own k.clock k.table s n).pace
      own n = elim (cases_Bool (n == 0)) [ inl none ↦ rw none (settled_sound clock) | inr some ↦ rw some (on_sound _ n s.pace (settled_sound clock)) ]

      of : (o : Option Vote) → IsSound (clock_by k.clock k.table s clock o).pace
      of None = own (edges_own s.pace s.edge_us clock)
      of (Some v) = learned_sound k.clock _

  pulse_sound : (port rise width : ℕ) → IsSound (after_pulse k port rise width).state.pace
  pulse_sound port rise width = elim (cases_Bool (is_pulse width)) [ inl narrow ↦ rw narrow sound | inr wide ↦ rw wide sound ]

pub stays_sound : (new : Keeping) → IsSound new.state.pace → (calls : List Call) → IsSound (after_calls new calls).state.pace
stays_sound new sound [] = sound
stays_sound new sound (Hear port rise width ∷ calls) = pulse_sound (after_calls new calls) (stays_sound new sound calls) port (rise % 2 ^ 32) width
stays_sound new sound (Tick now ∷ calls) = tick_sound (after_calls new calls) (stays_sound new sound calls) (now % 2 ^ 32)
