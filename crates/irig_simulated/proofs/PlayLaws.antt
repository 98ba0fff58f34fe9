-- Where a device stands when it has played a part of a stretch of time.
use Rattle.std.proofs.Common.{◌≡◌, ◌∙◌, ℕ, ◌≤◌, Bool, true, false, Option, refl, sym, ap, arith, inl, inr, subst}
use Rattle.std.proofs.lemmas.Bool.{cases_Bool}
use Rattle.irig_frame.specs.declared.symbol.Symbol.{Symbol}
use Rattle.irig_port.specs.declared.port.Port.{Ghosts}
use Rattle.irig_simulated.specs.declared.second.Second.{Second}
use Rattle.irig_simulated.specs.declared.setup.Ticking.TheVariants.{Each}
use Rattle.irig_simulated.specs.declared.simulated.Simulated.{Simulated}
use Rattle.irig_simulated.specs.Kinds.{Kind, MovesOn}
use Rattle.irig_simulated.specs.Courses.{Course, passed}
use Rattle.irig_simulated.specs.Seconds.{IsSecondOf}
use Rattle.irig_simulated.specs.Simulations.{GoesOnIn, IsSimulationOf}
use Rattle.irig_simulated.proofs.PassLaws.{in_parts}
use Rattle.irig_simulated.proofs.StandsLaws.{slow}

-- it stands in its course where time can pass on, to the same end
pub record PlaysOn {P : Type 0} {g : Ghosts P} (d : Simulated P g) (k : Kind) (signal : ℕ → ℕ → Option Symbol) (symbol : ℕ → ℕ → Symbol) (stop : ℕ) (x : Course) : Type 0 where
  pub here : Course
  pub is : IsSimulationOf d k symbol here
  pub same : passed k signal stop here ≡ passed k signal stop x

-- as it was
pub not_yet : {P : Type 0} {g : Ghosts P} (d new : Simulated P g) (k : Kind) (signal : ℕ → ℕ → Option Symbol) (symbol : ℕ → ℕ → Symbol) (stop : ℕ) (x : Course) → new ≡ d → IsSimulationOf d k symbol x → PlaysOn new k signal symbol stop x
not_yet {P} {g} d new k signal symbol stop x same is = record { here = x; is = subst (λ (v : Simulated P g). IsSimulationOf v k symbol x) (sym same) is; same = refl }

-- its counter counts, and it is not polled
pub moves_on : {P : Type 0} {g : Ghosts P} (d : Simulated P g) (k : Kind) (symbol : ℕ → ℕ → Symbol) (x : Course) → IsSimulationOf d k symbol x → ((us : ℕ) → ¬ (d.ticking ≡ Each us)) → MovesOn k
moves_on d k symbol x is unpolled = record { counts = omega (arith, slow d k symbol x is); later = λ us each. absurd (unpolled us (is.ticking ∙ each)) }

-- time has passed up to a first time, and if what follows was quiet, up to a second one
pub went_on : {P : Type 0} {g : Ghosts P} (d new : Simulated P g) (second : Second) (quiet : Bool) (first next stop : ℕ) → (quiet ≡ true → GoesOnIn second d new (λ k signal x. passed k signal next x)) → (quiet ≡ false → new ≡ d)
    → (k : Kind) (signal : ℕ → ℕ → Option Symbol) (symbol : ℕ → ℕ → Symbol) (x : Course) → IsSecondOf second signal symbol → MovesOn k → x.now ≤ first → first ≤ next → next ≤ stop
    → IsSimulationOf d k symbol (passed k signal first x) → PlaysOn new k signal symbol stop x
went_on {P} {g} d new second quiet first next stop on none k signal symbol x of moves early later last is = elim (cases_Bool quiet) [
  | inl so ↦ record {
    here = passed k signal next (passed k signal first x);
    is = on so k signal symbol (passed k signal first x) of is;
    same = ap (passed k signal stop) (in_parts k moves signal first next x early later) ∙ in_parts k moves signal next stop x (omega (arith, early, later)) last;
  }
  | inr gone ↦ record {
    here = passed k signal first x;
    is = subst (λ (v : Simulated P g). IsSimulationOf v k symbol (passed k signal first x)) (sym (none gone)) is;
    same = in_parts k moves signal first stop x early (omega (arith, later, last));
  }
]
