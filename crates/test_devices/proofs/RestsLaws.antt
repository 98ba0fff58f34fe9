-- What is said of a device after a borrow may be said more weakly.
use mathlib.Core.Option.{Option}
use seplogic.Ra.Ura.{Ura}
use base.Fml.{GName}
use base.Logic.{SProp, emp, ent, ex_e, ex_i, id⊢}
use mathlib.Core.List.{[]}
use contract.Monad.{fact_i}
use borrow.Fn.Refines.{Gives, Turns, by_parts}
use types.Logic.{Logic, sem}
use denote.RattleType.{RattleType}
use denote.Follow.{follows_if, follows_so, such_by}

pub rests_less : {M : Type 1} {𝓤 : Ura M} (𝓛 : Logic 𝓤) (R T : RattleType) (γ : GName) (m : Option GName) (P P' : T.Denot → R.Denot → Type 0) (Q Q' : R.Denot → Type 0)
    → ((w : T.Denot) (v : R.Denot) → P w v → P' w v) → ((v : R.Denot) → Q v → Q' v)
    → ent 𝓤 (sem 𝓛 (follows_so R T γ m P Q)) (sem 𝓛 (follows_so R T γ m P' Q'))
unfolding such_by
rests_less {𝓤 = 𝓤} 𝓛 R T γ m P P' Q Q' f g = ex_e 𝓤 _ (λ s.
    ex_i 𝓤 (λ (y : (p : (T.Denot → R.Denot) × R.Denot) × ((z : T.Denot) → P' z (p.0 z)) × Q' p.1). sem 𝓛 (follows_if R T γ m y.0.0 y.0.1)) (s.0, (λ z. f z (s.0.0 z) (s.1 z)), g s.0.1 s.2))

pub turns_by : {M : Type 1} (𝓤 : Ura M) (R X : Type 0) (D D' : R → X → SProp 𝓤) → ((r : R) (e : X) → ent 𝓤 (D r e) (D' r e))
    → Gives 𝓤 (emp 𝓤) (Unit {0}) (λ g. emp 𝓤) (λ g. Turns 𝓤 R X D D')
turns_by 𝓤 R X D D' h =
    by_parts 𝓤 [] [] (emp 𝓤) (emp 𝓤) R X (λ r e. []) (λ r e. []) D D' (fact_i 𝓤 _ (emp 𝓤) tt) (λ a. id⊢ 𝓤 (emp 𝓤)) (λ r e. fact_i 𝓤 _ (D r e) tt) (λ r e a. h r e) (λ a. tt) (λ a r e b. tt)
