-- The frame that an event brings, as a plant has it that has taken the event.
use Rattle.std.proofs.Common.{◌≡◌, ◌⊎◌, ℕ, ◌∷◌, List, None, ap, sym, subst, inl, inr}
use Rattle.irig_plant.specs.declared.event.Event.{Event}
use Rattle.irig_plant.specs.declared.event.Event.TheVariants.{Carry, Damage, Replay}
use Rattle.irig_plant.specs.Refusals.{refusal}
use Rattle.irig_plant.specs.Schedule.{Setup, frame_brought}
use Rattle.report_flat.specs.FlatText.{line_text, heard_text}
use Rattle.report_flat.specs.Recording.{pulses_at}

-- an event that brings a frame of generator g to reader r
abbrev pub Brings : Event → ℕ → ℕ → Type 0
Brings e g r = (e ≡ Carry g r) ⊎ (((at width : ℕ) × e ≡ Damage g r at width) ⊎ ((edge : ℕ) × e ≡ Replay g r edge))

-- what is told of it behind the event is what it brought: the generator stands as it stood
pub brought : (names : List (List ℕ)) (s : Setup) (e : Event) (ev : List Event) (g r : ℕ) (frame : List ℕ) → Brings e g r → refusal s e ev ≡ None
    → (refusal s e (e ∷ ev) ≡ None → frame ≡ frame_brought s e (e ∷ ev)) → line_text names (pulses_at g r frame) ≡ heard_text names s e ev
brought names s e ev g r frame (inl is) =
    subst (λ e. refusal s e ev ≡ None → (refusal s e (e ∷ ev) ≡ None → frame ≡ frame_brought s e (e ∷ ev)) → line_text names (pulses_at g r frame) ≡ heard_text names s e ev) (sym is)
    (λ accepted told. ap (λ f. line_text names (pulses_at g r f)) (told accepted))
brought names s e ev g r frame (inr (inl is)) =
    subst (λ e. refusal s e ev ≡ None → (refusal s e (e ∷ ev) ≡ None → frame ≡ frame_brought s e (e ∷ ev)) → line_text names (pulses_at g r frame) ≡ heard_text names s e ev) (sym is.2)
    (λ accepted told. ap (λ f. line_text names (pulses_at g r f)) (told accepted))
brought names s e ev g r frame (inr (inr is)) =
    subst (λ e. refusal s e ev ≡ None → (refusal s e (e ∷ ev) ≡ None → frame ≡ frame_brought s e (e ∷ ev)) → line_text names (pulses_at g r frame) ≡ heard_text names s e ev) (sym is.1)
    (λ accepted told. ap (λ f. line_text names (pulses_at g r f)) (told accepted))
