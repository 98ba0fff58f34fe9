-- Pulses one after another at a port, and at an empty one.
use Rattle.std.proofs.Common.{◌≡◌, ◌≤◌, ℕ, List, [], ◌∷◌, ◌++◌, length, eqb, refl, sym, ap, ◌∙◌, inl, inr, arith}
use Rattle.std.specs.Prelude.{◌==◌}
use Rattle.std.proofs.lemmas.Bool.{cases_Bool, ne_eqb}
use Rattle.std.proofs.lemmas.List.{length-map, length-take}
use Rattle.irig_frame.specs.Symbols.{symbol_of}
use Rattle.irig_port.specs.Heard.{symbols_heard, symbols_of}
use Rattle.irig_port.specs.Hearing.{heard_at, IsHearing, IsOfRun}
use Rattle.irig_port.specs.Limits.{widths_told_within}
use Rattle.irig_port.proofs.LimitLaws.{claim_within}
use Rattle.irig_port.specs.declared.told.Told.TheVariants as tells
use Rattle.irig_port.proofs.HeardLaws.{heard-push, told_of-heard}
use Rattle.irig_port.proofs.RunLaws.{claim_of_run}
use Rattle.irig_sync.specs.declared.sync.Sync.{Sync}
use Rattle.irig_sync.specs.Lines.{Pulse}
use Rattle.irig_time.specs.declared.claim.Claim.{Claim}
use Rattle.irig_vote.specs.Vote.{ports_in}
use Rattle.irig_vote.specs.declared.redundancy.Redundancy.{Redundancy}
use Rattle.irig_vote.specs.declared.redundancy.Redundancy.TheVariants.{One, Three, Five}
use Rattle.irig_reader.specs.History.{Fed, ReaderHistory, fed_to, with_port, after_hearing, widths_at}

pub heard_anew : (before ws : List ℕ) → symbols_heard before ≡ [] → symbols_heard (before ++ ws) ≡ symbols_heard ws
heard_anew [] ws empty = refl
heard_anew (w ∷ before) ws empty = absurd cc

-- a port that heard nothing was fed nothing
pub none_heard : (ws : List ℕ) → eqb (length (symbols_heard ws)) 0 ≡ eqb (length ws) 0
none_heard [] = refl
none_heard (w ∷ ws) =
    let heard = length-take 101 (symbols_of (w ∷ ws)) in
    let fed = length-map (w ∷ ws) symbol_of in
    ne_eqb (length (symbols_heard (w ∷ ws))) 0 (λ z. omega (arith, heard, fed, z))
    ∙ sym (ne_eqb (length (w ∷ ws)) 0 (λ z. omega (arith, z)))

-- the last place is 4
pub at_most_five : (redundancy : Redundancy) → ports_in redundancy ≤ 5
at_most_five One = omega arith
at_most_five Three = omega arith
at_most_five Five = omega arith

-- a port stands for the symbols of its pulses, after one with a place too
pub heard-place : (place : ℕ) (ws : List ℕ) (w : ℕ) → symbols_heard (widths_at place ws w) ≡ heard_at place (symbols_heard ws) w
heard-place place ws w =
    elim (cases_Bool (place == 0)) [
      | inl t0 ↦ rw t0 refl
      | inr f0 ↦ elim (cases_Bool (place == 1)) [
        | inl t1 ↦ rw (f0, t1) refl
        | inr f1 ↦ rw (f0, f1) (heard-push ws w)
      ]
    ]

-- a port whose pulses are these has these
pub port-here : (fed : Fed) (port : ℕ) (ws : List ℕ) → fed_to (with_port fed port ws) port ≡ ws
port-here fed port ws = grind arith

pub heard-hearing : (h : ReaderHistory) (port place w : ℕ) → symbols_heard (fed_to (after_hearing h port place w).fed port) ≡ heard_at place (symbols_heard (fed_to h.fed port)) w
heard-hearing h port place w = ap symbols_heard (port-here h.fed port (widths_at place (fed_to h.fed port) w)) ∙ heard-place place (fed_to h.fed port) w

pub claim_is_of_run : (h : ReaderHistory) (port : ℕ) (s : Sync) (pulses : List Pulse) (now : ℕ) (claim : Claim) → IsHearing (symbols_heard (fed_to h.fed port)) s pulses now
    → widths_told_within h.limits h.rules (fed_to h.fed port) ≡ tells.Claim claim → IsOfRun h.rules claim (symbols_heard (fed_to h.fed port)) s.place pulses
claim_is_of_run h port s pulses now claim hearing told =
    claim_of_run h.rules claim (symbols_heard (fed_to h.fed port)) s pulses now hearing
    (told_of-heard h.rules (fed_to h.fed port) ∙ ((claim_within h.limits h.rules (symbols_of (fed_to h.fed port)) claim).0 told).0)
