-- A port that hears through a synchroniser: what it stands for.
-- Source: this project's profile.
use Rattle.std.specs.Prelude.{◌≡◌, ℕ, suc, ◌<◌, ◌≤◌, ◌==◌, ◌⊎◌, if◌then◌else◌, List, [], ◌∷◌, length, drop}
use Rattle.irig_frame.specs.declared.symbol.Symbol.{Symbol}
use Rattle.irig_frame.specs.Symbols.{symbol_of}
use Rattle.irig_sync.specs.declared.sync.Sync.{Sync}
use Rattle.irig_sync.specs.Lines.{Pulse, place_after, AreOnTime, IsSyncAt, symbols_of_last}
use Rattle.irig_time.specs.declared.rules.Rules.{Rules}
use Rattle.irig_time.specs.declared.claim.Claim.{Claim}
use Rattle.irig_time.specs.Carries.{Carries}
use Rattle.irig_port.specs.Heard.{with_symbol}

-- what a port stands for after a pulse with this place: out of step the same, at place 1 the pulse
-- alone, and else one symbol more
abbrev pub heard_at : ℕ → List Symbol → ℕ → List Symbol
heard_at place s width =
    if place == 0 then s
    else (if place == 1 then symbol_of width ∷ [] else with_symbol s (symbol_of width))

-- what a port stands for that was empty before the last n of these pulses, which are the newest
-- first, and was not emptied since
abbrev pub heard_of_last : ℕ → List Pulse → List Symbol
heard_of_last (suc n) (p ∷ ps) =
    heard_at (place_after (p ∷ ps)) (heard_of_last n ps) p.width
heard_of_last _ _ = []

-- the symbols are those of so many pulses in a row, each but the first on time behind the one
-- before. As many `late` ones came behind them; each of these was out of step, and so is the line
pub record IsRun (heard : List Symbol) (place : ℕ) (pulses : List Pulse) : Type 0 where
  pub late : ℕ
  pub count : ℕ
  pub symbols : heard ≡ symbols_of_last count (drop late pulses)
  pub all : length heard ≡ count
  pub on_time : AreOnTime count (drop late pulses)
  pub out : (i : ℕ) → i < late → place_after (drop i pulses) ≡ 0
  pub step : (place ≡ 0) ⊎ ((late ≡ 0) × (count ≤ place))

-- the symbols are what a port stands for that heard these pulses, the newest first, through this
-- synchroniser, and was emptied at any time; what it was told last was of this time
pub record IsHearing (heard : List Symbol) (s : Sync) (pulses : List Pulse) (now : ℕ) : Type 0 where
  pub sync : IsSyncAt s pulses now
  pub run : IsRun heard s.place pulses

-- the claim is carried by a hundred pulses in a row, each but the first on time behind the one
-- before, and by nothing else. As many `late` ones came behind them; each of these was out of step
pub record IsOfRun (rules : Rules) (claim : Claim) (heard : List Symbol) (place : ℕ)
    (pulses : List Pulse) : Type 0 where
  pub late : ℕ
  pub symbols : heard ≡ symbols_of_last 100 (drop late pulses)
  pub on_time : AreOnTime 100 (drop late pulses)
  pub carries : Carries rules heard claim
  pub out : (i : ℕ) → i < late → place_after (drop i pulses) ≡ 0
  pub step : (place ≡ 0) ⊎ (late ≡ 0)
