-- What each port of a reader has once the pulses of a generator came.
use Rattle.std.proofs.Common.{zero, suc, ◌≡◌, ℕ, ◌<◌, List, ◌++◌, refl, arith}
use Rattle.std.specs.Prelude.{◌==◌, if◌then◌else◌}
use Rattle.irig_reader.specs.History.{Fed, with_widths}

-- what each port has if the one of generator g is fed
abbrev pub fed_if : ℕ → ℕ → List ℕ → List ℕ → List ℕ
fed_if g p ws widths = if g == p then widths ++ ws else widths

pub fed_ports : (fed : Fed) (g : ℕ) (ws : List ℕ) → g < 5
    → ◌≡◌ {A = Fed} (record { a = fed_if g 0 ws fed.a; b = fed_if g 1 ws fed.b; c = fed_if g 2 ws fed.c; d = fed_if g 3 ws fed.d; e = fed_if g 4 ws fed.e }) (with_widths fed g ws)
fed_ports fed zero ws h = refl
fed_ports fed (suc zero) ws h = refl
fed_ports fed (suc (suc zero)) ws h = refl
fed_ports fed (suc (suc (suc zero))) ws h = refl
fed_ports fed (suc (suc (suc (suc zero)))) ws h = refl
fed_ports fed (suc (suc (suc (suc (suc g))))) ws h = absurd (omega arith)
