-- More pulses at one of five ports.
use Rattle.std.proofs.Common.{◌≡◌, ℕ, ◌<◌, List, ◌++◌, length, slice_set, arith, inl, inr}
use Rattle.std.proofs.lemmas.Bool.{cases_eq}
use Rattle.std.proofs.lemmas.List.{get_or-set_same, get_or-set_other}
use Rattle.irig_port.specs.declared.tally.Tally.{Tally}
use Rattle.irig_port.specs.Heard.{symbols_heard}
use Rattle.irig_port.specs.Tallies.{IsTallyOf}
use Rattle.irig_reader.specs.History.{Fed, fed_to, with_widths, with_port}
use Rattle.irig_reader.proofs.FedLaws.{port-here}
use Rattle.c_reader.specs.Readers.{HaveHeard}
use Rattle.c_numbers.specs.Tallies.{no_tally}

-- more pulses at a port are its pulses with more behind them
pub more-port : (fed : Fed) (port : ℕ) (ws : List ℕ) → with_port fed port (fed_to fed port ++ ws) ≡ with_widths fed port ws
more-port fed port ws = grind arith

port-other : (fed : Fed) (port other : ℕ) (ws : List ℕ) → port < 5 → other < 5 → (other ≡ port → ⊥) → fed_to (with_port fed port ws) other ≡ fed_to fed other
port-other fed port other ws here there apart = grind arith

-- one port has heard these
pub heard-as : (ports : List Tally) (fed : Fed) (port at : ℕ) (ws : List ℕ) (t : Tally) → length ports ≡ 5 → at ≡ port → port < 5
    → HaveHeard ports fed → IsTallyOf t (symbols_heard ws) → HaveHeard (slice_set ports at t) (with_port fed port ws)
heard-as ports fed port at ws t five same here heard now other there =
    elim (cases_eq other port) [
      | inl e ↦ rw (e, same, get_or-set_same ports port t no_tally (omega (arith, five, here)), port-here fed port ws) now
      | inr e ↦ rw (same, get_or-set_other ports port other t no_tally e, port-other fed port other ws here there e) (heard other there)
    ]
