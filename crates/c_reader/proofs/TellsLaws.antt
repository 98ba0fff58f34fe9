-- What the ports of a reader tell.
use Rattle.std.proofs.Common.{Option, ◌≡◌, ◌<◌, ℕ, List, ◌∙◌, refl, arith}
use Rattle.irig_time.specs.declared.rules.Rules.{Rules}
use Rattle.irig_port.specs.Heard.{symbols_heard}
use Rattle.irig_port.specs.declared.limits.Limits.{Limits}
use Rattle.irig_port.specs.Limits.{tally_told_within, widths_told_within}
use Rattle.irig_port.specs.declared.tally.Tally.{Tally}
use Rattle.irig_port.specs.Tallies.{IsTallyOf}
use Rattle.irig_port.proofs.LimitLaws.{tally_within, within_heard}
use Rattle.irig_reader.specs.History.{ReaderHistory, fed_to, told_at_tick}
use Rattle.c_numbers.specs.declared.reader.IrigReader.{IrigReader}
use Rattle.c_reader.specs.Readers.{IsReaderOf, tells_in, told_at}
use Rattle.c_numbers.specs.Tallies.{tally_at}

pub heard_tells : (limits : Option Limits) (rules : Rules) (t : Tally) (widths : List ℕ) → IsTallyOf t (symbols_heard widths) → tally_told_within limits rules t ≡ widths_told_within limits rules widths
heard_tells limits rules t widths h = tally_within limits rules t (symbols_heard widths) h ∙ within_heard limits rules widths

pub tells_are : (r : IrigReader) (h : ReaderHistory) → IsReaderOf r h → tells_in r ≡ told_at_tick h
tells_are r h s =
    rw (s.rules, s.limits, heard_tells h.limits h.rules (tally_at r.ports 0) h.fed.a (s.heard 0 (omega arith)), heard_tells h.limits h.rules (tally_at r.ports 1) h.fed.b (s.heard 1 (omega arith)), heard_tells h.limits h.rules (tally_at r.ports 2) h.fed.c (s.heard 2 (omega arith)), heard_tells h.limits h.rules (tally_at r.ports 3) h.fed.d (s.heard 3 (omega arith)), heard_tells h.limits h.rules (tally_at r.ports 4) h.fed.e (s.heard 4 (omega arith)))
    refl

-- what a port tells that a history fed
pub port_tells : (r : IrigReader) (h : ReaderHistory) (port : ℕ) → IsReaderOf r h → port < 5 → told_at r port ≡ widths_told_within h.limits h.rules (fed_to h.fed port)
port_tells r h port s low = rw (s.rules, s.limits) (heard_tells h.limits h.rules (tally_at r.ports port) (fed_to h.fed port) (s.heard port low))
