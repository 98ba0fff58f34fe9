use Rattle.std.proofs.Common.{◌≡◌, ◌∙◌, ℕ, ◌<◌, ◌%◌, ◌^◌, true, sym, ap, arith, subst}
use Rattle.irig_vote.specs.Vote.{ports_in}
use Rattle.irig_lines.specs.declared.setup.ClockRules.{ClockRules}
use Rattle.irig_lines.specs.Delays.{corrected, delay_at}
use Rattle.irig_timekeeper.proofs.OrderLaws.{five}
use Rattle.irig_witness.specs.Devices.{lines_on}
use Rattle.irig_witness.specs.Unfinished.{takes_frame}
use Rattle.irig_witness.proofs.DelayLaws.{low_is}
use Rattle.irig_witness.proofs.UnfinishedLaws.{taken, takes_same}
use Rattle.irig_witness.proofs.device.Device.hear_unfinished.Goals as goal

pub hear_unfinished-requires-clause-line : goal.hear_unfinished-requires-clause-line
hear_unfinished-requires-clause-line g c = omega (arith, c.requires.line, five c.args.self.now.clock.redundancy)

pub returns-clause-on : goal.returns-clause-on
returns-clause-on g c made symbol start calls rise width is frame symbols first last are =
    let d = c.args.self.now in
    let line = c.args.line in
    let begins = taken d line (rise 0) c.args.element (subst (λ (n : ℕ). takes_frame d line n c.args.element ≡ true) first c.requires.takes) in
    let low_first : corrected c.low.result (delay_at made.clock.delays line) ≡ rise 0 % 2 ^ 32 =
    low_is c.args.first_us line c.low.result (rise 0) d.clock made.clock c.low.ensures (sym is.clock) (c.risen_on.ensures.low ∙ ap (λ (n : ℕ). n % 2 ^ 32) (c.risen_on.ensures.value ∙ first)) in
    let low_last : corrected c.low-2.result (delay_at made.clock.delays line) ≡ rise 98 % 2 ^ 32 =
    low_is c.args.last_us line c.low-2.result (rise 98) d.clock made.clock c.low-2.ensures (sym is.clock) (c.risen_on-last.ensures.low ∙ ap (λ (n : ℕ). n % 2 ^ 32) (c.risen_on-last.ensures.value ∙ last)) in
    record {
      lived = c.hear_unfinished-2.ensures.lived made calls rise width is.lived frame symbols low_first low_last begins.0;
      watch = c.hear_unfinished.ensures.on made.clock (lines_on d symbol) start calls rise width is.watch
          (subst (λ (k : ClockRules). line < ports_in k.redundancy) is.clock c.requires.line) frame (c.risen_on-last.ensures.value ∙ last) begins.1 are;
      clock = is.clock;
    }

pub returns-clause-others : goal.returns-clause-others
returns-clause-others g c other rise element less apart =
    takes_same _ _ _ _ _ _ rise element (c.hear_unfinished-2.ensures.others other less apart) (c.hear_unfinished.ensures.others other less apart) c.hear_unfinished.ensures.tick
