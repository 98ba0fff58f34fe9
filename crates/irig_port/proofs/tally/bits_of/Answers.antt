use Rattle.std.proofs.Common.{◌≡◌, ℕ, ◌-◌, ◌∙◌, ap, arith, refl}
use Rattle.irig_port.specs.Heard.{symbols_of}
use Rattle.irig_port.specs.Bits.{bits_from}
use Rattle.irig_port.proofs.BitLaws.{cond-le-one}
use Rattle.irig_port.proofs.FrameLaws.{bits-down, bits-few}
use Rattle.irig_port.proofs.tally.bits_of.Goals as goal

pub loop-element-init : goal.loop-element-init
loop-element-init c =
    let none : c.args.end - c.args.end ≡ 0 = omega arith in
    record {
      above = c.requires.some;
      known = rw none refl;
    }

pub overflow_mul-bits : goal.overflow_mul-bits
overflow_mul-bits c =
    let l = c.loop-element in
    let few = bits-few (symbols_of c.args.widths_us.now) l.element (c.args.end - l.element) (omega (arith, c.requires.few, c.loop-element-test.true)) in
    omega (arith, l.invariant.known, few)

pub overflow_add-bits : goal.overflow_add-bits
overflow_add-bits c =
    let l = c.loop-element in
    let few = bits-few (symbols_of c.args.widths_us.now) l.element (c.args.end - l.element) (omega (arith, c.requires.few, c.loop-element-test.true)) in
    omega (arith, l.invariant.known, few, c.bit_if.ensures, cond-le-one c.is_one_width.result)

pub loop-element-preserved : goal.loop-element-preserved
loop-element-preserved c =
    let l = c.loop-element in
    let down = bits-down c.args.widths_us.now l.element c.args.end (omega (arith, c.loop-element-test.true)) l.auto.element c.requires.inside in
    record {
      above = omega (arith, c.loop-element-test.true);
      known = rw (l.invariant.known, c.bit_if.ensures, c.is_one_width.ensures, down) refl;
    }

pub returns : goal.returns
returns c =
    let at : c.loop-element.element ≡ c.args.first = omega (arith, c.loop-element-test.false, c.loop-element.invariant.above) in
    c.loop-element.invariant.known ∙ ap (λ (e : ℕ). bits_from e (c.args.end - e) (symbols_of c.args.widths_us.now)) at
