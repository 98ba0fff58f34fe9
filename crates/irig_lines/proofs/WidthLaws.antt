-- How wide the interval is in which the edge of a frame lies.
use Rattle.std.specs.Prelude.{min}
use Rattle.std.proofs.Common.{◌≡◌, ℕ, ◌+◌, ◌-◌, ◌≤◌, ap, arith}
use Rattle.irig_lines.specs.declared.setup.ClockRules.{ClockRules}
use Rattle.irig_lines.specs.Widths.{quality_us, worst_of, half_us, widest_us, reach_us}

-- a worse quality says no less
pub quality_grows : (q w : ℕ) → q ≤ w → quality_us q ≤ quality_us w
quality_grows q w low = grind (arith, low)

pub quality_few : (q : ℕ) → quality_us q ≤ 1000
quality_few q = grind arith

pub half_most : (c : ClockRules) (quality : ℕ) → half_us c quality ≤ widest_us c
half_most c quality =
    let low : min quality (worst_of c) ≤ worst_of c = omega arith in
    let more = quality_grows (min quality (worst_of c)) (worst_of c) low in
    omega (arith, more)

-- a quality that has a vote is its own worst
pub half_is : (c : ClockRules) (quality : ℕ) → quality ≤ worst_of c → half_us c quality ≡ c.within.us - 1 + quality_us quality
half_is c quality low = (let same : min quality (worst_of c) ≡ quality = grind (arith, low) in ap (λ (q : ℕ). c.within.us - 1 + quality_us q) same)

pub half_least : (c : ClockRules) (half quality : ℕ) → half ≡ half_us c quality → c.within.us - 1 ≤ half
half_least c half quality is = omega (arith, is)

pub widest_least : (c : ClockRules) → c.within.us - 1 ≤ widest_us c
widest_least c = omega arith

-- an edge lies at most 1,449 us from where its frame ends
pub widest_few : (c : ClockRules) → widest_us c ≤ 1449
widest_few c = (let few = quality_few (worst_of c) in omega (arith, few, c.within.few))

-- and reaches no further than 2,898 us
pub reach_few : (c : ClockRules) → reach_us c ≤ 2898
reach_few c = (let few = widest_few c in omega (arith, few))
