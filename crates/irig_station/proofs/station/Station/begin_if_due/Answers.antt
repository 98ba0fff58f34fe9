use Rattle.std.proofs.Common.{rules, ◌≡◌, ◌∙◌, ◌^◌, ◌<◌, ℕ, Option, Some, None, true, false, refl, ap, arith, inr}
use Rattle.std.specs.Prelude.{IfSome, is_none}
use Rattle.irig_time.specs.declared.second.UtcSecond.{UtcSecond}
use Rattle.irig_time.specs.Timelines.{TimelineValue, second_at}
use Rattle.irig_station.proofs.PassLaws.{at_edge, lacks, lacks_none, not_at_edge}
use Rattle.irig_station.proofs.station.Station.begin_if_due.Goals as goal

pub overflow_mul-self : goal.overflow_mul-self
overflow_mul-self g c = (let t = c.args.self.now.together c.requires in let early = t.early in omega (arith, early))

pub returns-then-self-clause-stands : goal.returns-then-self-clause-stands
returns-then-self-clause-stands g c s x shown q =
    let not_yet = not_at_edge x c.args.self.now.now_us c.args.self.now.begun q.now q.begun c.if-self.true in
    (lacks_none s x not_yet, rw not_yet q)

-- what the timeline says
at_is : (s t : TimelineValue) (n m : ℕ) (o : Option UtcSecond) → o ≡ second_at t n → t ≡ s → n ≡ m → o ≡ second_at s m
at_is s t n m o at times same = at ∙ ap (λ (t : TimelineValue). second_at t n) times ∙ ap (second_at s) same

pub returns-then-is_none-clause-refused : goal.returns-then-is_none-clause-refused
returns-then-is_none-clause-refused g c s x shown q =
    let self = c.args.self.now in
    let most = (self.together c.requires).most in
    let late = c.if-self.false in
    let due = at_edge x self.now_us self.begun q.now q.begun (omega (arith, most, late)) in
    let none : is_none c.at.result ≡ true = search rules in
    inr (refl, lacks s x c.at.result true due (at_is s.times self.timeline self.begun _ c.at.result c.at.ensures.value q.timeline q.begun) none, assumption q)

few : (n : ℕ) (o : Option UtcSecond) → IfSome o (λ u. n < 2 ^ 32) → is_none o ≡ false → n < 2 ^ 32
few n None early e = absurd cc
few n (Some u) early e = early

pub begin_second-requires-clause-early : goal.begin_second-requires-clause-early
begin_second-requires-clause-early g c = (let none : is_none c.at.result ≡ false = search rules in few c.args.self.now.begun c.at.result c.at.ensures.early none)

pub begin_second-requires-clause-due : goal.begin_second-requires-clause-due
begin_second-requires-clause-due g c = (let most = (c.args.self.now.together c.requires).most in let late = c.if-self.false in omega (arith, most, late))

pub returns-clause-stands : goal.returns-clause-stands
returns-clause-stands g c s x shown q =
    let self = c.args.self.now in
    let most = (self.together c.requires).most in
    let late = c.if-self.false in
    let due = at_edge x self.now_us self.begun q.now q.begun (omega (arith, most, late)) in
    let some : is_none c.at.result ≡ false = search rules in (
      lacks s x c.at.result false due (at_is s.times self.timeline self.begun _ c.at.result c.at.ensures.value q.timeline q.begun) some,
      rw due (c.in_ok-begin_second.ensures.stands s x shown (assumption q)),
    )
