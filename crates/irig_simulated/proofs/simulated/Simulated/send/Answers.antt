use Rattle.std.proofs.Common.{◌≡◌, ◌∙◌, ℕ, ◌+◌, ◌*◌, ◌/◌, ◌%◌, ◌<◌, Option, ap, arith, rules, subst, sym}
use Rattle.irig_wires.specs.declared.wires.Wires.{Wires}
use Rattle.irig_simulated.specs.Courses.{sent_on_all}
use Rattle.irig_simulated.specs.Seconds.{sent_in}
use Rattle.irig_simulated.proofs.StandsLaws.{all_sent, flights_sent_all}
use Rattle.irig_simulated.proofs.simulated.Simulated.send.Goals as goal

pub invariant_of-self-clause-flying : goal.invariant_of-self-clause-flying
invariant_of-self-clause-flying g c =
    let self = c.args.self.now in
    flights_sent_all self.device.clock.redundancy c.args.second.now (self.now_us / 10000 % 100) self.now_us self.wires c.send_on.new.wires c.send_on-2.new.wires c.send_on-3.new.wires c.send_on-4.new.wires c.send_on-5.new.wires c.sent.result c.sent-2.result c.sent-3.result c.sent-4.result c.sent-5.result (search (rules, c.requires.lines)) self.flying c.sent.ensures c.sent-2.ensures c.sent-3.ensures c.sent-4.ensures c.sent-5.ensures c.send_on.ensures c.send_on-2.ensures c.send_on-3.ensures c.send_on-4.ensures c.send_on-5.ensures

pub returns-clause-stands : goal.returns-clause-stands
returns-clause-stands g c k signal symbol x of is =
    let self = c.args.self.now in
    let s = c.args.second.now in
    let place = self.now_us / 10000 % 100 in
    let there : 100 * s.number + place ≡ x.now / 10000 = omega (arith, c.requires.begun, c.requires.within, is.now) in
    let sends : (line : ℕ) → sent_in s line place ≡ signal line (x.now / 10000) = λ line. sym (of.sends line place (omega arith)) ∙ ap (signal line) there in
    record {
      device = is.device;
      ended = is.ended;
      first = is.first;
      rate = is.rate;
      ticking = is.ticking;
      now = is.now;
      wires = all_sent (λ line. signal line (x.now / 10000)) self.now_us self.wires c.send_on.new.wires c.send_on-2.new.wires c.send_on-3.new.wires c.send_on-4.new.wires c.send_on-5.new.wires c.sent.result c.sent-2.result c.sent-3.result c.sent-4.result c.sent-5.result
          (c.sent.ensures ∙ sends 0) (c.sent-2.ensures ∙ sends 1) (c.sent-3.ensures ∙ sends 2) (c.sent-4.ensures ∙ sends 3) (c.sent-5.ensures ∙ sends 4) c.send_on.ensures c.send_on-2.ensures c.send_on-3.ensures c.send_on-4.ensures c.send_on-5.ensures
          ∙ ap (λ (w : Wires). sent_on_all (λ line. signal line (x.now / 10000)) self.now_us w) is.wires ∙ ap (λ (n : ℕ). sent_on_all (λ line. signal line (x.now / 10000)) n x.wires) is.now;
      tick = is.tick;
      send = ap (λ (n : ℕ). n + 10000) is.now;
      told = is.told;
    }
