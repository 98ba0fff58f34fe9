use Rattle.std.proofs.Common.{◌≡◌, ◌∙◌, ℕ, suc, ◌+◌, ◌-◌, ◌*◌, ◌<◌, List, All, length, map, sym, ap, subst, arith}
use Rattle.std.proofs.lemmas.List.{length-map}
use Rattle.std.proofs.lemmas.List.Elements.{All-map}
use Rattle.irig_time.specs.declared.rules.Rules.{Rules}
use Rattle.irig_time.specs.Timelines.{TimelineValue}
use Rattle.irig_gen.specs.Frames.{GeneratorValue}
use Rattle.irig_plant.specs.Schedule.{generator_at_next_edge}
use Rattle.irig_simulated.specs.declared.second.LineSecond.{LineSecond}
use Rattle.irig_station.specs.StationSetups.{kind_of_device}
use Rattle.irig_station.specs.SentSeconds.{line_of_generator}
use Rattle.irig_station.specs.Together.{IsDeviceAt}
use Rattle.irig_station.proofs.BeginLaws.{goes_on, second_of}
use Rattle.irig_station.proofs.station.Station.begin_second.Goals as goal

pub step_all-requires : goal.step_all-requires
step_all-requires g c = λ k d less. (let e = (c.args.self.now.together c.requires.whole).edges k d less in let early = c.requires.early in omega (arith, e, early))

-- all go on by one
next_edges : (begun : ℕ) (xs ys : List GeneratorValue) → ys ≡ map generator_at_next_edge xs → All (λ x. x.edge ≡ begun) xs → All (λ x. x.edge ≡ begun + 1) ys
next_edges begun xs ys is all =
    subst (λ (l : List GeneratorValue). All (λ x. x.edge ≡ begun + 1) l) (sym is)
    (All-map (λ (x : GeneratorValue). x.edge ≡ begun + 1) generator_at_next_edge xs (λ k d less. ap (λ (n : ℕ). n + 1) (all k d less)))

pub invariant_of-self-2 : goal.invariant_of-self-2
invariant_of-self-2 g c = record {
  valid = c.args.self.now.valid;
  together = λ whole.
      let self = c.args.self.now in
      let t = self.together whole in
      let as_many : length c.step_all.new.generators.items ≡ length self.generators.items = ap (λ (l : List GeneratorValue). length l) c.step_all.ensures ∙ length-map self.generators.items generator_at_next_edge in
      let lines : length c.in_ok-lines.lines.items ≡ length self.generators.items =
      ap (λ (l : List LineSecond). length l) c.in_ok-lines.ensures ∙ length-map c.deref.result.now (line_of_generator self.rules self.timeline) ∙ ap (λ (l : List GeneratorValue). length l) c.deref.ensures.value in
      let due = c.requires.due in
      let early = c.requires.early in
      record {
        lines = lines ∙ sym as_many;
        number = omega arith;
        edges = next_edges self.begun self.generators.items c.step_all.new.generators.items c.step_all.ensures t.edges;
        least = omega (arith, due);
        most = omega (arith, due);
        early = omega (arith, early);
        few = t.few;
        each = subst (λ (n : ℕ). All (IsDeviceAt n self.now_us) self.devices.items) (sym as_many) t.each;
      };
}

pub returns-clause-stands : goal.returns-clause-stands
returns-clause-stands g c s x shown q =
    let self = c.args.self.now in
    let t = self.together c.requires.whole in
    let lines : c.in_ok-lines.lines.items ≡ map (line_of_generator s.rules s.times) x.generators =
    c.in_ok-lines.ensures ∙ ap (map (line_of_generator self.rules self.timeline)) (c.deref.ensures.value ∙ q.generators)
    ∙ ap (λ (rules : Rules). map (line_of_generator rules self.timeline) x.generators) q.rules ∙ ap (λ (times : TimelineValue). map (line_of_generator s.rules times) x.generators) q.timeline in
    let edges : All (λ y. y.edge ≡ length x.seconds) x.generators =
    subst (λ (n : ℕ). All (λ y. y.edge ≡ n) x.generators) q.begun (subst (λ (l : List GeneratorValue). All (λ y. y.edge ≡ self.begun) l) q.generators t.edges) in
    let before : c.in_ok-before.before.items ≡ map (λ l. l.truth) self.second.lines.items = c.in_ok-before.ensures ∙ ap (λ (l : List LineSecond). map (λ l. l.truth) l) c.deref-2.ensures.value in
    let count : self.second.number ≡ length x.seconds - 1 = t.number ∙ ap (λ (n : ℕ). n - 1) q.begun in
    let due : self.now_us ≡ length x.seconds * 1000000 = c.requires.due ∙ ap (λ (n : ℕ). n * 1000000) q.begun in
    let was = λ (some : 0 < length x.seconds). q.second (subst (λ (n : ℕ). 0 < n) (sym q.begun) some) in
    record {
      timeline = q.timeline;
      rules = q.rules;
      sources = length-map x.generators generator_at_next_edge ∙ q.sources;
      generators = c.step_all.ensures ∙ ap (map generator_at_next_edge) q.generators;
      begun = ap (λ (n : ℕ). n + 1) q.begun ∙ (let e : length x.seconds + 1 ≡ suc (length x.seconds) = omega arith in e);
      second = λ _. second_of s.rules s.times x.generators x.seconds self.second _ q.begun lines edges before was count;
      now = q.now;
      device_count = q.device_count;
      devices = λ r d less. goes_on s.rules s.times x.generators x.seconds _ (kind_of_device s r) (x.courses r)
          ((t.each r d (let n = q.device_count in let e = self.devices.ok.0 in omega (arith, less, n, e))).stands ∙ due) (q.devices r d less);
      log = q.log;
      few = q.few;
      audit = q.audit;
      heard = q.heard;
    }
