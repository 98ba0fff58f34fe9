use Rattle.std.proofs.Common.{◌≡◌, ◌∙◌, ◌+◌, ◌<◌, ℕ, List, length, get_or, set, sym, ap, arith, inl, inr, subst, get_or-set_same, get_or-set_other}
use Rattle.std.proofs.lemmas.Bool.{cases_eq}
use Rattle.std.proofs.lemmas.List.{ext_get_or, get_or-map, get_or_default, length-map, length-set}
use Rattle.irig_gen.specs.Frames.{GeneratorValue}
use Rattle.irig_plant.specs.Schedule.{generator_at_next_edge, no_generator}
use Rattle.irig_station.proofs.frames.step_all.Goals as goal

pub step-requires : goal.step-requires
step-requires c =
    let l = c.loop-g in
    let x = c.index_mut-generator.result.now in
    let old : x ≡ get_or c.args.generators.now.items l.g x = c.index_mut-generator.ensures.value ∙ l.invariant.2 l.g x (omega arith) in
    let low = c.requires l.g x (omega (arith, c.loop-g-test.true, c.len-g-end.ensures, c.args.generators.now.ok.0)) in
    omega (arith, ap (λ (y : GeneratorValue). y.edge) old, low)

-- the g-th has gone on, and those before it
gone : (old xs : List GeneratorValue) (g : ℕ) (x y : GeneratorValue) → g < length xs → x ≡ get_or xs g x → x ≡ get_or old g x → g < length old → y ≡ generator_at_next_edge x
    → ((k : ℕ) (d : GeneratorValue) → k < g → get_or xs k d ≡ generator_at_next_edge (get_or old k d))
    → (k : ℕ) (d : GeneratorValue) → k < g + 1 → get_or (set xs g y) k d ≡ generator_at_next_edge (get_or old k d)
gone old xs g x y less now was low next before k d few = elim (cases_eq k g) [
  | inl here ↦
      subst (λ (n : ℕ). get_or (set xs g y) n d ≡ generator_at_next_edge (get_or old n d)) (sym here)
      (get_or-set_same xs g y d less ∙ next ∙ ap generator_at_next_edge (was ∙ get_or_default old g x d low))
  | inr other ↦ get_or-set_other xs g k y d other ∙ before k d (omega (arith, other, few))
]

pub loop-g-preserved : goal.loop-g-preserved
loop-g-preserved c =
    let l = c.loop-g in
    let xs = l.generators.items in
    let old = c.args.generators.now.items in
    let y = c.step.new.self in
    let x = c.index_mut-generator.result.now in
    let low : l.g < length old = omega (arith, c.loop-g-test.true, c.len-g-end.ensures, c.args.generators.now.ok.0) in
    let long : l.g < length xs = omega (arith, l.invariant.0, low) in
    let was : x ≡ get_or old l.g x = c.index_mut-generator.ensures.value ∙ l.invariant.2 l.g x (omega arith) in (
      length-set xs l.g y ∙ l.invariant.0,
      λ k d less. gone old xs l.g x y long c.index_mut-generator.ensures.value was low c.step.ensures l.invariant.1 k d less,
      λ k d more. get_or-set_other xs l.g k y d (λ e. omega (arith, e, more)) ∙ l.invariant.2 k d (omega (arith, more)),
    )

pub returns : goal.returns
returns c =
    let l = c.loop-g in
    let old = c.args.generators.now.items in
    ext_get_or no_generator l.generators.items _ (l.invariant.0 ∙ sym (length-map old generator_at_next_edge))
    (λ k less.
    let low : k < length old = omega (arith, less, l.invariant.0) in
    l.invariant.1 k no_generator (omega (arith, low, c.loop-g-test.false, c.len-g-end.ensures, c.args.generators.now.ok.0)) ∙ sym (get_or-map generator_at_next_edge old k no_generator no_generator low))
