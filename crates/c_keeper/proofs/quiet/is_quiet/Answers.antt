use Rattle.std.proofs.Common.{rules, ◌∙◌, ◌<◌, ℕ, Option, None, sym, ap}
use Rattle.std.proofs.lemmas.Bool.{eqb-true}
use Rattle.irig_lines.specs.Counting.{edges_own}
use Rattle.c_keeper.proofs.QuietLaws.{at_rest}
use Rattle.c_keeper.proofs.quiet.is_quiet.Goals as goal
use Rattle.c_keeper.proofs.quiet.is_quiet.Goals.{then-edges_own-eq0, else-edges_own-eq0}

pub returns-then-are_young-clause-rest : goal.returns-then-are_young-clause-rest
returns-then-are_young-clause-rest c short is =
    let t = c.args.timekeeper.now in
    let now = c.args.now_us in
    let fits : t.begin_us < 4294967296 = search rules in
    elim c.if-edges_own-eq0.branch [
      | else-edges_own-eq0 w ↦ absurd (w.if-edges_own-eq0.false (eqb-true c.edges_own.result 0 (sym w.value-is ∙ c.if-are_young.true)))
      | then-edges_own-eq0 w ↦
          let edges = sym (c.edges_own.ensures.value ∙ ap (λ (e : Option ℕ). edges_own None e now) c.edge_of.ensures) ∙ w.if-edges_own-eq0.true in
          let young = sym w.are_young.ensures ∙ (sym w.value-is ∙ c.if-are_young.true) in
          at_rest t now edges young (sym c.are_quiet.ensures ∙ is) short fits
    ]
