use Rattle.std.proofs.Common.{◌≡◌, ◌∙◌, Some, sym, ap, subst, arith}
use Rattle.c_numbers.specs.declared.state.IrigState.{IrigState}
use Rattle.c_numbers.specs.declared.setup.IrigSetup.{IrigSetup}
use Rattle.c_numbers.specs.States.{state_in, IsState}
use Rattle.c_numbers.specs.Setups.{rules_in}
use Rattle.c_lines.specs.declared.line.IrigLines.{IrigLines}
use Rattle.c_keeper.specs.declared.timekeeper.IrigTimekeeper.{IrigTimekeeper}
use Rattle.c_lines.specs.Lines.{frames_in, lines_in, KeepNoMore}
use Rattle.c_keeper.specs.Timekeepers.{edge_in, vote_limits_in}
use Rattle.c_keeper.proofs.timekeeper.keep.Goals as goal

pub returns-clause-is_state : goal.returns-clause-is_state
returns-clause-is_state c =
    let others = c.set_edge.ensures.others in
    let others_then = c.set_interval.ensures.others in
    subst (λ (s : IrigState). IsState c.set_interval.new.timekeeper.setup.lock_after s) (sym (ap (λ (t : IrigTimekeeper). t.state) others_then ∙ ap (λ (t : IrigTimekeeper). t.state) others))
    (subst (λ (s : IrigSetup). IsState s.lock_after c.state_for_c-timekeeper.result) (sym (ap (λ (t : IrigTimekeeper). t.setup) others_then ∙ ap (λ (t : IrigTimekeeper). t.setup) others))
    (c.state_for_c-timekeeper.ensures.state c.args.timekeeper.now.setup.lock_after c.requires.counting))

pub returns-clause-absent : goal.returns-clause-absent
returns-clause-absent c ports h =
    subst (λ (ls : IrigLines). KeepNoMore ports ls) (sym (ap (λ (t : IrigTimekeeper). t.lines) c.set_interval.ensures.others ∙ ap (λ (t : IrigTimekeeper). t.lines) c.set_edge.ensures.others))
    (c.keep_lines.ensures.absent ports h)

pub returns-clause-lines : goal.returns-clause-lines
returns-clause-lines c read kept is =
    let others = c.set_edge.ensures.others in
    let others_then = c.set_interval.ensures.others in
    let q = c.set_interval.new.timekeeper in
    let setup = c.args.timekeeper.now.setup in
    let same_setup : q.setup ≡ setup = ap (λ (t : IrigTimekeeper). t.setup) others_then ∙ ap (λ (t : IrigTimekeeper). t.setup) others in
    let same_lines : q.lines ≡ c.keep_lines.new.lines = ap (λ (t : IrigTimekeeper). t.lines) others_then ∙ ap (λ (t : IrigTimekeeper). t.lines) others in
    ap (λ (s : IrigSetup). lines_in (Some (vote_limits_in s).limits) (rules_in s) q.lines) same_setup
    ∙ (ap (λ (ls : IrigLines). lines_in (Some (vote_limits_in setup).limits) (rules_in setup) ls) same_lines ∙ c.keep_lines.ensures.lines (Some (vote_limits_in setup).limits) (rules_in setup) read kept is)

pub returns-clause-frames : goal.returns-clause-frames
returns-clause-frames c =
    ap (λ (t : IrigTimekeeper). frames_in t.lines) c.set_interval.ensures.others
    ∙ (ap (λ (t : IrigTimekeeper). frames_in t.lines) c.set_edge.ensures.others ∙ c.keep_lines.ensures.frames)

pub returns-clause-rest : goal.returns-clause-rest
returns-clause-rest c =
    let others = c.set_edge.ensures.others in
    let others_then = c.set_interval.ensures.others in
    let same_state = ap (λ (t : IrigTimekeeper). t.state) others_then ∙ ap (λ (t : IrigTimekeeper). t.state) others in
    let reader = ap state_in same_state ∙ c.state_for_c-timekeeper.ensures.is in
    let edge = ap edge_in others_then ∙ c.set_edge.ensures.edge in
    let bound : c.set_interval.new.timekeeper.bound_us ≡ c.args.state.now.bound_us = omega (arith, ap (λ (t : IrigTimekeeper). t.bound_us) others_then, c.requires.small) in
    λ i. record {
      lines = c.args.state.now.lines;
      reader = reader i;
      edge_us = edge i;
      bound_us = bound i;
      interval = c.set_interval.ensures.interval i;
      anchors = c.anchors_for_c-timekeeper.ensures i;
      pace = c.pace_for_c-timekeeper.ensures.value i;
      strays = c.args.state.now.strays;
      doubt = c.args.state.now.doubt;
      moved = c.args.state.now.moved;
      last = c.announced_for_c-timekeeper.ensures i;
      before = c.announced_for_c-timekeeper-2.ensures i;
      ended = c.announced_for_c-timekeeper-3.ensures i;
      ended_before = c.announced_for_c-timekeeper-4.ensures i;
    }
