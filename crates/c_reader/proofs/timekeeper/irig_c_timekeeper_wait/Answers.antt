use Rattle.std.proofs.Common.{◌≡◌, ◌∙◌, ◌+◌, ◌≤◌, ℕ, Bool, true, false, sym, ap, subst}
use Rattle.irig_lines.specs.declared.setup.ClockRules.{ClockRules}
use Rattle.irig_timekeeper.specs.declared.clock.ClockState.{ClockState}
use Rattle.irig_timekeeper.specs.Clock.{clock_wait}
use Rattle.c_keeper.specs.Paces.{pace_in}
use Rattle.c_keeper.specs.Timekeepers.{clock_in}
use Rattle.c_keeper.proofs.LivedLaws.{lived_wait}
use Rattle.c_keeper.proofs.ValueLaws.{waits_value}
use Rattle.c_keeper.proofs.WaitedLaws.{waited_above, waited_at_most, waited_counts, waited_votes}
use Rattle.c_reader.proofs.timekeeper.irig_c_timekeeper_wait.Goals as goal

never : ◌≡◌ {A = Bool} false true → ⊥
never h = absurd cc

pub returns-then-not-is_accepted-clause-lived : goal.returns-then-not-is_accepted-clause-lived
returns-then-not-is_accepted-clause-lived c made past now h clock = absurd (never (sym c.if-not-is_accepted.true ∙ c.is_accepted.ensures.1 h.is.accepted))

pub returns-then-not-is_accepted-clause-most : goal.returns-then-not-is_accepted-clause-most
returns-then-not-is_accepted-clause-most c made start now past h clock order = absurd (never (sym c.if-not-is_accepted.true ∙ c.is_accepted.ensures.1 h.is.accepted))

pub returns-then-not-is_accepted-clause-above : goal.returns-then-not-is_accepted-clause-above
returns-then-not-is_accepted-clause-above c made start now past h clock order alone none = absurd (never (sym c.if-not-is_accepted.true ∙ c.is_accepted.ensures.1 h.is.accepted))

pub returns-then-not-is_accepted-clause-votes : goal.returns-then-not-is_accepted-clause-votes
returns-then-not-is_accepted-clause-votes c made start now then edge past vote h clock order again agree at ahead behind waited soon = absurd (never (sym c.if-not-is_accepted.true ∙ c.is_accepted.ensures.1 h.is.accepted))

pub returns-then-not-is_accepted-clause-counts : goal.returns-then-not-is_accepted-clause-counts
returns-then-not-is_accepted-clause-counts c made start now then e past h clock order again alone is waited = absurd (never (sym c.if-not-is_accepted.true ∙ c.is_accepted.ensures.1 h.is.accepted))

pub returns-clause-waits : goal.returns-clause-waits
returns-clause-waits c k is =
    let t = c.args.timekeeper.now in
    let said = c.wait_of.ensures
    ∙ (ap (λ (r : ClockRules). clock_wait r c.unread_state_of-state.result c.args.now_us) c.clock_rules_of.ensures
    ∙ ap (λ (s : ClockState). clock_wait (clock_in t) s c.args.now_us) c.unread_state_of-state.ensures.is) in
    said ∙ waits_value t k c.args.now_us is

pub returns-clause-lived : goal.returns-clause-lived
returns-clause-lived c made past now h clock =
    lived_wait c.args.timekeeper.now made past c.args.now_us now c.wait_of.result (λ k is. (let said = c.wait_of.ensures
    ∙ (ap (λ (r : ClockRules). clock_wait r c.unread_state_of-state.result c.args.now_us) c.clock_rules_of.ensures
    ∙ ap (λ (s : ClockState). clock_wait (clock_in c.args.timekeeper.now) s c.args.now_us) c.unread_state_of-state.ensures.is) in
    said ∙ waits_value c.args.timekeeper.now k c.args.now_us is)) h clock

pub returns-clause-most : goal.returns-clause-most
returns-clause-most c made start now past h clock order =
    let t = c.args.timekeeper.now in
    let said = c.wait_of.ensures
    ∙ (ap (λ (r : ClockRules). clock_wait r c.unread_state_of-state.result c.args.now_us) c.clock_rules_of.ensures
    ∙ ap (λ (s : ClockState). clock_wait (clock_in t) s c.args.now_us) c.unread_state_of-state.ensures.is) in
    subst (λ (n : ℕ). n ≤ 1006000) (sym said) (waited_at_most t made start c.args.now_us now past h clock order)

pub returns-clause-above : goal.returns-clause-above
returns-clause-above c made start now past h clock order alone none =
    let t = c.args.timekeeper.now in
    let said = c.wait_of.ensures
    ∙ (ap (λ (r : ClockRules). clock_wait r c.unread_state_of-state.result c.args.now_us) c.clock_rules_of.ensures
    ∙ ap (λ (s : ClockState). clock_wait (clock_in t) s c.args.now_us) c.unread_state_of-state.ensures.is) in
    subst (λ (n : ℕ). 1 ≤ n) (sym said) (waited_above t made start c.args.now_us now past h clock order alone (pace_in t.pace) none)

pub returns-clause-votes : goal.returns-clause-votes
returns-clause-votes c made start now then edge past vote h clock order again agree at ahead behind waited soon =
    let t = c.args.timekeeper.now in
    let said = c.wait_of.ensures
    ∙ (ap (λ (r : ClockRules). clock_wait r c.unread_state_of-state.result c.args.now_us) c.clock_rules_of.ensures
    ∙ ap (λ (s : ClockState). clock_wait (clock_in t) s c.args.now_us) c.unread_state_of-state.ensures.is) in
    waited_votes t made start c.args.now_us now past h clock order then edge vote again agree at ahead behind (subst (λ (n : ℕ). now + n ≤ then) said waited) soon

pub returns-clause-counts : goal.returns-clause-counts
returns-clause-counts c made start now then e past h clock order again alone is waited =
    let t = c.args.timekeeper.now in
    let said = c.wait_of.ensures
    ∙ (ap (λ (r : ClockRules). clock_wait r c.unread_state_of-state.result c.args.now_us) c.clock_rules_of.ensures
    ∙ ap (λ (s : ClockState). clock_wait (clock_in t) s c.args.now_us) c.unread_state_of-state.ensures.is) in
    waited_counts t made start c.args.now_us now past h clock order alone (pace_in t.pace) then e again is (subst (λ (n : ℕ). now + n ≤ then) said waited)
