use Rattle.std.proofs.Common.{rules, ◌≡◌, ◌≤◌, ℕ, Option, Some, None, ◌∙◌, sym, subst}
use Rattle.std.proofs.lemmas.Bool.{both_ways}
use Rattle.std.proofs.lemmas.Bool.Decides.{Decides-eqb}
use Rattle.std.proofs.lemmas.Slice.Eq.{slice_eq-Decides}
use Rattle.irig_time.specs.Texts.{IsDayText}
use Rattle.irig_time.proofs.TextLaws.{date_read, day_text_unique}
use Rattle.irig_time.proofs.TextValueLaws.{day_read_is}
use Rattle.irig_time.proofs.text.read_day.Goals as goal

same_day : (o : Option ℕ) (a b : ℕ) → ◌≡◌ {A = Option ℕ} o (Some a) → ◌≡◌ {A = Option ℕ} o (Some b) → a ≡ b
same_day o a b e h = cc

pub returns-in_err-day-clause-exact : goal.returns-in_err-day-clause-exact
returns-in_err-day-clause-exact c d =
    let none = c.from_residual.ensures in (
      λ e. absurd cc,
      λ h. let date = date_read d c.args.text.now c.two_at.result c.two_at-2.result c.two_at-3.result c.two_at-4.result h.1 c.two_at.ensures.value c.two_at-2.ensures.value c.two_at-3.ensures.value c.two_at-4.ensures.value in
          let found : ◌≡◌ {A = Option ℕ} c.day_of.result (Some d) = c.day_of.ensures.found d h.0 date in
          let was : ◌≡◌ {A = Option ℕ} c.day_of.result None = c.in_err-day.was in
          absurd cc,
    )

pub returns-then-same-clause-exact : goal.returns-then-same-clause-exact
returns-then-same-clause-exact c d =
    let bytes = c.args.text.now in
    let day = c.in_ok-day.day in
    let is : c.as_slice.result.now ≡ bytes = (slice_eq-Decides Decides-eqb c.as_slice.result.now bytes c.eq-same.result c.eq-same.ensures).0 c.if-same.true in
    let text : IsDayText day bytes = subst (IsDayText day) (sym c.as_slice.ensures ∙ is) c.write_day.ensures.text in (
      λ e. let same : day ≡ d = cc in (subst (λ (x : ℕ). x ≤ 36524) same c.in_ok-day.ensures.bounded, subst (λ (x : ℕ). IsDayText x bytes) same text),
      λ h. let date = date_read d c.args.text.now c.two_at.result c.two_at-2.result c.two_at-3.result c.two_at-4.result h.1 c.two_at.ensures.value c.two_at-2.ensures.value c.two_at-3.ensures.value c.two_at-4.ensures.value in
          sym c.in_ok-day.was ∙ c.day_of.ensures.found d h.0 date,
    )

pub returns-else-same-clause-exact : goal.returns-else-same-clause-exact
returns-else-same-clause-exact c d =
    let bytes = c.args.text.now in (
      λ e. absurd cc,
      λ h. let date = date_read d c.args.text.now c.two_at.result c.two_at-2.result c.two_at-3.result c.two_at-4.result h.1 c.two_at.ensures.value c.two_at-2.ensures.value c.two_at-3.ensures.value c.two_at-4.ensures.value in
          let same : c.in_ok-day.day ≡ d = same_day c.day_of.result c.in_ok-day.day d c.in_ok-day.was (c.day_of.ensures.found d h.0 date) in
          let text : IsDayText d c.write_day.result = subst (λ (x : ℕ). IsDayText x c.write_day.result) same c.write_day.ensures.text in
          let is : c.as_slice.result.now ≡ bytes = c.as_slice.ensures ∙ day_text_unique d c.write_day.result bytes text h.1 in
          absurd (both_ways c.eq-same.result c.if-same.false ((slice_eq-Decides Decides-eqb c.as_slice.result.now bytes c.eq-same.result c.eq-same.ensures).1 is)),
    )

pub returns-in_err-day-clause-value : goal.returns-in_err-day-clause-value
returns-in_err-day-clause-value c = day_read_is c.args.text.now _ (returns-in_err-day-clause-exact c)

pub returns-then-same-clause-value : goal.returns-then-same-clause-value
returns-then-same-clause-value c = day_read_is c.args.text.now _ (returns-then-same-clause-exact c)

pub returns-else-same-clause-value : goal.returns-else-same-clause-value
returns-else-same-clause-value c = day_read_is c.args.text.now _ (returns-else-same-clause-exact c)

pub returns-then-text-ne10-clause-exact : goal.returns-then-text-ne10-clause-exact
returns-then-text-ne10-clause-exact c = search rules

pub returns-then-text-ne10-clause-value : goal.returns-then-text-ne10-clause-value
returns-then-text-ne10-clause-value c = day_read_is c.args.text.now _ (returns-then-text-ne10-clause-exact c)
