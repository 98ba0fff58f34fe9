use Rattle.std.proofs.Common.{rules, ◌≡◌, ℕ, ◌+◌, ◌*◌, Option, Some, None, arith, ap, ◌∙◌, sym, subst}
use Rattle.std.proofs.lemmas.Bool.{both_ways}
use Rattle.std.proofs.lemmas.Bool.Decides.{Decides-eqb}
use Rattle.std.proofs.lemmas.Slice.Eq.{slice_eq-Decides}
use Rattle.irig_time.specs.declared.second.UtcSecond.{UtcSecond}
use Rattle.irig_time.specs.Seconds.{IsValid}
use Rattle.irig_time.specs.Texts.{IsText}
use Rattle.irig_time.proofs.TextLaws.{second_read, text_unique, day_first}
use Rattle.irig_time.proofs.TextValueLaws.{second_read_is}
use Rattle.irig_time.proofs.text.read_text.Goals as goal

abbrev second : ℕ → ℕ → UtcSecond
second day sod = record { day = day; sod = sod }

same_day : (o : Option ℕ) (a b : ℕ) → ◌≡◌ {A = Option ℕ} o (Some a) → ◌≡◌ {A = Option ℕ} o (Some b) → a ≡ b
same_day o a b e h = cc

pub returns-in_err-day-clause-exact : goal.returns-in_err-day-clause-exact
returns-in_err-day-clause-exact c u =
    let none = c.from_residual.ensures in (
      λ e. absurd cc,
      λ h. let found : ◌≡◌ {A = Option ℕ} c.read_day.result (Some u.day) = (c.read_day.ensures.exact u.day).1 (omega (arith, h.0.day), day_first u c.args.text.now h.1) in
          let was : ◌≡◌ {A = Option ℕ} c.read_day.result None = c.in_err-day.was in
          absurd cc,
    )

pub returns-then-not-valid-clause-exact : goal.returns-then-not-valid-clause-exact
returns-then-not-valid-clause-exact c u = (
  λ e. absurd cc,
  λ h. let day : c.in_ok-day.day ≡ u.day = same_day c.read_day.result c.in_ok-day.day u.day c.in_ok-day.was ((c.read_day.ensures.exact u.day).1 (omega (arith, h.0.day), day_first u c.args.text.now h.1)) in
      let same = second_read u c.args.text.now c.in_ok-day.day c.two_at.result c.two_at-2.result c.two_at-3.result h.0 h.1 day c.two_at.ensures.value c.two_at-2.ensures.value c.two_at-3.ensures.value in
      absurd (both_ways c.valid.result c.if-not-valid.true (c.valid.ensures.1 (subst IsValid (sym same) h.0))),
)

pub returns-then-same-clause-exact : goal.returns-then-same-clause-exact
returns-then-same-clause-exact c u =
    let bytes = c.args.text.now in
    let utc = second c.in_ok-day.day (c.two_at.result * 3600 + c.two_at-2.result * 60 + c.two_at-3.result) in
    let is : c.as_slice.result.now ≡ bytes = (slice_eq-Decides Decides-eqb c.as_slice.result.now bytes c.eq-same.result c.eq-same.ensures).0 c.if-same.true in
    let text : IsText utc bytes = subst (IsText utc) (sym c.as_slice.ensures ∙ is) c.write_text.ensures.text in
    let valid : IsValid utc = c.valid.ensures.0 c.if-not-valid.false in (
      λ e. let same : utc ≡ u = cc e in (subst IsValid same valid, subst (λ (x : UtcSecond). IsText x bytes) same text),
      λ h. let day : c.in_ok-day.day ≡ u.day = same_day c.read_day.result c.in_ok-day.day u.day c.in_ok-day.was ((c.read_day.ensures.exact u.day).1 (omega (arith, h.0.day), day_first u bytes h.1)) in
          ap (λ (x : UtcSecond). Some x) (second_read u bytes c.in_ok-day.day c.two_at.result c.two_at-2.result c.two_at-3.result h.0 h.1 day c.two_at.ensures.value c.two_at-2.ensures.value c.two_at-3.ensures.value),
    )

pub returns-else-same-clause-exact : goal.returns-else-same-clause-exact
returns-else-same-clause-exact c u =
    let bytes = c.args.text.now in (
      λ e. absurd cc,
      λ h. let day : c.in_ok-day.day ≡ u.day = same_day c.read_day.result c.in_ok-day.day u.day c.in_ok-day.was ((c.read_day.ensures.exact u.day).1 (omega (arith, h.0.day), day_first u bytes h.1)) in
          let same = second_read u bytes c.in_ok-day.day c.two_at.result c.two_at-2.result c.two_at-3.result h.0 h.1 day c.two_at.ensures.value c.two_at-2.ensures.value c.two_at-3.ensures.value in
          let text : IsText u c.write_text.result = subst (λ (x : UtcSecond). IsText x c.write_text.result) same c.write_text.ensures.text in
          let is : c.as_slice.result.now ≡ bytes = c.as_slice.ensures ∙ text_unique u c.write_text.result bytes text h.1 in
          absurd (both_ways c.eq-same.result c.if-same.false ((slice_eq-Decides Decides-eqb c.as_slice.result.now bytes c.eq-same.result c.eq-same.ensures).1 is)),
    )

pub returns-in_err-day-clause-value : goal.returns-in_err-day-clause-value
returns-in_err-day-clause-value c = second_read_is c.args.text.now _ (returns-in_err-day-clause-exact c)

pub returns-then-not-valid-clause-value : goal.returns-then-not-valid-clause-value
returns-then-not-valid-clause-value c = second_read_is c.args.text.now _ (returns-then-not-valid-clause-exact c)

pub returns-then-same-clause-value : goal.returns-then-same-clause-value
returns-then-same-clause-value c = second_read_is c.args.text.now _ (returns-then-same-clause-exact c)

pub returns-else-same-clause-value : goal.returns-else-same-clause-value
returns-else-same-clause-value c = second_read_is c.args.text.now _ (returns-else-same-clause-exact c)

pub returns-then-text-ne20-clause-exact : goal.returns-then-text-ne20-clause-exact
returns-then-text-ne20-clause-exact c = search rules

pub returns-then-text-ne20-clause-value : goal.returns-then-text-ne20-clause-value
returns-then-text-ne20-clause-value c = second_read_is c.args.text.now _ (returns-then-text-ne20-clause-exact c)
