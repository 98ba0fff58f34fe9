-- The second after a true claim's is that of the next edge.
use Rattle.std.proofs.Common.{◌≡◌, ℕ, ◌+◌, true, List, Option, Some, None, refl, sym, ap, ◌∙◌, inl, inr, arith}
use Rattle.std.specs.Prelude.{is_some}
use Rattle.std.specs.Option.{option_map}
use Rattle.std.proofs.lemmas.Bool.{cases_Bool, cases_lt, lt-ltb, le-ltb, both_ways}
use Rattle.irig_plant.specs.declared.event.Event.{Event}
use Rattle.irig_plant.specs.Schedule.{Setup, ticks_of, entry_of}
use Rattle.irig_time.specs.declared.mark.Mark.TheVariants.{Unspoken}
use Rattle.irig_time.specs.declared.second.UtcSecond.{UtcSecond}
use Rattle.irig_time.specs.Days.{is_month_end}
use Rattle.irig_time.specs.Next.{next_of}
use Rattle.irig_time.specs.TimelineFaults.{IsTimeline}
use Rattle.irig_time.specs.Timelines.{TimelineValue, IsSecond, leap_of, mark_by, true_mark, true_claim, second_at, truth_at}
use Rattle.irig_time.proofs.NextLaws.{heard, unspoken, end, valid_second}
use Rattle.irig_time.proofs.SecondAt.{second_is}
use Rattle.report_found.specs.Books.{tick_of}
use Rattle.report_found.specs.Ticks.{second_after, is_another, is_untrue}
use Rattle.report_found.proofs.TickLaws.{test_from_valid}

by_mark : (t : TimelineValue) (n : ℕ) (u v : UtcSecond) → IsTimeline t → IsSecond t n u → IsSecond t (n + 1) v → next_of u (true_mark t.leaps u) ≡ Some v
by_mark t n u v sound here there =
    elim (cases_Bool (is_month_end u.day)) [
      | inr mid ↦
          let mark : true_mark t.leaps u ≡ Unspoken = rw mid refl in
          ap (next_of u) mark ∙ unspoken t n u v sound here there (λ both. both_ways (is_month_end u.day) mid both.0)
      | inl last ↦
          elim (cases_lt u.sod 86341) [
            | inl early ↦
                let mark : true_mark t.leaps u ≡ Unspoken = rw (last, lt-ltb u.sod 86341 early) refl in
                ap (next_of u) mark ∙ unspoken t n u v sound here there (λ both. elim both.1 [ inl e ↦ omega (arith, e, early) | inr e ↦ omega (arith, e, early) ])
            | inr late ↦
                elim (cases_lt u.sod 86400) [
                  | inl within ↦
                      let mark : true_mark t.leaps u ≡ mark_by (leap_of t.leaps u.day) = rw (last, le-ltb u.sod 86341 late, lt-ltb u.sod 86400 within) refl in
                      ap (next_of u) mark ∙ heard t n u v sound here there
                  | inr leap ↦
                      let mark : true_mark t.leaps u ≡ Unspoken = rw (last, le-ltb u.sod 86341 late, le-ltb u.sod 86400 leap) refl in
                      ap (next_of u) mark ∙ unspoken t n u v sound here there (λ both. elim both.1 [ inl e ↦ omega (arith, e, leap) | inr e ↦ omega (arith, e, leap) ])
                ]
          ]
    ]

follows : (t : TimelineValue) (n : ℕ) (u : UtcSecond) (o : Option UtcSecond) → IsTimeline t → IsSecond t n u → second_at t (n + 1) ≡ o → next_of u (true_mark t.leaps u) ≡ o
follows t n u (Some v) sound here is = by_mark t n u v sound here ((second_is t (n + 1) v).0 is)
follows t n u None sound here is =
    end t n u (true_mark t.leaps u) sound here (λ v there. let some : ◌≡◌ {A = Option UtcSecond} None (Some v) = sym is ∙ (second_is t (n + 1) v).1 there in absurd cc)

pub next_second : (t : TimelineValue) (n : ℕ) (u : UtcSecond) → IsTimeline t → second_at t n ≡ Some u → second_after (truth_at t n) ≡ second_at t (n + 1)
next_second t n u sound is =
    let here : IsSecond t n u = (second_is t n u).0 is in
    let truth : truth_at t n ≡ Some (true_claim t.leaps u) = ap (λ o. option_map (true_claim t.leaps) o) is in
    ap second_after truth ∙ rw (test_from_valid u (valid_second t n u sound here)) (follows t n u (second_at t (n + 1)) sound here refl)

some_second : (o : Option UtcSecond) → is_some o ≡ true → (u : UtcSecond) × (o ≡ Some u)
some_second None h = absurd cc
some_second (Some u) h = (u, refl)

pub untrue_is : (s : Setup) (r : ℕ) (ev : List Event) → IsTimeline s.times → is_some (second_at s.times (ticks_of r ev)) ≡ true
    → is_untrue (tick_of s r ev) ≡ is_another (entry_of s r ev).report.announce (second_at s.times (entry_of s r ev).edge)
untrue_is s r ev sound there =
    let u = some_second (second_at s.times (ticks_of r ev)) there in
    ap (is_another (entry_of s r ev).report.announce) (next_second s.times (ticks_of r ev) u.0 sound u.1)
