-- What one more stretch does to those that are kept.
use Rattle.std.proofs.Common.{◌≡◌, ◌∙◌, ◌+◌, ◌<◌, ◌≤◌, List, [], ◌∷◌, ◌++◌, length, Option, Some, sym, subst, ap, arith}
use Rattle.std.specs.Prelude.{option_to_list}
use Rattle.std.proofs.lemmas.List.{append_assoc, length-append, length-take, take-append-le, take_all}
use Rattle.record_pulses.specs.Spreads.{counted}
use Rattle.record_verdict.specs.declared.ended.Ended.{Ended}
use Rattle.record_verdict.specs.declared.stretch.AgreedSecond.{AgreedSecond}
use Rattle.record_verdict.specs.declared.stretch.Stretch.{Stretch}
use Rattle.record_verdict.specs.declared.ended.Unended.{Unended}
use Rattle.record_verdict.specs.declared.tales.Tales.{Tales}
use Rattle.record_verdict.specs.Ended.{AreEnded, ended_at}
use Rattle.record_verdict.specs.Stretches.{ended_by}

-- where there is room, all that ended are kept, and the new one too
pub room : (e f : Ended) (x : Stretch) (all : List Stretch) → AreEnded e all → length e.kept.items < 64
    → f.kept.items ≡ e.kept.items ++ x ∷ [] → f.more ≡ e.more → AreEnded f (all ++ option_to_list (Some x))
room e f x all h low items more =
    let short : length all < 64 = omega (arith, low, ap length h.kept, length-take 64 all) in
    record {
      kept = items ∙ ap (λ xs. xs ++ x ∷ []) (h.kept ∙ take_all 64 all (omega (arith, short))) ∙ sym (take_all 64 (all ++ x ∷ []) (omega (arith, short, length-append all (x ∷ []))));
      more = more ∙ h.more ∙ ap counted (omega (arith, short, length-append all (x ∷ [])));
    }

-- where there is none, it is counted
pub full : (e f : Ended) (x : Stretch) (all : List Stretch) → AreEnded e all → 64 ≤ length e.kept.items
    → f.kept.items ≡ e.kept.items → f.more ≡ counted (e.more + 1) → AreEnded f (all ++ option_to_list (Some x))
full e f x all h high items more =
    let long : 64 ≤ length all = omega (arith, high, ap length h.kept, length-take 64 all) in
    record {
      kept = items ∙ h.kept ∙ sym (take-append-le 64 all (x ∷ []) long);
      more = more ∙ omega (arith, h.more, long, length-append all (x ∷ []));
    }

-- five parts, one after another
five : {A : Type 0} (all a b c d e : List A) → ((((all ++ a) ++ b) ++ c) ++ d) ++ e ≡ all ++ (a ++ (b ++ (c ++ (d ++ e))))
five all a b c d e =
    append_assoc (((all ++ a) ++ b) ++ c) d e ∙ append_assoc ((all ++ a) ++ b) c (d ++ e) ∙ append_assoc (all ++ a) b (c ++ (d ++ e)) ∙ append_assoc all a (b ++ (c ++ (d ++ e)))

-- those that end of the five lines
pub all_five : (f : Ended) (u : Unended) (second : AgreedSecond) (t : Tales) (all : List Stretch) (a b c d e : Option Stretch)
    → a ≡ ended_by u.a second t.a → b ≡ ended_by u.b second t.b → c ≡ ended_by u.c second t.c → d ≡ ended_by u.d second t.d → e ≡ ended_by u.e second t.e
    → AreEnded f (((((all ++ option_to_list a) ++ option_to_list b) ++ option_to_list c) ++ option_to_list d) ++ option_to_list e)
    → AreEnded f (all ++ ended_at u second t)
all_five f u second t all a b c d e ea eb ec ed ee h =
    rw (sym ea, sym eb, sym ec, sym ed, sym ee) (subst (AreEnded f) (five all (option_to_list a) (option_to_list b) (option_to_list c) (option_to_list d) (option_to_list e)) h)
