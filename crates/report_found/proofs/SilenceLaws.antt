-- An open silence is a longest run of its reader's ticks.
use Rattle.std.proofs.Common.{rules, ◌≡◌, Bool, true, false, cond, List, [], ◌∷◌, ◌++◌, Option, Some, None, refl, ap, ◌∙◌, subst}
use Rattle.std.specs.Prelude.{not, ◌&&◌, ⊤}
use Rattle.std.specs.List.{AllByRecursion}
use Rattle.std.proofs.lemmas.List.Elements.{recursion_from_All, All-from_recursion}
use Rattle.irig_reader.specs.declared.report.Cause.{Cause}
use Rattle.report_found.specs.declared.stretch.Silence.{Silence}
use Rattle.report_found.specs.declared.tick.Tick.{Tick}
use Rattle.report_found.specs.LongestRuns.{IsEnded, IsLongestSilence}
use Rattle.report_found.specs.Stretches.{same_cause, silence_at, goes_on, silence_begun, silence_after, silence_of}
use Rattle.report_found.specs.Ticks.{is_announced}

-- ---- whether a silence goes on, by two tests and two causes

same_itself : (a : Cause) → same_cause a a ≡ true
same_itself a = search rules

-- a tick that ends a silence is of none that has a tick of that one
apart : (a b c : Cause) (x y : Bool) → (not x && same_cause a b) ≡ true → (not y && same_cause a c) ≡ false → y ≡ false → (not x && same_cause c b) ≡ false
apart a b c x y h k e = search rules

-- ---- one that begins, and one that goes on

longest_begun : (t : Tick) (ts : List Tick) → is_announced t ≡ false → IsEnded (silence_at t) ts → IsLongestSilence (t ∷ ts) (silence_at t)
longest_begun t ts quiet ended = record {
  later = [];
  before = ts;
  parts = refl;
  silent = All-from_recursion (λ x. goes_on (silence_at t) x ≡ true) (t ∷ []) (rw (quiet, same_itself t.entry.report.cause) refl, tt);
  ended = ended;
  last = refl;
}

longest_more : (t : Tick) (ts : List Tick) (s : Silence) → goes_on s t ≡ true → IsLongestSilence ts s → IsLongestSilence (t ∷ ts) (record s { last = t })
longest_more t ts s on h = record {
  later = t ∷ h.later;
  before = h.before;
  parts = ap (λ ts. t ∷ ts) h.parts;
  silent = All-from_recursion (λ t. goes_on s t ≡ true) (t ∷ (h.later ++ s.first ∷ [])) (on, recursion_from_All (λ t. goes_on s t ≡ true) (h.later ++ s.first ∷ []) h.silent);
  ended = h.ended;
  last = refl;
}

-- ---- what stands when none is open

-- the newest tick announced a second, or there is none
abbrev IsSpoken : List Tick → Type 0
IsSpoken [] = ⊤
IsSpoken (t ∷ ts) = is_announced t ≡ true

abbrev Stands : List Tick → Option Silence → Type 0
Stands ts None = IsSpoken ts
Stands ts (Some s) = IsLongestSilence ts s

ended_by_spoken : (s : Silence) (ts : List Tick) → IsSpoken ts → IsEnded s ts
ended_by_spoken s [] h = tt
ended_by_spoken s (t ∷ ts) h = rw h refl

head_on : (s : Silence) (t first : Tick) (ts later before : List Tick) → t ∷ ts ≡ (later ++ first ∷ []) ++ before
    → AllByRecursion (λ t. goes_on s t ≡ true) (later ++ first ∷ []) → goes_on s t ≡ true
head_on s t first ts [] before e all = let same : t ≡ first = cc in ap (goes_on s) same ∙ all.0
head_on s t first ts (x ∷ later) before e all = let same : t ≡ x = cc in ap (goes_on s) same ∙ all.0

ended_by_other : (s : Silence) (t : Tick) (ts : List Tick) → goes_on s t ≡ false → is_announced t ≡ false → IsLongestSilence ts s → IsEnded (silence_at t) ts
ended_by_other s t [] off quiet h = tt
ended_by_other s t (x ∷ ts) off quiet h =
    let on : goes_on s x ≡ true = head_on s x s.first ts h.later h.before h.parts (recursion_from_All (λ t. goes_on s t ≡ true) (h.later ++ s.first ∷ []) h.silent) in
    apart s.cause x.entry.report.cause t.entry.report.cause (is_announced x) (is_announced t) on off quiet

-- ---- one tick more

begun : (t : Tick) (ts : List Tick) (b : Bool) → is_announced t ≡ b → (is_announced t ≡ false → IsEnded (silence_at t) ts) → Stands (t ∷ ts) (cond b None (Some (silence_at t)))
begun t ts true is ended = is
begun t ts false is ended = longest_begun t ts is (ended is)

after : (t : Tick) (ts : List Tick) (o : Option Silence) → Stands ts o → Stands (t ∷ ts) (silence_after o t)
after t ts None h = begun t ts (is_announced t) refl (λ quiet. ended_by_spoken (silence_at t) ts h)
after t ts (Some s) h = by_test (goes_on s t) refl
  where
    by_test : (b : Bool) → goes_on s t ≡ b → Stands (t ∷ ts) (cond b (Some (record s { last = t })) (silence_begun t))
    by_test true is = longest_more t ts s is h
    by_test false is = begun t ts (is_announced t) refl (λ quiet. ended_by_other s t ts is quiet h)

stands : (ts : List Tick) → Stands ts (silence_of ts)
stands [] = tt
stands (t ∷ ts) = after t ts (silence_of ts) (stands ts)

pub silence_is_longest : (ts : List Tick) (s : Silence) → silence_of ts ≡ Some s → IsLongestSilence ts s
silence_is_longest ts s is = subst (Stands ts) is (stands ts)
