-- An open stretch is a longest run of its port's ticks.
use Rattle.std.proofs.Common.{rules, ◌≡◌, ℕ, ◌+◌, Bool, true, false, cond, List, [], ◌∷◌, ◌++◌, Option, Some, None, refl, sym, ap, ◌∙◌, ◌↔◌, subst, arith}
use Rattle.std.specs.Prelude.{◌&&◌, count_by, ⊤}
use Rattle.std.specs.List.{AllByRecursion}
use Rattle.std.proofs.lemmas.List.Elements.{recursion_from_All, All-from_recursion}
use Rattle.report_found.specs.declared.kind.Kind.{Kind}
use Rattle.report_found.specs.declared.kind.Kind.TheVariants.{Agreed}
use Rattle.report_found.specs.declared.stretch.Stretch.{Stretch}
use Rattle.report_found.specs.declared.tick.Tick.{Tick}
use Rattle.report_found.specs.Kinds.{same_kind}
use Rattle.report_log.specs.Offsets.{same_offset}
use Rattle.report_found.specs.Ticks.{kind_at, is_announced, is_untrue, offset_at}
use Rattle.report_found.specs.Stretches.{one_if, begun, more, stretch_past, stretch_after, stretch_of}
use Rattle.report_found.specs.LongestRuns.{IsBroken, IsLongest}
use Rattle.report_found.proofs.CountLaws.{count_more}

same_itself : (k : Kind) → same_kind k k ≡ true
same_itself k = search rules

-- ---- one that begins

-- of one tick
alone : (test : Tick → Bool) (t : Tick) → one_if (test t) ≡ count_by test (t ∷ [])
alone test t = let e : count_by test (t ∷ []) ≡ 0 + one_if (test t) = count_more test t [] in omega (arith, e)

longest_begun : (port : ℕ) (t : Tick) (ts : List Tick) → same_kind (kind_at port t) Agreed ≡ false → IsBroken port (kind_at port t) ts → IsLongest port (t ∷ ts) (begun (kind_at port t) t)
longest_begun port t ts wrong broken = record {
  later = [];
  before = ts;
  parts = refl;
  kinds = All-from_recursion (λ x. same_kind (kind_at port t) (kind_at port x) ≡ true) (t ∷ []) (same_itself (kind_at port t), tt);
  broken = broken;
  wrong = wrong;
  last = refl;
  steady = refl;
  announced = alone is_announced t;
  untrue = alone is_untrue t;
}

-- ---- one that goes on

longest_more : (port : ℕ) (t : Tick) (ts : List Tick) (s : Stretch) → same_kind s.kind (kind_at port t) ≡ true → IsLongest port ts s → IsLongest port (t ∷ ts) (more port s t)
longest_more port t ts s same h = record {
  later = t ∷ h.later;
  before = h.before;
  parts = ap (λ ts. t ∷ ts) h.parts;
  kinds = All-from_recursion (λ t. same_kind s.kind (kind_at port t) ≡ true) (t ∷ (h.later ++ s.first ∷ [])) (same, recursion_from_All (λ t. same_kind s.kind (kind_at port t) ≡ true) (h.later ++ s.first ∷ []) h.kinds);
  broken = h.broken;
  wrong = h.wrong;
  last = refl;
  steady = ap (λ b. same_offset (offset_at port s.first) (offset_at port t) && b) h.steady;
  announced = ap (λ n. n + one_if (is_announced t)) h.announced ∙ sym (count_more is_announced t (h.later ++ s.first ∷ []));
  untrue = ap (λ n. n + one_if (is_untrue t)) h.untrue ∙ sym (count_more is_untrue t (h.later ++ s.first ∷ []));
}

-- ---- what stands when none is open

-- the newest tick is agreed, or there is none
abbrev IsAgreed : ℕ → List Tick → Type 0
IsAgreed port [] = ⊤
IsAgreed port (t ∷ ts) = same_kind (kind_at port t) Agreed ≡ true

abbrev Stands : ℕ → List Tick → Option Stretch → Type 0
Stands port ts None = IsAgreed port ts
Stands port ts (Some s) = IsLongest port ts s

other_kind : (a b : Kind) → same_kind a Agreed ≡ false → same_kind b Agreed ≡ true → same_kind a b ≡ false
other_kind a b h k = search rules

broken_by_agreed : (port : ℕ) (kind : Kind) (ts : List Tick) → same_kind kind Agreed ≡ false → IsAgreed port ts → IsBroken port kind ts
broken_by_agreed port kind [] wrong h = tt
broken_by_agreed port kind (t ∷ ts) wrong h = other_kind kind (kind_at port t) wrong h

same_is : (a b : Kind) → same_kind a b ≡ true → a ≡ b
same_is a b h = search rules

other_way : (a b : Kind) → same_kind a b ≡ false → same_kind b a ≡ false
other_way a b h = search rules

head_kind : (port : ℕ) (kind : Kind) (t first : Tick) (ts later before : List Tick) → t ∷ ts ≡ (later ++ first ∷ []) ++ before
    → AllByRecursion (λ t. same_kind kind (kind_at port t) ≡ true) (later ++ first ∷ []) → same_kind kind (kind_at port t) ≡ true
head_kind port kind t first ts [] before e all = let same : t ≡ first = cc in ap (λ t. same_kind kind (kind_at port t)) same ∙ all.0
head_kind port kind t first ts (x ∷ later) before e all = let same : t ≡ x = cc in ap (λ t. same_kind kind (kind_at port t)) same ∙ all.0

broken_by_other : (port : ℕ) (kind : Kind) (ts : List Tick) (s : Stretch) → same_kind s.kind kind ≡ false → IsLongest port ts s → IsBroken port kind ts
broken_by_other port kind [] s other h = tt
broken_by_other port kind (t ∷ ts) s other h =
    let same : s.kind ≡ kind_at port t = same_is s.kind (kind_at port t) (head_kind port s.kind t s.first ts h.later h.before h.parts (recursion_from_All (λ t. same_kind s.kind (kind_at port t) ≡ true) (h.later ++ s.first ∷ []) h.kinds)) in
    ap (same_kind kind) (sym same) ∙ other_way s.kind kind other

-- ---- one tick more

past : (port : ℕ) (t : Tick) (ts : List Tick) (o : Option Stretch) → same_kind (kind_at port t) Agreed ≡ false → Stands port ts o → IsLongest port (t ∷ ts) (stretch_past port o t)
past port t ts None wrong h = longest_begun port t ts wrong (broken_by_agreed port (kind_at port t) ts wrong h)
past port t ts (Some s) wrong h = by_test (same_kind s.kind (kind_at port t)) refl
  where
    by_test : (b : Bool) → same_kind s.kind (kind_at port t) ≡ b → IsLongest port (t ∷ ts) (cond b (more port s t) (begun (kind_at port t) t))
    by_test true is = longest_more port t ts s is h
    by_test false is = longest_begun port t ts wrong (broken_by_other port (kind_at port t) ts s is h)

after : (port : ℕ) (t : Tick) (ts : List Tick) (o : Option Stretch) → Stands port ts o → Stands port (t ∷ ts) (stretch_after port o t)
after port t ts o h = by_test (same_kind (kind_at port t) Agreed) refl
  where
    by_test : (b : Bool) → same_kind (kind_at port t) Agreed ≡ b → Stands port (t ∷ ts) (cond b None (Some (stretch_past port o t)))
    by_test true is = is
    by_test false is = past port t ts o is h

stands : (port : ℕ) (ts : List Tick) → Stands port ts (stretch_of port ts)
stands port [] = tt
stands port (t ∷ ts) = after port t ts (stretch_of port ts) (stands port ts)

-- ---- the laws

pub open_is_longest : (port : ℕ) (ts : List Tick) (s : Stretch) → stretch_of port ts ≡ Some s → IsLongest port ts s
open_is_longest port ts s is = subst (Stands port ts) is (stands port ts)

pub none_is_agreed : (port : ℕ) (t : Tick) (ts : List Tick) → (stretch_of port (t ∷ ts) ≡ None) ↔ (kind_at port t ≡ Agreed)
none_is_agreed port t ts = (to, back)
  where
    to : stretch_of port (t ∷ ts) ≡ None → kind_at port t ≡ Agreed
    to none = same_is (kind_at port t) Agreed (subst (Stands port (t ∷ ts)) none (stands port (t ∷ ts)))

    back : kind_at port t ≡ Agreed → stretch_of port (t ∷ ts) ≡ None
    back is = ap (λ k. cond (same_kind k Agreed) None (Some (stretch_past port (stretch_of port ts) t))) is
