-- The frame of a true line, as it is found: the first that does no harm.
use Rattle.std.proofs.Common.{◌≡◌, ◌∙◌, ℕ, suc, ◌+◌, ◌<◌, Bool, cond, List, [], ◌∷◌, ◌++◌, length, get_or, map, take, Option, Some, None, IfSome, refl, sym, ap, arith, inl, inr}
use Rattle.std.specs.Prelude.{option_to_list}
use Rattle.std.proofs.Math.Seq.{take-suc}
use Rattle.std.proofs.lemmas.Bool.{cases_Bool, eq-eqb}
use Rattle.std.proofs.lemmas.List.{map-append}
use Rattle.irig_frame.specs.declared.symbol.Symbol.{Symbol}
use Rattle.irig_frame.specs.Faults.{first_wrong}
use Rattle.irig_frame.proofs.ReadingLaws.{none_of}
use Rattle.irig_time.specs.declared.rules.Rules.{Rules}
use Rattle.irig_time.specs.Timelines.{TimelineValue, truth_at}
use Rattle.irig_gen.specs.declared.fault.GenFault.{GenFault}
use Rattle.irig_gen.specs.Faults.{sent_edge}
use Rattle.irig_gen.specs.Frames.{GeneratorValue, IsFrameOrNone, IsSent, IsSentFrom}
use Rattle.irig_gen.specs.Sent.{frame_of, sent_of}
use Rattle.irig_port.specs.Told.{told_of}
use Rattle.irig_witness.specs.TrueFrames.{claims_only, first_harmless, is_harmless}
use Rattle.irig_station.specs.SentSeconds.{frame_or_blank, harmless_of, plain_frame_of, true_frame_of}

-- ---- frames of generators have each symbol at its place

abbrev pub IsRightFrame : Option (List Symbol) → Type 0
IsRightFrame o = IfSome o (λ s. first_wrong 0 s ≡ None)

pub frame_right : (fault : Option GenFault) (g : GeneratorValue) (t : TimelineValue) (edge : ℕ) (o : Option (List Symbol)) → IsFrameOrNone fault g t edge o → IsRightFrame o
frame_right fault g t edge None is = tt
frame_right fault g t edge (Some s) is = none_of s is.frame.coded is.frame.reads

sent_from_right : (edge : Option ℕ) (g : GeneratorValue) (t : TimelineValue) (o : Option (List Symbol)) → IsSentFrom edge g t o → IsRightFrame o
sent_from_right None g t o is = rw is tt
sent_from_right (Some edge) g t o is = frame_right g.fault g t edge o is

pub sent_right : (g : GeneratorValue) (t : TimelineValue) (o : Option (List Symbol)) → IsSent g t o → IsRightFrame o
sent_right g t o is = sent_from_right (sent_edge g.fault g.edge g.since) g t o is

-- ---- whether a frame does harm

pub harmless_by : (rules : Rules) (t : TimelineValue) (n : ℕ) (s : List Symbol) → length s ≡ 100 → first_wrong 0 s ≡ None → is_harmless rules t n s ≡ claims_only (truth_at t n) (told_of rules s)
harmless_by rules t n s long right = rw (eq-eqb (length s) 100 long, right) refl

-- ---- the first of two

pub first_of_two : (rules : Rules) (t : TimelineValue) (g : GeneratorValue) (s : List Symbol) → harmless_of rules t g.edge (sent_of g t) ≡ Some s → true_frame_of rules t g ≡ s
first_of_two rules t g s e = go (sent_of g t) e
  where
    go : (o : Option (List Symbol)) → harmless_of rules t g.edge o ≡ Some s → first_harmless rules t g.edge (option_to_list o ++ option_to_list (frame_of None g t g.edge)) ≡ s
    go None e = absurd cc
    go (Some frame) e = elim (cases_Bool (is_harmless rules t g.edge frame)) [
      | inl good ↦ rw good (let h = rw good at e in cc)
      | inr bad ↦ absurd (let h = rw bad at e in cc)
    ]

-- what is left if the first does harm
one_left : (rules : Rules) (t : TimelineValue) (n : ℕ) (o : Option (List Symbol)) → first_harmless rules t n (option_to_list o) ≡ frame_or_blank (harmless_of rules t n o)
one_left rules t n None = refl
one_left rules t n (Some frame) = elim (cases_Bool (is_harmless rules t n frame)) [
  | inl good ↦ rw good refl
  | inr bad ↦ rw bad refl
]

pub second_of_two : (rules : Rules) (t : TimelineValue) (g : GeneratorValue) → harmless_of rules t g.edge (sent_of g t) ≡ None → true_frame_of rules t g ≡ plain_frame_of rules t g
second_of_two rules t g e = go (sent_of g t) e
  where
    go : (o : Option (List Symbol)) → harmless_of rules t g.edge o ≡ None → first_harmless rules t g.edge (option_to_list o ++ option_to_list (frame_of None g t g.edge)) ≡ plain_frame_of rules t g
    go None e = one_left rules t g.edge (frame_of None g t g.edge)
    go (Some frame) e = elim (cases_Bool (is_harmless rules t g.edge frame)) [
      | inl good ↦ absurd (let h = rw good at e in cc)
      | inr bad ↦ rw bad (one_left rules t g.edge (frame_of None g t g.edge))
    ]

-- the frame that is sent, by what a test says of it
pub sent_tested : (rules : Rules) (t : TimelineValue) (g : GeneratorValue) (s : List Symbol) (b : Bool) → Some s ≡ sent_of g t → length s ≡ 100 → first_wrong 0 s ≡ None → b ≡ claims_only (truth_at t g.edge) (told_of rules s)
    → harmless_of rules t g.edge (sent_of g t) ≡ cond b (Some s) None
sent_tested rules t g s b sent long right says =
    sym (ap (harmless_of rules t g.edge) sent) ∙ (let same : is_harmless rules t g.edge s ≡ b = harmless_by rules t g.edge s long right ∙ sym says in rw same refl)

-- ---- lists that grow by one

pub map_more : {X Y : Type 0} (f : X → Y) (xs : List X) (i : ℕ) (x : X) → i < length xs → x ≡ get_or xs i x → map f (take i xs) ++ f x ∷ [] ≡ map f (take (i + 1) xs)
map_more {X} f xs i x less is =
    let next : i + 1 ≡ suc i = omega arith in
    let last : take (suc i) xs ≡ take i xs ++ (x ∷ []) = take-suc xs i x less ∙ ap (λ (y : X). take i xs ++ (y ∷ [])) (sym is) in
    sym (map-append f (take i xs) (x ∷ [])) ∙ ap (map f) (sym last) ∙ ap (λ (n : ℕ). map f (take n xs)) (sym next)
