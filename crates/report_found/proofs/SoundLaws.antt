-- That what is kept is of UTC is a fact which a book may keep: if it cannot be false, it is true. So is
-- what is found.
use Rattle.std.proofs.Common.{◌≡◌, true, false, cond, Option, Some, None, List, [], ◌∷◌, ◌++◌, get_or, ℕ, zero, suc, ◌<◌, length, refl, sym, subst}
use Rattle.std.specs.Prelude.{All, IfSome, ◌==◌}
use Rattle.std.proofs.lemmas.List.Elements.{All-append, All-cons, All-nil}
use Rattle.irig_time.specs.declared.claim.Claim.{Claim}
use Rattle.irig_time.specs.declared.second.UtcSecond.{UtcSecond}
use Rattle.irig_time.specs.Next.{next_of}
use Rattle.irig_time.specs.Seconds.{IsValid}
use Rattle.irig_time.proofs.ValidLaws.{valid_if_not_wrong, not_wrong}
use Rattle.irig_port.specs.declared.told.Told.{Told}
use Rattle.irig_port.specs.declared.told.Told.TheVariants as tells
use Rattle.irig_vote.specs.Vote.{IsOfUtc}
use Rattle.report_found.specs.declared.account.Account.{Account}
use Rattle.report_found.specs.declared.account.PortAccount.{PortAccount}
use Rattle.report_found.specs.declared.finding.Finding.{Finding}
use Rattle.report_found.specs.declared.kind.Kind.{Kind}
use Rattle.report_found.specs.declared.misled.Misled.{Misled}
use Rattle.report_found.specs.declared.stretch.Silence.{Silence}
use Rattle.report_found.specs.declared.stretch.Stretch.{Stretch}
use Rattle.report_found.specs.declared.tick.Tick.{Tick}
use Rattle.report_found.specs.Accounts.{port_of}
use Rattle.report_found.specs.Findings.{lists_below, of_port, port_found, silence_found, misled_found, ended_found, open_found}
use Rattle.report_found.specs.Kinds.{same_kind}
use Rattle.report_found.specs.Soundness.{IsSoundTick, IsSoundOpen, IsSoundAccount, IsSoundFinding}
use Rattle.report_found.specs.Stretches.{ended_by, ended_silence, ended_misled}
use Rattle.report_found.specs.Ticks.{is_valid, told_by, kind_at, frame_of, frame_at, second_after, second_at}
use Rattle.report_found.proofs.TickLaws.{valid_from_test, next_is_valid}

of_utc_if : (told : Told) → ¬ ¬ IsOfUtc told → IsOfUtc told
of_utc_if (tells.Claim c) h = valid_if_not_wrong c.at h
of_utc_if tells.Silence h = tt
of_utc_if (tells.Fault f) h = tt
of_utc_if (tells.Poor q) h = tt

tick_if : (t : Tick) → ¬ ¬ IsSoundTick t → IsSoundTick t
tick_if t h = record {
  a = of_utc_if t.entry.told.a (λ no. h (λ s. no s.a));
  b = of_utc_if t.entry.told.b (λ no. h (λ s. no s.b));
  c = of_utc_if t.entry.told.c (λ no. h (λ s. no s.c));
  d = of_utc_if t.entry.told.d (λ no. h (λ s. no s.d));
  e = of_utc_if t.entry.told.e (λ no. h (λ s. no s.e));
}

open_if : (o : Option Stretch) → ¬ ¬ IsSoundOpen o → IsSoundOpen o
open_if None h = tt
open_if (Some s) h = tick_if s.first h

account_if : (x : Account) → ¬ ¬ IsSoundAccount x → IsSoundAccount x
account_if x h = record {
  a = open_if x.a.stretch (λ no. h (λ s. no s.a));
  b = open_if x.b.stretch (λ no. h (λ s. no s.b));
  c = open_if x.c.stretch (λ no. h (λ s. no s.c));
  d = open_if x.d.stretch (λ no. h (λ s. no s.d));
  e = open_if x.e.stretch (λ no. h (λ s. no s.e));
}

pub sound_at : (xs : List Account) (i : ℕ) (d : Account) → i < length xs → ∥ All IsSoundAccount xs ∥₁ → IsSoundAccount (get_or xs i d)
sound_at xs i d lt kept = account_if (get_or xs i d) (λ no. not_wrong kept (λ all. no (all i d lt)))

-- ---- what is found

frame_sound : (truth : Option Claim) → IfSome (frame_of truth) IsValid
frame_sound None = tt
frame_sound (Some claim) = elim (is_valid claim.at) as (λ b. is_valid claim.at ≡ b → IfSome (cond b (Some claim.at) None) IsValid) [
  | true ↦ λ is. valid_from_test claim.at is
  | false ↦ λ is. tt
] refl

second_sound : (truth : Option Claim) → IfSome (second_after truth) IsValid
second_sound None = tt
second_sound (Some claim) = elim (is_valid claim.at) as (λ b. is_valid claim.at ≡ b → IfSome (cond b (next_of claim.at claim.mark) None) IsValid) [
  | true ↦ λ is. next_is_valid (next_of claim.at claim.mark) claim.at claim.mark (valid_from_test claim.at is) refl
  | false ↦ λ is. tt
] refl

told_sound : (port : ℕ) (t : Tick) → IsSoundTick t → IsOfUtc (told_by port t)
told_sound port t h = elim (port == 0) as (λ b. IsOfUtc (cond b t.entry.told.a (cond (port == 1) t.entry.told.b (cond (port == 2) t.entry.told.c (cond (port == 3) t.entry.told.d t.entry.told.e))))) [
  | true ↦ h.a
  | false ↦ elim (port == 1) as (λ b. IsOfUtc (cond b t.entry.told.b (cond (port == 2) t.entry.told.c (cond (port == 3) t.entry.told.d t.entry.told.e)))) [
    | true ↦ h.b
    | false ↦ elim (port == 2) as (λ b. IsOfUtc (cond b t.entry.told.c (cond (port == 3) t.entry.told.d t.entry.told.e))) [
      | true ↦ h.c
      | false ↦ elim (port == 3) as (λ b. IsOfUtc (cond b t.entry.told.d t.entry.told.e)) [
        | true ↦ h.d
        | false ↦ h.e
      ]
    ]
  ]
]

port_sound : (port : ℕ) (x : Account) → IsSoundAccount x → IsSoundOpen (port_of port x).stretch
port_sound port x h = elim (port == 0) as (λ b. IsSoundOpen (cond b x.a (cond (port == 1) x.b (cond (port == 2) x.c (cond (port == 3) x.d x.e)))).stretch) [
  | true ↦ h.a
  | false ↦ elim (port == 1) as (λ b. IsSoundOpen (cond b x.b (cond (port == 2) x.c (cond (port == 3) x.d x.e))).stretch) [
    | true ↦ h.b
    | false ↦ elim (port == 2) as (λ b. IsSoundOpen (cond b x.c (cond (port == 3) x.d x.e)).stretch) [
      | true ↦ h.c
      | false ↦ elim (port == 3) as (λ b. IsSoundOpen (cond b x.d x.e).stretch) [
        | true ↦ h.d
        | false ↦ h.e
      ]
    ]
  ]
]

ended_sound : (o : Option Stretch) (kind : Kind) → IsSoundOpen o → IsSoundOpen (ended_by o kind)
ended_sound None kind h = tt
ended_sound (Some s) kind h = elim (same_kind s.kind kind) as (λ b. IsSoundOpen (cond b None (Some s))) [
  | true ↦ tt
  | false ↦ h
]

one_sound : (f : Finding) → IsSoundFinding f → All IsSoundFinding (f ∷ [])
one_sound f h = All-cons IsSoundFinding f [] h (All-nil IsSoundFinding)

port_found_sound : (r port : ℕ) (o : Option Stretch) → IsSoundOpen o → All IsSoundFinding (port_found r port o)
port_found_sound r port None h = All-nil IsSoundFinding
port_found_sound r port (Some s) h = one_sound (of_port r port s) (record { first = frame_sound s.first.entry.truth; last = frame_sound s.last.entry.truth; wrong = told_sound port s.first h })

silence_found_sound : (r : ℕ) (o : Option Silence) → All IsSoundFinding (silence_found r o)
silence_found_sound r None = All-nil IsSoundFinding
silence_found_sound r (Some s) = one_sound _ (record { first = second_sound s.first.entry.truth; last = second_sound s.last.entry.truth; wrong = tt })

misled_found_sound : (r : ℕ) (o : Option Misled) → All IsSoundFinding (misled_found r o)
misled_found_sound r None = All-nil IsSoundFinding
misled_found_sound r (Some m) = one_sound _ (record { first = second_sound m.first.entry.truth; last = second_sound m.last.entry.truth; wrong = tt })

below_sound : (f : ℕ → List Finding) (n : ℕ) → ((k : ℕ) → All IsSoundFinding (f k)) → All IsSoundFinding (lists_below f n)
below_sound f zero h = All-nil IsSoundFinding
below_sound f (suc n) h = All-append IsSoundFinding (lists_below f n) (f n) (below_sound f n h) (h n)

module _ (r ports : ℕ) (x : Account) (h : IsSoundAccount x) where
  all_sound : (ended : ℕ → Option Stretch) → ((port : ℕ) → IsSoundOpen (ended port)) → (s : Option Silence) (m : Option Misled)
      → All IsSoundFinding (lists_below (λ port. port_found r port (ended port)) ports ++ (silence_found r s ++ misled_found r m))
  all_sound ended each s m =
      All-append IsSoundFinding _ _ (below_sound (λ port. port_found r port (ended port)) ports (λ port. port_found_sound r port (ended port) (each port)))
      (All-append IsSoundFinding (silence_found r s) (misled_found r m) (silence_found_sound r s) (misled_found_sound r m))

  pub ended_found_sound : (t : Tick) → All IsSoundFinding (ended_found r ports x t)
  ended_found_sound t = all_sound (λ port. ended_by (port_of port x).stretch (kind_at port t)) (λ port. ended_sound (port_of port x).stretch (kind_at port t) (port_sound port x h)) (ended_silence x.silence t) (ended_misled x.misled t)

  pub open_found_sound : All IsSoundFinding (open_found r ports x)
  open_found_sound = all_sound (λ port. (port_of port x).stretch) (λ port. port_sound port x h) x.silence x.misled

-- with more of them
pub still_sound : (old new more : List Finding) → new ≡ old ++ more → All IsSoundFinding more → All IsSoundFinding old → All IsSoundFinding new
still_sound old new more is h k = subst (All IsSoundFinding) (sym is) (All-append IsSoundFinding old more k h)
