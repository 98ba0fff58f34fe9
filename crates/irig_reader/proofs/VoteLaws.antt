-- A vote is for a valid second if the ports claim valid seconds alone.
use Rattle.std.proofs.Common.{◌≡◌, ◌<◌, List, [], ◌∷◌, Option, Some, None, All, subst, sym, arith, inl, inr}
use Rattle.std.specs.Prelude.{IfSome}
use Rattle.std.proofs.lemmas.Bool.{cases_Bool}
use Rattle.std.proofs.lemmas.List.Elements.{All-cons, All-nil, All-head, All-tail}
use Rattle.irig_time.specs.declared.claim.Claim.{Claim}
use Rattle.irig_time.specs.Seconds.{IsValid}
use Rattle.irig_port.specs.declared.told.Told.{Told}
use Rattle.irig_port.specs.Told.{IfClaim}
use Rattle.irig_vote.specs.declared.redundancy.Redundancy.{Redundancy}
use Rattle.irig_vote.specs.declared.redundancy.Redundancy.TheVariants.{One, Three, Five}
use Rattle.irig_vote.specs.declared.votes.Tells.{Tells}
use Rattle.irig_vote.specs.Vote.{ports_of, carriers, is_told, vote_of}
use Rattle.irig_vote.proofs.CountLaws.{told_is, carriers-cons, none_of, vote_counts}

abbrev pub IsSound : Told → Type 0
IsSound told = IfClaim told (λ claim. IsValid claim.at)

-- a claim of which some port tells is as all claims that are told
pub of_all : (P : Claim → Type 0) (ports : List Told) (claim : Claim) → All (λ told. IfClaim told P) ports → 0 < carriers claim ports → P claim
of_all P [] claim all some = absurd (omega arith)
of_all P (told ∷ ports) claim all some =
    elim (cases_Bool (is_told claim told)) [
      | inl told_it ↦ subst (λ told. IfClaim told P) (told_is claim told told_it) (All-head (λ told. IfClaim told P) told ports all)
      | inr other ↦ of_all P ports claim (All-tail (λ told. IfClaim told P) told ports all) (omega (arith, carriers-cons claim told ports, none_of (is_told claim told) other))
    ]

pub all_ports : (P : Told → Type 0) (redundancy : Redundancy) (t : Tells) → P t.a → P t.b → P t.c → P t.d → P t.e → All P (ports_of t redundancy)
all_ports P One t a b c d e = search (All-cons P, All-nil P)
all_ports P Three t a b c d e = search (All-cons P, All-nil P)
all_ports P Five t a b c d e = search (All-cons P, All-nil P)

pub vote_valid : (redundancy : Redundancy) (t : Tells) (vote : Option Claim) → IsSound t.a → IsSound t.b → IsSound t.c → IsSound t.d → IsSound t.e
    → vote ≡ vote_of t redundancy → IfSome vote (λ claim. IsValid claim.at)
vote_valid redundancy t None a b c d e is = tt
vote_valid redundancy t (Some claim) a b c d e is =
    of_all (λ claim. IsValid claim.at) (ports_of t redundancy) claim (all_ports IsSound redundancy t a b c d e) (omega (arith, (vote_counts t redundancy claim).0 (sym is)))
