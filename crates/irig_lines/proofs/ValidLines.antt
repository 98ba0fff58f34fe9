-- What lines keep claims seconds of UTC.
use Rattle.std.proofs.Common.{ℕ, Bool, true, false, cond, List, [], ◌∷◌, Option, Some, None}
use Rattle.std.specs.Prelude.{◌==◌, IfSome}
use Rattle.std.proofs.Math.Logic.{∥∥₁_map}
use Rattle.irig_time.proofs.ValidLaws.{still_valid}
use Rattle.irig_sync.specs.Sync.{clock_gap}
use Rattle.irig_time.specs.Seconds.{IsValid}
use Rattle.irig_port.specs.declared.told.Told.{Told}
use Rattle.irig_port.specs.declared.told.Told.TheVariants as tells
use Rattle.irig_port.specs.Told.{IfClaim}
use Rattle.std.specs.Prelude.{nat_le}
use Rattle.irig_lines.specs.declared.lines.KeptFrame.{KeptFrame}
use Rattle.irig_lines.specs.declared.lines.KeptClaim.{KeptClaim}
use Rattle.irig_lines.specs.declared.lines.Line.{Line}
use Rattle.irig_lines.specs.declared.lines.Lines.{Lines}
use Rattle.irig_lines.specs.declared.lines.Vote.{Vote}
use Rattle.irig_lines.specs.declared.setup.ClockRules.{ClockRules}
use Rattle.irig_lines.specs.Widths.{half_us, reach_us}
use Rattle.irig_vote.specs.Vote.{f_of}
use Rattle.irig_lines.specs.Counting.{is_late, has_come}
use Rattle.irig_lines.specs.Steps.{IsKeptOfUtc, AreKeptOfUtc, line_at, with_line, still_kept, settled, taken, claim_told, claim_kept, all_kept, last_us, is_candidate, earlier, first_candidate, vote_with, agreed, if_come}

told_valid : (told : Told) → ∥ IfClaim told (λ c. IsValid c.at) ∥₁ → IfClaim told (λ c. IsValid c.at)
told_valid (tells.Claim c) k = still_valid c.at k
told_valid tells.Silence k = tt
told_valid (tells.Fault f) k = tt
told_valid (tells.Poor q) k = tt

frame_valid : (frame : Option KeptFrame) → ∥ IsKeptOfUtc frame ∥₁ → IsKeptOfUtc frame
frame_valid None k = tt
frame_valid (Some x) k = told_valid x.told k

pub all_valid : (lines : Lines) → ∥ AreKeptOfUtc lines ∥₁ → AreKeptOfUtc lines
all_valid lines k = record {
  a = frame_valid lines.a.frame (∥∥₁_map k (λ v. v.a));
  b = frame_valid lines.b.frame (∥∥₁_map k (λ v. v.b));
  c = frame_valid lines.c.frame (∥∥₁_map k (λ v. v.c));
  d = frame_valid lines.d.frame (∥∥₁_map k (λ v. v.d));
  e = frame_valid lines.e.frame (∥∥₁_map k (λ v. v.e));
}

-- by a test, either of two
either : {A : Type 0} (P : A → Type 0) (b : Bool) (x y : A) → P x → P y → P (cond b x y)
either P true x y p q = p
either P false x y p q = q

pub line_valid : (lines : Lines) (port : ℕ) → AreKeptOfUtc lines → IsKeptOfUtc (line_at lines port).frame
line_valid lines port v =
    let P : Line → Type 0 = λ line. IsKeptOfUtc line.frame in
    either P (port == 0) lines.a _ v.a
    (either P (port == 1) lines.b _ v.b
    (either P (port == 2) lines.c _ v.c
    (either P (port == 3) lines.d lines.e v.d v.e)))

pub with_valid : (lines : Lines) (port : ℕ) (line : Line) → AreKeptOfUtc lines → IsKeptOfUtc line.frame → AreKeptOfUtc (with_line lines port line)
with_valid lines port line v one =
    either AreKeptOfUtc (port == 0) (record lines { a = line }) _ (record { a = one; b = v.b; c = v.c; d = v.d; e = v.e })
    (either AreKeptOfUtc (port == 1) (record lines { b = line }) _ (record { a = v.a; b = one; c = v.c; d = v.d; e = v.e })
    (either AreKeptOfUtc (port == 2) (record lines { c = line }) _ (record { a = v.a; b = v.b; c = one; d = v.d; e = v.e })
    (either AreKeptOfUtc (port == 3) (record lines { d = line }) (record lines { e = line }) (record { a = v.a; b = v.b; c = v.c; d = one; e = v.e }) (record { a = v.a; b = v.b; c = v.c; d = v.d; e = one }))))

still_valid_kept : (now : ℕ) (kept : Option KeptFrame) → IsKeptOfUtc kept → IsKeptOfUtc (still_kept now kept)
still_valid_kept now None v = tt
still_valid_kept now (Some x) v = either IsKeptOfUtc (is_late x.end_us now) None (Some x) tt v

pub settled_valid : (now : ℕ) (lines : Lines) → AreKeptOfUtc lines → AreKeptOfUtc (settled now lines)
settled_valid now lines v = record {
  a = still_valid_kept now lines.a.frame v.a;
  b = still_valid_kept now lines.b.frame v.b;
  c = still_valid_kept now lines.c.frame v.c;
  d = still_valid_kept now lines.d.frame v.d;
  e = still_valid_kept now lines.e.frame v.e;
}

pub taken_valid : (lines : Lines) → AreKeptOfUtc (taken lines)
taken_valid lines = record { a = tt; b = tt; c = tt; d = tt; e = tt }

-- ---- what they vote for

IsClaimOfUtc : Option KeptClaim → Type 0
IsClaimOfUtc kept = IfSome kept (λ k. IsValid k.claim.at)

claim_valid : (c : ClockRules) (frame : Option KeptFrame) → IsKeptOfUtc frame → IsClaimOfUtc (claim_kept c frame)
unfolding IsClaimOfUtc
claim_valid c None v = tt
claim_valid c (Some x) v = either IsClaimOfUtc x.is_even (claim_told x.told x.end_us (half_us c x.quality)) None (of x.told v) tt
  where
    of : (told : Told) → IfClaim told (λ c. IsValid c.at) → IsClaimOfUtc (claim_told told x.end_us (half_us c x.quality))
    of (tells.Claim c) v = v
    of tells.Silence v = tt
    of (tells.Fault f) v = tt
    of (tells.Poor q) v = tt

AllKept : List (Option KeptClaim) → Type 0
AllKept [] = Unit {0}
AllKept (x ∷ xs) = IsClaimOfUtc x × AllKept xs

earlier_valid : (reach : ℕ) (so_far : Option KeptClaim) (x : KeptClaim) → IsClaimOfUtc so_far → IsClaimOfUtc (Some x) → IsClaimOfUtc (earlier reach so_far x)
earlier_valid reach None x v w = w
earlier_valid reach (Some y) x v w = either IsClaimOfUtc (nat_le (clock_gap (last_us y) (last_us x)) reach) (Some y) (Some x) v w

first_valid : (reach f : ℕ) (all xs : List (Option KeptClaim)) (so_far : Option KeptClaim) → AllKept xs → IsClaimOfUtc so_far → IsClaimOfUtc (first_candidate reach f all xs so_far)
unfolding AllKept
first_valid reach f all [] so_far v w = w
first_valid reach f all (None ∷ xs) so_far v w = first_valid reach f all xs so_far v.1 w
first_valid reach f all (Some x ∷ xs) so_far v w =
    first_valid reach f all xs _ v.1 (either IsClaimOfUtc (is_candidate f x all) (earlier reach so_far x) so_far (earlier_valid reach so_far x w v.0) w)

IsVoteOfUtc : Option Vote → Type 0
IsVoteOfUtc vote = IfSome vote (λ v. IsValid v.claim.at)

no_vote : IsVoteOfUtc None
unfolding IsVoteOfUtc
no_vote = tt

vote_valid : (reach d f : ℕ) (all : List (Option KeptClaim)) (first : Option KeptClaim) → IsClaimOfUtc first → IsVoteOfUtc (vote_with reach d f all first)
unfolding IsClaimOfUtc IsVoteOfUtc
vote_valid reach d f all None w = tt
vote_valid reach d f all (Some x) w = w

come_valid : (now : ℕ) (vote : Option Vote) → IsVoteOfUtc vote → IsVoteOfUtc (if_come now vote)
come_valid now None w = w
come_valid now (Some x) w = either IsVoteOfUtc (has_come x.edge_us now) (Some x) None w no_vote

nothing_valid : IsClaimOfUtc None
unfolding IsClaimOfUtc
nothing_valid = tt

pub agreed_valid : (c : ClockRules) (now : ℕ) (lines : Lines) → AreKeptOfUtc lines → IfSome (if_come now (agreed c lines)) (λ v. IsValid v.claim.at)
unfolding AllKept IsVoteOfUtc
agreed_valid c now lines v =
    come_valid now (agreed c lines) (vote_valid (reach_us c) c.drift_us (f_of c.redundancy) (all_kept c lines) (first_candidate (reach_us c) (f_of c.redundancy) (all_kept c lines) (all_kept c lines) None)
    (first_valid (reach_us c) (f_of c.redundancy) (all_kept c lines) (all_kept c lines) None
    (claim_valid c lines.a.frame v.a, (claim_valid c lines.b.frame v.b, (claim_valid c lines.c.frame v.c, (claim_valid c lines.d.frame v.d, (claim_valid c lines.e.frame v.e, tt))))) nothing_valid))
