-- What ports tell of a leap they tell in a month's last minute, and so does a vote over them; so a
-- reader with a history holds over what is true by its last vote.
use Rattle.std.proofs.Common.{◌≡◌, ◌<◌, ◌≤◌, ℕ, zero, suc, ◌+◌, List, [], ◌∷◌, Option, Some, None, subst, refl, ap, sym, arith}
use Rattle.std.specs.Prelude.{IfSome}
use Rattle.std.proofs.lemmas.List.Elements.{All-cons, All-nil, All-tail}
use Rattle.irig_time.specs.declared.rules.Rules.{Rules}
use Rattle.irig_time.specs.declared.claim.Claim.{Claim}
use Rattle.irig_time.specs.declared.second.UtcSecond.{UtcSecond}
use Rattle.irig_time.specs.Timelines.{TimelineValue, IsSecond}
use Rattle.irig_time.specs.TimelineFaults.{IsTimeline}
use Rattle.irig_time.specs.Claims.{IsMarkedLate}
use Rattle.irig_time.proofs.ClaimedSeconds.{claim_marked}
use Rattle.irig_port.specs.declared.told.Told.{Told}
use Rattle.irig_port.specs.declared.told.Told.TheVariants as tells
use Rattle.irig_port.specs.Heard.{symbols_of}
use Rattle.irig_port.specs.declared.limits.Limits.{Limits}
use Rattle.irig_port.specs.Told.{IfClaim}
use Rattle.irig_port.specs.Limits.{widths_told_within}
use Rattle.irig_port.proofs.LimitLaws.{claim_within}
use Rattle.irig_port.proofs.CarriesLaws.{carries_is_told}
use Rattle.irig_vote.specs.Vote.{ports_of}
use Rattle.irig_vote.proofs.CountLaws.{vote_counts}
use Rattle.irig_reader.specs.History.{ReaderHistory, told_at_tick, vote_at_tick, report_at_tick, after_tick}
use Rattle.irig_reader.specs.Held.{then_none, AreMarkedLate, IsTrueSince}
use Rattle.irig_reader.proofs.VoteLaws.{of_all, all_ports}
use Rattle.irig_reader.specs.Lives.{KnowsMonthEnds}
use Rattle.irig_reader.proofs.LifeLaws.{held_is_true}

abbrev IsMarked : Told → Type 0
IsMarked told = IfClaim told IsMarkedLate

told_marked : (limits : Option Limits) (rules : Rules) (widths : List ℕ) (told : Told) → widths_told_within limits rules widths ≡ told → IsMarked told
told_marked limits rules widths (tells.Claim c) is =
    let carries = (carries_is_told rules (symbols_of widths) c).0 ((claim_within limits rules (symbols_of widths) c).0 is).0 in
    claim_marked _ _ _ c carries.claims
told_marked limits rules widths tells.Silence is = tt
told_marked limits rules widths (tells.Fault f) is = tt
told_marked limits rules widths (tells.Poor q) is = tt

vote_marked : (h : ReaderHistory) (vote : Option Claim) → vote_at_tick h ≡ vote → IfSome vote IsMarkedLate
vote_marked h None is = tt
vote_marked h (Some c) is =
    let t = told_at_tick h in
    let at : (widths : List ℕ) → IsMarked (widths_told_within h.limits h.rules widths) = λ widths. told_marked h.limits h.rules widths (widths_told_within h.limits h.rules widths) refl in
    of_all IsMarkedLate (ports_of t h.redundancy) c (all_ports IsMarked h.redundancy t (at h.fed.a) (at h.fed.b) (at h.fed.c) (at h.fed.d) (at h.fed.e)) (omega (arith, (vote_counts t h.redundancy c).0 is))

pub votes_marked : (h : ReaderHistory) → AreMarkedLate h.votes → AreMarkedLate (after_tick h).votes
votes_marked h marked = All-cons (λ vote. IfSome vote IsMarkedLate) (vote_at_tick h) h.votes (vote_marked h (vote_at_tick h) refl) marked

pub none_marked : AreMarkedLate []
none_marked = All-nil (λ vote. IfSome vote IsMarkedLate)

-- ---- a held second of a reader with a history

earlier_marked : (edges : ℕ) (vote : Option Claim) (votes : List (Option Claim)) → AreMarkedLate (then_none edges (vote ∷ votes)) → AreMarkedLate votes
earlier_marked zero vote votes marked = All-tail (λ v. IfSome v IsMarkedLate) vote votes marked
earlier_marked (suc edges) vote votes marked = earlier_marked edges vote votes (All-tail (λ v. IfSome v IsMarkedLate) None (then_none edges (vote ∷ votes)) marked)

pub held_at_tick : (t : TimelineValue) (n : ℕ) (h : ReaderHistory) (edges : ℕ) (u : UtcSecond) → IsTimeline t → KnowsMonthEnds t h.reader_rules h.table → AreMarkedLate h.votes
    → IsTrueSince t n (after_tick h).votes edges → 0 < edges → (report_at_tick h).announce ≡ Some u → IsSecond t (n + 1 + edges) u
held_at_tick t n h edges u sound knows marked since some says =
    held_is_true t h.reader_rules h.table sound knows n edges (vote_at_tick h) h.votes since.earlier since.claim u
    (earlier_marked edges (Some since.claim) since.earlier (subst AreMarkedLate since.are (votes_marked h marked))) since.truth since.are some says

-- ---- within limits

told_late : (limits : Limits) (rules : Rules) (widths : List ℕ) (told : Told) → widths_told_within (Some limits) rules widths ≡ told → IfClaim told (λ c. limits.not_before ≤ c.at.day)
told_late limits rules widths (tells.Claim c) is = ((claim_within (Some limits) rules (symbols_of widths) c).0 is).1.1
told_late limits rules widths tells.Silence is = tt
told_late limits rules widths (tells.Fault f) is = tt
told_late limits rules widths (tells.Poor q) is = tt

pub vote_late : (h : ReaderHistory) (limits : Limits) (c : Claim) → h.limits ≡ Some limits → vote_at_tick h ≡ Some c → limits.not_before ≤ c.at.day
vote_late h limits c within is =
    let t = told_at_tick h in
    let at : (widths : List ℕ) → IfClaim (widths_told_within h.limits h.rules widths) (λ x. limits.not_before ≤ x.at.day) =
    λ widths. told_late limits h.rules widths (widths_told_within h.limits h.rules widths) (ap (λ (l : Option Limits). widths_told_within l h.rules widths) (sym within)) in
    of_all (λ x. limits.not_before ≤ x.at.day) (ports_of t h.redundancy) c
    (all_ports (λ told. IfClaim told (λ x. limits.not_before ≤ x.at.day)) h.redundancy t (at h.fed.a) (at h.fed.b) (at h.fed.c) (at h.fed.d) (at h.fed.e))
    (omega (arith, (vote_counts t h.redundancy c).0 is))
