-- What an entry announces by a vote, by what the ports tell at its own tick; and what they heard if
-- it is false.
use Rattle.std.proofs.Common.{◌≡◌, ◌↔◌, ℕ, ◌+◌, ◌<◌, ◌≤◌, true, false, List, [], ◌∷◌, ◌++◌, length, Option, Some, None, inl, inr, ◌⊎◌, refl, sym, ap, subst, ◌∙◌, arith}
use Rattle.std.specs.Prelude.{All}
use Rattle.std.proofs.lemmas.Bool.{false≢true, cases_Bool}
use Rattle.irig_time.specs.declared.second.UtcSecond.{UtcSecond}
use Rattle.irig_time.specs.declared.claim.Claim.{Claim}
use Rattle.irig_time.specs.Claims.{same_claim}
use Rattle.irig_time.specs.Timelines.{TimelineValue, second_at, truth_at, IsTrueClaim}
use Rattle.irig_time.specs.TimelineFaults.{IsTimeline}
use Rattle.irig_time.proofs.SecondAt.{second_is, claim_is}
use Rattle.irig_port.specs.declared.told.Told.{Told}
use Rattle.irig_port.specs.Heard.{symbols_of}
use Rattle.irig_port.specs.Told.{told_of_widths}
use Rattle.irig_port.proofs.CarriesLaws.{carries_is_told}
use Rattle.irig_vote.specs.Vote.{ports_in, ports_of, is_told, carriers, redundancy_of}
use Rattle.irig_vote.proofs.CountLaws.{told_is, same_is, same_itself, vote_counts}
use Rattle.irig_reader.specs.declared.report.Cause.TheVariants.{Voted}
use Rattle.irig_reader.specs.Rule.{state_of}
use Rattle.irig_reader.specs.History.{told_at_tick, vote_at_tick}
use Rattle.irig_reader.proofs.CleanHearing.{ports_are}
use Rattle.irig_reader.proofs.OneEdge.{voted_seconds, misled}
use Rattle.irig_plant.specs.declared.event.Event.{Event}
use Rattle.irig_plant.specs.declared.event.Event.TheVariants.{Tick}
use Rattle.irig_plant.specs.declared.entry.Entry.{Entry}
use Rattle.irig_plant.specs.Schedule.{Setup, setup_at, heard_at, ticks_of, votes_of, history_of, entry_of, log_of}
use Rattle.irig_plant.specs.Audits.{is_broken_now}
use Rattle.irig_vote.specs.Counts.{AtLeast}
use Rattle.irig_plant.specs.Ports.{f_in, HasHeard, IsUntruePort}
use Rattle.irig_plant.specs.Truth.{IsTruthful}
use Rattle.irig_plant.specs.OwnEdge.{IsCleanNow, IsCleanAt, IsTrueByItsEdge, HasFalseMajority, HasItsMajority}
use Rattle.irig_vote.proofs.NumberedLaws.{at_least}
use Rattle.irig_plant.proofs.PortLaws.{kept_by_ports}
use Rattle.irig_plant.proofs.ExactLaws.{log_at}

-- ---- what ports heard

abbrev told_by : Setup → ℕ → List Event → ℕ → Told
told_by s r ev p = told_of_widths s.rules (heard_at s r p ev)

same_or_other : (o : Option Claim) (c : Claim) → (o ≡ Some c) ⊎ (¬ (o ≡ Some c))
same_or_other None c = inr (λ e. cc)
same_or_other (Some d) c =
    elim (cases_Bool (same_claim d c)) [
      | inl same ↦ inl (ap (λ (x : Claim). let o : Option Claim = Some x in o) (same_is d c same))
      | inr other ↦ inr (λ e. let is : d ≡ c = cc in false≢true (sym other ∙ subst (λ (x : Claim). same_claim d x ≡ true) is (same_itself d)))
    ]

module _ (s : Setup) (r : ℕ) (ev : List Event) where
  abbrev ports : List Told
  ports = ports_of (told_at_tick (history_of s r ev)) (redundancy_of (length s.generators))

  -- so many ports tell a claim exactly if so many heard what carries it
  pub claim_heard : (c : Claim) → (f_in s + 1 ≤ carriers c ports) ↔ AtLeast (f_in s + 1) (λ p. HasHeard s r p ev c)
  claim_heard c =
      let count : ℕ = ports_in (redundancy_of (length s.generators)) in
      let right : (p : ℕ) → HasHeard s r p ev c → (p < count) × (is_told c (told_by s r ev p) ≡ true) =
      λ p h. (h.port, ap (is_told c) ((carries_is_told s.rules (symbols_of (heard_at s r p ev)) c).1 h.carries) ∙ same_itself c) in
      let fits : (p : ℕ) → p < count → is_told c (told_by s r ev p) ≡ true → HasHeard s r p ev c =
      λ p low told. record { port = low; carries = (carries_is_told s.rules (symbols_of (heard_at s r p ev)) c).0 (told_is c (told_by s r ev p) told) } in
      let counts = at_least (is_told c) (told_by s r ev) (λ p. HasHeard s r p ev c) count right fits (f_in s + 1) in
      let tell = ap (carriers c) (ports_are (told_by s r ev) (redundancy_of (length s.generators))) in
      (λ h. counts.0 (omega (arith, h, tell)), λ h. omega (arith, counts.1 h, tell))

  -- a tick is clean exactly if each claim that f + 1 ports heard is true there
  pub clean_by_ports : IsCleanNow s r ev ↔ ((c : Claim) → AtLeast (f_in s + 1) (λ p. HasHeard s r p ev c) → IsTrueClaim s.times (ticks_of r ev + 1) c)
  clean_by_ports = (
    λ clean c many. (claim_is s.times (ticks_of r ev) c).0 (clean.no_other c ((claim_heard c).1 many)),
    λ each. record { no_other = λ c enough. (claim_is s.times (ticks_of r ev) c).1 (each c ((claim_heard c).0 enough)) },
  )

  -- one that is not broken is clean
  pub kept_is_clean : is_broken_now s r ev ≡ false → IsCleanNow s r ev
  kept_is_clean kept = record { no_other = at }
    where
      at : (c : Claim) → f_in s + 1 ≤ carriers c ports → truth_at s.times (ticks_of r ev) ≡ Some c
      at c enough =
          elim (same_or_other (truth_at s.times (ticks_of r ev)) c) [
            | inl same ↦ same
            | inr other ↦
                let heard : AtLeast (f_in s + 1) (λ p. HasHeard s r p ev c) = (claim_heard c).0 enough in
                let untrue : All (IsUntruePort s r ev) heard.numbers = λ i d low. record {
                  claim = c;
                  heard = heard.such i d low;
                  untrue = λ is. other ((claim_is s.times (ticks_of r ev) c).1 is);
                } in
                absurd (omega (arith, heard.many, (kept_by_ports s r ev).0 kept heard.numbers heard.rising untrue))
          ]

  -- and exactly if it has no vote, or the true one
  pub clean_by_vote : IsCleanNow s r ev ↔ ((vote_at_tick (history_of s r ev) ≡ None) ⊎ (vote_at_tick (history_of s r ev) ≡ truth_at s.times (ticks_of r ev)))
  clean_by_vote = (λ clean. at_most (vote_at_tick (history_of s r ev)) refl clean, λ vote. record { no_other = λ c enough. told c enough vote })
    where
      at_most : (vote : Option Claim) → vote_at_tick (history_of s r ev) ≡ vote → IsCleanNow s r ev → (vote_at_tick (history_of s r ev) ≡ None) ⊎ (vote_at_tick (history_of s r ev) ≡ truth_at s.times (ticks_of r ev))
      at_most None is clean = inl is
      at_most (Some c) is clean = inr (is ∙ sym (clean.no_other c ((vote_counts (told_at_tick (history_of s r ev)) (redundancy_of (length s.generators)) c).0 is)))

      told : (c : Claim) → f_in s + 1 ≤ carriers c ports → (vote_at_tick (history_of s r ev) ≡ None) ⊎ (vote_at_tick (history_of s r ev) ≡ truth_at s.times (ticks_of r ev)) → truth_at s.times (ticks_of r ev) ≡ Some c
      told c enough vote =
          let is : vote_at_tick (history_of s r ev) ≡ Some c = (vote_counts (told_at_tick (history_of s r ev)) (redundancy_of (length s.generators)) c).1 enough in
          elim vote [
            | inl none ↦ let clash : ◌≡◌ {A = Option Claim} None (Some c) = sym none ∙ is in absurd cc
            | inr same ↦ sym same ∙ is
          ]

  -- one that is not clean has its false majority
  pub unclean_majority : ¬ IsCleanNow s r ev → HasFalseMajority s r (ticks_of r ev + 1) (Tick r ∷ ev)
  unclean_majority unclean = of (vote_at_tick (history_of s r ev)) refl
    where
      of : (vote : Option Claim) → vote_at_tick (history_of s r ev) ≡ vote → HasFalseMajority s r (ticks_of r ev + 1) (Tick r ∷ ev)
      of None is = absurd (unclean (clean_by_vote.1 (inl is)))
      of (Some c) is = record {
        later = [];
        earlier = ev;
        tick = refl;
        edge = refl;
        claim = c;
        ports = (claim_heard c).0 ((vote_counts (told_at_tick (history_of s r ev)) (redundancy_of (length s.generators)) c).0 is);
        untrue = λ true_claim. unclean (clean_by_vote.1 (inr (is ∙ sym ((claim_is s.times (ticks_of r ev) c).1 true_claim))));
      }

-- and none that is clean
pub clean_unlied : (s : Setup) (r n : ℕ) (ev : List Event) → IsCleanAt s r n ev → ¬ HasFalseMajority s r n ev
clean_unlied s r n ev clean h =
    let now : IsCleanNow s r h.earlier = clean.ticks h.later h.earlier h.tick (sym h.edge) in
    h.untrue (subst (λ (k : ℕ). IsTrueClaim s.times k h.claim) (sym h.edge) ((clean_by_ports s r h.earlier).0 now h.claim h.ports))

-- ---- entries

-- an entry that is not truthful announces a second that is not T of its edge
pub false_second : (t : TimelineValue) (e : Entry) → ¬ IsTruthful t e → (u : UtcSecond) × (e.report.announce ≡ Some u) × ¬ (second_at t e.edge ≡ Some u)
false_second t e untrue = of e.report.announce refl
  where
    of : (o : Option UtcSecond) → e.report.announce ≡ o → (u : UtcSecond) × (e.report.announce ≡ Some u) × ¬ (second_at t e.edge ≡ Some u)
    of None is = absurd (untrue (record { second = λ u says. absurd (let clash : ◌≡◌ {A = Option UtcSecond} None (Some u) = sym is ∙ says in cc) }))
    of (Some u) is = (
      u,
      is,
      λ at.
          untrue (record {
            second = λ v says.
                let both : ◌≡◌ {A = Option UtcSecond} (Some u) (Some v) = sym is ∙ says in
                let same : u ≡ v = cc in
                subst (λ (w : UtcSecond). second_at t e.edge ≡ Some w) same at;
          }),
    )

pub true_by_own_edge : (s : Setup) (ev : List Event) → IsTimeline s.times → All (IsTrueByItsEdge s ev) (log_of s ev)
true_by_own_edge s ev sound = log_at s ev (IsTrueByItsEdge s ev) each [] ev refl
  where
    each : (r : ℕ) (later earlier : List Event) → ev ≡ later ++ (Tick r ∷ earlier) → IsTrueByItsEdge s ev (entry_of s r earlier)
    each r later earlier is = record {
      voted = λ clean voted. record {
        second = λ u says.
            (second_is s.times (ticks_of r earlier + 1) u).1
            (voted_seconds s.times (ticks_of r earlier) (setup_at s.readers r).rules (setup_at s.readers r).table (state_of (setup_at s.readers r).rules (setup_at s.readers r).table (votes_of s r earlier))
            (told_at_tick (history_of s r earlier)) (redundancy_of (length s.generators)) u sound (clean.ticks later earlier is refl) voted says);
      };
    }

pub false_by_majority : (s : Setup) (ev : List Event) → IsTimeline s.times → All (HasItsMajority s ev) (log_of s ev)
false_by_majority s ev sound = log_at s ev (HasItsMajority s ev) each [] ev refl
  where
    each : (r : ℕ) (later earlier : List Event) → ev ≡ later ++ (Tick r ∷ earlier) → HasItsMajority s ev (entry_of s r earlier)
    each r later earlier is = record { false_vote = by_majority }
      where
        by_majority : (entry_of s r earlier).report.cause ≡ Voted → ¬ IsTruthful s.times (entry_of s r earlier) → HasFalseMajority s r (ticks_of r earlier + 1) ev
        by_majority voted untrue =
            let says = false_second s.times (entry_of s r earlier) untrue in
            let lie =
            misled s.times (ticks_of r earlier) (setup_at s.readers r).rules (setup_at s.readers r).table (state_of (setup_at s.readers r).rules (setup_at s.readers r).table (votes_of s r earlier))
            (told_at_tick (history_of s r earlier)) (redundancy_of (length s.generators)) says.0 sound voted says.1
            (λ at. says.2 ((second_is s.times (ticks_of r earlier + 1) says.0).1 at)) in
            record {
              later = later;
              earlier = earlier;
              tick = is;
              edge = refl;
              claim = lie.0;
              ports = (claim_heard s r earlier lie.0).0 lie.1;
              untrue = λ true_claim. lie.2 ((claim_is s.times (ticks_of r earlier) lie.0).1 true_claim);
            }
