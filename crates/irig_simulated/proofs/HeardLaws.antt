-- The pulses that a device hears, kept one after another.
use Rattle.std.proofs.Common.{◌≡◌, ◌∙◌, ℕ, zero, suc, ◌-◌, ◌<◌, ◌≤◌, true, false, List, [], ◌++◌, append_assoc, append-nil, Option, refl, sym, ap, inl, inr}
use Rattle.std.specs.Prelude.{nat_lt, map, reverse}
use Rattle.std.proofs.lemmas.Bool.{cases_Bool, le-ltb, lt-ltb}
use Rattle.std.proofs.lemmas.List.{map-append, reverse-append}
use Rattle.irig_frame.specs.declared.symbol.Symbol.{Symbol}
use Rattle.irig_timekeeper.specs.Life.{Call}
use Rattle.irig_wires.specs.declared.wires.Coming.{Coming}
use Rattle.irig_wires.specs.declared.wires.Happening.{Happening}
use Rattle.irig_wires.specs.declared.wires.Happening.TheVariants as happens
use Rattle.irig_simulated.specs.declared.heard.HeardPulse.{HeardPulse}
use Rattle.irig_simulated.specs.declared.heard.HeardPulses.{HeardPulses}
use Rattle.irig_simulated.specs.Kinds.{Kind}
use Rattle.irig_simulated.specs.Courses.{Course, coming, happened, most_in, passed, played, stepped}
use Rattle.irig_simulated.specs.Heard.{HaveMore, call_of, heard_by, heard_of_most, heard_until, pulses_told}

-- ---- pulses that are kept

-- these were kept so far, and with the rest they are all
pub record HeardSoFar (old now : HeardPulses) (rest whole : List HeardPulse) : Type 0 where
  pub more : List HeardPulse
  pub kept : HaveMore old now more
  pub all : more ++ rest ≡ whole

pub none_yet : (h : HeardPulses) (rest whole : List HeardPulse) → rest ≡ whole → HeardSoFar h h rest whole
none_yet h rest whole all = record {
  more = [];
  kept = record { keeps = refl; pulses = λ keeps. sym (append-nil h.pulses.items) };
  all = all;
}

then_more : (a b c : HeardPulses) (first next : List HeardPulse) → HaveMore a b first → HaveMore b c next → HaveMore a c (first ++ next)
then_more a b c first next one two = record {
  keeps = two.keeps ∙ one.keeps;
  pulses = λ keeps. two.pulses (one.keeps ∙ keeps) ∙ ap (λ (l : List HeardPulse). l ++ next) (one.pulses keeps) ∙ append_assoc a.pulses.items first next;
}

pub more_heard : (a b c : HeardPulses) (part rest left whole : List HeardPulse) → HeardSoFar a b rest whole → HaveMore b c part → rest ≡ part ++ left → HeardSoFar a c left whole
more_heard a b c part rest left whole so new is = record {
  more = so.more ++ part;
  kept = then_more a b c so.more part so.kept new;
  all = append_assoc so.more part left ∙ ap (λ (l : List HeardPulse). so.more ++ l) (sym is) ∙ so.all;
}

pub all_heard : (a b : HeardPulses) (rest whole : List HeardPulse) → HeardSoFar a b rest whole → rest ≡ [] → HaveMore a b whole
all_heard a b rest whole so none =
    let all : so.more ≡ whole = sym (append-nil so.more) ∙ ap (λ (l : List HeardPulse). so.more ++ l) (sym none) ∙ so.all in
    record { keeps = so.kept.keeps; pulses = λ keeps. so.kept.pulses keeps ∙ ap (λ (l : List HeardPulse). a.pulses.items ++ l) all }

-- ---- time passes

module _ (k : Kind) (r : ℕ) (signal : (line element : ℕ) → Option Symbol) (stop : ℕ) where
  pub heard_done : (most : ℕ) (x : Course) → stop ≤ (coming x).time_us → heard_of_most k r signal stop most x ≡ []
  heard_done zero x done = refl
  heard_done (suc most) x done = (let no : nat_lt (coming x).time_us stop ≡ false = le-ltb (coming x).time_us stop done in rw no refl)

  pub heard_on : (most : ℕ) (x : Course) → (coming x).time_us < stop → heard_of_most k r signal stop (suc most) x ≡ heard_by r (coming x).time_us (coming x).what ++ heard_of_most k r signal stop most (stepped k signal x)
  heard_on most x less = (let yes : nat_lt (coming x).time_us stop ≡ true = lt-ltb (coming x).time_us stop less in rw yes refl)

  -- what comes next is heard, and then the rest
  pub heard_next : (most all : ℕ) (x : Course) (next : Coming) → next ≡ coming x → all ≡ suc most → (coming x).time_us < stop → heard_of_most k r signal stop all x ≡ heard_by r next.time_us next.what ++ heard_of_most k r signal stop most (stepped k signal x)
  heard_next most all x next is one less = ap (λ (n : ℕ). heard_of_most k r signal stop n x) one ∙ heard_on most x less ∙ ap (λ (n : Coming). heard_by r n.time_us n.what ++ heard_of_most k r signal stop most (stepped k signal x)) (sym is)

  -- ---- what is heard is what calls tell

  -- newest first, as calls are
  abbrev calls_of : List HeardPulse → List Call
  calls_of pulses = reverse (map (call_of k) pulses)

  told_happened : (what : Happening) (x : Course) → pulses_told (happened k signal what x).calls ≡ calls_of (heard_by r x.now what) ++ pulses_told x.calls
  told_happened (happens.End e) x = refl
  told_happened happens.Tick x = refl
  told_happened happens.Send x = refl

  joined : (one two : List HeardPulse) (before : List Call) → calls_of two ++ (calls_of one ++ before) ≡ calls_of (one ++ two) ++ before
  joined one two before =
      sym (append_assoc (calls_of two) (calls_of one) before)
      ∙ ap (λ (l : List Call). l ++ before) (sym (reverse-append (map (call_of k) one) (map (call_of k) two)) ∙ ap (λ (l : List Call). reverse l) (sym (map-append (call_of k) one two)))

  told_of_most : (most : ℕ) (x : Course) → pulses_told (played k signal stop most x).calls ≡ calls_of (heard_of_most k r signal stop most x) ++ pulses_told x.calls
  told_of_most zero x = refl
  told_of_most (suc most) x = elim (cases_Bool (nat_lt (coming x).time_us stop)) [
    | inr done ↦ rw done refl
    | inl less ↦
        let now = (coming x).time_us in
        let here = heard_by r now (coming x).what in
        let rest = heard_of_most k r signal stop most (stepped k signal x) in
        let first : pulses_told (stepped k signal x).calls ≡ calls_of here ++ pulses_told x.calls = told_happened (coming x).what (record x { now = now }) in
        rw less (told_of_most most (stepped k signal x) ∙ ap (λ (l : List Call). calls_of rest ++ l) first ∙ joined here rest (pulses_told x.calls))
  ]

  pub told_until : (x : Course) → pulses_told (passed k signal stop x).calls ≡ calls_of (heard_until k r signal stop x) ++ pulses_told x.calls
  told_until x = told_of_most (most_in (stop - x.now)) x
