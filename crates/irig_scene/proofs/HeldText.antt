-- Text that a player holds before it is written.
use Rattle.std.proofs.Common.{◌≡◌, ℕ, ◌+◌, ◌-◌, ◌<◌, ◌≤◌, List, [], ◌++◌, length, Option, Some, None, refl, ap, sym, subst, ◌∙◌, arith, append-nil, append_assoc}
use Rattle.std.specs.Io.KnownBytes.{Appends}
use Rattle.std.proofs.KnownBytes.{Appends-trans, Appends-nil}
use Rattle.irig_device.specs.Watched.{AppendsPart}
use Rattle.irig_plant.specs.declared.event.Event.{Event}
use Rattle.irig_plant.specs.WholeSecond.{times}
use Rattle.text_faults.specs.declared.refusal.Refusal.{Refusal}
use Rattle.irig_scene.specs.Scene.{Scene, play}
use Rattle.irig_scene.specs.Scene.{after_events}
use Rattle.irig_scene.proofs.PlayLaws.{one_time_more, split_at, times_left}
use Rattle.irig_scene.specs.Texts.{Texts, said_in}
use Rattle.irig_scene.specs.ListenerRuns.{SaidMore, SaidPart, PlayedFor, HoldsTextOf, max_held}
use Rattle.irig_scene.proofs.PlayedLaws.{nothing_said, part_of_more, front_past, alike, goes_on, goes_on_to, stops_at}

then_part : (o0 o1 o2 : Option (List ℕ)) (front text : List ℕ) → Appends o0 o1 front → AppendsPart o1 o2 text → AppendsPart o0 o2 (front ++ text)
then_part o0 o1 o2 front text h k =
    record {
      front = front ++ k.front;
      rest = k.rest;
      whole = ap (λ (t : List ℕ). front ++ t) k.whole ∙ sym (append_assoc front k.front k.rest);
      wrote = Appends-trans o0 o1 o2 front k.front h k.wrote;
    }

-- a second may be played where nothing is yet to be written
pub empty_has_room : (text : List ℕ) → text ≡ [] → length text < max_held
empty_has_room text none = subst (λ (t : List ℕ). length t < max_held) (sym none) (omega arith)

-- nothing of it was written
pub none_written : (out : Option (List ℕ)) (text : List ℕ) → AppendsPart out out text
none_written out text = record { front = []; rest = text; whole = refl; wrote = Appends-nil out }

-- what grew from nothing and was written
own_text : (from text more : List ℕ) → from ≡ [] → text ≡ from ++ more → text ≡ more
own_text from text more none is = is ∙ ap (λ (t : List ℕ). t ++ more) none

module _ {A : Type 0} (stands : A → Scene → Type 0) (texts : Texts) where
  -- ---- text that is written

  pub as_written : (x : Scene) (es : List Event) (p q : A) (k : Option Refusal) (from text : List ℕ) (o0 o1 : Option (List ℕ))
      → from ≡ [] → PlayedFor stands texts x es p k (Some from) (Some text) → Appends o0 o1 text → ((y : Scene) → stands p y → stands q y) → PlayedFor stands texts x es q k o0 o1
  as_written x es p q k from text o0 o1 none h wrote same =
      record {
        refused = h.refused;
        stands = same (after_events x es) h.stands;
        told = record {
          text = text;
          more = h.told.more ∙ ap (λ (t : List ℕ). said_in texts x ++ t) (sym (own_text from text h.told.text none h.told.wrote));
          wrote = wrote;
        };
      }

  pub in_part : (x : Scene) (es : List Event) (p : A) (k : Option Refusal) (from text : List ℕ) (o0 o1 : Option (List ℕ))
      → from ≡ [] → PlayedFor stands texts x es p k (Some from) (Some text) → AppendsPart o0 o1 text → SaidPart texts x (after_events x es) o0 o1
  in_part x es p k from text o0 o1 none h wrote =
      record {
        text = text;
        more = h.told.more ∙ ap (λ (t : List ℕ). said_in texts x ++ t) (sym (own_text from text h.told.text none h.told.wrote));
        wrote = wrote;
      }

  -- behind what was written before
  behind : (front : List ℕ) (x : Scene) (es : List Event) (p : A) (k : Option Refusal) (a b : List ℕ)
      → PlayedFor stands texts x es p k (Some a) (Some b) → PlayedFor stands texts x es p k (Some (front ++ a)) (Some (front ++ b))
  behind front x es p k a b h =
      record {
        refused = h.refused;
        stands = h.stands;
        told = record {
          text = h.told.text;
          more = h.told.more;
          wrote = ap (λ (t : List ℕ). front ++ t) h.told.wrote ∙ sym (append_assoc front a h.told.text);
        };
      }

  -- ---- seconds, one after another

  pub none_held : (x : Scene) (es : List Event) (p : A) (text : List ℕ) (out : Option (List ℕ))
      → text ≡ [] → stands p x → HoldsTextOf stands texts x (times 0 es) p text out out
  none_held x es p text out none at =
      record {
        front = [];
        plays = subst (λ (t : List ℕ). PlayedFor stands texts x (times 0 es) p None (Some []) (Some t)) (sym none) (record { refused = refl; stands = at; told = nothing_said texts x (Some []) });
        wrote = Appends-nil out;
      }

  pub one_more_held : (x : Scene) (i : ℕ) (es : List Event) (p q : A) (a b : List ℕ) (o0 o1 : Option (List ℕ))
      → HoldsTextOf stands texts x (times i es) p a o0 o1 → PlayedFor stands texts (after_events x (times i es)) es q None (Some a) (Some b) → HoldsTextOf stands texts x (times (i + 1) es) q b o0 o1
  one_more_held x i es p q a b o0 o1 h l =
      record {
        front = h.front;
        plays = goes_on_to stands texts x (times i es) es (times (i + 1) es) p q (Some []) (Some (h.front ++ a)) (Some (h.front ++ b)) (one_time_more i es) h.plays (behind h.front (after_events x (times i es)) es q None a b l);
        wrote = h.wrote;
      }

  pub held_is_written : (x : Scene) (es : List Event) (p q : A) (a b : List ℕ) (o0 o1 o2 : Option (List ℕ))
      → HoldsTextOf stands texts x es p a o0 o1 → Appends o1 o2 a → b ≡ [] → ((y : Scene) → stands p y → stands q y) → HoldsTextOf stands texts x es q b o0 o2
  held_is_written x es p q a b o0 o1 o2 h wrote none same =
      record {
        front = h.front ++ a;
        plays = record {
          refused = h.plays.refused;
          stands = same (after_events x es) h.plays.stands;
          told = subst (λ (t : List ℕ). SaidMore texts x (after_events x es) (Some []) (Some t)) (sym (ap (λ (t : List ℕ). (h.front ++ a) ++ t) none ∙ append-nil (h.front ++ a))) h.plays.told;
        };
        wrote = Appends-trans o0 o1 o2 h.front a h.wrote wrote;
      }

  -- all of it is written
  pub all_written : (x : Scene) (es : List Event) (p q : A) (a : List ℕ) (o0 o1 o2 : Option (List ℕ))
      → HoldsTextOf stands texts x es p a o0 o1 → Appends o1 o2 a → ((y : Scene) → stands p y → stands q y) → PlayedFor stands texts x es q None o0 o2
  all_written x es p q a o0 o1 o2 h wrote same =
      as_written x es p q None [] (h.front ++ a) o0 o2 refl h.plays (Appends-trans o0 o1 o2 h.front a h.wrote wrote) same

  -- up to a second that is refused
  pub refused_written : (x : Scene) (i n : ℕ) (es : List Event) (p q r : A) (k : Refusal) (a b : List ℕ) (o0 o1 o2 : Option (List ℕ)) → i < n
      → HoldsTextOf stands texts x (times i es) p a o0 o1 → PlayedFor stands texts (after_events x (times i es)) es q (Some k) (Some a) (Some b)
      → Appends o1 o2 b → ((y : Scene) → stands q y → stands r y) → PlayedFor stands texts x (times n es) r (Some k) o0 o2
  refused_written x i n es p q r k a b o0 o1 o2 lt h l wrote same =
      let rest = times (n - (i + 1)) es in
      let whole = stops_at stands texts x (times i es) es rest p q k (Some []) (Some (h.front ++ a)) (Some (h.front ++ b)) h.plays (behind h.front (after_events x (times i es)) es q (Some k) a b l) in
      let all = alike stands texts x ((times i es ++ es) ++ rest) (times n es) q (Some k) (Some []) (Some (h.front ++ b)) (ap (λ es. play x.plan.setup es x.events) (sym (times_left i n es lt))) whole in
      as_written x (times n es) q r (Some k) [] (h.front ++ b) o0 o2 refl all (Appends-trans o0 o1 o2 h.front b h.wrote wrote) same

  -- ---- something failed

  -- a part of the text of some seconds is one of more of them
  part_goes_on : (x : Scene) (i n : ℕ) (es : List Event) (o0 o1 : Option (List ℕ)) → i ≤ n
      → SaidPart texts x (after_events x (times i es)) o0 o1 → SaidPart texts x (after_events x (times n es)) o0 o1
  part_goes_on x i n es o0 o1 le h =
      let rest = times (n - i) es in
      let sum : n ≡ i + (n - i) = omega (arith, le) in
      let whole = part_of_more texts x (after_events x (times i es)) (after_events x (times i es ++ rest)) o0 o1 h
      (front_past stands texts x (times i es) rest (play x.plan.setup (times i es) x.events).refusal refl) in
      subst (λ more. SaidPart texts x (after_events x more) o0 o1) (sym (ap (λ m. times m es) sum ∙ split_at i (n - i) es)) whole

  pub held_fails : (x : Scene) (i n : ℕ) (es : List Event) (p : A) (a : List ℕ) (o0 o1 o2 : Option (List ℕ)) → i ≤ n
      → HoldsTextOf stands texts x (times i es) p a o0 o1 → AppendsPart o1 o2 a → SaidPart texts x (after_events x (times n es)) o0 o2
  held_fails x i n es p a o0 o1 o2 le h part =
      part_goes_on x i n es o0 o2 le
      (in_part x (times i es) p None [] (h.front ++ a) o0 o2 refl h.plays (then_part o0 o1 o2 h.front a h.wrote part))

  -- in a second that was refused, or not
  pub second_is_cut : (x : Scene) (i n : ℕ) (es : List Event) (p q : A) (k : Option Refusal) (a b : List ℕ) (o0 o1 o2 : Option (List ℕ)) → i < n
      → HoldsTextOf stands texts x (times i es) p a o0 o1 → PlayedFor stands texts (after_events x (times i es)) es q k (Some a) (Some b)
      → AppendsPart o1 o2 b → SaidPart texts x (after_events x (times n es)) o0 o2
  second_is_cut x i n es p q k a b o0 o1 o2 lt h l part =
      let both = goes_on stands texts x (times i es) es p q k (Some []) (Some (h.front ++ a)) (Some (h.front ++ b)) h.plays (behind h.front (after_events x (times i es)) es q k a b l) in
      let more = alike stands texts x (times i es ++ es) (times (i + 1) es) q k (Some []) (Some (h.front ++ b)) (ap (λ es. play x.plan.setup es x.events) (sym (one_time_more i es))) both in
      part_goes_on x (i + 1) n es o0 o2 (omega (arith, lt))
      (in_part x (times (i + 1) es) q k [] (h.front ++ b) o0 o2 refl more (then_part o0 o1 o2 h.front b h.wrote part))
