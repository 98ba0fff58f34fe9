-- Events that are played one after another, and what is said of them.
use Rattle.std.proofs.Common.{◌≡◌, ℕ, ◌+◌, ◌<◌, List, [], ◌∷◌, ◌++◌, take, drop, length, Option, Some, None, Err, refl, ap, sym, subst, ◌∙◌, append-nil, append_assoc, get_or}
use Rattle.std.specs.Prelude.{option_and_then}
use Rattle.std.specs.Io.KnownBytes.{Appends}
use Rattle.std.proofs.KnownBytes.{Appends-trans, Appends-nil}
use Rattle.std.proofs.lemmas.List.{take_more, take-append-drop}
use Rattle.irig_plant.specs.declared.event.Event.{Event}
use Rattle.irig_plant.specs.Refusals.{refusal}
use Rattle.text_faults.specs.declared.refusal.Refusal.{Refusal}
use Rattle.report_run.specs.declared.stop.Stop.{Stop}
use Rattle.report_run.specs.declared.stop.Stop.TheVariants.{Refused, Failed}
use Rattle.irig_scene.specs.Scene.{Scene, scene, refusal_as, Play, play, play_by, unless_refused}
use Rattle.irig_scene.specs.Scene.{after_events}
use Rattle.irig_scene.proofs.PlayLaws.{plays_on, plays_no_further}
use Rattle.irig_scene.specs.Texts.{Texts, said, said_in}
use Rattle.irig_scene.specs.Stays.{SaidFront, front_of_play}
use Rattle.irig_scene.specs.ListenerRuns.{SaidMore, SaidPart, PlayedFor, Played}

module _ (texts : Texts) where
  -- ---- the output

  pub nothing_said : (x : Scene) (out : Option (List ℕ)) → SaidMore texts x x out out
  nothing_said x out = record { text = []; more = sym (append-nil (said_in texts x)); wrote = Appends-nil out }

  said_on : (a b c : Scene) (o0 o1 o2 : Option (List ℕ)) → SaidMore texts a b o0 o1 → SaidMore texts b c o1 o2 → SaidMore texts a c o0 o2
  said_on a b c o0 o1 o2 h k = record {
    text = h.text ++ k.text;
    more = k.more ∙ ap (λ t. t ++ k.text) h.more ∙ append_assoc (said_in texts a) h.text k.text;
    wrote = Appends-trans o0 o1 o2 _ _ h.wrote k.wrote;
  }

  said_then_part : (a b c : Scene) (o0 o1 o2 : Option (List ℕ)) → SaidMore texts a b o0 o1 → SaidPart texts b c o1 o2 → SaidPart texts a c o0 o2
  said_then_part a b c o0 o1 o2 h k = record {
    text = h.text ++ k.text;
    more = k.more ∙ ap (λ t. t ++ k.text) h.more ∙ append_assoc (said_in texts a) h.text k.text;
    wrote = record {
      front = h.text ++ k.wrote.front;
      rest = k.wrote.rest;
      whole = ap (λ t. h.text ++ t) k.wrote.whole ∙ sym (append_assoc h.text k.wrote.front k.wrote.rest);
      wrote = Appends-trans o0 o1 o2 _ _ h.wrote k.wrote.wrote;
    };
  }

  pub part_of_more : (a b c : Scene) (o0 o1 : Option (List ℕ)) → SaidPart texts a b o0 o1 → SaidFront texts b c → SaidPart texts a c o0 o1
  part_of_more a b c o0 o1 h front = record {
    text = h.text ++ front.text;
    more = front.more ∙ ap (λ t. t ++ front.text) h.more ∙ append_assoc (said_in texts a) h.text front.text;
    wrote = record {
      front = h.wrote.front;
      rest = h.wrote.rest ++ front.text;
      whole = ap (λ t. t ++ front.text) h.wrote.whole ∙ append_assoc h.wrote.front h.wrote.rest front.text;
      wrote = h.wrote.wrote;
    };
  }

  -- nothing was written of what is said of events
  pub none_said : (x : Scene) (es : List Event) (out : Option (List ℕ)) → SaidPart texts x (after_events x es) out out
  none_said x es out =
      let front = front_of_play texts x es in
      record { text = front.text; more = front.more; wrote = record { front = []; rest = front.text; whole = refl; wrote = Appends-nil out } }

-- ---- one of a list

pub one_more : (es : List Event) (i : ℕ) (e : Event) → e ≡ get_or es i e → i < length es → take (i + 1) es ≡ take i es ++ e ∷ []
one_more es i e is l = take_more es i e l ∙ ap (λ x. take i es ++ x ∷ []) (sym is)

pub all_parts : (es : List Event) (i : ℕ) (e : Event) → e ≡ get_or es i e → i < length es → es ≡ (take i es ++ e ∷ []) ++ drop (i + 1) es
all_parts es i e is l = sym (take-append-drop (i + 1) es) ∙ ap (λ t. t ++ drop (i + 1) es) (one_more es i e is l)

module _ {A : Type 0} (stands_for : A → Scene → Type 0) (texts : Texts) where
  -- ---- one event

  taken : (x : Scene) (e : Event) → refusal x.plan.setup e x.events ≡ None → play x.plan.setup (e ∷ []) x.events ≡ play_by (e ∷ x.events) None
  taken x e h = ap (λ k. unless_refused (option_and_then refusal_as k) x.events (play x.plan.setup [] (e ∷ x.events))) h

  -- an event that is taken
  pub takes_one : (x : Scene) (e : Event) (o : A) (old new : Option (List ℕ))
      → refusal x.plan.setup e x.events ≡ None → stands_for o (scene x.plan (e ∷ x.events)) → Appends old new (texts.event x.plan e x.events)
      → PlayedFor stands_for texts x (e ∷ []) o None old new
  takes_one x e o old new h stands wrote =
      let all = taken x e h in
      record {
        refused = ap (λ (p : Play). p.refusal) all;
        stands = subst (λ (p : Play). stands_for o (scene x.plan p.events)) (sym all) stands;
        told = subst (λ (p : Play). SaidMore texts x (scene x.plan p.events) old new) (sym all)
            (record { text = texts.event x.plan e x.events; more = refl; wrote = wrote });
      }

  -- one that is refused
  pub stops_one : (x : Scene) (e : Event) (o : A) (out : Option (List ℕ)) (k : Refusal)
      → play x.plan.setup (e ∷ []) x.events ≡ play_by x.events (Some k) → stands_for o x → PlayedFor stands_for texts x (e ∷ []) o (Some k) out out
  stops_one x e o out k all stands = record {
    refused = ap (λ (p : Play). p.refusal) all;
    stands = subst (λ (p : Play). stands_for o (scene x.plan p.events)) (sym all) stands;
    told = subst (λ (p : Play). SaidMore texts x (scene x.plan p.events) out out) (sym all) (nothing_said texts x out);
  }

  pub begins_with : (x : Scene) (o : A) (out : Option (List ℕ)) → stands_for o x → PlayedFor stands_for texts x [] o None out out
  begins_with x o out at = record { refused = refl; stands = at; told = nothing_said texts x out }

  -- ---- events in two parts

  pub alike : (x : Scene) (a b : List Event) (o : A) (k : Option Refusal) (o0 o1 : Option (List ℕ))
      → play x.plan.setup a x.events ≡ play x.plan.setup b x.events → PlayedFor stands_for texts x a o k o0 o1 → PlayedFor stands_for texts x b o k o0 o1
  alike x a b o k o0 o1 e h = record {
    refused = ap (λ (q : Play). q.refusal) (sym e) ∙ h.refused;
    stands = subst (λ (q : Play). stands_for o (scene x.plan q.events)) e h.stands;
    told = subst (λ (q : Play). SaidMore texts x (scene x.plan q.events) o0 o1) e h.told;
  }

  pub goes_on : (x : Scene) (a b : List Event) (p q : A) (k : Option Refusal) (o0 o1 o2 : Option (List ℕ))
      → PlayedFor stands_for texts x a p None o0 o1 → PlayedFor stands_for texts (after_events x a) b q k o1 o2 → PlayedFor stands_for texts x (a ++ b) q k o0 o2
  goes_on x a b p q k o0 o1 o2 h l =
      let e = sym (plays_on x.plan.setup a b x.events h.refused) in
      record {
        refused = ap (λ (r : Play). r.refusal) (sym e) ∙ l.refused;
        stands = subst (λ (r : Play). stands_for q (scene x.plan r.events)) e l.stands;
        told = subst (λ (r : Play). SaidMore texts x (scene x.plan r.events) o0 o2) e
            (said_on texts x (after_events x a) (after_events (after_events x a) b) o0 o1 o2 h.told l.told);
      }

  -- those after them may be another list of the same events
  pub goes_on_to : (x : Scene) (a b c : List Event) (p q : A) (o0 o1 o2 : Option (List ℕ))
      → c ≡ a ++ b → PlayedFor stands_for texts x a p None o0 o1 → PlayedFor stands_for texts (after_events x a) b q None o1 o2 → PlayedFor stands_for texts x c q None o0 o2
  goes_on_to x a b c p q o0 o1 o2 e h l = alike x (a ++ b) c q None o0 o2 (ap (λ es. play x.plan.setup es x.events) (sym e)) (goes_on x a b p q None o0 o1 o2 h l)

  pub stops_at : (x : Scene) (a b rest : List Event) (p q : A) (r : Refusal) (o0 o1 o2 : Option (List ℕ))
      → PlayedFor stands_for texts x a p None o0 o1 → PlayedFor stands_for texts (after_events x a) b q (Some r) o1 o2 → PlayedFor stands_for texts x ((a ++ b) ++ rest) q (Some r) o0 o2
  stops_at x a b rest p q r o0 o1 o2 h l =
      let both = goes_on x a b p q (Some r) o0 o1 o2 h l in
      alike x (a ++ b) ((a ++ b) ++ rest) q (Some r) o0 o2 (sym (plays_no_further x.plan.setup (a ++ b) rest x.events r both.refused)) both

  pub front_past : (x : Scene) (a b : List Event) (k : Option Refusal) → (play x.plan.setup a x.events).refusal ≡ k → SaidFront texts (after_events x a) (after_events x (a ++ b))
  front_past x a b None h =
      subst (λ (p : Play). SaidFront texts (after_events x a) (scene x.plan p.events)) (sym (plays_on x.plan.setup a b x.events h)) (front_of_play texts (after_events x a) b)
  front_past x a b (Some r) h =
      subst (λ (p : Play). SaidFront texts (after_events x a) (scene x.plan p.events)) (sym (plays_no_further x.plan.setup a b x.events r h)) (record { text = []; more = sym (append-nil (said_in texts (after_events x a))) })

  fails_at : (x : Scene) (a b rest : List Event) (p : A) (o0 o1 o2 : Option (List ℕ))
      → PlayedFor stands_for texts x a p None o0 o1 → SaidPart texts (after_events x a) (after_events (after_events x a) b) o1 o2 → SaidPart texts x (after_events x ((a ++ b) ++ rest)) o0 o2
  fails_at x a b rest p o0 o1 o2 h l =
      let part = said_then_part texts x (after_events x a) (after_events (after_events x a) b) o0 o1 o2 h.told l in
      let here = subst (λ (r : Play). SaidPart texts x (scene x.plan r.events) o0 o2) (sym (plays_on x.plan.setup a b x.events h.refused)) part in
      part_of_more texts x (after_events x (a ++ b)) (after_events x ((a ++ b) ++ rest)) o0 o2 here (front_past x (a ++ b) rest (play x.plan.setup (a ++ b) x.events).refusal refl)

  -- what ends them in the midst ends all of them
  pub ends_in : (stop : Stop) (x : Scene) (a b rest all : List Event) (p q : A) (o0 o1 o2 : Option (List ℕ))
      → all ≡ (a ++ b) ++ rest → PlayedFor stands_for texts x a p None o0 o1 → Played stands_for texts (Err stop) (after_events x a) b q o1 o2 → Played stands_for texts (Err stop) x all q o0 o2
  ends_in stop x a b rest all p q o0 o1 o2 e h l = subst (λ es. Played stands_for texts (Err stop) x es q o0 o2) (sym e) (ends stop l)
    where
      ends : (stop : Stop) → Played stands_for texts (Err stop) (after_events x a) b q o1 o2 → Played stands_for texts (Err stop) x ((a ++ b) ++ rest) q o0 o2
      ends (Refused r) l = stops_at x a b rest p q r o0 o1 o2 h l
      ends (Failed f) l = fails_at x a b rest p o0 o1 o2 h l
