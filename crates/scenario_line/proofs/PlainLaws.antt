-- What plain lines say, by their tokens.
use Rattle.std.proofs.Common.{◌≡◌, ℕ, pos, ◌-◌, ◌<◌, ◌≤◌, true, List, [], ◌∷◌, length, codes, Some, Ok, IsUtf8, refl, sym, ap, ◌∙◌, subst, arith}
use Rattle.std.specs.Prelude.{option_map, option_and_then}
use Rattle.json.specs.Token.{Token}
use Rattle.json.specs.Lex.{tokens}
use Rattle.json.specs.Json as json
use Rattle.json.specs.Json.{parse_map, if_last, read_key}
use Rattle.json.proofs.Grammar.{left, value_is, value-begin_object, members_end, members_more, read_key-shorter, skip_value-shorter}
use Rattle.serde_json.specs.Data.{Data, put}
use Rattle.serde_json.specs.Data as value
use Rattle.serde_json.specs.Read.{of_json, of_members}
use Rattle.irig_gen.specs.declared.fault.GenFault.TheVariants as fault
use Rattle.irig_plant.specs.declared.event.Event.TheVariants as event
use Rattle.scenario_json.specs.Json.{text_at, whole_at, has_only}
use Rattle.scenario_json.specs.Keys.{KeyValue}
use Rattle.scenario_json.specs.Fields.{has_form, natural_at, natural_of}
use Rattle.scenario_json.proofs.JsonLaws.{json_of_text}
use Rattle.scenario_values.specs.declared.form.Action.{Action}
use Rattle.scenario_values.specs.declared.form.Action.TheVariants as action
use Rattle.scenario_values.specs.declared.form.FaultKind.TheVariants as kind
use Rattle.scenario_values.specs.Forms.{action_of, keys_of, g, n, at, width, edge, q}
use Rattle.scenario_line.specs.declared.event_line.Command.{Command}
use Rattle.scenario_line.specs.declared.event_line.Command.TheVariants as command
use Rattle.scenario_line.specs.EventLine.{command_in_object, command_in_line, command_of_form}
use Rattle.scenario_line.specs.PlainLine.{IsKind, IsNatural, IsReader, command_of_tokens, Gives}
use Rattle.scenario_line.proofs.RawNumbers.{width_is}

-- ---- a key with its value

-- the first tokens are a key and what stands there, and `rest` follow
pub record IsMember (ts : List Token) (k : List ℕ) (d : Data) (rest : List Token) : Type 0 where
  pub j : json.Json
  pub after : List Token
  pub keyed : read_key ts ≡ Some (Some k, after)
  pub read : json.value 126 after ≡ Some (j, rest)
  pub made : of_json j ≡ Some d

abbrev pub number : ℕ → Data
number n = value.number (value.unsigned n)

pub text_member : (k s : List ℕ) (ts rest : List Token) → ts ≡ Token.key k ∷ Token.string s ∷ rest → IsMember ts k (value.string s) rest
text_member k s ts rest is =
    subst (λ ts. IsMember ts k (value.string s) rest) (sym is)
    (record { j = json.string s; after = Token.string s ∷ rest; keyed = refl; read = value_is 126 (Token.string s ∷ rest); made = refl })

pub natural_member : (k : KeyValue) (ts : List Token) (m : ℕ) (rest : List Token) → IsNatural k ts m rest → IsMember ts k.name (number m) rest
natural_member k ts m rest h =
    subst (λ ts. IsMember ts k.name (number m) rest) (sym h.is)
    (record {
      j = json.number h.text;
      after = Token.number h.text ∷ rest;
      keyed = refl;
      read = value_is 126 (Token.number h.text ∷ rest);
      made = rw (width_is h.text m h.number).0 refl;
    })

-- ---- an object

abbrev pub AreMembers : List Token → List (List ℕ × Data) → Type 0
AreMembers ts [] = ts ≡ Token.end_object ∷ []
AreMembers ts (m ∷ ms) = (rest : List Token) × (IsMember ts m.0 m.1 rest × AreMembers rest ms)

abbrev pub put_all : List (List ℕ × Data) → value.Members → value.Members
put_all [] found = found
put_all (m ∷ ms) found = put_all ms (put m.0 m.1 found)

abbrev pub object_of : List (List ℕ × Data) → Data
object_of ms = value.object (put_all ms value.no_members)

-- the object of a line that asks for this, with its other keys
abbrev pub line_of : List ℕ → List (List ℕ × Data) → Data
line_of word ms = object_of ((codes "do", value.string word) ∷ ms)

record AreRead (n : ℕ) (ts : List Token) (ms : List (List ℕ × Data)) (found : value.Members) : Type 0 where
  pub js : json.Members
  pub is : json.members (json.value 126) n ts ≡ Some (js, [])
  pub made : of_members js found ≡ Some (put_all ms found)

members_read : (n : ℕ) (ts : List Token) (ms : List (List ℕ × Data)) (found : value.Members) → length ts ≤ n → AreMembers ts ms → AreRead n ts ms found
members_read n ts [] found enough h =
    record { js = json.no_members; is = members_end (json.value 126) n ts [] enough (ap read_key h); made = refl }
members_read n ts (m ∷ ms) found enough h =
    let rest = h.0 in
    let first = h.1.0 in
    let keyed : length first.after < length ts = read_key-shorter ts (Some m.0) first.after first.keyed in
    let valued : length rest < length first.after = skip_value-shorter 126 first.after rest (ap left first.read) in
    let more = members_read (n - 1) rest ms (put m.0 m.1 found) (omega (arith, enough, keyed, valued)) h.1.1 in
    record {
      js = json.member m.0 first.j more.js;
      is = members_more (json.value 126) n m.0 ts first.after rest first.j (omega (arith, enough, keyed)) first.keyed first.read
          ∙ ap (parse_map (json.member m.0 first.j)) more.is;
      made = ap (option_and_then (λ d. of_members more.js (put m.0 d found))) first.made ∙ more.made;
    }

object_read : (ts : List Token) (ms : List (List ℕ × Data)) → AreMembers ts ms
    → option_and_then of_json (option_and_then (λ p. if_last p.0 p.1) (json.value 127 (Token.begin_object ∷ ts))) ≡ Some (object_of ms)
object_read ts ms h =
    let all = members_read (length ts) ts ms value.no_members (omega arith) h in
    ap (λ o. option_and_then of_json (option_and_then (λ p. if_last p.0 p.1) o)) (value-begin_object 127 ts (omega arith) ∙ ap (parse_map json.object) all.is)
    ∙ ap (option_map value.object) all.made

-- ---- what a line says

said : (names : List (List ℕ)) (a : Action) (d : Data) (c : Command) → action_of d ≡ Some a → has_form (keys_of a) d ≡ true → command_of_form names a d ≡ Ok c
    → command_in_object names d ≡ Ok c
unfolding command_in_object
said names a d c asked formed is = rw (asked, formed) is

-- by its action and its other keys
pub gives : (names : List (List ℕ)) (word : List ℕ) (old new : List Token) (ms : List (List ℕ × Data)) (a : Action) (c : Command) → (new ≡ Token.end_object ∷ [] → AreMembers old ms)
    → action_of (line_of word ms) ≡ Some a → has_form (keys_of a) (line_of word ms) ≡ true → command_of_form names a (line_of word ms) ≡ Ok c → Gives names word old new c
unfolding command_of_tokens
gives names word old new ms a c read asked formed is = λ end.
    let ts = Token.key (codes "do") ∷ Token.string word ∷ old in
    rw (object_read ts ((codes "do", value.string word) ∷ ms) (old, (text_member (codes "do") word ts old refl, read end))) (said names a (line_of word ms) c asked formed is)

-- a number in its range
pub natural_found : (k : KeyValue) (d : Data) (m : ℕ) → whole_at k.name d ≡ Some (pos m) → natural_of k.kind (pos m) ≡ Some m → natural_at k d ≡ Some m
natural_found k d m is range = ap (option_and_then (natural_of k.kind)) is ∙ range

-- ---- lines of a reader alone

module _ (names : List (List ℕ)) (old new : List Token) (place : ℕ) (h : IsReader names old place new) where
  abbrev of_r : List (List ℕ × Data)
  of_r = (codes "r", value.string h.name) ∷ []

  r_read : new ≡ Token.end_object ∷ [] → AreMembers old of_r
  r_read end = (new, (text_member (codes "r") h.name old new h.is, end))

  pub tick_is : Gives names (codes "tick") old new (command.Event (event.Tick place))
  unfolding action_of text_at has_form has_only
  tick_is = gives names (codes "tick") old new of_r action.Tick (command.Event (event.Tick place)) r_read refl refl (rw h.placed refl)

  pub restart_is : Gives names (codes "restart") old new (command.Event (event.Restart place))
  unfolding action_of text_at has_form has_only
  restart_is = gives names (codes "restart") old new of_r action.Restart (command.Event (event.Restart place)) r_read refl refl (rw h.placed refl)

-- ---- lines with a number alone

module _ (names : List (List ℕ)) (old new : List Token) (m : ℕ) where
  abbrev of_number : List ℕ → List (List ℕ × Data)
  of_number k = (k, number m) ∷ []

  number_read : (k : KeyValue) → IsNatural k old m new → new ≡ Token.end_object ∷ [] → AreMembers old (of_number k.name)
  number_read k h end = (new, (natural_member k old m new h, end))

  pub step_is : IsNatural g old m new → Gives names (codes "step") old new (command.Event (event.GenEdge m))
  unfolding action_of text_at has_form has_only whole_at
  step_is h =
      gives names (codes "step") old new (of_number (codes "g")) action.Step (command.Event (event.GenEdge m)) (number_read g h) refl refl
      (rw (natural_found g (line_of (codes "step") (of_number (codes "g"))) m refl h.range) refl)

  pub repair_is : IsNatural g old m new → Gives names (codes "repair") old new (command.Event (event.Repair m))
  unfolding action_of text_at has_form has_only whole_at
  repair_is h =
      gives names (codes "repair") old new (of_number (codes "g")) action.Repair (command.Event (event.Repair m)) (number_read g h) refl refl
      (rw (natural_found g (line_of (codes "repair") (of_number (codes "g"))) m refl h.range) refl)

  pub seconds_is : IsNatural n old m new → Gives names (codes "seconds") old new (command.Seconds m)
  unfolding action_of text_at has_form has_only whole_at
  seconds_is h =
      gives names (codes "seconds") old new (of_number (codes "n")) action.Seconds (command.Seconds m) (number_read n h) refl refl
      (rw (natural_found n (line_of (codes "seconds") (of_number (codes "n"))) m refl h.range) refl)

-- ---- lines of a generator and a reader, and what follows these

module _ (names : List (List ℕ)) (old at_r new : List Token) (m place : ℕ) (hg : IsNatural g old m at_r) (hr : IsReader names at_r place new) where
  abbrev pub pair_and : List (List ℕ × Data) → List (List ℕ × Data)
  pair_and ms = (codes "g", number m) ∷ (codes "r", value.string hr.name) ∷ ms

  pub pair_read : (ms : List (List ℕ × Data)) → AreMembers new ms → AreMembers old (pair_and ms)
  pair_read ms h = (at_r, (natural_member g old m at_r hg, (new, (text_member (codes "r") hr.name at_r new hr.is, h))))

  pub carry_is : Gives names (codes "carry") old new (command.Event (event.Carry m place))
  unfolding action_of text_at has_form has_only whole_at
  carry_is =
      gives names (codes "carry") old new (pair_and []) action.Carry (command.Event (event.Carry m place)) (pair_read []) refl refl
      (rw (natural_found g (line_of (codes "carry") (pair_and [])) m refl hg.range, hr.placed) refl)

  module _ (last : List Token) (i : ℕ) (h : IsNatural edge new i last) where
    abbrev of_edge : List (List ℕ × Data)
    of_edge = (codes "edge", number i) ∷ []

    pub replay_is : Gives names (codes "replay") old last (command.Event (event.Replay m place i))
    unfolding action_of text_at has_form has_only whole_at
    replay_is =
        let d = line_of (codes "replay") (pair_and of_edge) in
        gives names (codes "replay") old last (pair_and of_edge) action.Replay (command.Event (event.Replay m place i))
        (λ end. pair_read of_edge (last, (natural_member edge new i last h, end))) refl refl
        (rw (natural_found g d m refl hg.range, natural_found edge d i refl h.range, hr.placed) refl)

  module _ (at_width last : List Token) (i w : ℕ) (ha : IsNatural at new i at_width) (hw : IsNatural width at_width w last) where
    abbrev of_pulse : List (List ℕ × Data)
    of_pulse = (codes "at", number i) ∷ (codes "width", number w) ∷ []

    pub damage_is : Gives names (codes "damage") old last (command.Event (event.Damage m place i w))
    unfolding action_of text_at has_form has_only whole_at
    damage_is =
        let d = line_of (codes "damage") (pair_and of_pulse) in
        gives names (codes "damage") old last (pair_and of_pulse) action.Damage (command.Event (event.Damage m place i w))
        (λ end. pair_read of_pulse (at_width, (natural_member at new i at_width ha, (last, (natural_member width at_width w last hw, end))))) refl refl
        (rw (natural_found g d m refl hg.range, natural_found at d i refl ha.range, natural_found width d w refl hw.range, hr.placed) refl)

-- ---- lines of a fault

module _ (names : List (List ℕ)) (old at_kind new : List Token) (m : ℕ) (hg : IsNatural g old m at_kind) where
  abbrev of_fault : List ℕ → List (List ℕ × Data) → List (List ℕ × Data)
  of_fault word ms = (codes "g", number m) ∷ (codes "kind", value.string word) ∷ ms

  fault_read : (word : List ℕ) (ms : List (List ℕ × Data)) → IsKind at_kind word new → AreMembers new ms → AreMembers old (of_fault word ms)
  fault_read word ms is h = (at_kind, (natural_member g old m at_kind hg, (new, (text_member (codes "kind") word at_kind new is, h))))

  pub silent_is : IsKind at_kind (codes "silent") new → Gives names (codes "fault") old new (command.Event (event.Fault m fault.Silent))
  unfolding action_of text_at has_form has_only whole_at
  silent_is is =
      let d = line_of (codes "fault") (of_fault (codes "silent") []) in
      gives names (codes "fault") old new (of_fault (codes "silent") []) (action.Fault kind.Silent) (command.Event (event.Fault m fault.Silent)) (fault_read (codes "silent") [] is) refl refl
      (rw (natural_found g d m refl hg.range) refl)

  pub stuck_is : IsKind at_kind (codes "stuck") new → Gives names (codes "fault") old new (command.Event (event.Fault m fault.Stuck))
  unfolding action_of text_at has_form has_only whole_at
  stuck_is is =
      let d = line_of (codes "fault") (of_fault (codes "stuck") []) in
      gives names (codes "fault") old new (of_fault (codes "stuck") []) (action.Fault kind.Stuck) (command.Event (event.Fault m fault.Stuck)) (fault_read (codes "stuck") [] is) refl refl
      (rw (natural_found g d m refl hg.range) refl)

  pub no_pending_is : IsKind at_kind (codes "no_pending") new → Gives names (codes "fault") old new (command.Event (event.Fault m fault.NoPending))
  unfolding action_of text_at has_form has_only whole_at
  no_pending_is is =
      let d = line_of (codes "fault") (of_fault (codes "no_pending") []) in
      gives names (codes "fault") old new (of_fault (codes "no_pending") []) (action.Fault kind.NoPending) (command.Event (event.Fault m fault.NoPending)) (fault_read (codes "no_pending") [] is) refl refl
      (rw (natural_found g d m refl hg.range) refl)

  pub quality_is : (last : List Token) (i : ℕ) → IsKind at_kind (codes "quality") new → IsNatural q new i last → Gives names (codes "fault") old last (command.Event (event.Fault m (fault.Quality i)))
  unfolding action_of text_at has_form has_only whole_at
  quality_is last i is h =
      let ms = of_fault (codes "quality") ((codes "q", number i) ∷ []) in
      let d = line_of (codes "fault") ms in
      gives names (codes "fault") old last ms (action.Fault kind.Quality) (command.Event (event.Fault m (fault.Quality i)))
      (λ end. fault_read (codes "quality") ((codes "q", number i) ∷ []) is (last, (natural_member q new i last h, end))) refl refl
      (rw (natural_found g d m refl hg.range, natural_found q d i refl h.range) refl)

-- ---- the whole line

pub line_is : (names : List (List ℕ)) (line : List ℕ) (c : Command) → IsUtf8 line → command_of_tokens names (tokens line) ≡ Ok c → command_in_line names line ≡ Ok c
unfolding command_in_line command_of_tokens
line_is names line c utf8 is = rw (json_of_text line utf8) is
