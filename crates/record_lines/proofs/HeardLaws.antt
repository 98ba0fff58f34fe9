-- A line is told more of its levels.
use Rattle.std.specs.Prelude.{reverse, Option, is_some}
use Rattle.std.proofs.Common.{◌≡◌, ◌∙◌, ℕ, ◌≤◌, true, List, [], ◌∷◌, ◌++◌, None, Some, sym, ap, subst, refl, arith, inl, inr}
use Rattle.std.proofs.lemmas.Bool.{cases_Bool}
use Rattle.std.proofs.lemmas.List.{append_assoc, append-nil, reverse-append}
use Rattle.record_pulses.specs.declared.edge.Edge.{Edge}
use Rattle.record_pulses.specs.declared.steady.Steady.{Steady}
use Rattle.record_pulses.specs.Glitches.{AreFrom, AreInOrder, IsRipe, IsSteady, lasts, ripe_at, to_come, with_edge, without_glitches}
use Rattle.record_pulses.specs.Pulses.{AreInTurn}
use Rattle.record_pulses.proofs.GlitchLaws.{in_turn, steady}
use Rattle.record_lines.specs.declared.channel.Channel.{Channel}
use Rattle.record_lines.specs.Heard.{EndsOn, IsChannelTo, IsSteadyTo, MayCome, IsToldMore, RipensTo, SeesOn, and_seen}
use Rattle.record_lines.specs.RecordedLines.{IsRecordedLine}

-- what comes from a time on comes from each before it on
pub from_later : (now time : ℕ) (rest : List Edge) → now ≤ time → AreFrom time rest → AreFrom now rest
from_later now time [] later from = tt
from_later now time (c ∷ rest) later from = (omega (arith, later, from.0), from_later now time rest later from.1)

-- an edge before others, if there is one
edge_first : (seen : List Edge) (edge : Option Edge) (rest : List Edge) → and_seen seen edge ++ rest ≡ seen ++ with_edge edge rest
edge_first seen None rest = ap (λ (xs : List Edge). xs ++ rest) (append-nil seen)
edge_first seen (Some c) rest = append_assoc seen (c ∷ []) rest

module _ (old new : Steady) (glitch now time : ℕ) (told seen : List Edge) (is : IsSteadyTo old glitch (Some now) told seen) (later : now ≤ time) where
  -- time passes, and what was ripe comes out
  pub ripens : (edge : Option Edge) → ((rest : List Edge) → AreFrom time rest → with_edge edge (to_come new rest) ≡ to_come old rest) → IsSteadyTo new glitch (Some time) told (and_seen seen edge)
  ripens edge same = record {
    order = λ rest from order. is.order rest (from_later now time rest later from) order;
    comes = λ rest from order.
        edge_first seen edge (to_come new rest)
        ∙ (ap (λ xs. seen ++ xs) (same rest from)
        ∙ is.comes rest (from_later now time rest later from) order);
  }

  -- nothing was ripe
  pub waits : IsSteadyTo old glitch (Some time) told (and_seen seen None)
  waits = record {
    order = λ rest from order. is.order rest (from_later now time rest later from) order;
    comes = λ rest from order. edge_first seen None (to_come old rest) ∙ is.comes rest (from_later now time rest later from) order;
  }

-- a level more
module _ (old new : Steady) (glitch now : ℕ) (told seen : List Edge) (is : IsSteadyTo old glitch (Some now) told seen) (level : Edge) (later : now ≤ level.time_ns) (edge : Option Edge)
    (same : (rest : List Edge) → with_edge edge (to_come new rest) ≡ to_come old (level ∷ rest)) where
  onwards : (rest : List Edge) → AreFrom level.time_ns rest → AreFrom now (level ∷ rest)
  onwards rest from = (later, from_later now level.time_ns rest later from)

  pub is_told : IsSteadyTo new glitch (Some level.time_ns) (told ++ level ∷ []) (and_seen seen edge)
  is_told = record {
    order = λ rest from order. subst AreInOrder (sym (append_assoc told (level ∷ []) rest)) (is.order (level ∷ rest) (onwards rest from) (from, order));
    comes = λ rest from order.
        edge_first seen edge (to_come new rest)
        ∙ (ap (λ xs. seen ++ xs) (same rest)
        ∙ (is.comes (level ∷ rest) (onwards rest from) (from, order)
        ∙ ap (without_glitches glitch) (sym (append_assoc told (level ∷ []) rest))));
  }

-- what comes out is in turn
in_turn_of : (glitch : ℕ) (all seen rest : List Edge) (c : Edge) → AreInOrder all → without_glitches glitch all ≡ seen ++ c ∷ rest → AreInTurn (c ∷ reverse seen)
in_turn_of glitch all seen rest c order e =
    let is = subst (IsSteady glitch) (e ∙ sym (append_assoc seen (c ∷ []) rest)) (steady glitch all order) in
    subst AreInTurn (reverse-append seen (c ∷ [])) (in_turn glitch (seen ++ c ∷ []) rest is)

-- what is seen newest first
pub seen_newest : (seen : List Edge) (c : Edge) → reverse (and_seen seen (Some c)) ≡ c ∷ reverse seen
seen_newest seen c = reverse-append seen (c ∷ [])

pub seen_none : (seen : List Edge) → reverse (and_seen seen None) ≡ reverse seen
seen_none seen = ap reverse (append-nil seen)

-- what comes out with a level, or when it is ripe
pub turn_on : (s new : Steady) (glitch : ℕ) (until : Option ℕ) (told seen follow : List Edge) (c : Edge) → IsSteadyTo s glitch until told seen → MayCome until follow → AreInOrder follow
    → with_edge (Some c) (to_come new []) ≡ to_come s follow → AreInTurn (c ∷ reverse seen)
turn_on s new glitch until told seen follow c is from order comes =
    in_turn_of glitch (told ++ follow) seen (to_come new []) c (is.order follow from order) (sym (is.comes follow from order) ∙ ap (λ xs. seen ++ xs) (sym comes))

-- what is ripe waits
ripe_is : (s : Steady) (now : ℕ) (waiting : Option Edge) (c : Edge) → s.waiting ≡ waiting → ripe_at now s ≡ Some c → IsRipe now s
ripe_is s now None c w e = absurd (let it = rw w at e in cc)
ripe_is s now (Some d) c w e = elim (cases_Bool (lasts s.shortest_ns d.time_ns now)) [
  | inl long ↦ rw (w, long) refl
  | inr short ↦ absurd (let it = rw (w, short) at e in cc)
]

pub is_ripe : (s : Steady) (now : ℕ) (c : Edge) → ripe_at now s ≡ Some c → IsRipe now s
is_ripe s now c e = ripe_is s now s.waiting c refl e

pub is_ripe_some : (s : Steady) (now : ℕ) → is_some (ripe_at now s) ≡ true → IsRipe now s
is_ripe_some s now e = some_ripe (ripe_at now s) refl e
  where
    some_ripe : (o : Option Edge) → ripe_at now s ≡ o → is_some o ≡ true → IsRipe now s
    some_ripe None same none = absurd cc
    some_ripe (Some c) same none = is_ripe s now c same

-- ---- a channel

-- a channel that sees what comes out with a level, and is told it
pub channel_told : (old : Channel) (mid : Steady) (new : Channel) (level : Edge) (edge : Option Edge) → ((rest : List Edge) → with_edge edge (to_come mid rest) ≡ to_come old.steady (level ∷ rest)) → new.steady ≡ mid
    → SeesOn old new edge → IsToldMore old new level edge
channel_told old mid new level edge same steady sees glitch now told seen played is later = record {
  steady = subst (λ s. IsSteadyTo s glitch (Some level.time_ns) (told ++ level ∷ []) (and_seen seen edge)) (sym steady) (is_told old.steady mid glitch now told seen is.steady level later edge same);
  line = sees seen played is.line (λ c e. turn_on old.steady mid glitch (Some now) told seen (level ∷ []) c is.steady (later, tt) (tt, tt)
      (subst (λ o. with_edge o (to_come mid []) ≡ to_come old.steady (level ∷ [])) e (same [])));
}

-- or at a time
pub channel_ripens : (old : Channel) (mid : Steady) (new : Channel) (time : ℕ) (edge : Option Edge) → ((rest : List Edge) → AreFrom time rest → with_edge edge (to_come mid rest) ≡ to_come old.steady rest) → new.steady ≡ mid
    → SeesOn old new edge → RipensTo old new time edge
channel_ripens old mid new time edge same steady sees glitch now told seen played is later = record {
  steady = subst (λ s. IsSteadyTo s glitch (Some time) told (and_seen seen edge)) (sym steady) (ripens old.steady mid glitch now time told seen is.steady later edge same);
  line = sees seen played is.line (λ c e. turn_on old.steady mid glitch (Some now) told seen [] c is.steady tt tt
      (subst (λ o. with_edge o (to_come mid []) ≡ to_come old.steady []) e (same [] tt)));
}

pub channel_waits : (old : Channel) (time : ℕ) → RipensTo old old time None
channel_waits old time glitch now told seen played is later = record {
  steady = waits old.steady old.steady glitch now time told seen is.steady later;
  line = subst (λ xs. IsRecordedLine old.line None xs played) (sym (seen_none seen)) is.line;
}

-- time passes, and nothing is told
pub channel_later : (c : Channel) (glitch now time : ℕ) (told seen played : List Edge) → IsChannelTo c glitch (Some now) told seen played → now ≤ time → IsChannelTo c glitch (Some time) told seen played
channel_later c glitch now time told seen played is later = record {
  steady = record {
    order = λ rest from order. is.steady.order rest (from_later now time rest later from) order;
    comes = λ rest from order. is.steady.comes rest (from_later now time rest later from) order;
  };
  line = is.line;
}

-- ---- at the end nothing more comes

pub may_end : (until : Option ℕ) → MayCome until []
may_end None = refl
may_end (Some now) = tt

pub channel_ends : (c : Channel) (glitch : ℕ) (until : Option ℕ) (told seen played : List Edge) → IsChannelTo c glitch until told seen played → IsChannelTo c glitch None told seen played
channel_ends c glitch until told seen played is = record {
  steady = record {
    order = λ rest none order. subst (λ xs. AreInOrder (told ++ xs)) (sym none) (is.steady.order [] (may_end until) tt);
    comes = λ rest none order. subst (λ xs. seen ++ to_come c.steady xs ≡ without_glitches glitch (told ++ xs)) (sym none) (is.steady.comes [] (may_end until) tt);
  };
  line = is.line;
}

-- what waited comes out then
pub channel_end : (old : Channel) (mid : Steady) (new : Channel) (edge : Option Edge) → with_edge edge (to_come mid []) ≡ to_come old.steady [] → new.steady ≡ mid → SeesOn old new edge → EndsOn old new edge
channel_end old mid new edge same steady sees glitch told seen played is = record {
  steady = subst (λ s. IsSteadyTo s glitch None told (and_seen seen edge)) (sym steady) (record {
    order = is.steady.order;
    comes = λ rest none order. subst (λ xs. and_seen seen edge ++ to_come mid xs ≡ without_glitches glitch (told ++ xs)) (sym none)
        (edge_first seen edge (to_come mid []) ∙ (ap (λ xs. seen ++ xs) same ∙ is.steady.comes [] refl tt));
  });
  line = sees seen played is.line (λ c e. turn_on old.steady mid glitch None told seen [] c is.steady refl tt
      (subst (λ o. with_edge o (to_come mid []) ≡ to_come old.steady []) e same));
}
