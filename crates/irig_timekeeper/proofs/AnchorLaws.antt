-- While lines are true, an anchor lies round the true edge as many seconds before the last one as it says.
use Rattle.std.specs.Prelude.{nat_lt}
use Rattle.std.proofs.Common.{◌≡◌, ℕ, ◌+◌, ◌%◌, ◌^◌, ◌≤◌, true, false, Option, Some, None, arith, inl, inr}
use Rattle.std.proofs.lemmas.Bool.{cases_Bool, cases_lt}
use Rattle.irig_lines.specs.declared.interval.Interval.{Interval}
use Rattle.irig_lines.specs.declared.rate.Anchor.{Anchor}
use Rattle.irig_lines.specs.declared.rate.Anchors.{Anchors}
use Rattle.irig_lines.specs.Rates.{aged, anchors_on, anchors_cut, is_young, serves, serving}

-- T(from) lies in it, and T(w) so many seconds later
pub record IsAnchored (edges : ℕ → ℕ) (w : ℕ) (a : Anchor) : Type 0 where
  pub from : ℕ
  pub since : from + a.seconds ≡ w
  pub begin : ℕ
  pub clock : a.begin_us ≡ begin % 2 ^ 32
  pub least : begin ≤ edges from
  pub most : edges from ≤ begin + a.long_us
  pub short : a.long_us ≤ 980000
  pub few : a.seconds ≤ 2000

-- if there is one
abbrev pub IfAnchored : (ℕ → ℕ) → ℕ → Option Anchor → Type 0
IfAnchored edges w None = Unit {0}
IfAnchored edges w (Some a) = IsAnchored edges w a

-- both
pub record AreAnchored (edges : ℕ → ℕ) (w : ℕ) (anchors : Anchors) : Type 0 where
  pub old : IfAnchored edges w anchors.old
  pub young : IfAnchored edges w anchors.young

module _ (edges : ℕ → ℕ) (w : ℕ) where
  ages : (n : ℕ) (o : Option Anchor) → IfAnchored edges w o → IfAnchored edges (w + n) (aged n o)
  ages n None h = tt
  ages n (Some a) h = elim (cases_lt 2000 (a.seconds + n)) [
    | inl long ↦ let is : nat_lt 2000 (a.seconds + n) ≡ true = grind (arith, long) in rw is tt
    | inr few ↦
        let is : nat_lt 2000 (a.seconds + n) ≡ false = grind (arith, few) in
        rw is (record {
          from = h.from;
          since = omega (arith, h.since);
          begin = h.begin;
          clock = h.clock;
          least = h.least;
          most = h.most;
          short = h.short;
          few = omega (arith, few);
        })
  ]

  -- so many seconds later
  pub ages_on : (n : ℕ) (known : Option Interval) (anchors : Anchors) → AreAnchored edges w anchors → AreAnchored edges (w + n) (anchors_on n known anchors)
  ages_on n None anchors h = record { old = tt; young = tt }
  ages_on n (Some x) anchors h = record { old = ages n anchors.old h.old; young = ages n anchors.young h.young }

  -- behind a vote that leaves an interval round T(w)
  pub cuts_on : (x : Interval) (begin : ℕ) → x.begin_us ≡ begin % 2 ^ 32 → begin ≤ edges w → edges w ≤ begin + x.long_us → x.long_us ≤ 980000 → (anchors : Anchors) → AreAnchored edges w anchors → AreAnchored edges w (anchors_cut x anchors)
  cuts_on x begin clock least most short anchors h = elim (cases_Bool (is_young anchors.young)) [
    | inl young ↦ rw young h
    | inr not ↦
        rw not (record {
          old = h.young;
          young = record {
            from = w;
            since = omega arith;
            begin = begin;
            clock = clock;
            least = least;
            most = most;
            short = short;
            few = omega arith;
          };
        })
  ]

  -- the one that serves is one of both
  pub is_served : (anchors : Anchors) → AreAnchored edges w anchors → IfAnchored edges w (serving anchors)
  is_served anchors h = of anchors.old anchors.young h.old h.young
    where
      of : (old young : Option Anchor) → IfAnchored edges w old → IfAnchored edges w young → IfAnchored edges w (serves old young)
      of None young h k = k
      of (Some a) young h k = h
