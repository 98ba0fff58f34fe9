-- A counter of a constant rate is a quartz that never wanders, and shows each instant near its true time.
use Rattle.std.proofs.Common.{◌≡◌, ℕ, ◌+◌, ◌*◌, ◌/◌, ◌%◌, ◌<◌, ◌≤◌, ap, arith, inr}
use Rattle.std.proofs.Math.Nat.{mul-le-mul_left, mul-le-mul_right}
use Rattle.irig_sync.specs.Edges.{element_at}
use Rattle.irig_sync.proofs.EdgeLaws.{even_element}
use Rattle.irig_lines.specs.declared.setup.ClockRules.{ClockRules}
use Rattle.irig_lines.specs.Edges.{IsQuartz}
use Rattle.irig_lines.specs.Paces.{WandersAsSet}
use Rattle.irig_timekeeper.specs.Truth.{IsInstant}
use Rattle.irig_witness.specs.Elements.{KeepsRate}
use Rattle.irig_wires.specs.Oscillator.{edges_by, counter_at}

pub next_edge : (first rate n : ℕ) → edges_by first rate (n + 1) ≡ edges_by first rate n + rate
next_edge first rate n = grind arith

pub element_is : (first rate k : ℕ) → element_at (edges_by first rate) k ≡ edges_by first rate (k / 100) + rate * (k % 100) / 100
element_is first rate k = even_element rate (edges_by first rate) (next_edge first rate) k

-- in nanoseconds
abbrev ns_by : (first rate : ℕ) → ℕ → ℕ
ns_by first rate n = 1000 * edges_by first rate n

-- each of its seconds is as long as any other
pub never_wanders : (c : ClockRules) (first rate : ℕ) → WandersAsSet c (edges_by first rate)
never_wanders c first rate = inr (
  ns_by first rate,
  record {
    clock = λ n. omega arith;
    steady = λ i j near far. omega (arith, next_edge first rate i, next_edge first rate j);
  },
)

module _ (d first rate : ℕ) (keeps : KeepsRate d rate) where
  pub quartz : IsQuartz d (edges_by first rate)
  quartz = record {
    steady = record {
      least = λ n. omega (arith, next_edge first rate n, keeps.least);
      most = λ n. omega (arith, next_edge first rate n, keeps.most);
    };
    few = keeps.few;
  }

  parts : (n tau : ℕ) → counter_at first rate (n * 1000000 + tau) ≡ edges_by first rate n + tau * rate / 1000000
  parts n tau =
      let whole : (n * 1000000 + tau) * rate ≡ n * rate * 1000000 + tau * rate = grind arith in
      let split : (n * rate * 1000000 + tau * rate) / 1000000 ≡ n * rate + tau * rate / 1000000 = omega arith in
      omega (arith, ap (λ (x : ℕ). x / 1000000) whole, split)

  pub instant : (n tau : ℕ) → tau < 1000000 → IsInstant d (edges_by first rate) n tau (counter_at first rate (n * 1000000 + tau))
  instant n tau less =
      let slow : tau * 1000000 ≤ tau * (rate + d) = mul-le-mul_left tau keeps.least in
      let fast : tau * rate ≤ tau * (1000000 + d) = mul-le-mul_left tau keeps.most in
      let some : tau * d ≤ 1000000 * d = mul-le-mul_right d (let h : tau ≤ 1000000 = omega (arith, less) in h) in
      let slow' : tau * (rate + d) ≡ tau * rate + tau * d = grind arith in
      let fast' : tau * (1000000 + d) ≡ tau * 1000000 + tau * d = grind arith in
      let part : tau * rate ≤ 999999 * rate = mul-le-mul_right rate (let h : tau ≤ 999999 = omega (arith, less) in h) in
      let next = next_edge first rate n in
      let is = parts n tau in
      record {
        least = omega (arith, is, slow, slow', some);
        most = omega (arith, is, fast, fast', some);
        begun = omega (arith, is);
        before_next = omega (arith, is, next, part, keeps.least, keeps.few);
      }
