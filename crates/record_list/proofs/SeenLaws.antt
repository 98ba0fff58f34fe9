-- Levels that stand for a while are said once.
use Rattle.std.proofs.Common.{◌≡◌, ℕ, zero, suc, ◌+◌, ◌-◌, ◌<◌, ◌≤◌, Bool, true, List, [], ◌++◌, Option, Some, None, ap, ◌∙◌, arith, rules}
use Rattle.std.specs.Prelude.{if◌then◌else◌, nat_eq, bit_or}
use Rattle.record_list.specs.declared.now.Now.{Now}
use Rattle.record_list.specs.declared.pulse.Pulse.{Pulse}
use Rattle.record_list.specs.Pulses.{high_at, is_on, with_pulse}
use Rattle.record_list.specs.Changes.{Said, said, said_by, said_until, said_while, seen, unless_last}

-- a pulse that is on as at another time adds the same
pub with-same : (high : ℕ) (pulse : Pulse) (time at : ℕ) → is_on pulse time ≡ is_on pulse at → with_pulse high pulse time ≡ with_pulse high pulse at
with-same high pulse time at same = ap (λ b. if b then bit_or high pulse.bit else high) same

-- how far levels were said
abbrev place : Bool → (at : ℕ) → (high : Option ℕ) → (newest end : ℕ) → Now
place begun at high newest end = record { is_begun = begun; at_ns = at; high = high; newest_ns = newest; end_ns = end }

eq-self : (n : ℕ) → nat_eq n n ≡ true
eq-self n = search rules

-- the last levels are not said again
same-high : (begun : Bool) (at high newest end : ℕ) → said (unless_last (place begun at (Some high) newest end) high) ≡ []
same-high begun at high newest end =
    ap (λ b. said (if b then None else Some (record { time_ns = at; high = high }))) (eq-self high)

-- where they stand for so many nanoseconds nothing is said
jump : (m n k at time : ℕ) (pulses : List Pulse) (begun : Bool) (high newest end : ℕ) (others : Now → List Said)
    → k ≡ m + n → time ≡ at + m → ((t : ℕ) → at ≤ t → t < time → high_at pulses t ≡ high)
    → said_while k pulses (place begun at (Some high) newest end) others ≡ said_while n pulses (place begun time (Some high) newest end) others
jump zero n k at time pulses begun high newest end others count here stays =
    let same : k ≡ n = omega (arith, count) in
    let there : at ≡ time = omega (arith, here) in
    ap (λ c. said_while c pulses (place begun at (Some high) newest end) others) same
    ∙ ap (λ t. said_while n pulses (place begun t (Some high) newest end) others) there
jump (suc m) n zero at time pulses begun high newest end others count here stays = absurd (omega (arith, count))
jump (suc m) n (suc k) at time pulses begun high newest end others count here stays =
    ap (λ h. said_by (seen (place begun at (Some high) newest end) h (at + 1)) (λ next. said_while k pulses next others)) (stays at (omega arith) (omega (arith, here)))
    ∙ ap (λ l. l ++ said_while k pulses (place begun (at + 1) (Some high) newest end) others) (same-high begun at high newest end)
    ∙ jump m n k (at + 1) time pulses begun high newest end others (omega (arith, count)) (omega (arith, here)) (λ t from to. stays t (omega (arith, from)) to)

one-on : (m n k at time : ℕ) (pulses : List Pulse) (begun : Bool) (last : Option ℕ) (high newest end : ℕ) (others : Now → List Said)
    → k ≡ suc (m + n) → time ≡ at + 1 + m → ((t : ℕ) → at ≤ t → t < time → high_at pulses t ≡ high)
    → said_while k pulses (place begun at last newest end) others
    ≡ said (unless_last (place begun at last newest end) high) ++ said_while n pulses (place begun time (Some high) newest end) others
one-on m n zero at time pulses begun last high newest end others count here stays = absurd (omega (arith, count))
one-on m n (suc k) at time pulses begun last high newest end others count here stays =
    ap (λ h. said_by (seen (place begun at last newest end) h (at + 1)) (λ next. said_while k pulses next others)) (stays at (omega arith) (omega (arith, here)))
    ∙ ap (λ l. said (unless_last (place begun at last newest end) high) ++ l)
    (jump m n k (at + 1) time pulses begun high newest end others (omega (arith, count)) here (λ t from to. stays t (omega (arith, from)) to))

-- levels that stand up to a time are said here, unless they are the last ones, and then what is said from there on
pub sees : (until : ℕ) (pulses : List Pulse) (now : Now) (high next : ℕ) (others : Now → List Said)
    → now.at_ns < next → next ≤ until → ((t : ℕ) → now.at_ns ≤ t → t < next → high_at pulses t ≡ high)
    → said_until until pulses now others ≡ said (seen now high next).levels ++ said_until until pulses (seen now high next).now others
sees until pulses now high next others later within stays =
    one-on (next - now.at_ns - 1) (until - next) (until - now.at_ns) now.at_ns next pulses now.is_begun now.high high now.newest_ns now.end_ns others
    (omega (arith, later, within)) (omega (arith, later)) stays
