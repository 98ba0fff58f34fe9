-- What one tick more does to counts and stretches.
use Rattle.std.proofs.Common.{◌≡◌, ℕ, suc, ◌+◌, ◌<◌, ◌≤◌, Bool, true, false, List, [], ◌∷◌, length, Option, Some, None, refl, sym, ap, ◌∙◌, arith}
use Rattle.std.specs.Prelude.{IfSome, count_by, cond, ◌&&◌}
use Rattle.std.proofs.lemmas.List.Sums.{sum_by-cons, count_by-le-length}
use Rattle.report_found.specs.declared.account.Account.{Account}
use Rattle.report_found.specs.declared.account.PortAccount.{PortAccount}
use Rattle.report_found.specs.declared.kind.Kind.{Kind}
use Rattle.report_found.specs.declared.kind.Kind.TheVariants.{Agreed, Silent, Faulty, Poor, AnotherSecond, AnotherMark}
use Rattle.report_found.specs.declared.misled.Misled.{Misled}
use Rattle.report_found.specs.declared.stretch.Silence.{Silence}
use Rattle.report_found.specs.declared.stretch.Stretch.{Stretch}
use Rattle.report_found.specs.declared.tick.Tick.{Tick}
use Rattle.report_found.specs.Kinds.{same_kind}
use Rattle.report_log.specs.Offsets.{same_offset}
use Rattle.report_found.specs.Ticks.{kind_at, is_announced, is_untrue, offset_at}
use Rattle.report_found.specs.Stretches.{one_if, begun, more, IsBelow, stretch_past, stretch_after, stretch_of, silence_of, last_vote, misled_of}
use Rattle.report_found.specs.Accounts.{count_of, port_account, account_of}

-- ---- counts

one_at_most : (b : Bool) → one_if b ≤ 1
one_at_most true = omega arith
one_at_most false = omega arith

pub count_more : (test : Tick → Bool) (t : Tick) (ts : List Tick) → count_by test (t ∷ ts) ≡ count_by test ts + one_if (test t)
count_more test t ts =
    let step : count_by test (t ∷ ts) ≡ one_if (test t) + count_by test ts = sum_by-cons (λ x. cond (test x) 1 0) t ts in
    omega (arith, step)

-- a count that fits, of a tick more
pub counted_more : (test : Tick → Bool) (t : Tick) (ts : List Tick) (result count edge : ℕ) (b : Bool)
    → (count < edge → result ≡ count + one_if b) → count ≡ count_by test ts → b ≡ test t → length ts < edge
    → result ≡ count_by test (t ∷ ts)
counted_more test t ts result count edge b counted was same few =
    counted (omega (arith, was, few, count_by-le-length test ts)) ∙ ap (λ n. n + one_if b) was ∙ ap (λ b. count_by test ts + one_if b) same ∙ sym (count_more test t ts)

-- ---- stretches

-- no more seconds were announced in it than there were ticks
abbrev IsFew : ℕ → Stretch → Type 0
IsFew n s = (s.announced ≤ n) × (s.untrue ≤ n)

few_begun : (n : ℕ) (kind : Kind) (t : Tick) → IsFew (suc n) (begun kind t)
few_begun n kind t = (omega (arith, one_at_most (is_announced t)), omega (arith, one_at_most (is_untrue t)))

few_more : (n port : ℕ) (s : Stretch) (t : Tick) → IsFew n s → IsFew (suc n) (more port s t)
few_more n port s t h = (omega (arith, one_at_most (is_announced t), h.0), omega (arith, one_at_most (is_untrue t), h.1))

few_past : (n port : ℕ) (o : Option Stretch) (t : Tick) → IfSome o (IsFew n) → IsFew (suc n) (stretch_past port o t)
few_past n port None t h = few_begun n (kind_at port t) t
few_past n port (Some s) t h = elim (same_kind s.kind (kind_at port t)) as (λ b. IsFew (suc n) (cond b (more port s t) (begun (kind_at port t) t))) [
  | true ↦ few_more n port s t h
  | false ↦ few_begun n (kind_at port t) t
]

few_after : (n port : ℕ) (o : Option Stretch) (t : Tick) → IfSome o (IsFew n) → IfSome (stretch_after port o t) (IsFew (suc n))
few_after n port o t h = elim (same_kind (kind_at port t) Agreed) as (λ b. IfSome (cond b None (Some (stretch_past port o t))) (IsFew (suc n))) [
  | true ↦ tt
  | false ↦ few_past n port o t h
]

few_of : (port : ℕ) (ts : List Tick) → IfSome (stretch_of port ts) (IsFew (length ts))
few_of port [] = tt
few_of port (t ∷ ts) = few_after (length ts) port (stretch_of port ts) t (few_of port ts)

below : (o : Option Stretch) (n edge : ℕ) → n < edge → IfSome o (IsFew n) → IfSome o (IsBelow edge)
below None n edge lt h = tt
below (Some s) n edge lt h = (omega (arith, lt, h.0), omega (arith, lt, h.1))

pub open_more : (port : ℕ) (t : Tick) (ts : List Tick) (result o : Option Stretch) (edge : ℕ)
    → (IfSome o (IsBelow edge) → result ≡ stretch_after port o t) → o ≡ stretch_of port ts → length ts < edge
    → result ≡ stretch_of port (t ∷ ts)
open_more port t ts result o edge exact was few =
    exact (rw was (below (stretch_of port ts) (length ts) edge few (few_of port ts))) ∙ ap (λ o. stretch_after port o t) was

pub more_is : (port : ℕ) (s : Stretch) (t : Tick) (steady : Bool) (announced untrue : ℕ)
    → steady ≡ (same_offset (offset_at port s.first) (offset_at port t) && s.steady)
    → announced ≡ s.announced + one_if (is_announced t) → untrue ≡ s.untrue + one_if (is_untrue t)
    → ◌≡◌ {A = Stretch} (record { kind = s.kind; first = s.first; last = t; steady = steady; announced = announced; untrue = untrue }) (more port s t)
more_is port s t steady announced untrue h0 h1 h2 = rw (h0, h1, h2) refl

-- ---- accounts

pub same_port : (agreed silent faulty poor second mark : ℕ) (stretch : Option Stretch) (port : ℕ) (ts : List Tick)
    → agreed ≡ count_of Agreed port ts → silent ≡ count_of Silent port ts → faulty ≡ count_of Faulty port ts → poor ≡ count_of Poor port ts
    → second ≡ count_of AnotherSecond port ts → mark ≡ count_of AnotherMark port ts → stretch ≡ stretch_of port ts
    → ◌≡◌ {A = PortAccount} (record { agreed = agreed; silent = silent; faulty = faulty; poor = poor; another_second = second; another_mark = mark; stretch = stretch }) (port_account port ts)
same_port agreed silent faulty poor second mark stretch port ts h0 h1 h2 h3 h4 h5 h6 = rw (h0, h1, h2, h3, h4, h5, h6) refl

pub same_account : (a b c d e : PortAccount) (edges announced untrue : ℕ) (silence : Option Silence) (vote : Option Tick) (misled : Option Misled) (ts : List Tick)
    → a ≡ port_account 0 ts → b ≡ port_account 1 ts → c ≡ port_account 2 ts → d ≡ port_account 3 ts → e ≡ port_account 4 ts
    → edges ≡ length ts → announced ≡ count_by is_announced ts → untrue ≡ count_by is_untrue ts → silence ≡ silence_of ts
    → vote ≡ last_vote ts → misled ≡ misled_of ts
    → ◌≡◌ {A = Account} (record { a = a; b = b; c = c; d = d; e = e; edges = edges; announced = announced; untrue = untrue; silence = silence; vote = vote; misled = misled }) (account_of ts)
same_account a b c d e edges announced untrue silence vote misled ts h0 h1 h2 h3 h4 h5 h6 h7 h8 h9 h10 = rw (h0, h1, h2, h3, h4, h5, h6, h7, h8, h9, h10) refl
