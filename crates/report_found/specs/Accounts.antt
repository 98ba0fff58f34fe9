-- What the ticks of a reader come to, the newest first.
use Rattle.std.specs.Prelude.{ℕ, ◌==◌, if◌then◌else◌, List, length, count_by}
use Rattle.report_found.specs.declared.account.Account.{Account}
use Rattle.report_found.specs.declared.account.PortAccount.{PortAccount}
use Rattle.report_found.specs.declared.kind.Kind.{Kind}
use Rattle.report_found.specs.declared.kind.Kind.TheVariants.{Agreed, Silent, Faulty, Poor, AnotherSecond, AnotherMark}
use Rattle.report_found.specs.declared.tick.Tick.{Tick}
use Rattle.report_found.specs.Kinds.{same_kind}
use Rattle.report_found.specs.Ticks.{kind_at, is_announced, is_untrue}
use Rattle.report_found.specs.Stretches.{stretch_of, silence_of, last_vote, misled_of}

-- at how many of them a port told this kind
abbrev pub count_of : Kind → ℕ → List Tick → ℕ
count_of kind port ts = count_by (λ t. same_kind (kind_at port t) kind) ts

-- the account of a port
abbrev pub port_account : ℕ → List Tick → PortAccount
port_account port ts = record {
  agreed = count_of Agreed port ts;
  silent = count_of Silent port ts;
  faulty = count_of Faulty port ts;
  poor = count_of Poor port ts;
  another_second = count_of AnotherSecond port ts;
  another_mark = count_of AnotherMark port ts;
  stretch = stretch_of port ts;
}

-- the account of the reader
abbrev pub account_of : List Tick → Account
account_of ts = record {
  a = port_account 0 ts;
  b = port_account 1 ts;
  c = port_account 2 ts;
  d = port_account 3 ts;
  e = port_account 4 ts;
  edges = length ts;
  announced = count_by is_announced ts;
  untrue = count_by is_untrue ts;
  silence = silence_of ts;
  vote = last_vote ts;
  misled = misled_of ts;
}

-- the account of a port in it, 0 to 4
abbrev pub port_of : ℕ → Account → PortAccount
port_of port x =
    if port == 0 then x.a
    else (if port == 1 then x.b
    else (if port == 2 then x.c
    else (if port == 3 then x.d else x.e)))
