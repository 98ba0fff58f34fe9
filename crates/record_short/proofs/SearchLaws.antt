-- The beginnings of a place more.
use Rattle.std.proofs.Common.{◌≡◌, ℕ, ◌+◌, ◌++◌, Option, None, refl, add-one}
use Rattle.record_short.specs.declared.search.Beginning.{Beginning}
use Rattle.record_short.specs.declared.search.Search.{Search}
use Rattle.record_short.specs.declared.seen.Seen.{Seen}
use Rattle.record_short.specs.Searches.{beginning_by, beginning_with, beginnings_below, deletion, insertion, present, unlike}

pub three_more : (s : Search) (seen : Seen) (n : ℕ) (p i d : Option Beginning) → p ≡ beginning_by s seen None n
    → i ≡ unlike (beginning_with s seen (insertion s) n) p None → d ≡ unlike (beginning_with s seen (deletion s) n) p i
    → ((beginnings_below s seen n ++ present p) ++ present i) ++ present d ≡ beginnings_below s seen (n + 1)
three_more s seen n p i d is_p is_i is_d = rw (add-one, is_d, is_i, is_p) refl
