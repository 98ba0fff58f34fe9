-- Instances of what a log vouches for by its port lines that hold, and instances that do not.
use Rattle.std.proofs.Common.{◌≡◌, ◌≢◌, ℕ, ◌≤◌, false, All, List, [], ◌∷◌, ◌++◌, length, None, Some, refl, sym, ap, subst, arith, codes}
use Rattle.std.specs.Prelude.{slice_get, unwrap_or}
use Rattle.std.specs.List.{AllByRecursion}
use Rattle.std.specs.Fmt.{digits}
use Rattle.std.proofs.lemmas.Bool.{false≢true}
use Rattle.std.proofs.lemmas.List.{length-append}
use Rattle.std.proofs.lemmas.List.Elements.{All-from_recursion}
use Rattle.scenario_line.proofs.PlainLines.{plan}
use Rattle.report_log.specs.LogLines.{whole_lines}
use Rattle.report_log.specs.PortWords.{ShowsVoted, ShowsWords, has_false_majority}
use Rattle.report_log.proofs.LogLaws.{shown_once}
use Rattle.report_log.proofs.PortWordLaws.{words_once}
use Rattle.report_run.specs.Lines.{lines}
use Rattle.irig_scene.specs.LogLines.{IsTimeOf}
use Rattle.irig_scene.specs.VouchedByPorts.{ShowsTruthByPorts, IsTrueByPorts, VouchesByPorts}
use Rattle.irig_scene.proofs.VouchedFacts.{bytes, plant, only_plant, time, named, is_time_of_2, not_time_of_3, right_line, wrong_line, right_shows, wrong_shows}

-- ---- of the plain plant: its reader r1 shows T(2) at edge 2, which is true, and at edge 3, which
-- is not

abbrev names : List (List ℕ)
names = plan.names

abbrev first : List (List ℕ) → List ℕ
first ls = unwrap_or (slice_get ls 0) []

abbrev second : List (List ℕ) → List ℕ
second ls = unwrap_or (slice_get ls 1) []

abbrev third : List (List ℕ) → List ℕ
third ls = unwrap_or (slice_get ls 2) []

abbrev initial : List ℕ → ℕ
initial l = unwrap_or (slice_get l 0) 0

-- a true line is true by whatever stands behind it
right_by_ports : (next : List ℕ) → ShowsTruthByPorts names plan.setup.times right_line next
right_by_ports next r n text words line told none =
    let one = shown_once names right_line r n 0 2 text time named line.shows right_shows in
    subst (λ m. IsTimeOf plan.setup.times m text) (sym one.edge) (subst (λ l. IsTimeOf plan.setup.times 2 l) (sym one.time_is) is_time_of_2)

-- a false one is not, if the words behind it have no false majority
wrong_voted : ShowsVoted names wrong_line 0 3 time
unfolding digits
wrong_voted = record { shows = record { number = omega arith; named = omega arith; word = wrong_shows.word; more = codes "locked voted"; is = refl }; voted = refl }

wrong_by_ports : (next : List ℕ) (words : List (List ℕ)) → ShowsWords names next 0 3 words → has_false_majority words ≡ false → ¬ IsTrueByPorts bytes wrong_line next
wrong_by_ports next words told none h =
    let only = only_plant h.names h.times h.plant in
    let of_names : ShowsTruthByPorts names h.times wrong_line next = subst (λ ns. ShowsTruthByPorts ns h.times wrong_line next) only.0 h.shown in
    let of_times : ShowsTruthByPorts names plan.setup.times wrong_line next = subst (λ t. ShowsTruthByPorts names t wrong_line next) only.1 of_names in
    not_time_of_3 (of_times 0 3 time words wrong_voted told none)

-- ---- logs

-- of two lines, and at most one more that is no port line
pair_of : (a b : List ℕ) (rest : List (List ℕ)) (above later : List (List ℕ)) (line words : List ℕ) → length rest ≤ 1 → initial (third (a ∷ b ∷ rest)) ≢ 32 → a ∷ b ∷ rest ≡ above ++ line ∷ (32 ∷ words) ∷ later
    → (a ≡ line) × (b ≡ 32 ∷ words)
pair_of a b rest [] later line words few apart is = (ap first is, ap second is)
pair_of a b rest (x ∷ []) later line words few apart is = absurd (apart (ap (λ ls. initial (third ls)) is))
pair_of a b rest (x ∷ y ∷ above) later line words few apart is = absurd (omega (arith, few, ap length is, length-append above (line ∷ (32 ∷ words) ∷ later)))

-- a true line with its port line, in a log that broke, and in one that was torn
right_pair : (rest above later : List (List ℕ)) (line words next : List ℕ) → length rest ≤ 1 → initial (third (right_line ∷ next ∷ rest)) ≢ 32 → right_line ∷ next ∷ rest ≡ above ++ line ∷ (32 ∷ words) ∷ later
    → IsTrueByPorts bytes line (32 ∷ words)
right_pair rest above later line words next few apart is =
    let at = pair_of right_line next rest above later line words few apart is in
    record { names = names; times = plan.setup.times; plant = plant; shown = subst (λ l. ShowsTruthByPorts names plan.setup.times l (32 ∷ words)) at.0 (right_by_ports (32 ∷ words)) }

vouches_broken : VouchesByPorts bytes (codes "2 r1 2016-12-31T12:00:02Z locked voted\n 2 r1 ok ok 2016-12-31T12:00:01Z\npremises broken: edge 3 reader r1\n")
unfolding whole_lines
vouches_broken above later line words is =
    right_pair (codes "premises broken: edge 3 reader r1" ∷ []) above later line words (codes " 2 r1 ok ok 2016-12-31T12:00:01Z") (omega arith) (λ e. omega (arith, e)) is

vouches_torn : VouchesByPorts bytes (codes "2 r1 2016-12-31T12:00:02Z locked voted\n 2 r1 ok ok 2016-12-31T12:00:01Z\n3 r1 2016-12-31T12:0")
unfolding whole_lines
vouches_torn above later line words is = right_pair [] above later line words (codes " 2 r1 ok ok 2016-12-31T12:00:01Z") (omega arith) (λ e. omega (arith, e)) is

-- words of a line
abbrev ok : List ℕ
ok = codes "ok"

abbrev lie : List ℕ
lie = codes "2016-12-31T12:00:01Z"

abbrev insert : List ℕ
insert = codes "insert"

no_blank : (word : List ℕ) → AllByRecursion (λ b. b ≢ 32) word → All (λ b. b ≢ 32) word
no_blank word h = All-from_recursion (λ b. b ≢ 32) word h

three : (a b c : List ℕ) → All (λ b. b ≢ 32) a → All (λ b. b ≢ 32) b → All (λ b. b ≢ 32) c → All (All (λ b. b ≢ 32)) (a ∷ b ∷ c ∷ [])
three a b c h k l = All-from_recursion (All (λ b. b ≢ 32)) (a ∷ b ∷ c ∷ []) (h, (k, (l, tt)))

-- a false line stands behind no two equal untrue words
one_lies : ShowsWords names (codes " 3 r1 ok ok 2016-12-31T12:00:01Z") 0 3 (ok ∷ ok ∷ lie ∷ [])
unfolding digits
one_lies = record { number = omega arith; named = omega arith; apart = three ok ok lie (no_blank ok (search arith)) (no_blank ok (search arith)) (no_blank lie (search arith)); is = refl }

not_by_one : ¬ VouchesByPorts bytes (codes "3 r1 2016-12-31T12:00:02Z locked voted\n 3 r1 ok ok 2016-12-31T12:00:01Z\n")
unfolding whole_lines
not_by_one h = wrong_by_ports (codes " 3 r1 ok ok 2016-12-31T12:00:01Z") (ok ∷ ok ∷ lie ∷ []) one_lies refl (h [] [] wrong_line (codes "3 r1 ok ok 2016-12-31T12:00:01Z") refl)

two_differ : ShowsWords names (codes " 3 r1 insert ok 2016-12-31T12:00:01Z") 0 3 (insert ∷ ok ∷ lie ∷ [])
unfolding digits
two_differ =
    record { number = omega arith; named = omega arith; apart = three insert ok lie (no_blank insert (search arith)) (no_blank ok (search arith)) (no_blank lie (search arith)); is = refl }

not_by_two : ¬ VouchesByPorts bytes (codes "3 r1 2016-12-31T12:00:02Z locked voted\n 3 r1 insert ok 2016-12-31T12:00:01Z\npremises kept\n")
unfolding whole_lines
not_by_two h =
    wrong_by_ports (codes " 3 r1 insert ok 2016-12-31T12:00:01Z") (insert ∷ ok ∷ lie ∷ []) two_differ refl (h [] (codes "premises kept" ∷ []) wrong_line (codes "3 r1 insert ok 2016-12-31T12:00:01Z") refl)

-- of one behind which two stand nothing is said
two_lie : ShowsWords names (codes " 3 r1 2016-12-31T12:00:01Z ok 2016-12-31T12:00:01Z") 0 3 (lie ∷ ok ∷ lie ∷ [])
unfolding digits
two_lie =
    record { number = omega arith; named = omega arith; apart = three lie ok lie (no_blank lie (search arith)) (no_blank ok (search arith)) (no_blank lie (search arith)); is = refl }

misled : VouchesByPorts bytes (codes "3 r1 2016-12-31T12:00:02Z locked voted\n 3 r1 2016-12-31T12:00:01Z ok 2016-12-31T12:00:01Z\n")
unfolding whole_lines
misled above later line words is =
    let at = pair_of wrong_line (codes " 3 r1 2016-12-31T12:00:01Z ok 2016-12-31T12:00:01Z") [] above later line words (omega arith) (λ e. omega (arith, e)) is in
    record {
      names = names;
      times = plan.setup.times;
      plant = plant;
      shown = λ r n text ws line told none.
          let lies = subst (λ next. ShowsWords names next r n ws) (sym at.1) told in
          let one = words_once names (codes " 3 r1 2016-12-31T12:00:01Z ok 2016-12-31T12:00:01Z") r n 0 3 ws (lie ∷ ok ∷ lie ∷ []) named lies two_lie in
          let clash : has_false_majority (lie ∷ ok ∷ lie ∷ []) ≡ false = subst (λ ws. has_false_majority ws ≡ false) one.words_are none in
          absurd (false≢true (sym clash));
    }

-- without a plant line there is no such log
no_plant_vouches : ¬ VouchesByPorts [] (codes "2 r1 2016-12-31T12:00:02Z locked voted\n 2 r1 ok ok ok\n")
unfolding whole_lines lines
no_plant_vouches h =
    let says = h [] [] right_line (codes "2 r1 ok ok ok") refl in
    let none : None ≡ Some says.plant.line = says.plant.first in
    absurd cc
