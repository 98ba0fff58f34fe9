-- Instances of what a log vouches for whose premises broke that hold, and instances that do not.
use Rattle.std.proofs.Common.{◌≡◌, ℕ, ◌<◌, List, [], ◌∷◌, ◌++◌, length, All, Some, None, refl, sym, ap, subst, arith, codes}
use Rattle.std.specs.Prelude.{slice_get, unwrap_or}
use Rattle.std.specs.Fmt.{digits}
use Rattle.std.proofs.lemmas.List.{length-append}
use Rattle.std.proofs.lemmas.List.Elements.{recursion_from_All, All-from_recursion}
use Rattle.scenario_line.proofs.PlainLines.{plan}
use Rattle.report_log.specs.LogLines.{whole_lines, Shows, broken_line}
use Rattle.report_log.proofs.LogLaws.{shown_once}
use Rattle.report_run.specs.Lines.{lines}
use Rattle.irig_scene.specs.VouchedLines.{ShowsTruth}
use Rattle.irig_scene.specs.BrokenLogs.{ShowsTruthBefore, AreTrueUntil, VouchesUntilBroken}
use Rattle.irig_scene.proofs.VouchedFacts.{bytes, plant, only_plant, time, named, no_dash, not_time_of_3, right_line, wrong_line, right_shows, wrong_shows, right_is_true, wrong_is_false}

-- how such a line reads
known_broken : broken_line 12 (codes "r1") ≡ codes "premises broken: edge 12 reader r1"
unfolding digits
known_broken = refl

-- ---- of the plain plant: its reader r1 shows T(2) at edge 2, which is true, and at edge 3, which
-- is not

abbrev names : List (List ℕ)
names = plan.names

-- a wrong line of edge 3 is no wrong line before edge 3, but is one before edge 4
wrong_at_3 : ShowsTruthBefore names plan.setup.times 0 3 wrong_line
wrong_at_3 n text low s apart =
    let one = shown_once names wrong_line 0 n 0 3 text time named s wrong_shows in
    absurd (omega (arith, low, one.edge))

not_before_4 : ¬ ShowsTruthBefore names plan.setup.times 0 4 wrong_line
not_before_4 h = not_time_of_3 (h 3 time (omega arith) wrong_shows no_dash)

right_before : (edge : ℕ) → ShowsTruthBefore names plan.setup.times 0 edge right_line
right_before edge n text low s apart = right_is_true 0 n text s apart

abbrev first : List (List ℕ) → List ℕ
first ls = unwrap_or (slice_get ls 0) []

-- if edge 3 broke the premises, all before it is true
until_3 : AreTrueUntil bytes 3 (codes "r1") (right_line ∷ wrong_line ∷ [])
until_3 = record {
  names = names;
  times = plan.setup.times;
  plant = plant;
  reader = 0;
  known = omega arith;
  named = refl;
  own = All-from_recursion (ShowsTruthBefore names plan.setup.times 0 3) (right_line ∷ wrong_line ∷ []) (right_before 3, (wrong_at_3, tt));
  before = at;
}
  where
    at : (earlier later : List (List ℕ)) (line text : List ℕ) → right_line ∷ wrong_line ∷ [] ≡ earlier ++ line ∷ later → Shows names line 0 3 text → All (ShowsTruth names plan.setup.times) earlier
    at [] later line text is s = All-from_recursion (ShowsTruth names plan.setup.times) [] tt
    at (a ∷ []) later line text is s =
        let same : right_line ≡ a = ap first is in
        All-from_recursion (ShowsTruth names plan.setup.times) (a ∷ []) (subst (ShowsTruth names plan.setup.times) same right_is_true, tt)
    at (a ∷ b ∷ ls) later line text is s = absurd (omega (arith, ap length is, length-append ls (line ∷ later)))

-- the one reader
only_reader : (r : ℕ) (ns : List (List ℕ)) → ns ≡ names → r < length ns → 0 ≡ r
only_reader r ns same low = omega (arith, low, ap length same)

-- if edge 4 did, the line of edge 3 has to be true
not_until_4 : ¬ VouchesUntilBroken bytes (codes "2 r1 2016-12-31T12:00:02Z locked voted\n3 r1 2016-12-31T12:00:02Z locked voted\npremises broken: edge 4 reader r1\n")
unfolding whole_lines digits
not_until_4 h =
    let says = h 4 (codes "r1") (right_line ∷ wrong_line ∷ []) (omega arith) refl in
    let only = only_plant says.names says.times says.plant in
    let own = (recursion_from_All (ShowsTruthBefore says.names says.times says.reader 4) (right_line ∷ wrong_line ∷ []) says.own).1.0 in
    let of_names = subst (λ ns. ShowsTruthBefore ns says.times says.reader 4 wrong_line) only.0 own in
    let of_times = subst (λ t. ShowsTruthBefore names t says.reader 4 wrong_line) only.1 of_names in
    not_before_4 (subst (λ r. ShowsTruthBefore names plan.setup.times r 4 wrong_line) (sym (only_reader says.reader says.names only.0 says.known)) of_times)

-- if edge 2 did, a line before that of edge 2 has to be true, whatever its edge
not_before_2 : ¬ VouchesUntilBroken bytes (codes "3 r1 2016-12-31T12:00:02Z locked voted\n2 r1 2016-12-31T12:00:02Z locked voted\npremises broken: edge 2 reader r1\n")
unfolding whole_lines digits
not_before_2 h =
    let says = h 2 (codes "r1") (wrong_line ∷ right_line ∷ []) (omega arith) refl in
    let only = only_plant says.names says.times says.plant in
    let shows : Shows says.names right_line says.reader 2 time = subst (λ ns. Shows ns right_line says.reader 2 time) (sym only.0) (subst (λ r. Shows names right_line r 2 time) (only_reader says.reader says.names only.0 says.known) right_shows) in
    let before = (recursion_from_All (ShowsTruth says.names says.times) (wrong_line ∷ []) (says.before (wrong_line ∷ []) [] right_line time refl shows)).0 in
    wrong_is_false (subst (λ t. ShowsTruth names t wrong_line) only.1 (subst (λ ns. ShowsTruth ns says.times wrong_line) only.0 before))

-- no plant, no such line
no_plant_breaks : ¬ VouchesUntilBroken [] (codes "premises broken: edge 1 reader r1\n")
unfolding whole_lines lines digits
no_plant_breaks h =
    let says = h 1 (codes "r1") [] (omega arith) refl in
    let none : None ≡ Some says.plant.line = says.plant.first in
    absurd cc
