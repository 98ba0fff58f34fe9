-- Zones stay in range, and the frame of a second carries its true claim.
use Rattle.std.proofs.Common.{◌≡◌, ℕ, ◌+◌, ◌-◌, ◌*◌, ◌/◌, ◌%◌, ◌^◌, ◌<◌, ◌≤◌, min, Bool, true, false, ◌&&◌, cond, eqb, ltb, is_some, List, [], ◌∷◌, Option, Some, None, Result, Ok, refl, sym, ap, subst, ◌∙◌, arith, inl, inr, zero, suc, ℤ, pos, negsuc, ◌+ℤ◌, neg_ℤ, int_lt, unsigned_abs}
use Rattle.std.specs.List.{list_all}
use Rattle.std.specs.Option.{option_map}
use Rattle.std.proofs.lemmas.Bool.{cases_Bool, cases_lt, and_parts, and_from, and_left, and_right, leb-true, lt-ltb, le-ltb, ltb-false, eq-eqb, ne_eqb}
use Rattle.irig_frame.specs.declared.symbol.Symbol.{Symbol}
use Rattle.irig_frame.specs.declared.coded.Coded.{Coded}
use Rattle.irig_control.proofs.ControlLaws.{unpacked, control_same}
use Rattle.irig_control.specs.declared.control.Control.{Control}
use Rattle.irig_control.specs.Control.{IsControl, flag, word_of, control_of}
use Rattle.irig_time.specs.declared.second.UtcSecond.{UtcSecond}
use Rattle.irig_time.specs.declared.claim.Claim.{Claim}
use Rattle.irig_time.specs.declared.mark.Mark.{Mark}
use Rattle.irig_time.specs.declared.mark.Mark.TheVariants.{Unspoken, NoLeap, Insert, Delete}
use Rattle.irig_time.specs.declared.claim.TimeFault.{TimeFault}
use Rattle.irig_time.specs.declared.rules.Sense.{Sense}
use Rattle.irig_time.specs.declared.rules.Sense.TheVariants.{Add, Subtract}
use Rattle.irig_time.specs.declared.rules.SbsUse.{SbsUse}
use Rattle.irig_time.specs.declared.rules.SbsUse.TheVariants.{Check, Ignore}
use Rattle.irig_time.specs.declared.leap.Leap.{Leap}
use Rattle.irig_time.specs.declared.leap.Leap.TheVariants as leap
use Rattle.irig_time.specs.Days.{is_month_end}
use Rattle.irig_time.specs.Seconds.{IsValid, has_come, minute_of, second_of}
use Rattle.irig_time.specs.CodedTime.{IsCodedOf}
use Rattle.irig_time.specs.Claims.{utc_minute, is_last_minute, claim_by, claim_of_second}
use Rattle.irig_time.specs.Timelines.{TimelineValue, IsSecond, IsTrueClaim, is_deletion, leap_of, length_by, mark_by, true_mark}
use Rattle.irig_time.specs.TimelineFaults.{IsTimeline}
use Rattle.irig_time.proofs.ClaimLaws.{added, subtracted}
use Rattle.irig_time.proofs.NextLaws.{valid_second}
use Rattle.irig_time.proofs.TimeLaws.{few, one_second}
use Rattle.irig_gen.specs.declared.zone.Zone.{Zone}
use Rattle.irig_gen.specs.declared.zone.Change.{Change}
use Rattle.irig_gen.specs.Zones.{in_order, fits, all_fit, zone_at}
use Rattle.irig_gen.specs.ControlBits.{offset_sent, control_in}
use Rattle.irig_gen.specs.Faults.{limited_offset, control_with_fault}
use Rattle.irig_gen.specs.Frames.{GeneratorValue, control_at, IsTrueFrame, IsFrameWithFault, IsFrameOrNone, IsSentFrom}
use Rattle.irig_time.specs.Frames.{IsFrameOfSecond}
use Rattle.irig_time.proofs.FrameLaws.{one_frame_of_second}
use Rattle.irig_time.specs.Carries.{SbsAgrees, Carries}
use Rattle.irig_gen.specs.declared.fault.GenFault.{GenFault}
use Rattle.irig_gen.specs.declared.fault.GenFault.TheVariants.{Silent, Stuck, Skew, NoPending, FalsePending, Quality, WrongOffset}
use Rattle.irig_gen.specs.Refusals.{IsGenerator}

-- ---- zones

pub zone_fits : (zone : Zone) (changes : List Change) (u : UtcSecond) → all_fit zone changes ≡ true → unsigned_abs (zone_at zone changes u).half_hours ≤ 31
zone_fits zone [] u h = leb-true _ _ (and_parts _ _ h).0
zone_fits zone (x ∷ xs) u h =
    let a = and_parts (fits zone) (fits x.zone && list_all (λ y. fits y.zone) xs) h in
    let b = and_parts (fits x.zone) (list_all (λ y. fits y.zone) xs) a.1 in
    elim (cases_Bool (has_come x.at u)) [
      | inl e ↦ subst (λ (c : Bool). unsigned_abs (zone_at (cond c x.zone zone) xs u).half_hours ≤ 31) (sym e) (zone_fits x.zone xs u (and_from _ _ b.0 b.1))
      | inr e ↦ subst (λ (c : Bool). unsigned_abs (zone_at (cond c x.zone zone) xs u).half_hours ≤ 31) (sym e) (zone_fits zone xs u (and_from _ _ a.0 b.1))
    ]

sound_zones : (g : GeneratorValue) → IsGenerator g → all_fit g.zone g.changes ≡ true
sound_zones g h =
    elim (cases_Bool (all_fit g.zone g.changes)) [
      | inl e ↦ e
      | inr e ↦ absurd (let k = rw e at h.sound in cc)
    ]

sound_order : (g : GeneratorValue) → IsGenerator g → in_order 0 g.changes ≡ true
sound_order g h =
    elim (cases_Bool (in_order 0 g.changes)) [
      | inl e ↦ e
      | inr e ↦ absurd (let k = rw (sound_zones g h, e) at h.sound in cc)
    ]

-- the changes that were read stand in order
pub changes_ordered : (g : GeneratorValue) (changes : List Change) → IsGenerator g → changes ≡ g.changes → in_order 0 changes ≡ true
changes_ordered g changes sound e = subst (λ (xs : List Change). in_order 0 xs ≡ true) (sym e) (sound_order g sound)

pub gen_zone_fits : (g : GeneratorValue) (u : UtcSecond) → IsGenerator g → unsigned_abs (zone_at g.zone g.changes u).half_hours ≤ 31
gen_zone_fits g u h = zone_fits g.zone g.changes u (sound_zones g h)

abs_neg : (h : ℤ) → unsigned_abs (neg_ℤ h) ≡ unsigned_abs h
abs_neg (pos zero) = refl
abs_neg (pos (suc n)) = refl
abs_neg (negsuc n) = refl

pub offset_fits : (sense : Sense) (h : ℤ) → unsigned_abs h ≤ 31 → unsigned_abs (offset_sent sense h) ≤ 31
offset_fits Add h small = rw (abs_neg h) small
offset_fits Subtract h small = small

pub control_fits : (sense : Sense) (zone : Zone) (changes : List Change) (leap : Option Leap) (u : UtcSecond) → unsigned_abs zone.half_hours ≤ 31 → IsControl (control_in sense zone changes leap u)
control_fits sense zone changes leap u h = record { offset = offset_fits sense zone.half_hours h; quality = omega arith }

-- ---- the claim of a second

abbrev minute_number : UtcSecond → ℕ
minute_number u = 1440 * u.day + minute_of u

last_is : (u : UtcSecond) (b : Bool) → (is_month_end u.day && eqb (minute_of u) 1439) ≡ b → is_last_minute (minute_number u) ≡ b
last_is u b h =
    let day : minute_number u / 1440 ≡ u.day = omega arith in
    let minute : minute_number u % 1440 ≡ minute_of u = omega arith in
    ap (λ (d : ℕ). is_month_end d && eqb (minute_number u % 1440) 1439) day ∙ ap (λ (m : ℕ). is_month_end u.day && eqb m 1439) minute ∙ h

abbrev claim : UtcSecond → Mark → Result Claim TimeFault
claim u mark = Ok (record { at = u; mark = mark })

not_last : (u : UtcSecond) (k : Control) → is_last_minute (minute_number u) ≡ false → claim_of_second u k ≡ claim u Unspoken
not_last u k h = rw h refl

not_heard : (u : UtcSecond) (k : Control) → is_last_minute (minute_number u) ≡ true → (ltb 0 (second_of u) && ltb (second_of u) 60) ≡ false → eqb (second_of u) 59 ≡ false → claim_of_second u k ≡ claim u Unspoken
not_heard u k last heard late = rw (last, heard, late) refl

abbrev bits_mark : Bool → Bool → Mark
bits_mark p d = cond p (cond d Delete Insert) NoLeap

is_heard : (u : UtcSecond) (k : Control) → is_last_minute (minute_number u) ≡ true → ltb 0 (second_of u) ≡ true → ltb (second_of u) 60 ≡ true → (eqb (second_of u) 59 && (k.leap_pending && k.leap_delete)) ≡ false → claim_of_second u k ≡ claim u (bits_mark k.leap_pending k.leap_delete)
is_heard u k last low high late = rw (last, low, high, late) refl

bits_say : (leap : Option Leap) (p d b : Bool) → b ≡ true → p ≡ (is_some leap && b) → d ≡ (is_deletion leap && b) → bits_mark p d ≡ mark_by leap
bits_say None p d b e hp hd = rw hp refl
bits_say (Some leap.Insert) p d b e hp hd = rw (hp, hd, e) refl
bits_say (Some leap.Delete) p d b e hp hd = rw (hp, hd, e) refl

not_deleted : (leap : Option Leap) (sod : ℕ) (p d b : Bool) → d ≡ (is_deletion leap && b) → sod < length_by leap → (eqb (sod - 86340) 59 && (p && d)) ≡ false
not_deleted None sod p d b e h = and_right _ _ (and_right _ _ e)
not_deleted (Some leap.Insert) sod p d b e h = and_right _ _ (and_right _ _ e)
not_deleted (Some leap.Delete) sod p d b e h = and_left _ _ (ne_eqb (sod - 86340) 59 (λ k. omega (arith, h, k)))

abbrev says : Option Leap → UtcSecond → Mark
says leap u = cond (is_month_end u.day) (cond (ltb u.sod 86341) Unspoken (cond (ltb u.sod 86400) (mark_by leap) Unspoken)) Unspoken

claim_is : (u : UtcSecond) (m n : Mark) → m ≡ n → claim u m ≡ claim u n
claim_is u m n e = rw e refl

pub true_second_claims : (u : UtcSecond) (leap : Option Leap) (k : Control) → u.sod < length_by leap → k.leap_pending ≡ (is_some leap && eqb (minute_of u) 1439) → k.leap_delete ≡ (is_deletion leap && eqb (minute_of u) 1439) → claim_of_second u k ≡ claim u (says leap u)
true_second_claims u leap k short p d =
    elim (cases_Bool (is_month_end u.day)) [
      | inr e ↦ rw e (not_last u k (last_is u false (and_left _ _ e)))
      | inl e ↦ elim (cases_lt u.sod 86340) [
        | inl lt ↦
            let early : eqb (minute_of u) 1439 ≡ false = ne_eqb (minute_of u) 1439 (λ m. omega (arith, m)) in
            rw (e, lt-ltb u.sod 86341 (omega arith)) (not_last u k (last_is u false (and_right _ _ early)))
        | inr ge ↦
            let minute : minute_of u ≡ 1439 = omega arith in
            let here : eqb (minute_of u) 1439 ≡ true = eq-eqb _ _ minute in
            let last : is_last_minute (minute_number u) ≡ true = last_is u true (and_from _ _ e here) in
            let second : second_of u ≡ u.sod - 86340 = omega (arith, minute) in
            elim (cases_lt u.sod 86341) [
              | inl first ↦ rw (e, lt-ltb u.sod 86341 first) (not_heard u k last (and_left _ _ (le-ltb 0 (second_of u) (omega (arith, second)))) (ne_eqb (second_of u) 59 (λ s. omega (arith, second, s))))
              | inr later ↦ elim (cases_lt u.sod 86400) [
                | inr over ↦ rw (e, le-ltb u.sod 86341 later, le-ltb u.sod 86400 over) (not_heard u k last (and_right _ _ (le-ltb (second_of u) 60 (omega (arith, second)))) (ne_eqb (second_of u) 59 (λ s. omega (arith, second, s))))
                | inl within ↦
                    let not_cut : (eqb (second_of u) 59 && (k.leap_pending && k.leap_delete)) ≡ false =
                    ap (λ (s : ℕ). eqb s 59 && (k.leap_pending && k.leap_delete)) second ∙ not_deleted leap u.sod k.leap_pending k.leap_delete (eqb (minute_of u) 1439) d short in
                    rw (e, le-ltb u.sod 86341 later, lt-ltb u.sod 86400 within)
                    (is_heard u k last (lt-ltb 0 (second_of u) (omega (arith, second))) (lt-ltb (second_of u) 60 (omega (arith, second))) not_cut
                    ∙ claim_is u _ _ (bits_say leap k.leap_pending k.leap_delete (eqb (minute_of u) 1439) here p d))
              ]
            ]
      ]
    ]

-- ---- what a true frame carries

pub by_sense : (sense : Sense) (u : UtcSecond) (h : ℤ) (c : Coded) (k : Control) → IsValid u → unsigned_abs h ≤ 31 → IsCodedOf u h c → k.offset_half_hours ≡ offset_sent sense h → claim_by sense c k ≡ claim_of_second u k
by_sense Add u h c k valid small r e = added u h c k valid small r e
by_sense Subtract u h c k valid small r e = subtracted u h c k valid small r e

pub without_control : (sense : Sense) (c : Coded) (k : Control) → claim_by sense c k ≡ claim_by sense (record c { control = 0 }) k
unfolding utc_minute
without_control Add c k = refl
without_control Subtract c k = refl

sbs_agrees : (sbs : SbsUse) (u : UtcSecond) (h : ℤ) (c : Coded) → IsCodedOf u h (record c { control = 0 }) → SbsAgrees sbs c
sbs_agrees Check u h c r = λ _. r.sbs
sbs_agrees Ignore u h c r = tt

-- the control bits of a frame are its word, whatever the parity is
pub control_back : (w : ℕ) (k : Control) → IsControl k → w < 2 ^ 15 → w % 2 ^ 14 ≡ word_of k → control_of w ≡ k
control_back w k fits low e =
    elim (cases_lt w (2 ^ 14)) [
      | inl lt ↦ let same : w ≡ word_of k = omega (arith, e) in ap control_of same ∙ unpacked k fits
      | inr ge ↦ let same : w ≡ word_of k + 2 ^ 14 * flag true = omega (arith, e) in ap control_of same ∙ control_same (word_of k) true ∙ unpacked k fits
    ]

pub true_frames : (g : GeneratorValue) (t : TimelineValue) (edge : ℕ) (s : List Symbol) → IsGenerator g → IsTimeline t → IsTrueFrame g t edge s → (c : Claim) × IsTrueClaim t (edge + 1) c × Carries g.rules s c
true_frames g t edge s sound line f =
    let u = f.second in
    let k = control_at g t u in
    let zone = zone_at g.zone g.changes u in
    let valid = valid_second t edge u line f.is in
    let coded = f.frame.coded in
    let sent = control_back coded.control k (control_fits g.rules.sense zone g.changes (leap_of t.leaps u.day) u (gen_zone_fits g u sound)) f.frame.unused f.frame.control in
    let claims : claim_by g.rules.sense coded (control_of coded.control) ≡ Ok (record { at = u; mark = true_mark t.leaps u }) =
    ap (claim_by g.rules.sense coded) sent ∙ without_control g.rules.sense coded k
    ∙ by_sense g.rules.sense u zone.half_hours (record coded { control = 0 }) k valid (gen_zone_fits g u sound) f.frame.time refl
    ∙ true_second_claims u (leap_of t.leaps u.day) k f.is.sod refl refl in
    let quality : (control_of coded.control).quality ≡ 0 = ap (λ (c : Control). c.quality) sent in (
      record { at = u; mark = true_mark t.leaps u },
      record { second = (edge, refl, f.is); mark = refl },
      record {
        coded = coded;
        reads = f.frame.reads;
        parity = f.frame.has_parity;
        sbs = sbs_agrees g.rules.sbs u zone.half_hours coded f.frame.time;
        quality = omega (arith, quality);
        claims = claims;
      },
    )

pub sent_zone_fits : (g : GeneratorValue) (changes : List Change) (u : UtcSecond) (z : Zone) → IsGenerator g → changes ≡ g.changes → z ≡ zone_at g.zone changes u → unsigned_abs z.half_hours ≤ 31
sent_zone_fits g changes u z sound e is =
    subst (λ (x : Zone). unsigned_abs x.half_hours ≤ 31) (sym (is ∙ ap (λ (cs : List Change). zone_at g.zone cs u) e)) (gen_zone_fits g u sound)

-- what the calls of `frame_at` gave is the frame of the edge
pub frame_at_is : (g whole : GeneratorValue) (t : TimelineValue) (edge : ℕ) (u : UtcSecond) (s : List Symbol) (h : ℤ) (z : Zone) (k : Control) (first second : List Change) (leap : Option Leap)
    → g ≡ whole → IsSecond t edge u → first ≡ g.changes → second ≡ g.changes → z ≡ zone_at g.zone first u → h ≡ z.half_hours
    → leap ≡ leap_of t.leaps u.day → k ≡ control_in g.rules.sense z second leap u → (fault : Option GenFault) (sent : Control) → sent ≡ control_with_fault fault k → IsFrameOfSecond g.rules.parity u h sent s → IsFrameWithFault fault whole t edge s
frame_at_is g whole t edge u s h z k first second leap same is a b zone half leaps control fault sent sent_is frame =
    let zone_is : z ≡ zone_at g.zone g.changes u = zone ∙ ap (λ (cs : List Change). zone_at g.zone cs u) a in
    let half_is : h ≡ (zone_at g.zone g.changes u).half_hours = half ∙ ap (λ (x : Zone). x.half_hours) zone_is in
    let control_is : k ≡ control_at g t u =
    control ∙ ap (λ (x : Zone). control_in g.rules.sense x second leap u) zone_is
    ∙ ap (λ (cs : List Change). control_in g.rules.sense (zone_at g.zone g.changes u) cs leap u) b
    ∙ ap (λ (o : Option Leap). control_in g.rules.sense (zone_at g.zone g.changes u) g.changes o u) leaps in
    let right : IsFrameOfSecond g.rules.parity u (zone_at g.zone g.changes u).half_hours (control_with_fault fault (control_at g t u)) s =
    subst (λ (x : Control). IsFrameOfSecond g.rules.parity u (zone_at g.zone g.changes u).half_hours x s) (sent_is ∙ ap (control_with_fault fault) control_is) (subst (λ (x : ℤ). IsFrameOfSecond g.rules.parity u x sent s) half_is frame) in
    subst (λ (x : GeneratorValue). IsFrameWithFault fault x t edge s) same (record { second = u; is = is; frame = right })

within : (z : ℤ) → int_lt z (neg_ℤ (pos 31)) ≡ false → int_lt (pos 31) z ≡ false → unsigned_abs z ≤ 31
within (pos n) low high = omega (arith, ltb-false 31 n high)
within (negsuc n) low high = omega (arith, ltb-false 30 n low)

limited_fits : (z : ℤ) → unsigned_abs (limited_offset z) ≤ 31
limited_fits z =
    elim (cases_Bool (int_lt z (neg_ℤ (pos 31)))) [
      | inl e ↦ rw e (omega arith)
      | inr e ↦ elim (cases_Bool (int_lt (pos 31) z)) [
        | inl f ↦ rw (e, f) (omega arith)
        | inr f ↦ rw (e, f) (within z e f)
      ]
    ]

pub faulted_fits : (fault : Option GenFault) (k : Control) → IsControl k → IsControl (control_with_fault fault k)
faulted_fits None k h = h
faulted_fits (Some Silent) k h = h
faulted_fits (Some Stuck) k h = h
faulted_fits (Some (Skew by)) k h = h
faulted_fits (Some NoPending) k h = record { offset = h.offset; quality = h.quality }
faulted_fits (Some (FalsePending l)) k h = record { offset = h.offset; quality = h.quality }
faulted_fits (Some (Quality q)) k h = record { offset = h.offset; quality = omega arith }
faulted_fits (Some (WrongOffset by)) k h = record { offset = limited_fits (k.offset_half_hours +ℤ by); quality = h.quality }

-- ---- skewed edges

-- past 2^64 there is no second, and so the last edge below serves for all of them
pub as_far : (fault : Option GenFault) (g : GeneratorValue) (t : TimelineValue) (edge : ℕ) (o : Option (List Symbol)) → IsFrameOrNone fault g t (min edge (2 ^ 64 - 1)) o → IsFrameOrNone fault g t edge o
as_far fault g t edge o h =
    elim (cases_lt edge (2 ^ 64)) [
      | inl lt ↦ let same : min edge (2 ^ 64 - 1) ≡ edge = omega arith in subst (λ (e : ℕ). IsFrameOrNone fault g t e o) same h
      | inr ge ↦ let last : min edge (2 ^ 64 - 1) ≡ 2 ^ 64 - 1 = omega arith in beyond ge o (subst (λ (e : ℕ). IsFrameOrNone fault g t e o) last h)
    ]
  where
    beyond : 2 ^ 64 ≤ edge → (o : Option (List Symbol)) → IsFrameOrNone fault g t (2 ^ 64 - 1) o → IsFrameOrNone fault g t edge o
    beyond ge None h = λ u a. omega (arith, few t edge u a, ge)
    beyond ge (Some s) h = absurd (omega (arith, few t (2 ^ 64 - 1) h.second h.is))

-- an edge as the code counts it
abbrev pub last_edge : ℕ → ℕ
last_edge e = min e (2 ^ 64 - 1)

-- what is sent at the edge that the fault gives
pub sent_from : (g : GeneratorValue) (t : TimelineValue) (o : Option (List Symbol)) (sent : Option ℕ) (edge : ℕ) → ◌≡◌ {A = Option ℕ} (option_map last_edge sent) (Some edge) → IsFrameOrNone g.fault g t edge o → IsSentFrom sent g t o
sent_from g t o None edge e h = absurd cc
sent_from g t o (Some far) edge e h =
    let same : min far (2 ^ 64 - 1) ≡ edge = cc in
    as_far g.fault g t far o (subst (λ (x : ℕ). IsFrameOrNone g.fault g t x o) (sym same) h)

-- ---- one frame for each edge

pub one_frame_by : (fault : Option GenFault) (g : GeneratorValue) (t : TimelineValue) (edge : ℕ) (s r : List Symbol) → IsFrameWithFault fault g t edge s → IsFrameWithFault fault g t edge r → s ≡ r
one_frame_by fault g t edge s r a b =
    let same = one_second t edge b.second a.second b.is a.is in
    let other = subst (λ (u : UtcSecond). IsFrameOfSecond g.rules.parity u (zone_at g.zone g.changes u).half_hours (control_with_fault fault (control_at g t u)) r) same b.frame in
    one_frame_of_second g.rules.parity a.second (zone_at g.zone g.changes a.second).half_hours (control_with_fault fault (control_at g t a.second)) s r a.frame other
