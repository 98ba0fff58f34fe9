-- The frame of a second with given control bits: there is one, and it is the one that is written.
use Rattle.std.proofs.Common.{◌≡◌, ℕ, ◌+◌, ◌*◌, ◌^◌, ◌≤◌, Bool, not, List, slice_set, refl, sym, ap, ◌∙◌, arith, inl, inr, ℤ, unsigned_abs}
use Rattle.std.proofs.lemmas.Bool.Decides.{nat_tests}
use Rattle.irig_frame.specs.declared.symbol.Symbol.{Symbol}
use Rattle.irig_frame.specs.declared.symbol.Symbol.TheVariants.{Zero}
use Rattle.irig_frame.specs.declared.coded.Coded.{Coded}
use Rattle.irig_frame.specs.Decoder.{Reads, IsCoded}
use Rattle.irig_frame.specs.Encoder.{HasUnusedZeros, frame_of_coded}
use Rattle.irig_frame.proofs.EncodingLaws.{written_reads, written_spare}
use Rattle.irig_control.specs.declared.control.Control.{Control}
use Rattle.irig_control.specs.declared.parity.Parity.{Parity}
use Rattle.irig_control.specs.Control.{IsControl, flag, word_of}
use Rattle.irig_control.specs.Parity.{HasParity, data_symbol, has_parity}
use Rattle.irig_control.proofs.ControlLaws.{word_of-below, flag_below}
use Rattle.irig_control.proofs.ParityKeeps.{reads_kept, spare_kept, one_with_parity}
use Rattle.irig_control.proofs.ParityLaws.{parity_given}
use Rattle.irig_time.specs.declared.second.UtcSecond.{UtcSecond}
use Rattle.irig_time.specs.Days.{year_length}
use Rattle.irig_time.specs.Seconds.{IsValid, second_of}
use Rattle.irig_time.specs.CodedTime.{IsCodedOf, time_shown}
use Rattle.irig_time.specs.Frames.{IsFrameOfSecond, frame_of_second}
use Rattle.irig_time.proofs.CodedLaws.{one_coded}
use Rattle.irig_time.proofs.TimeShown.{time_is_shown}

pub frame_is : (parity : Parity) (u : UtcSecond) (h : ℤ) (k : Control) (time : Coded) (s : List Symbol) (b : Bool) → IsControl k → IsCodedOf u h time
    → Reads s (record time { control = word_of k }) → HasUnusedZeros s → HasParity parity (slice_set s 75 (data_symbol b))
    → IsFrameOfSecond parity u h k (slice_set s 75 (data_symbol b))
frame_is parity u h k time s b control coded reads spare right =
    let small = word_of-below k control in
    record {
      coded = record time { control = word_of k + 2 ^ 14 * flag b };
      reads = reads_kept s b (record time { control = word_of k }) reads small;
      time = record { time = coded.time; second = coded.second; day = coded.day; year = coded.year; hour = coded.hour; minute = coded.minute; sbs = coded.sbs; control = refl };
      control = omega (arith, small, flag_below b);
      unused = omega (arith, small, flag_below b);
      spare = spare_kept s b spare;
      has_parity = right;
    }

pub coded_fits : (u : UtcSecond) (h : ℤ) (k : Control) (time : Coded) → IsValid u → IsControl k → IsCodedOf u h time → IsCoded (record time { control = word_of k })
coded_fits u h k time valid control coded =
    let low : u.sod ≤ 86400 = elim valid.sod [ inl a ↦ omega (arith, a) | inr b ↦ omega (arith, b.0) ] in
    let second : second_of u ≤ 60 = omega (arith, low) in
    record {
      second = omega (arith, coded.second, second);
      minute = coded.minute;
      hour = coded.hour;
      day = (coded.day.0, year_long time.year time.day coded.day.1);
      year = coded.year;
      control = omega (arith, word_of-below k control);
      sbs = omega (arith, coded.sbs, coded.hour, coded.minute, coded.second, second);
    }
  where
    year_long : (y d : ℕ) → d ≤ year_length y → d ≤ 366
    year_long y d h = grind (arith, nat_tests)

pub frame_of_second_is : (parity : Parity) (u : UtcSecond) (h : ℤ) (k : Control) → IsValid u → unsigned_abs h ≤ 31 → IsControl k → IsFrameOfSecond parity u h k (frame_of_second parity u h k)
unfolding frame_of_second
frame_of_second_is parity u h k valid small control =
    let time = time_shown u h in
    let coded = time_is_shown u h valid small in
    let s = frame_of_coded (record time { control = word_of k }) in
    let reads = written_reads (record time { control = word_of k }) (coded_fits u h k time valid control coded) in
    frame_is parity u h k time s (not (has_parity parity (slice_set s 75 Zero))) control coded reads (written_spare (record time { control = word_of k }))
    (parity_given parity s (omega (arith, reads.len)))

pub one_frame_of_second : (p : Parity) (u : UtcSecond) (h : ℤ) (k : Control) (s t : List Symbol) → IsFrameOfSecond p u h k s → IsFrameOfSecond p u h k t → s ≡ t
one_frame_of_second p u h k s t a b =
    let w = word_of k in
    let times = one_coded u h (record a.coded { control = 0 }) (record b.coded { control = 0 }) a.time b.time in
    let same = ap (λ (n : ℕ). record a.coded { control = n }) a.control ∙ ap (λ (c : Coded). record c { control = w }) times ∙ sym (ap (λ (n : ℕ). record b.coded { control = n }) b.control) in
    one_with_parity p s t a.coded b.coded a.reads b.reads a.unused b.unused same a.spare b.spare a.has_parity b.has_parity
