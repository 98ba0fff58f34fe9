-- Known values of the definitions, worked by hand.
use Rattle.std.proofs.Common.{◌≡◌, [], Some, None, refl}
use Rattle.std.specs.Prelude.{codes}
use Rattle.std.specs.Fmt.{digits}
use Rattle.report_verdict.specs.LineText.{byte_text, tenths_ppm}
use Rattle.report_verdict.specs.NumberText.{nearest, thousandths_text}
use Rattle.report_verdict.specs.VerdictText.{jumps_more, more_line, others_line, others_words}

pub known_time : thousandths_text (nearest 5050499) ≡ codes "5.050"
unfolding thousandths_text digits
known_time = refl

pub rounded_time : thousandths_text (nearest 5050500) ≡ codes "5.051"
unfolding thousandths_text digits
rounded_time = refl

pub plain_byte : byte_text 65 ≡ codes "A"
plain_byte = refl

pub escape_byte : byte_text 27 ≡ codes "\\x1b"
escape_byte = refl

pub backslash : byte_text 92 ≡ codes "\\x5c"
backslash = refl

-- 7 seconds of 1,000,040 us are 40.0 ppm longer
pub known_drift : tenths_ppm 7000280 7 ≡ 400
known_drift = refl

pub known_more : more_line 3 ≡ codes ".. and 3 more\n"
unfolding more_line digits
known_more = refl

pub no_others : others_line 0 None ≡ []
no_others = refl

pub one_other : others_line 1 (Some 7050000) ≡ codes "1 more second has no vote, at 7.050 s\n"
unfolding others_words thousandths_text digits
one_other = refl

pub some_others : others_line 3 (Some 7050000) ≡ codes "3 more seconds have no vote, the first at 7.050 s\n"
unfolding others_words thousandths_text digits
some_others = refl

pub more_jumps : jumps_more 2 ≡ codes ", the first of 2 jumps\n"
unfolding jumps_more digits
more_jumps = refl
