-- What the commands print.
use Rattle.std.specs.Prelude.{ℕ, ℤ, List, ◌++◌, codes, decimal}
use Rattle.ctt_reader.specs.declared.instance.Instance.{Instance}
use Rattle.timed_solution.specs.declared.times.Times.{Times}
use Rattle.cert_text.specs.declared.lines.Certificate.{Certificate}
use Rattle.cert_checker.specs.declared.verdict.Reason.{Reason}
use Rattle.cert_checker.specs.declared.verdict.Reason.TheVariants as reasons
use Rattle.reports.specs.Lines.{value_lines, meeting_lines}

abbrev pub usage_text : List ℕ
usage_text = codes "usage:\nrooms solve INSTANCE TIMES MEASURES CERT [--budget N]\nrooms check INSTANCE TIMES MEASURES CERT\nrooms recert INSTANCE TIMES MEASURES CERT NEW\nrooms measure INSTANCE TIMES MEASURES\nrooms report INSTANCE TIMES MEASURES [--json]\nrooms demo N [--budget N]\n"

-- ---- `solve`

abbrev pub optimal_line : List ℕ
optimal_line = codes "Optimal\n"

abbrev pub open_line : ℕ → List ℕ
open_line level = codes "Open at level " ++ decimal level ++ codes "\n"

-- the first line, the six values and the rooms of the certificate's choice
abbrev pub answer_text : List ℕ → Instance → Times → Certificate → List ℕ
answer_text first i t c = first ++ value_lines c.values ++ meeting_lines i t.meetings c.choice

-- ---- `check` and `recert`

abbrev pub reason_text : Reason → List ℕ
reason_text reasons.Text = codes "text"
reason_text reasons.Model = codes "model"
reason_text reasons.Choice = codes "choice"
reason_text reasons.Values = codes "values"
reason_text (reasons.Cut first second) = codes "cut " ++ decimal first ++ codes " " ++ decimal second
reason_text reasons.Row = codes "row"
reason_text reasons.Sign = codes "sign"
reason_text (reasons.Pattern p) = codes "pattern " ++ decimal p
reason_text (reasons.NotFree p) = codes "not free " ++ decimal p
reason_text (reasons.Cost p) = codes "cost " ++ decimal p
reason_text reasons.Bound = codes "bound"

-- a word, a blank and a number
abbrev pub counted_line : List ℕ → ℕ → List ℕ
counted_line word n = word ++ codes " " ++ decimal n ++ codes "\n"

abbrev pub verified_line : ℕ → List ℕ
verified_line levels = counted_line (codes "verified") levels

abbrev pub verified_text : ℕ → List ℤ → List ℕ
verified_text levels values = codes "verified " ++ decimal levels ++ codes "\n" ++ value_lines values

abbrev pub not_verified_text : ℕ → Reason → List ℕ
not_verified_text line reason = codes "not verified line " ++ decimal line ++ codes ": " ++ reason_text reason ++ codes "\n"

abbrev pub long_certificate_text : List ℕ → List ℕ
long_certificate_text name = codes "bad input " ++ name ++ codes ": bytes 9223372036854775808 over 9223372036854775807\n"
