-- From the answers of the steps to the answer of `demo`.
use Rattle.std.proofs.Common.{ℕ, ◌≡◌, ◌-◌, ◌++◌, ◌∙◌, ap, sym, subst, refl, List, [], length, true}
use Rattle.std.specs.Prelude.{Option, None, Ok, ◌↔◌}
use Rattle.problem_core.specs.Facts.{Facts}
use Rattle.ctt_reader.specs.declared.instance.Instance.{Instance}
use Rattle.timed_solution.specs.declared.times.Times.{Times}
use Rattle.cert_text.specs.declared.lines.Certificate.{Certificate}
use Rattle.cert_text.specs.Grammar.{is_writable}
use Rattle.cert_text.specs.Sharing.{plain}
use Rattle.cert_text.specs.Text.{IsText, certificate_of}
use Rattle.cert_text.proofs.ShareLaws.{plain_count}
use Rattle.cert_checker.specs.Faults.{fault_of}
use Rattle.cert_checker.specs.Verdicts.{IsValid, judged, verdict_of}
use Rattle.cert_checker.specs.declared.verdict.Verdict.TheVariants.{Verified}
use Rattle.branch_tree.specs.Logs.{Moment}
use Rattle.branch_tree.specs.declared.log.Log.{Log}
use Rattle.lex_driver.specs.Solving.{IsCertificate, IsOpen, IsOptimal, Solves}
use Rattle.lex_driver.specs.declared.solve.Solved.{Solved}
use Rattle.lex_driver.specs.declared.solve.Solved.TheVariants.{Optimal, Open as LeftOpen}
use Rattle.run_core.specs.declared.status.ToolStatus.{ToolStatus}
use Rattle.run_core.specs.declared.status.ToolStatus.TheVariants.{Open}
use Rattle.demo_files.specs.Generator.{instance_of, times_of}
use Rattle.reports.specs.Lines.{value_lines}
use Rattle.rooms_cmd.specs.Answers.{open_line, optimal_line, verified_line}
use Rattle.rooms_cmd.specs.Demonstrating.{DemoExplains, counts_text, demo_problem}
use Rattle.rooms_cmd.specs.Steps.{AreVerifiable, IsSummary, IsVerifiable}
use Rattle.rooms_cmd.specs.Work.{Work, begins, ends}

-- ---- the check of a valid certificate verifies its levels

pub verified_levels : (p : Facts) (bytes : List ℕ) (c : Certificate) → ((b : List ℕ) (d : Certificate) → IsText b d → certificate_of b ≡ Ok d)
    → ((f : Facts) (d : Certificate) → is_writable d ≡ true → fault_of f (plain d) ≡ None ↔ IsValid f (length d.levels) d)
    → IsText bytes c → IsValid p (length c.levels) c → verdict_of p (certificate_of bytes) ≡ Verified (length c.levels) c.values
verified_levels p bytes c read faultless text valid =
    ap (verdict_of p) (read bytes c text) ∙ ap (judged (length c.levels) c.values) ((faultless p c text.bounded).1 valid)

verifiable : (p : Facts) (levels : ℕ) (c : Certificate) → IsCertificate p levels c → IsVerifiable p levels c
verifiable p levels c is =
    let finished : levels ≡ length c.levels = sym is.valid.finished ∙ plain_count c.levels [] in
    record { finished = sym finished; writable = is.writable; valid = subst (λ n. IsValid p n c) finished is.valid }

pub are_verifiable : (p : Facts) (budget : ℕ) (begun : Moment) (wides steps : ℕ) (solved : Solved) → Solves p budget begun wides steps solved → AreVerifiable p solved
are_verifiable p budget begun wides steps (Optimal c) h = verifiable p 6 c h.certificate
are_verifiable p budget begun wides steps (LeftOpen level c log) h = verifiable p (level - 1) c h.certificate

-- ---- the answer

counts_are : (n : ℕ) (i : Instance) (t : Times) (p : Facts) → i ≡ instance_of n → t ≡ times_of n → p ≡ demo_problem n → counts_text n i t p ≡ counts_text n (instance_of n) (times_of n) (demo_problem n)
counts_are n i t p e g h = ap (λ x. counts_text n x t p) e ∙ ap (λ x. counts_text n (instance_of n) x p) g ∙ ap (λ x. counts_text n (instance_of n) (times_of n) x) h

pub demo_answer : (w : Work) (n budget : ℕ) (i : Instance) (t : Times) (p : Facts) (solved : Solved) (text : List ℕ) (status : ToolStatus) → i ≡ instance_of n → t ≡ times_of n → p ≡ demo_problem n
    → Solves p budget (begins w) w.wides.now w.steps.now solved → IsSummary n i t p solved text status → DemoExplains w n budget text status
demo_answer w n budget i t p (Optimal c) text status e g h solves is =
    subst (DemoExplains w n budget text) (sym is.0)
    (record {
      certificate = c;
      optimal = subst (λ (q : Facts). IsOptimal q budget c) h solves;
      is = is.1 ∙ ap (λ x. x ++ verified_line 6 ++ optimal_line ++ value_lines c.values) (counts_are n i t p e g h);
    })
demo_answer w n budget i t p (LeftOpen level c log) text status e g h solves is =
    subst (DemoExplains w n budget text) (sym is.0)
    (record {
      level = level;
      certificate = c;
      log = log;
      is_open = subst (λ (q : Facts). IsOpen q budget level c log (begins w) (ends w (length c.cuts))) h solves;
      is = is.1 ∙ ap (λ x. x ++ verified_line (level - 1) ++ open_line level ++ value_lines c.values) (counts_are n i t p e g h);
    })

-- what is told where the search stopped in a level
pub open_told : (n : ℕ) (i : Instance) (t : Times) (p : Facts) (solved : Solved) (level : ℕ) (c : Certificate) (log : Log) (text : List ℕ) → solved ≡ LeftOpen level c log → AreVerifiable p solved
    → text ≡ counts_text n i t p ++ verified_line (length c.levels) ++ open_line level ++ value_lines c.values → IsSummary n i t p solved text Open
open_told n i t p solved level c log text is verifiable_is told =
    let v : IsVerifiable p (level - 1) c = subst (AreVerifiable p) is verifiable_is in
    subst (λ (s : Solved). IsSummary n i t p s text Open) (sym is) (refl, told ∙ ap (λ k. counts_text n i t p ++ verified_line k ++ open_line level ++ value_lines c.values) v.finished)
