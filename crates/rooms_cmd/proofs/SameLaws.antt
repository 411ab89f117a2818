-- What three files give is one instance, one list of times and one list of measures.
use Rattle.std.proofs.Common.{ℕ, ◌≡◌, sym, ◌∙◌, ap, subst, List, Bool}
use Rattle.std.specs.Prelude.{Option, Some, Ok, Result, IsTrue}
use Rattle.input_core.specs.Reading.{IsWhole}
use Rattle.ctt_reader.specs.Grammar.{ctt_of}
use Rattle.ctt_reader.specs.declared.instance.Instance.{Instance}
use Rattle.timed_solution.specs.Times.{times_of}
use Rattle.timed_solution.specs.declared.times.Times.{Times}
use Rattle.measure_file.specs.Grammar.{measures_of}
use Rattle.measure_file.specs.declared.measures.Measures.{Measures}
use Rattle.room_model.specs.ProblemOf.{problem_of}
use Rattle.run_core.specs.Files.{limit, GivesInstance, GivesTimes}
use Rattle.run_core.specs.Outside.{Told}
use Rattle.tool_core.specs.Expected.{times_with}
use Rattle.tool_core.specs.Inputs.{AreGiven, GivesMeasures}
use Rattle.tool_core.specs.declared.inputs.Names.{Names}

-- two times read whole: the same bytes
same_bytes : (tells : Bool) (held : Option (List ℕ)) (a b : List ℕ) → IsTrue tells → IsWhole tells held limit a → IsWhole tells held limit b → a ≡ b
same_bytes tells held a b told g h = let e : Some a ≡ Some b = sym (g.whole told) ∙ h.whole told in cc

-- and so the same value
same_value : {X E : Type 0} (tells : Bool) (held : Option (List ℕ)) (value_of : List ℕ → Result X E) (a b : List ℕ) (x y : X)
    → IsTrue tells → IsWhole tells held limit a → IsWhole tells held limit b → value_of a ≡ Ok x → value_of b ≡ Ok y → x ≡ y
same_value tells held value_of a b x y told g h first second =
    let e : Ok x ≡ Ok y = sym first ∙ ap value_of (same_bytes tells held a b told g h) ∙ second in cc

one_instance : (tells : Bool) (held : Option (List ℕ)) (i j : Instance) → IsTrue tells → GivesInstance tells held i → GivesInstance tells held j → i ≡ j
one_instance tells held i j told g h = same_value tells held ctt_of g.bytes h.bytes i j told g.whole h.whole g.text h.text

one_times : (tells : Bool) (held : Option (List ℕ)) (i : Instance) (t u : Times) → IsTrue tells → GivesTimes tells held i t → GivesTimes tells held i u → t ≡ u
one_times tells held i t u told g h =
    ap times_with (same_value tells held (times_of i) g.bytes h.bytes t.meetings u.meetings told g.whole h.whole g.text h.text)

one_measures : (tells : Bool) (held : Option (List ℕ)) (i : Instance) (m n : Measures) → IsTrue tells → GivesMeasures tells held i m → GivesMeasures tells held i n → m ≡ n
one_measures tells held i m n told g h = same_value tells held (measures_of i) g.bytes h.bytes m n told g.whole h.whole g.text h.text

pub one_problem : (o : Told) (f : Names) (i j : Instance) (t u : Times) (m n : Measures) → IsTrue o.tells → AreGiven o f i t m → AreGiven o f j u n → problem_of i t m ≡ problem_of j u n
one_problem o f i j t u m n told g h =
    let instance : i ≡ j = one_instance o.tells (o.held f.instance) i j told g.instance h.instance in
    let times : t ≡ u = one_times o.tells (o.held f.times) j t u told (subst (λ x. GivesTimes o.tells (o.held f.times) x t) instance g.times) h.times in
    let values : m ≡ n = one_measures o.tells (o.held f.measures) j m n told (subst (λ x. GivesMeasures o.tells (o.held f.measures) x m) instance g.measures) h.measures in
    ap (λ x. problem_of x t m) instance ∙ ap (λ x. problem_of j x m) times ∙ ap (λ x. problem_of j u x) values
