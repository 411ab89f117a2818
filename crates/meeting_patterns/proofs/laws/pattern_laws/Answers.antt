use Rattle.meeting_patterns.proofs.ChosenLemmas.{apart}
use Rattle.meeting_patterns.proofs.FewLemmas.{few_patterns}
use Rattle.meeting_patterns.proofs.ListLemmas.{patterns_are}
use Rattle.meeting_patterns.proofs.MadeLemmas.{made_legal, made_chooses, made_again}
use Rattle.meeting_patterns.proofs.SumLemmas.{measured}
use Rattle.meeting_patterns.specs.Pattern.{pattern_at}
use Rattle.meeting_patterns.proofs.laws.pattern_laws.Goals as goal

pub returns : goal.returns
returns c = record {
  listed = patterns_are;
  apart = λ p s a are legal i j l m ci cj. apart p a (pattern_at s i) (pattern_at s j) legal (are.each i l) (are.each j m) ci cj;
  measured = λ p s a courses are legal k. measured c.choice_laws.ensures.measured p s a courses are legal k;
  legal = made_legal;
  back = made_chooses;
  returned = made_again;
  few = few_patterns c.choice_laws.ensures.few;
}
