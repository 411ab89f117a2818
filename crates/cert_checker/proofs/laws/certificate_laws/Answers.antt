use Rattle.problem_core.specs.Facts.{Facts}
use Rattle.cert_text.specs.Sharing.{plain}
use Rattle.meeting_patterns.specs.Pattern.{AreCoursesKnown, patterns_of}
use Rattle.cert_checker.proofs.ValidLaws.{form_is, form_from}
use Rattle.cert_checker.proofs.BestLaws.{PackingLaws, valid_best, tree_best}
use Rattle.cert_checker.proofs.laws.certificate_laws.Goals as goal

pub returns : goal.returns
returns c =
    let laws : (f : Facts) → AreCoursesKnown f → PackingLaws f = λ f known. record {
      cliques = λ cuts clash. c.packing_laws.ensures.cliques f (patterns_of f) cuts (c.pattern_laws.ensures.listed f) clash;
      packs = λ a legal. c.packing_laws.ensures.packing f (patterns_of f) a (c.pattern_laws.ensures.listed f) legal;
      weighs = λ a legal k. c.packing_laws.ensures.measured f (patterns_of f) a known (c.pattern_laws.ensures.listed f) legal k;
    } in
    record {
      faultless = λ f q w. (form_is c.leaf_laws.ensures.faultless f q w, form_from c.leaf_laws.ensures.faultless f q w);
      best = λ f n q known few valid. valid_best c.tree_laws.ensures.caps f (laws f known) n (plain q) few valid;
      tree = λ f s v nodes known cliques best proved b legal has. tree_best c.tree_laws.ensures.caps f (laws f known) s v nodes cliques best proved b legal has;
    }
