use Rattle.std.proofs.Common.{sym, subst}
use Rattle.std.proofs.lemmas.Result.{on_ok_weaker}
use Rattle.simplex_tableau.specs.Sparse.{Puts}
use Rattle.simplex_tableau.proofs.SparseLaws.{put_none, put_one}
use Rattle.simplex_tableau.proofs.sparse.put.Goals as goal

pub returns-in-Equal-clause-ok : goal.returns-in-Equal-clause-ok
returns-in-Equal-clause-ok g c = put_none g.N.Fraction.value c.args.out.now.items c.args.place (g.N.Fraction.value c.args.number) c.in-Equal.ensures

pub returns-in-Less : goal.returns-in-Less
returns-in-Less g c = record {
  ok = on_ok_weaker c.append.result (λ e. subst (λ xs. Puts g.N.Fraction.value c.args.out.now.items c.args.place (g.N.Fraction.value c.args.number) xs) (sym e) (put_one g.N.Fraction.value c.args.out.now.items (record { place = c.args.place; number = c.args.number }))) c.append.ensures.ok;
  err = c.append.ensures.err;
}
