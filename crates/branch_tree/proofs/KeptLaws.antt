-- What was done so far stays done.
use Rattle.std.proofs.Common.{ℕ, ◌≡◌, ◌+◌, arith, refl, sym, ◌∙◌, ap, suc, List, [], ◌∷◌, ◌++◌, length, length-append, take, inl, inr}
use Rattle.std.specs.Prelude.{ℤ, Option, Result, Ok, Err, IfOk}
use Rattle.std.proofs.Math.Seq.{take-length, take-append_seam}
use Rattle.std.proofs.lemmas.List.{length-map}
use Rattle.duality.specs.declared.leaf.Node.{Node}
use Rattle.duality.specs.declared.leaf.Node.TheVariants.{Branch, Leaf as Closing, OpenEnd, Same}
use Rattle.duality.specs.Packing.{Packing, Weights}
use Rattle.duality.specs.Units.{branch_count}
use Rattle.packing_model.specs.Cuts.{IsPoolOf, IsCutOf}
use Rattle.problem_core.specs.declared.choice.Memory.{Memory}
use Rattle.branch_tree.specs.Growths.{value_of, Goes}
use Rattle.branch_tree.specs.Kept.{Keeps, NotesCut}
use Rattle.branch_tree.specs.Logs.{IsLogged, Moment, branches_from, place_of}
use Rattle.branch_tree.specs.declared.level.Held.{Held}
use Rattle.branch_tree.specs.declared.log.CutNote.{CutNote}
use Rattle.branch_tree.specs.declared.log.Log.{Log}
use Rattle.branch_tree.specs.declared.log.Unit.{Unit as BranchUnit}
use Rattle.branch_tree.specs.declared.state.Step.{Step}
use Rattle.branch_tree.specs.declared.state.Step.TheVariants.{On}
use Rattle.branch_tree.proofs.EndLaws.{first_stays}
use Rattle.branch_tree.proofs.StepLaws.{pool_more}

more_first : {A : Type 0} (xs ys zs : List A) → ys ≡ xs ++ zs → take (length xs) ys ≡ xs
more_first xs ys zs e = ap (take (length xs)) e ∙ take-append_seam xs zs

same_first : {A : Type 0} (xs ys : List A) → ys ≡ xs → take (length xs) ys ≡ xs
same_first xs ys e = ap (take (length xs)) e ∙ take-length xs

module _ (k : Packing) where
  pub keeps_same : (pool : List (List ℕ)) (budget : ℕ) (log : Log) → IsPoolOf k pool → Keeps k pool pool budget budget log log
  keeps_same pool budget log is = record {
    units = take-length log.units;
    notes = take-length log.cuts;
    cuts = take-length pool;
    paid = refl;
    noted = omega arith;
    one_more = omega arith;
    pool_is = is;
  }

  -- a unit more, which was paid for
  pub keeps_unit : (pool : List (List ℕ)) (budget budget' : ℕ) (log log' : Log) (u : BranchUnit) → IsPoolOf k pool → log'.units ≡ log.units ++ (u ∷ []) → log'.cuts ≡ log.cuts → budget' + 1 ≡ budget
      → Keeps k pool pool budget budget' log log'
  keeps_unit pool budget budget' log log' u is units notes paid = record {
    units = more_first log.units log'.units (u ∷ []) units;
    notes = same_first log.cuts log'.cuts notes;
    cuts = take-length pool;
    paid = omega (arith, ap length units, length-append log.units (u ∷ []), paid);
    noted = omega (arith, ap length notes);
    one_more = omega (arith, ap length notes);
    pool_is = is;
  }

  -- a unit that was not logged
  pub keeps_log : (pool : List (List ℕ)) (budget : ℕ) (log log' : Log) → IsPoolOf k pool → log'.units ≡ log.units → log'.cuts ≡ log.cuts → Keeps k pool pool budget budget log log'
  keeps_log pool budget log log' is units notes = record {
    units = same_first log.units log'.units units;
    notes = same_first log.cuts log'.cuts notes;
    cuts = take-length pool;
    paid = omega (arith, ap length units);
    noted = omega (arith, ap length notes);
    one_more = omega (arith, ap length notes);
    pool_is = is;
  }

  -- a cut more with its note, or a note alone
  pub keeps_cut : (note : CutNote) (cut : List ℕ) (pool pool' : List (List ℕ)) (budget : ℕ) (log log' : Log) (result : Result Step Memory) → IsPoolOf k pool → IsCutOf k cut
      → NotesCut note cut pool pool' log log' result → Keeps k pool pool' budget budget log log'
  keeps_cut note cut pool pool' budget log log' (Ok step) is cut_is h =
      let more : length pool' ≡ length pool + 1 = ap length h.1 ∙ length-append pool (cut ∷ []) in
      let noted : length log'.cuts ≡ length log.cuts + 1 = ap length h.3 ∙ length-append log.cuts (note ∷ []) in
      record {
        units = same_first log.units log'.units h.2;
        notes = more_first log.cuts log'.cuts (note ∷ []) h.3;
        cuts = more_first pool pool' (cut ∷ []) h.1;
        paid = omega (arith, ap length h.2);
        noted = omega (arith, more, noted);
        one_more = omega (arith, more, noted);
        pool_is = subst_pool pool' (pool ++ (cut ∷ [])) h.1 (pool_more k pool cut is cut_is);
      }
    where
      subst_pool : (a b : List (List ℕ)) → a ≡ b → IsPoolOf k b → IsPoolOf k a
      subst_pool a b e x = rw e x
  keeps_cut note cut pool pool' budget log log' (Err fault) is cut_is (same, units, inl notes) = record {
    units = same_first log.units log'.units units;
    notes = same_first log.cuts log'.cuts notes;
    cuts = same_first pool pool' same;
    paid = omega (arith, ap length units);
    noted = omega (arith, ap length notes, ap length same);
    one_more = omega (arith, ap length notes, ap length same);
    pool_is = rw same is;
  }
  keeps_cut note cut pool pool' budget log log' (Err fault) is cut_is (same, units, inr notes) = record {
    units = same_first log.units log'.units units;
    notes = more_first log.cuts log'.cuts (note ∷ []) notes;
    cuts = same_first pool pool' same;
    paid = omega (arith, ap length units);
    noted = omega (arith, ap length notes, length-append log.cuts (note ∷ []), ap length same);
    one_more = omega (arith, ap length notes, length-append log.cuts (note ∷ []), ap length same);
    pool_is = rw same is;
  }

-- ---- a tree so far

branches_are : (i : ℕ) (ns : List Node) → length (branches_from i ns) ≡ branch_count ns
branches_are i [] = refl
branches_are i (Branch p ∷ ns) = ap suc (branches_are (suc i) ns)
branches_are i (Closing leaf ∷ ns) = branches_are (suc i) ns
branches_are i (OpenEnd ∷ ns) = branches_are (suc i) ns
branches_are i (Same leaf ∷ ns) = branches_are (suc i) ns

module _ (k : Packing) (w : Weights) (level : ℕ) (targets : List ℤ) where
  -- what is logged of a tree: a unit a branch and a note a cut
  pub keeps_so_far : (held held' : Option Held) (nodes : List Node) (pool pool' : List (List ℕ)) (budget budget' : ℕ) (log log' : Log) (m n : Moment) → m.cuts ≡ length pool
      → IsLogged k w level targets (record { moment = m; value = value_of held; units = log.units; notes = log.cuts }) nodes pool' (value_of held') log'.units log'.cuts n
      → Goes held held' [] nodes pool pool' budget budget' → IsPoolOf k pool'
      → Keeps k pool pool' budget budget' log log' × (length log'.cuts + length pool ≡ length log.cuts + length pool')
  keeps_so_far held held' nodes pool pool' budget budget' log log' m n cuts h goes is =
      let mine : length h.mine ≡ branch_count nodes = sym (length-map h.mine place_of) ∙ ap length h.places ∙ branches_are 0 nodes in
      let units : length log'.units ≡ length log.units + length h.mine = ap length h.units_are ∙ length-append log.units h.mine in
      let notes : length log'.cuts ≡ length log.cuts + length h.noted = ap length h.notes_are ∙ length-append log.cuts h.noted in (
        record {
          units = more_first log.units log'.units h.mine h.units_are;
          notes = more_first log.cuts log'.cuts h.noted h.notes_are;
          cuts = goes.kept;
          paid = omega (arith, mine, units, goes.paid);
          noted = omega (arith, notes, h.each_cut, cuts);
          one_more = omega (arith, notes, h.each_cut, cuts);
          pool_is = is;
        },
        omega (arith, notes, h.each_cut, cuts),
      )

-- two stretches one after the other, the first with a cut for each note
pub keeps_through : (k : Packing) (pool pool' pool'' : List (List ℕ)) (budget budget' budget'' : ℕ) (log log' log'' : Log)
    → Keeps k pool pool' budget budget' log log' → length log'.cuts + length pool ≡ length log.cuts + length pool' → Keeps k pool' pool'' budget' budget'' log' log'' → Keeps k pool pool'' budget budget'' log log''
keeps_through k pool pool' pool'' budget budget' budget'' log log' log'' h exact l = record {
  units = first_stays log.units log'.units log''.units h.units l.units;
  notes = first_stays log.cuts log'.cuts log''.cuts h.notes l.notes;
  cuts = first_stays pool pool' pool'' h.cuts l.cuts;
  paid = omega (arith, h.paid, l.paid);
  noted = omega (arith, exact, l.noted);
  one_more = omega (arith, exact, l.one_more);
  pool_is = l.pool_is;
}

-- what follows where a cut was added
pub noted_ok : (note : CutNote) (cut : List ℕ) (pool pool' : List (List ℕ)) (log log' : Log) (result : Result Step Memory) (P : Step → Type 0)
    → ((step : Step) → (step ≡ On) × (pool' ≡ pool ++ (cut ∷ [])) × (log'.units ≡ log.units) × (log'.cuts ≡ log.cuts ++ (note ∷ [])) → P step)
    → NotesCut note cut pool pool' log log' result → IfOk result P
noted_ok note cut pool pool' log log' (Ok step) P f h = f step h
noted_ok note cut pool pool' log log' (Err fault) P f h = tt
