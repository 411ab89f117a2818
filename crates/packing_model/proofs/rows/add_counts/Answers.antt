use Rattle.std.proofs.Common.{ℕ, ◌≡◌, ◌+◌, ◌<◌, ◌≤◌, ◌∙◌, refl, arith, sym, Bool, length, take, inl, inr, cond, get_or}
use Rattle.std.specs.Prelude.{slice_index}
use Rattle.std.proofs.lemmas.List.{length-set, get_or_read}
use Rattle.std.proofs.lemmas.Bool.{cases_Bool, cond-true, cond-false}
use Rattle.numbers.specs.Sums.{member}
use Rattle.packing_model.proofs.StepLemmas.{member_at, count_step}
use Rattle.packing_model.proofs.rows.add_counts.Goals as goal

one_more : (b : Bool) (n m : ℕ) → m ≡ cond b (n + 1) n → n ≤ 200000 → m ≤ 200001
one_more b n m e l = elim (cases_Bool b) [
  | inl hit ↦ omega (arith, e ∙ cond-true b (n + 1) n hit, l)
  | inr miss ↦ omega (arith, e ∙ cond-false b (n + 1) n miss, l)
]

pub index_mut-requires : goal.index_mut-requires
index_mut-requires c = omega (arith, c.requires.known (get_or c.args.keys.now c.loop-key.key-index 0) (member_at c.args.keys.now c.loop-key.key-index c.loop-key-test.true), c.loop-key.invariant.whole)

pub overflow_add-index_mut : goal.overflow_add-index_mut
overflow_add-index_mut c =
    let k = get_or c.args.keys.now c.loop-key.key-index 0 in
    let few = one_more (member k (take c.loop-key.key-index c.args.keys.now)) (slice_index c.args.counts.now.items k) (slice_index c.loop-key.counts.items k) (c.loop-key.invariant.each k) (c.requires.few k) in
    let read : c.index_mut.result.now ≡ slice_index c.loop-key.counts.items k = get_or_read c.loop-key.counts.items k c.index_mut.result.now (omega (arith, c.requires.known k (member_at c.args.keys.now c.loop-key.key-index c.loop-key-test.true), c.loop-key.invariant.whole)) c.index_mut.ensures.value 0 in
    omega (arith, read, few)

pub loop-key-preserved : goal.loop-key-preserved
loop-key-preserved c =
    let i = c.loop-key.key-index in
    let x = get_or c.args.keys.now i 0 in
    let there : x < length c.loop-key.counts.items = omega (arith, c.requires.known x (member_at c.args.keys.now i c.loop-key-test.true), c.loop-key.invariant.whole) in
    record {
      whole = length-set c.loop-key.counts.items x _ ∙ c.loop-key.invariant.whole;
      each = count_step c.args.keys.now c.args.counts.now.items c.loop-key.counts.items _ i x c.index_mut.result.now c.loop-key-test.true refl c.requires.differ there (sym c.loop-key.invariant.whole) refl (get_or_read c.loop-key.counts.items x c.index_mut.result.now there c.index_mut.ensures.value 0) c.loop-key.invariant.each;
    }
