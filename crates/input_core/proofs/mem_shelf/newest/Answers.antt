use Rattle.std.proofs.Common.{◌≡◌, sym, ◌∙◌, ap, true, false}
use Rattle.std.specs.Prelude.{option_map, string_bytes}
use Rattle.input_core.specs.Memory.{same_bytes}
use Rattle.input_core.proofs.MemoryLemmas.{held_after-drop}
use Rattle.input_core.proofs.mem_shelf.newest.Goals as goal
use Rattle.input_core.proofs.mem_shelf.newest.Goals.{then-eq, else-eq}

pub loop-file-preserved : goal.loop-file-preserved
loop-file-preserved c =
    let name = c.args.name.now in
    let step = held_after-drop (option_map (λ bytes. bytes.now) c.loop-file.found) c.args.files.now c.loop-file.file-index name c.file-item.result c.loop-file-test.true c.file-item.is in
    let test : same_bytes (string_bytes c.file-item.result.0) name ≡ c.eq.result = ap (λ x. same_bytes x name) (sym c.as_str.ensures.value) ∙ sym c.eq.ensures in
    elim c.if-eq.branch [
      | then-eq w ↦
          let matches : same_bytes (string_bytes c.file-item.result.0) name ≡ true = test ∙ w.if-eq.true in
          rw (w.found-is, w.as_slice.ensures.value) (sym (rw matches at step) ∙ c.loop-file.invariant)
      | else-eq w ↦
          let differs : same_bytes (string_bytes c.file-item.result.0) name ≡ false = test ∙ w.if-eq.false in
          rw w.found-is (sym (rw differs at step) ∙ c.loop-file.invariant)
    ]
