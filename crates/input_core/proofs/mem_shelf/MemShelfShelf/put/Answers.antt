use Rattle.std.proofs.Common.{◌≡◌, refl, ◌∙◌, ap, rules, ◌++◌, ◌∷◌, []}
use Rattle.std.specs.Prelude.{None, string_bytes}
use Rattle.input_core.specs.Memory.{Stored, held_by}
use Rattle.input_core.proofs.MemoryLemmas.{held_after-push, same_bytes-refl, same_bytes-other}
use Rattle.input_core.proofs.mem_shelf.MemShelfShelf.put.Goals as goal

pub returns-clause-put : goal.returns-clause-put
returns-clause-put c =
    let files = c.args.self.now.files in
    let name = c.args.name.now in
    let stored : Stored = (c.in_ok-name.name, c.in_ok-bytes.bytes) in
    let pushed : c.push.new.self ≡ files ++ stored ∷ [] = search rules in
    let named : string_bytes c.in_ok-name.name ≡ name = search rules in
    let bytes : c.in_ok-bytes.bytes.items ≡ c.args.bytes.now = search rules in
    record {
      tells = refl;
      put = λ _. ap (λ fs. held_by fs name) pushed ∙ held_after-push None files stored name ∙ rw (named, bytes, same_bytes-refl name) refl;
      others = λ other differs. ap (λ fs. held_by fs other) pushed ∙ held_after-push None files stored other ∙ rw (named, same_bytes-other name other differs) refl;
    }
