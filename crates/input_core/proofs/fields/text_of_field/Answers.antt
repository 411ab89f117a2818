use Rattle.std.proofs.Common.{◌≡◌, rules, sym, subst, List, ℕ}
use Rattle.std.specs.Prelude.{IsUtf8}
use Rattle.std.proofs.lemmas.Str.{IsUtf8-from_ascii}
use Rattle.input_core.proofs.LineLemmas.{graphic_ascii}
use Rattle.input_core.proofs.fields.text_of_field.Goals as goal

pub unwrap-text-requires : goal.unwrap-text-requires
unwrap-text-requires c =
    let same : c.in_ok-bytes.bytes.items ≡ c.args.field.now = search rules in
    c.from_utf8.ensures.succeeds (subst (λ (bytes : List ℕ). IsUtf8 bytes) (sym same) (IsUtf8-from_ascii c.args.field.now (graphic_ascii c.args.field.now c.requires)))
