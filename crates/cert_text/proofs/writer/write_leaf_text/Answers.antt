use Rattle.std.proofs.Common.{rules, ◌∙◌, ◌++◌, ◌∷◌, ap}
use Rattle.std.specs.Prelude.{FitsSigned}
use Rattle.std.specs.Fmt.{decimal, signed_decimal}
use Rattle.std.proofs.lemmas.Int.{to_z-of_z}
use mir.Syntax.{w128}
use Rattle.cert_text.specs.Spelling.{term_fields}
use Rattle.cert_text.specs.Writing.{blank_before}
use Rattle.cert_text.proofs.WriteLaws.{leaf_line}
use Rattle.cert_text.proofs.writer.write_leaf_text.Goals as goal

pub returns : goal.returns
returns c =
    let fits : FitsSigned w128 c.args.leaf.now.scale = search rules in
    leaf_line c.args.bytes.now.items c.extend_from_slice.new.self.items c.write_whole.new.bytes.items c.write_natural.new.bytes.items c.write_terms.new.bytes.items c.args.leaf.now
    c.in_ok-extend_from_slice.ensures.items (c.in_ok-write_whole.ensures ∙ ap (λ z. c.extend_from_slice.new.self.items ++ (32 ∷ signed_decimal z)) (to_z-of_z w128 c.args.leaf.now.scale fits))
    (c.in_ok-write_natural.ensures ∙ ap (λ n. c.write_whole.new.bytes.items ++ (32 ∷ decimal n)) c.len.ensures)
    (c.in_ok-write_terms.ensures ∙ ap (λ ts. c.write_natural.new.bytes.items ++ blank_before (term_fields ts)) c.as_slice.ensures)
