use Rattle.std.proofs.Common.{sym, ◌∙◌}
use Rattle.ctt_reader.proofs.FileLemmas.{sizes-few, whole, ctt_of-ok}
use Rattle.ctt_reader.proofs.reader.read_ctt.Goals as goal

pub read_sections-requires : goal.read_sections-requires
read_sections-requires c = sizes-few c.args.bytes.now c.new-rows.result c.read_title.new.rows c.read_sizes.new.rows c.in_ok-title.title c.in_ok-sizes.sizes c.new-rows.ensures c.in_ok-title.ensures c.in_ok-sizes.ensures

pub returns : goal.returns
returns c =
    let bytes = c.args.bytes.now in
    let exact = whole bytes c.new-rows.result c.read_title.new.rows c.read_sizes.new.rows c.read_sections.new.rows c.in_ok-title.title c.in_ok-sizes.sizes c.in_ok-sections.sections c.in_ok-read_end.field-0
    c.new-rows.ensures c.in_ok-title.ensures c.in_ok-sizes.ensures c.in_ok-sections.ensures (sym c.read_end.ensures ∙ c.in_ok-read_end.was) in
    record { exact = exact; promised = ctt_of-ok bytes _ exact }
