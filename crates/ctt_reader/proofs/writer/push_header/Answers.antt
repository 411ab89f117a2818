use Rattle.std.proofs.Common.{◌∙◌, ◌++◌, ◌∷◌, [], ap, length}
use Rattle.std.specs.Prelude.{codes, decimal}
use Rattle.text_lines.specs.Written.{written}
use Rattle.ctt_reader.proofs.WriteLemmas.{more-lines}
use Rattle.ctt_reader.proofs.writer.push_header.Goals as goal

pub returns : goal.returns
returns c =
    let i = c.args.i.now in
    let b = c.args.text.now.items in
    let t = codes "Name:" ∷ i.title in
    let c1 = codes "Courses:" ∷ decimal (length i.courses) ∷ [] in
    let c2 = codes "Rooms:" ∷ decimal (length i.rooms) ∷ [] in
    let c3 = codes "Days:" ∷ decimal i.days ∷ [] in
    let c4 = codes "Periods_per_day:" ∷ decimal i.periods ∷ [] in
    let c5 = codes "Curricula:" ∷ decimal (length i.curricula) ∷ [] in
    let c6 = codes "Constraints:" ∷ decimal (length i.constraints) ∷ [] in
    let title = c.in_ok-push_title.ensures ∙ ap (λ ws. b ++ written ((codes "Name:" ∷ ws) ∷ [])) c.as_slice.ensures in
    let d1 = more-lines b c.push_title.new.text.items c.push_count.new.text.items (t ∷ []) (c1 ∷ []) title (c.in_ok-push_count.ensures ∙ ap (λ n. c.push_title.new.text.items ++ written ((codes "Courses:" ∷ decimal n ∷ []) ∷ [])) c.len.ensures) in
    let d2 = more-lines b c.push_count.new.text.items c.push_count-2.new.text.items (t ∷ c1 ∷ []) (c2 ∷ []) d1 (c.in_ok-push_count-2.ensures ∙ ap (λ n. c.push_count.new.text.items ++ written ((codes "Rooms:" ∷ decimal n ∷ []) ∷ [])) c.len-2.ensures) in
    let d3 = more-lines b c.push_count-2.new.text.items c.push_count-3.new.text.items (t ∷ c1 ∷ c2 ∷ []) (c3 ∷ []) d2 c.in_ok-push_count-3.ensures in
    let d4 = more-lines b c.push_count-3.new.text.items c.push_count-4.new.text.items (t ∷ c1 ∷ c2 ∷ c3 ∷ []) (c4 ∷ []) d3 c.in_ok-push_count-4.ensures in
    let d5 = more-lines b c.push_count-4.new.text.items c.push_count-5.new.text.items (t ∷ c1 ∷ c2 ∷ c3 ∷ c4 ∷ []) (c5 ∷ []) d4 (c.in_ok-push_count-5.ensures ∙ ap (λ n. c.push_count-4.new.text.items ++ written ((codes "Curricula:" ∷ decimal n ∷ []) ∷ [])) c.len-3.ensures) in
    more-lines b c.push_count-5.new.text.items c.push_count-6.new.text.items (t ∷ c1 ∷ c2 ∷ c3 ∷ c4 ∷ c5 ∷ []) (c6 ∷ []) d5 (c.in_ok-push_count-6.ensures ∙ ap (λ n. c.push_count-5.new.text.items ++ written ((codes "Constraints:" ∷ decimal n ∷ []) ∷ [])) c.len-4.ensures)
